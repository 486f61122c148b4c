-- What holds of each name in scope holds of what is found, and goes on holding as names are added and scopes end.
use Rattle.std.proofs.Common.{Bool, true, false, List, [], ◌∷◌, ◌++◌, Option, Some, None, refl}
use Rattle.std.specs.Prelude.{nat_eq, if◌then◌else◌}
use Rattle.std.specs.Cmp.Lexicographic.{pointwise}
use Rattle.std.specs.Option.{option_or}
use Rattle.qt_const_rules.specs.declared.consts.Known.{Known}
use Rattle.qt_names.specs.Entries as scope
use Rattle.qt_names.specs.Scopes.{declared, declares, found, found_in, left, or_unknown}
use Rattle.qt_names.specs.declared.named.Named.{Named}
use Rattle.qt_tree.specs.declared.place.Place.{Place}
use Rattle.qt_typing.specs.declared.names.Names.{Names}
use Rattle.qt_typing.specs.Environment.{named_in}
use Rattle.qt_typing.specs.Expressions.{or_unfit}
use Rattle.qt_typing_laws.specs.Fits.{InScope, InScopes}
use Rattle.qt_typing_laws.proofs.Holding.{Holds, ok_holds, err_holds, then_holds, if_holds, IfSome, some_is, none_is}

module _ (P : Named → Type 0) where
  in_scope : (b : Bool) (it : Named) (other : Option Named) → P it → IfSome P other → IfSome P (if b then Some it else other)
  in_scope true it other h g = some_is h
  in_scope false it other h g = g

  found_in_is : (entries : List scope.Entry) (name : scope.Name) → InScope P entries → IfSome P (found_in entries name)
  unfolding found_in
  found_in_is [] name h = none_is
  found_in_is (entry ∷ rest) name h =
      in_scope (pointwise nat_eq name entry.name) entry.named (found_in rest name) h.0 (found_in_is rest name h.1)

  either : (a b : Option Named) → IfSome P a → IfSome P b → IfSome P (option_or a b)
  either None b h g = g
  either (Some it) b h g = h

  pub found_is : (scopes : List (List scope.Entry)) (name : scope.Name) → InScopes P scopes → IfSome P (found scopes name)
  found_is [] name h = none_is
  found_is (inner ∷ outer) name h = either (found_in inner name) (found outer name) (found_in_is inner name h.0) (found_is outer name h.1)

  -- ---- names that are added, and scopes that end

  one_more : (entries : List scope.Entry) (entry : scope.Entry) → InScope P entries → P entry.named → InScope P (entries ++ entry ∷ [])
  one_more [] entry h g = (g, tt)
  one_more (e ∷ rest) entry h g = (h.0, one_more rest entry h.1 g)

  pub declared_is : (scopes : List (List scope.Entry)) (name : scope.Name) (it : Named) → InScopes P scopes → P it
      → InScopes P (declared scopes name it)
  declared_is [] name it h g = tt
  declared_is (inner ∷ outer) name it h g = (one_more inner (record { name = name; named = it }) h.0 g, h.1)

  pub left_is : (scopes : List (List scope.Entry)) → InScopes P scopes → InScopes P (left scopes)
  left_is [] h = tt
  left_is (inner ∷ []) h = h
  left_is (inner ∷ next ∷ outer) h = h.1

  pub named_in_is : (place : Place) (name : scope.Name) (it : Named) (known : Known) (names : Names) → InScopes P names.scopes → P it
      → Holds (λ (n : Names). InScopes P n.scopes) (named_in place name it known names)
  unfolding named_in
  named_in_is place name it known names h g =
      then_holds {P = InScopes P}
      (if_holds (declares names.scopes name) (λ e. err_holds) (λ e. ok_holds (declared_is names.scopes name it h g)))
      (λ scopes s. ok_holds s)

pub known_name : {P : Named → Type 0} (name : scope.Name) (place : Place) (it : Option Named) → IfSome P it
    → Holds P (or_unknown name place it)
known_name name place None h = err_holds
known_name name place (Some it) h = ok_holds (h.by it refl)

pub unfit_is : {A : Type 0} {P : A → Type 0} (place : Place) (name : scope.Name) (o : Option A) → IfSome P o
    → Holds P (or_unfit place name o)
unfit_is place name None h = err_holds
unfit_is place name (Some a) h = ok_holds (h.by a refl)
