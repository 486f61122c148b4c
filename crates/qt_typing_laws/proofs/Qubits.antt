-- The qubits that operands name are the program's, or those of a subroutine's parameters.
use Rattle.std.proofs.Common.{ℕ, zero, suc, true, List, [], ◌∷◌, ◌++◌, length, slice_get, Option, Some, None, refl}
use Rattle.std.specs.List.{All, cons_option, filter_map}
use Rattle.qt_names.specs.Entries as scope
use Rattle.qt_names.specs.Scopes.{found}
use Rattle.qt_names.specs.declared.named.Named.{Named}
use Rattle.qt_registers.specs.Registers.{progression, stepped}
use Rattle.qt_registers.specs.declared.fixed.FixedQubit.{FixedQubit}
use Rattle.qt_tree.specs.declared.expression.Expr.{Expr}
use Rattle.qt_tree.specs.declared.expression.Expr.TheOpen as o
use Rattle.qt_tree.specs.declared.expression.Index.{Index, out-Index}
use Rattle.qt_tree.specs.declared.expression.Range.{Range}
use Rattle.qt_tree.specs.declared.expression.Scalar.{Scalar}
use Rattle.qt_tree.specs.declared.place.Place.{Place}
use Rattle.qt_tree.specs.declared.refusal.Cause.TheVariants as cause
use Rattle.qt_tree.specs.declared.refusal.TextRefusal.{TextRefusal}
use Rattle.qt_tree.specs.declared.refusal.TextRefusal.TheVariants as refusal
use Rattle.qt_tree.specs.declared.statement.Operand.{Operand}
use Rattle.qt_const_rules.specs.declared.modes.Mode.TheVariants as mode
use Rattle.qt_typed.specs.Choices.{qubit_count}
use Rattle.qt_typed.specs.declared.call.TypedQubit.TheVariants as qubit
use Rattle.qt_typed.specs.declared.call.TypedQubits.{TypedQubits}
use Rattle.qt_typed.specs.declared.call.TypedQubits.TheVariants as qubits
use Rattle.qt_typed.specs.declared.expression.TypedExpr.{TypedExpr}
use Rattle.qt_meaning.specs.WellFormed.{FixedFits, QubitsFit, Scope}
use Rattle.qt_meaning_laws.proofs.Named.{all_more, all_none}
use Rattle.qt_meaning_laws.proofs.Runs.{all_first, all_later}
use Rattle.qt_typing.specs.declared.names.Names.{Names}
use Rattle.qt_typing.specs.declared.indexes.Slice.{Slice}
use Rattle.qt_typing.specs.Checked.{or_refuse, unless}
use Rattle.qt_typing.specs.Expressions.{typed_of}
use Rattle.qt_typing.specs.Indexes.{fixed_place, range_places, whole_index}
use Rattle.qt_typing.specs.Qubits.{contains, fixed_in, fixed_qubits, indexed_in, is_register, known_places, operand_qubits, qubit_in, qubits_at, qubits_by, qubits_in_range, qubits_in_set, qubits_indexed, qubits_named, qubits_of, register_of, set_from}
use Rattle.qt_typing.specs.Sorts.{is_fixed}
use Rattle.qt_typing_laws.specs.Fits.{InScopes}
use Rattle.qt_typing_laws.specs.Seen.{NamedIsSeen}
use Rattle.qt_typing_laws.proofs.Holding.{Holds, ok_holds, err_holds, any_holds, then_holds, if_holds, IfSome, some_is, none_is}
use Rattle.qt_typing_laws.proofs.Names.{found_is, known_name, unfit_is}

-- ---- lists

pub all_both : {A : Type 0} (Q : A → Type 0) (xs ys : List A) → All Q xs → All Q ys → All Q (xs ++ ys)
all_both Q [] ys h g = g
all_both Q (x ∷ xs) ys h g = all_more Q x (xs ++ ys) (all_first Q x xs h) (all_both Q xs ys (all_later Q x xs h) g)

pub all_one : {A : Type 0} (Q : A → Type 0) (x : A) → Q x → All Q (x ∷ [])
all_one Q x h = all_more Q x [] h (all_none Q)

pub at_place : {A : Type 0} (Q : A → Type 0) (xs : List A) (n : ℕ) → All Q xs → IfSome Q (slice_get xs n)
at_place Q [] n h = none_is
at_place Q (x ∷ xs) zero h = some_is (all_first Q x xs h)
at_place Q (x ∷ xs) (suc n) h = at_place Q xs n (all_later Q x xs h)

one_or_none : {A : Type 0} (Q : A → Type 0) (a : Option A) (xs : List A) → IfSome Q a → All Q xs → All Q (cons_option a xs)
one_or_none Q None xs h g = g
one_or_none Q (Some x) xs h g = all_more Q x xs (h.by x refl) g

at_places : {A : Type 0} (Q : A → Type 0) (xs : List A) (places : List ℕ) → All Q xs → All Q (filter_map (slice_get xs) places)
at_places Q xs [] h = all_none Q
at_places Q xs (n ∷ places) h =
    one_or_none Q (slice_get xs n) (filter_map (slice_get xs) places) (at_place Q xs n h) (at_places Q xs places h)

pub refuse_is : {A : Type 0} {P : A → Type 0} (e : TextRefusal) (a : Option A) → IfSome P a → Holds P (or_refuse e a)
refuse_is e None h = err_holds
refuse_is e (Some x) h = ok_holds (h.by x refl)

module _ (z : Scope) where
  abbrev AllFixed : List FixedQubit → Type 0
  AllFixed register = All (FixedFits z) register

  stepped_fit : (register : List FixedQubit) (start step count : ℕ) → AllFixed register → AllFixed (stepped register start step count)
  unfolding stepped
  stepped_fit register start step count h = at_places (FixedFits z) register (progression start step count) h

  fixed_fit : (of : TypedQubits) → QubitsFit z of → AllFixed (fixed_qubits of)
  fixed_fit (qubits.Single (qubit.Fixed q)) h = all_one (FixedFits z) q h
  fixed_fit (qubits.Single (qubit.Slot slot)) h = all_none (FixedFits z)
  fixed_fit (qubits.Single (qubit.Indexed register index)) h = all_none (FixedFits z)
  fixed_fit (qubits.Register register) h = h

  register_fits : (place : Place) (of : TypedQubits) → QubitsFit z of → Holds AllFixed (register_of place of)
  register_fits place (qubits.Register register) h = ok_holds h
  register_fits place (qubits.Single q) h = err_holds

  pub places_known : (place : Place) (of : TypedQubits) → QubitsFit z of → Holds AllFixed (known_places place of)
  unfolding known_places
  places_known place (qubits.Register register) h = ok_holds h
  places_known place (qubits.Single (qubit.Fixed q)) h = ok_holds (all_one (FixedFits z) q h)
  places_known place (qubits.Single (qubit.Slot slot)) h = err_holds
  places_known place (qubits.Single (qubit.Indexed register index)) h = err_holds

  module _ (names : Names) (seen : InScopes (NamedIsSeen z) names.scopes) (place : Place) where
    named_fit : (name : scope.Name) → Holds (QubitsFit z) (qubits_named names place name)
    unfolding qubits_named
    named_fit name =
        then_holds (known_name name place (found names.scopes name) (found_is (NamedIsSeen z) names.scopes name seen))
        (λ (it : Named) h. unfit_is place name (qubits_of it) (record { by = h.qubits }))

    fixed_in_fits : (register : List FixedQubit) (expr : Expr) → AllFixed register → Holds (FixedFits z) (fixed_in names place register expr)
    unfolding fixed_in
    fixed_in_fits register expr h =
        then_holds {r = fixed_place names mode.Plain place (length register) expr} any_holds (λ n _.
        refuse_is (refusal.E12 place cause.Range) (slice_get register n) (at_place (FixedFits z) register n h))

    indexed_fit : (register : List FixedQubit) (expr : Expr) (form : TypedExpr) → AllFixed register
        → Holds (QubitsFit z) (indexed_in names place register expr form)
    unfolding indexed_in
    indexed_fit register expr form h =
        if_holds (is_fixed names expr) (λ _. then_holds (fixed_in_fits register expr h) (λ q g. ok_holds g)) (λ _. ok_holds h)

    qubit_in_fits : (of : TypedQubits) (expr : Expr) → QubitsFit z of → Holds (QubitsFit z) (qubit_in names place of expr)
    unfolding qubit_in
    qubit_in_fits of expr h =
        then_holds {r = typed_of names mode.Plain place expr} any_holds (λ x _.
        then_holds {r = whole_index place true x} any_holds (λ form _.
        then_holds (register_fits place of h) (λ register g. indexed_fit register expr form g)))

    range_fits : (of : TypedQubits) (range : Range) → QubitsFit z of → Holds (QubitsFit z) (qubits_in_range names place of range)
    unfolding qubits_in_range
    range_fits of range h =
        then_holds {r = range_places names mode.Plain place (is_register of) (qubit_count of) range} any_holds
        (λ (s : Slice) _. ok_holds (stepped_fit (fixed_qubits of) s.start s.step s.count (fixed_fit of h)))

    set_fits : (register done : List FixedQubit) (exprs : List Expr) → AllFixed register → AllFixed done
        → Holds AllFixed (set_from names place register done exprs)
    unfolding set_from
    set_fits register done [] h g = ok_holds g
    set_fits register done (expr ∷ rest) h g =
        then_holds (fixed_in_fits register expr h) (λ q f.
        then_holds {r = unless (contains done q) (refusal.E11 place cause.Qubit)} any_holds (λ _ _.
        set_fits register (done ++ q ∷ []) rest h (all_both (FixedFits z) done (q ∷ []) g (all_one (FixedFits z) q f))))

    in_set_fits : (of : TypedQubits) (exprs : List Expr) → QubitsFit z of → Holds (QubitsFit z) (qubits_in_set names place of exprs)
    unfolding qubits_in_set
    in_set_fits of exprs h =
        then_holds (register_fits place of h) (λ register g.
        then_holds (set_fits register [] exprs g (all_none (FixedFits z))) (λ chosen f. ok_holds f))

    by_fits : (of : TypedQubits) (layer : o.Index-F Expr Index Scalar Range) → QubitsFit z of
        → Holds (QubitsFit z) (qubits_by names place of layer)
    by_fits of (o.At expr) h = qubit_in_fits of expr h
    by_fits of (o.Range range) h = range_fits of range h
    by_fits of (o.Set exprs) h = in_set_fits of exprs h

    with_index : (of : TypedQubits) (index : Option Index) → QubitsFit z of → Holds (QubitsFit z) (qubits_indexed names place of index)
    unfolding qubits_indexed
    with_index of None h = ok_holds h
    with_index of (Some index) h = by_fits of (out-Index index) h

    pub qubits_fit : (name : scope.Name) (index : Option Index) → Holds (QubitsFit z) (qubits_at names place name index)
    unfolding qubits_at
    qubits_fit name index = then_holds (named_fit name) (λ of h. with_index of index h)

    pub operand_fits : (operand : Operand) → Holds (QubitsFit z) (operand_qubits names place operand)
    unfolding operand_qubits
    operand_fits operand = qubits_fit operand.name operand.index
