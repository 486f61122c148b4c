-- Judgements that change what is seen, and keep it sound.
use Rattle.std.proofs.Common.{ℕ, Bool, true, false, [], ◌∷◌, ◌++◌}
use Rattle.std.specs.Prelude.{if◌then◌else◌}
use Rattle.qt_const_rules.specs.declared.consts.Known.{Known}
use Rattle.qt_names.specs.Entries as scope
use Rattle.qt_names.specs.declared.named.Named.{Named}
use Rattle.qt_tree.specs.declared.place.Place.{Place}
use Rattle.qt_typed.specs.declared.program.TypedOutput.{TypedOutput}
use Rattle.qt_meaning.specs.WellFormed.{Scope}
use Rattle.qt_typing.specs.declared.names.Names.{Names}
use Rattle.qt_typing.specs.declared.state.State.{State}
use Rattle.qt_typing.specs.Checked.{Checked}
use Rattle.qt_typing.specs.Declarations.{keep_variable}
use Rattle.qt_typing.specs.Environment.{Typing, ◌>>=◌, declare, declare_in_both, enter, is_global, leave, pure, seen, take_slots}
use Rattle.qt_typing_laws.specs.Fits.{InScopes}
use Rattle.qt_typing_laws.specs.Seen.{IsSeen, NamedIsSeen}
use Rattle.qt_typing_laws.proofs.Holding.{Holds, any_holds, ok_holds, then_holds}
use Rattle.qt_typing_laws.proofs.Names.{left_is, named_in_is}

-- what it gives is so, and what is seen behind it is sound, where that was before
pub record Keeps {A : Type 0} (z : Scope) (Q : A → Type 0) (p : Typing A) : Type 0 where
  pub by : (s : State) → IsSeen z s → Holds (λ (r : A × State). Q r.0 × IsSeen z r.1) (p s)

abbrev pub Any : {A : Type 0} → A → Type 0
Any a = Unit {0}

pub then_keeps : {A B : Type 0} {z : Scope} {P : A → Type 0} {Q : B → Type 0} {p : Typing A} {f : A → Typing B} → Keeps z P p
    → ((a : A) → P a → Keeps z Q (f a)) → Keeps z Q (p >>= f)
then_keeps h g = record { by = λ s n. then_holds (h.by s n) (λ r k. (g r.0 k.0).by r.1 k.1) }

pub pure_keeps : {A : Type 0} {z : Scope} {Q : A → Type 0} {a : A} → Q a → Keeps z Q (pure a)
pure_keeps q = record { by = λ s n. ok_holds (q, n) }

pub seen_keeps : {A : Type 0} {z : Scope} {Q : A → Type 0} {j : Names → Checked A}
    → ((names : Names) → InScopes (NamedIsSeen z) names.scopes → Holds Q (j names)) → Keeps z Q (seen j)
seen_keeps h = record { by = λ s n. then_holds (h s.names n.names) (λ a q. ok_holds (q, n)) }

-- a judgement of which nothing is asked
pub looked_keeps : {A B : Type 0} {z : Scope} {Q : B → Type 0} {f : A → Typing B} (j : Names → Checked A) → ((a : A) → Keeps z Q (f a))
    → Keeps z Q (seen j >>= f)
looked_keeps j g = record { by = λ s n. then_holds {P = λ (r : _ × State). IsSeen _ r.1} (then_holds {r = j s.names} any_holds (λ a _. ok_holds n)) (λ r h. (g r.0).by r.1 h) }

-- other names, the same besides
pub with_names : (z : Scope) (s : State) (names : Names) → IsSeen z s → InScopes (NamedIsSeen z) names.scopes
    → IsSeen z (record s { names = names })
with_names z s names n h =
    record { names = h; inside = n.inside; gates = n.gates; standard = n.standard; subroutines = n.subroutines }

module _ (z : Scope) where
  pub slots_keep : (n : ℕ) → Keeps z Any (take_slots n)
  unfolding take_slots
  slots_keep n = record {
    by = λ s h.
        ok_holds (tt, record { names = h.names; inside = h.inside; gates = h.gates; standard = h.standard; subroutines = h.subroutines });
  }

  pub enter_keeps : Keeps z Any enter
  unfolding enter
  enter_keeps = record { by = λ s h. ok_holds (tt, with_names z s _ h (tt, h.names)) }

  pub leave_keeps : (known : ℕ) → Keeps z Any (leave known)
  unfolding leave
  leave_keeps known = record { by = λ s h. ok_holds (tt, with_names z s _ h (left_is (NamedIsSeen z) s.names.scopes h.names)) }

  pub declare_keeps : (place : Place) (name : scope.Name) (it : Named) (known : Known) → NamedIsSeen z it
      → Keeps z Any (declare place name it known)
  unfolding declare
  declare_keeps place name it known g = record {
    by = λ s h.
        then_holds (named_in_is (NamedIsSeen z) place name it known s.names h.names g) (λ names n. ok_holds (tt, with_names z s names h n));
  }

  pub both_keep : (place : Place) (name : scope.Name) (it : Named) (known : Known) → NamedIsSeen z it
      → Keeps z Any (declare_in_both place name it known)
  unfolding declare_in_both
  both_keep place name it known g = record {
    by = λ s h.
        then_holds (named_in_is (NamedIsSeen z) place name it known s.names h.names g) (λ names n.
        then_holds (named_in_is (NamedIsSeen z) place name it known s.inside h.inside g) (λ inside i.
        ok_holds (tt, record { names = n; inside = i; gates = h.gates; standard = h.standard; subroutines = h.subroutines })));
  }

  pub variable_keeps : (output : TypedOutput) → Keeps z Any (keep_variable output)
  unfolding keep_variable
  variable_keeps output = record { by = λ s h. ok_holds (tt, by_test s h (is_global s)) }
    where
      by_test : (s : State) → IsSeen z s → (b : Bool) → IsSeen z (if b then record s { variables = s.variables ++ output ∷ [] } else s)
      by_test s h true =
          record { names = h.names; inside = h.inside; gates = h.gates; standard = h.standard; subroutines = h.subroutines }
      by_test s h false = h
