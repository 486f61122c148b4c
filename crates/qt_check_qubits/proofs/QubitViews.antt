-- The qubits of a name by the first of them, and that a single qubit has no range.
use Rattle.std.proofs.Common.{◌≡◌, ℕ, true, false, List, [], ◌∷◌, slice_get, Option, Some, None, Ok, Err, refl, subst}
use Rattle.std.specs.Prelude.{ℤ}
use Rattle.qt_const_rules.specs.declared.modes.Mode.{Mode}
use Rattle.qt_registers.specs.declared.fixed.FixedQubit.{FixedQubit}
use Rattle.qt_tree.specs.declared.expression.Range.{Range, out-Range}
use Rattle.qt_tree.specs.declared.place.Place.{Place}
use Rattle.qt_tree.specs.declared.refusal.TextRefusal.{TextRefusal}
use Rattle.qt_tree.specs.declared.refusal.TextRefusal.TheVariants as refusal
use Rattle.qt_typed.specs.declared.call.TypedQubit.TheVariants as qubit
use Rattle.qt_typed.specs.declared.call.TypedQubits.{TypedQubits}
use Rattle.qt_typed.specs.declared.call.TypedQubits.TheVariants as qubits
use Rattle.qt_typing.specs.declared.indexes.Slice.{Slice}
use Rattle.qt_typing.specs.declared.names.Names.{Names}
use Rattle.qt_typing.specs.Checked.{Checked, and_then, unless}
use Rattle.qt_typing.specs.Indexes.{optional_number, places_of_range, range_places}
use Rattle.qt_typing.specs.Qubits.{single_or_register}

abbrev pub of_first : Option FixedQubit → Option TypedQubits
of_first None = None
of_first (Some q) = Some (qubits.Single (qubit.Fixed q))

pub first_is : (register : List FixedQubit) → single_or_register [] register ≡ of_first (slice_get register 0)
first_is [] = refl
first_is (q ∷ rest) = refl

-- ---- a range on what may have none

abbrev pub IsRefused : {A : Type 0} → Checked A → Type 0
IsRefused (Ok a) = ⊥
IsRefused (Err e) = Unit {0}

behind_bounds : (a b c : Checked (Option ℤ)) (e : TextRefusal) (f : Option ℤ → Option ℤ → Option ℤ → Checked Slice)
    → IsRefused (and_then a (λ x. and_then b (λ y. and_then c (λ z. and_then (unless true e) (λ u. f x y z)))))
behind_bounds (Err d) b c e f = tt
behind_bounds (Ok x) (Err d) c e f = tt
behind_bounds (Ok x) (Ok y) (Err d) e f = tt
behind_bounds (Ok x) (Ok y) (Ok z) e f = tt

refused : (names : Names) (m : Mode) (place : Place) (n : ℕ) (range : Range) → IsRefused (range_places names m place false n range)
unfolding range_places
refused names m place n range =
    behind_bounds (optional_number names m place (out-Range range).start) (optional_number names m place (out-Range range).step)
    (optional_number names m place (out-Range range).end) (refusal.E10 place) (places_of_range place n)

pub no_range : (names : Names) (m : Mode) (place : Place) (n : ℕ) (range : Range) (s : Slice)
    → range_places names m place false n range ≡ Ok s → ⊥
no_range names m place n range s h = subst (λ t. IsRefused t) h (refused names m place n range)
