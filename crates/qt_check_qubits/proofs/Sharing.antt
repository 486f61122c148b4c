-- Whether a qubit stands in a register, and whether two share one: what tests find, and what stands at some place.
use Rattle.std.proofs.Common.{◌≡◌, ℕ, zero, suc, ◌↔◌, Bool, true, false, true≢false, ◌||◌, nat_eq, IsTrue, List, [], ◌∷◌, slice_get, Some, refl, sym, ap, ap₂, ◌∙◌, subst}
use Rattle.std.specs.Prelude.{◌⊎◌}
use mathlib.Core.Logic.{inl, inr}
use Rattle.std.proofs.lemmas.Bool.{and_from, and_parts, eqb-true, eq-eqb, or_cases, or_left, or_right}
use Rattle.qt_registers.specs.Registers.{Holds, Overlap}
use Rattle.qt_registers.specs.declared.fixed.FixedQubit.{FixedQubit}
use Rattle.qt_registers.specs.declared.fixed.FixedQubit.TheVariants as fixed
use Rattle.qt_typing.specs.Qubits.{contains, is_same_qubit, overlaps}

-- ---- tests that say when something holds

says : (answer test : Bool) (P : Type 0) → (IsTrue answer ↔ P) → (P → test ≡ true) → (test ≡ true → P) → answer ≡ test
says true test P is to from = sym (to (is.0 refl))
says false true P is to from = absurd (true≢false (sym (is.1 (from refl))))
says false false P is to from = refl

-- ---- one qubit

same_is : (a b : FixedQubit) → is_same_qubit a b ≡ true → a ≡ b
unfolding is_same_qubit
same_is (fixed.Number a) (fixed.Number b) h = ap fixed.Number (eqb-true a b h)
same_is (fixed.Number a) (fixed.OfParameter q b) h = absurd (true≢false (sym h))
same_is (fixed.OfParameter p a) (fixed.Number b) h = absurd (true≢false (sym h))
same_is (fixed.OfParameter p a) (fixed.OfParameter q b) h =
    let t = and_parts (nat_eq p q) (nat_eq a b) h in
    ap₂ fixed.OfParameter (eqb-true p q t.0) (eqb-true a b t.1)

same_self : (a : FixedQubit) → is_same_qubit a a ≡ true
unfolding is_same_qubit
same_self (fixed.Number a) = eq-eqb a a refl
same_self (fixed.OfParameter p a) = and_from (nat_eq p p) (nat_eq a a) (eq-eqb p p refl) (eq-eqb a a refl)

is_same : (a b : FixedQubit) → a ≡ b → is_same_qubit a b ≡ true
is_same a b h = subst (λ q. is_same_qubit a q ≡ true) h (same_self a)

-- ---- a qubit in a register

held_contained : (register : List FixedQubit) (q : FixedQubit) (place : ℕ) → slice_get register place ≡ Some q → contains register q ≡ true
held_contained [] q place h = cc h
held_contained (a ∷ rest) q zero h = or_left (is_same_qubit a q) (contains rest q) (is_same a q (cc h))
held_contained (a ∷ rest) q (suc place) h = or_right (is_same_qubit a q) (contains rest q) (held_contained rest q place h)

module _ (a : FixedQubit) (rest : List FixedQubit) (q : FixedQubit) (behind : contains rest q ≡ true → Holds rest q) where
  held_there : (is_same_qubit a q ≡ true) ⊎ (contains rest q ≡ true) → Holds (a ∷ rest) q
  held_there (inl here) = (zero, ap Some (same_is a q here))
  held_there (inr later) = (suc (behind later).0, (behind later).1)

contained_held : (register : List FixedQubit) (q : FixedQubit) → contains register q ≡ true → Holds register q
contained_held [] q h = absurd (true≢false (sym h))
contained_held (a ∷ rest) q h =
    held_there a rest q (contained_held rest q) (or_cases (is_same_qubit a q) (contains rest q) h)

pub contains_is : (answer : Bool) (register : List FixedQubit) (q : FixedQubit) → (IsTrue answer ↔ Holds register q)
    → answer ≡ contains register q
contains_is answer register q is =
    says answer (contains register q) (Holds register q) is (λ h. held_contained register q h.0 h.1) (contained_held register q)

-- ---- a qubit in both of two registers

shared_overlaps : (register others : List FixedQubit) (q : FixedQubit) (place : ℕ) → Holds register q → slice_get others place ≡ Some q
    → overlaps register others ≡ true
unfolding overlaps
shared_overlaps register [] q place here h = cc h
shared_overlaps register (a ∷ rest) q zero here h =
    let is : contains register a ≡ true = subst (λ b. contains register b ≡ true) (sym (cc h)) (held_contained register q here.0 here.1) in
    or_left (contains register a) (overlaps register rest) is
shared_overlaps register (a ∷ rest) q (suc place) here h =
    or_right (contains register a) (overlaps register rest) (shared_overlaps register rest q place here h)

module _ (register : List FixedQubit) (a : FixedQubit) (rest : List FixedQubit)
    (behind : overlaps register rest ≡ true → Overlap register rest) where
  shared_there : (contains register a ≡ true) ⊎ (overlaps register rest ≡ true) → Overlap register (a ∷ rest)
  shared_there (inl here) = (a, contained_held register a here, (zero, refl))
  shared_there (inr later) = let t = behind later in (t.0, t.1, (suc t.2.0, t.2.1))

overlaps_shared : (register others : List FixedQubit) → overlaps register others ≡ true → Overlap register others
unfolding overlaps
overlaps_shared register [] h = absurd (true≢false (sym h))
overlaps_shared register (a ∷ rest) h =
    shared_there register a rest (overlaps_shared register rest) (or_cases (contains register a) (overlaps register rest) h)

pub overlaps_is : (answer : Bool) (register others : List FixedQubit) → (IsTrue answer ↔ Overlap register others)
    → answer ≡ overlaps register others
overlaps_is answer register others is =
    says answer (overlaps register others) (Overlap register others) is (λ h. shared_overlaps register others h.0 h.2.0 h.1 h.2.1)
    (overlaps_shared register others)

-- ---- registers of one qubit, and of none

pub or_false : (x : Bool) → (x || false) ≡ x
or_false true = refl
or_false false = refl

pub overlaps_one : (register : List FixedQubit) (q : FixedQubit) → overlaps register (q ∷ []) ≡ contains register q
unfolding overlaps
overlaps_one register q = or_false (contains register q)

pub overlaps_nothing : (register : List FixedQubit) → overlaps register [] ≡ false
unfolding overlaps
overlaps_nothing register = refl

same_sym : (a b : FixedQubit) → is_same_qubit a b ≡ is_same_qubit b a
same_sym a b =
    says (is_same_qubit a b) (is_same_qubit b a) (b ≡ a) (λ t. sym (same_is a b t), λ e. is_same a b (sym e)) (λ e. is_same b a e)
    (same_is b a)

pub one_overlaps : (others : List FixedQubit) (q : FixedQubit) → overlaps (q ∷ []) others ≡ contains others q
unfolding overlaps
one_overlaps [] q = refl
one_overlaps (a ∷ rest) q = ap₂ ◌||◌ (or_false (is_same_qubit q a) ∙ same_sym q a) (one_overlaps rest q)

pub nothing_overlaps : (others : List FixedQubit) → overlaps [] others ≡ false
unfolding overlaps
nothing_overlaps [] = refl
nothing_overlaps (a ∷ rest) = nothing_overlaps rest

pub ruleset one = (overlaps_one, overlaps_nothing, one_overlaps)

pub ruleset none = (nothing_overlaps, or_false)
