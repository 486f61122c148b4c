-- The number e^{iu} of an angle and of its opposite.
use Rattle.std.proofs.Common.{◌≡◌, ℕ, zero, suc, ◌+◌, ◌-◌, ◌*◌, ◌/◌, ◌%◌, ◌<◌, ◌^◌, ◌==◌, Bool, true, false, if◌then◌else◌, refl, sym, ap, ◌∙◌, arith, Some, None}
use Rattle.std.specs.Prelude.{ℤ, pos, negsuc, neg_ℤ, unsigned_abs}
use Rattle.std.specs.Int.{int_rem_euclid}
use Rattle.std.specs.Int.RustNames.{int_div}
use Rattle.std.proofs.Math.IntN.{neg_ℤ-neg_ℤ}
use Rattle.std.proofs.lemmas.Nat.{mod_below}
use Rattle.qt_ring.specs.declared.omega.Omega.{Omega}
use Rattle.qt_ring.specs.Ring.{one, times, conj, root}
use Rattle.qt_ring.proofs.RingLaws.{times_assoc, times-one, one-times, conj-one, conj_conj, root-plus, root_mod, root_turns}
use Rattle.qt_ring.proofs.Unitary.{root_size}
use Rattle.qt_gate_calls.specs.Units.{KnownUnits, opposite, root_at, circle}
use Rattle.qt_gate_laws.specs.Laws.{OppositesAreConjugate}

pub opposite_opposite : (k : KnownUnits) → opposite (opposite k) ≡ k
opposite_opposite None = refl
opposite_opposite (Some z) = ap Some (neg_ℤ-neg_ℤ z)

-- the inverse of a root is its conjugate
pub conj_inverse : (a b : ℕ) → root (a + b) ≡ one → root a ≡ conj (root b)
conj_inverse a b e =
    sym (times-one (root a))
    ∙ ap (times (root a)) (sym (root_size b))
    ∙ sym (times_assoc (root a) (root b) (conj (root b)))
    ∙ ap (λ x. times x (conj (root b))) (sym (root-plus a b) ∙ e)
    ∙ one-times (conj (root b))

eighths : ℕ → Omega
eighths q = root (unsigned_abs (int_rem_euclid (pos q) (pos 8)))

eighths_is : (q : ℕ) → root (unsigned_abs (int_rem_euclid (pos q) (pos 8))) ≡ root q
eighths_is q = root_mod q

whole_turns : (m : ℕ) → root (8 - 1 - m % 8 + suc m) ≡ one
whole_turns m =
    let below : m % 8 < 8 = mod_below m 8 (omega arith) in
    let e : 8 - 1 - m % 8 + suc m ≡ 8 * (m / 8 + 1) + 0 = omega arith in
    ap root e ∙ root_turns (m / 8 + 1) 0

-- so many eighths the other way
other_way : (q : ℕ) → root (unsigned_abs (int_rem_euclid (neg_ℤ (pos q)) (pos 8))) ≡ conj (root (unsigned_abs (int_rem_euclid (pos q) (pos 8))))
other_way zero = sym conj-one
other_way (suc m) = conj_inverse (8 - 1 - m % 8) (suc m) (whole_turns m) ∙ ap conj (sym (root_mod (suc m)))

size_of_opposite : (z : ℤ) → unsigned_abs (neg_ℤ z) ≡ unsigned_abs z
size_of_opposite (pos zero) = refl
size_of_opposite (pos (suc n)) = refl
size_of_opposite (negsuc n) = refl

the_eighth : ℤ → Omega
the_eighth z = root (unsigned_abs (int_rem_euclid (int_div z (pos (2 ^ 30))) (pos 8)))

turned_back : (z : ℤ) → the_eighth (neg_ℤ z) ≡ conj (the_eighth z)
unfolding the_eighth
turned_back (pos zero) = sym conj-one
turned_back (pos (suc n)) = other_way (suc n / 2 ^ 30)
turned_back (negsuc n) = sym (ap conj (other_way (suc n / 2 ^ 30)) ∙ conj_conj _)

circle_by : (b : Bool) (z : ℤ) → root_at (if b then Some (unsigned_abs (int_rem_euclid (int_div (neg_ℤ z) (pos (2 ^ 30))) (pos 8))) else None) ≡ conj (root_at (if b then Some (unsigned_abs (int_rem_euclid (int_div z (pos (2 ^ 30))) (pos 8))) else None))
unfolding the_eighth
circle_by true z = turned_back z
circle_by false z = sym conj-one

-- the angle turned back is the conjugate, whatever the angle is
pub conj-circle : (k : KnownUnits) → circle (opposite k) ≡ conj (circle k)
conj-circle None = sym conj-one
conj-circle (Some z) =
    ap (λ n. root_at (if n % 2 ^ 30 == 0 then Some (unsigned_abs (int_rem_euclid (int_div (neg_ℤ z) (pos (2 ^ 30))) (pos 8))) else None)) (size_of_opposite z)
    ∙ circle_by (unsigned_abs z % 2 ^ 30 == 0) z

pub opposites_are_conjugate : OppositesAreConjugate
opposites_are_conjugate = conj-circle
