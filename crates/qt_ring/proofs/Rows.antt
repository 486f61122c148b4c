-- The coefficients of a product x·y as sums over places: with those of x in a row stand the conjugate of y, and it turned by ω,
-- ω² and ω³.
use Rattle.std.proofs.Common.{◌≡◌, refl, sym, ap, ◌∙◌, arith, ℤ, ◌+ℤ◌, ◌*ℤ◌}
use lib.IntN.{neg_ℤ}
use Rattle.std.proofs.lemmas.Int.{ints}
use Rattle.qt_ring.specs.declared.omega.Omega.{Omega}
use Rattle.qt_ring.specs.Ring.{times, conj, the_omega}
use Rattle.qt_integers.proofs.Integers.{neg_right, neg_neg}
use Rattle.qt_ring.proofs.RingLaws.{zero-neg}
use Rattle.qt_ring.proofs.Coefficients.{turned_is}

times_omega_is : (x : Omega) → times the_omega x ≡ record { c0 = neg_ℤ x.c3; c1 = x.c0; c2 = x.c1; c3 = x.c2 }
times_omega_is x = sym (turned_is x (record { c0 = neg_ℤ x.c3; c1 = x.c0; c2 = x.c1; c3 = x.c2 }) refl refl refl refl)

abbrev pub inner : Omega → Omega → ℤ
inner x y = x.c0 *ℤ y.c0 +ℤ x.c1 *ℤ y.c1 +ℤ x.c2 *ℤ y.c2 +ℤ x.c3 *ℤ y.c3

row_c0 : (x y : Omega) → inner x (conj y) ≡ (times x y).c0
unfolding conj times
row_c0 x y = simp (neg_right, zero-neg) (omega (arith, ints))

row_c1 : (x y : Omega) → inner x (times the_omega (conj y)) ≡ (times x y).c1
unfolding conj times
row_c1 x y = ap (inner x) (times_omega_is (conj y)) ∙ simp (neg_right, neg_neg, zero-neg) (omega (arith, ints))

row_c2 : (x y : Omega) → inner x (times the_omega (times the_omega (conj y))) ≡ (times x y).c2
unfolding conj times
row_c2 x y = ap (λ t. inner x (times the_omega t)) (times_omega_is (conj y)) ∙ ap (inner x) (times_omega_is _) ∙ simp (neg_right, neg_neg, zero-neg) (omega (arith, ints))

row_c3 : (x y : Omega) → inner x (times the_omega (times the_omega (times the_omega (conj y)))) ≡ (times x y).c3
unfolding conj times
row_c3 x y = ap (λ t. inner x (times the_omega (times the_omega t))) (times_omega_is (conj y)) ∙ ap (λ t. inner x (times the_omega t)) (times_omega_is _) ∙ ap (inner x) (times_omega_is _) ∙ simp (neg_neg, zero-neg) (omega (arith, ints))

-- the rows as the code makes them, one from another
pub record IsTurning (y a b c d : Omega) : Type 0 where
  pub first : a ≡ conj y
  pub second : b ≡ times the_omega a
  pub third : c ≡ times the_omega b
  pub fourth : d ≡ times the_omega c

pub rows_are : (x y a b c d : Omega) → IsTurning y a b c d → (inner x a ≡ (times x y).c0) × (inner x b ≡ (times x y).c1) × (inner x c ≡ (times x y).c2) × (inner x d ≡ (times x y).c3)
rows_are x y a b c d t =
    let second : b ≡ times the_omega (conj y) = t.second ∙ ap (times the_omega) t.first in
    let third : c ≡ times the_omega (times the_omega (conj y)) = t.third ∙ ap (times the_omega) second in
    let fourth : d ≡ times the_omega (times the_omega (times the_omega (conj y))) = t.fourth ∙ ap (times the_omega) third in
    (ap (inner x) t.first ∙ row_c0 x y, ap (inner x) second ∙ row_c1 x y, ap (inner x) third ∙ row_c2 x y, ap (inner x) fourth ∙ row_c3 x y)
