-- The rows of twice the matrix of U are sums of four turned amplitudes.
use Rattle.std.proofs.Common.{◌≡◌, ℕ, ◌+◌, true, false, refl, sym, ap, ◌∙◌, arith, ◌+ℤ◌}
use Rattle.qt_ring.specs.declared.omega.Omega.{Omega}
use Rattle.qt_ring.specs.Ring.{one, imaginary, the_omega, plus, minus, times, root}
use Rattle.qt_ring.proofs.RingLaws.{same, times_assoc, times-one, one-times, times-plus, plus-times, plus_both, root-plus, minus-times}
use Rattle.qt_embedding.specs.Entries.{row}
use Rattle.qt_kernel.specs.declared.gate.Angles.{Angles}
use Rattle.qt_kernel.specs.Gates.{u_matrix}

pub four_is : (p q r s t : Omega) → t.c0 ≡ p.c0 +ℤ q.c0 +ℤ (r.c0 +ℤ s.c0) → t.c1 ≡ p.c1 +ℤ q.c1 +ℤ (r.c1 +ℤ s.c1) → t.c2 ≡ p.c2 +ℤ q.c2 +ℤ (r.c2 +ℤ s.c2) → t.c3 ≡ p.c3 +ℤ q.c3 +ℤ (r.c3 +ℤ s.c3) → t ≡ plus (plus p q) (plus r s)
unfolding plus
four_is p q r s t a b c d = same t _ a b c d

minus_one : minus one ≡ root 4
unfolding minus times one the_omega
minus_one = refl

imaginary_is : imaginary ≡ root 2
unfolding imaginary times one the_omega
imaginary_is = refl

minus_imaginary : minus imaginary ≡ root 6
unfolding imaginary minus times one the_omega
minus_imaginary = refl

minus-root : (t : ℕ) → minus (root t) ≡ root (4 + t)
minus-root t = ap minus (sym (one-times (root t))) ∙ sym (minus-times one (root t)) ∙ ap (λ r. times r (root t)) minus_one ∙ sym (root-plus 4 t)

-- ω^a (1 + ω^t) x is a sum of two
sum_turned : (a t : ℕ) (x : Omega) → times (times (root a) (plus one (root t))) x ≡ plus (times (root a) x) (times (root (a + t)) x)
sum_turned a t x = ap (λ r. times r x) (times-plus (root a) one (root t) ∙ plus_both _ _ _ _ (times-one (root a)) (sym (root-plus a t))) ∙ plus-times (root a) (root (a + t)) x

difference_turned : (a t : ℕ) (x : Omega) → times (times (root a) (plus one (minus (root t)))) x ≡ plus (times (root a) x) (times (root (a + (4 + t))) x)
difference_turned a t x = ap (λ r. times (times (root a) (plus one r)) x) (minus-root t) ∙ sum_turned a (4 + t) x

low_sum : (t l : ℕ) (p q : Omega) → plus (times (plus one (root t)) p) (times (times (minus imaginary) (times (root l) (plus one (minus (root t))))) q) ≡ plus (plus (times (root 0) p) (times (root t) p)) (plus (times (root (6 + l)) q) (times (root (6 + (l + (4 + t)))) q))
low_sum t l p q =
    let z : 6 + l + (4 + t) ≡ 6 + (l + (4 + t)) = omega arith in
    plus_both _ _ _ _
    (plus-times one (root t) p)
    (ap (λ r. times r q) (ap (λ i. times i (times (root l) (plus one (minus (root t))))) minus_imaginary ∙ sym (times_assoc (root 6) (root l) (plus one (minus (root t)))) ∙ ap (λ r. times r (plus one (minus (root t)))) (sym (root-plus 6 l)))
    ∙ difference_turned (6 + l) t q ∙ ap (λ k. plus (times (root (6 + l)) q) (times (root k) q)) z)

high_sum : (t f l : ℕ) (p q : Omega) → plus (times (times imaginary (times (root f) (plus one (minus (root t))))) p) (times (times (times (root f) (root l)) (plus one (root t))) q) ≡ plus (plus (times (root (2 + f)) p) (times (root (2 + (f + (4 + t)))) p)) (plus (times (root (f + l)) q) (times (root (f + l + t)) q))
high_sum t f l p q =
    let z : 2 + f + (4 + t) ≡ 2 + (f + (4 + t)) = omega arith in
    plus_both _ _ _ _
    (ap (λ r. times r p) (ap (λ i. times i (times (root f) (plus one (minus (root t))))) imaginary_is ∙ sym (times_assoc (root 2) (root f) (plus one (minus (root t)))) ∙ ap (λ r. times r (plus one (minus (root t)))) (sym (root-plus 2 f)))
    ∙ difference_turned (2 + f) t p ∙ ap (λ k. plus (times (root (2 + f)) p) (times (root k) p)) z)
    (ap (λ r. times (times r (plus one (root t))) q) (sym (root-plus f l)) ∙ sum_turned (f + l) t q)

summed : (r a b c d w x y z : Omega) → r ≡ plus (plus a b) (plus c d) → a ≡ w → b ≡ x → c ≡ y → d ≡ z → r ≡ plus (plus w x) (plus y z)
summed r a b c d w x y z e f g h k = e ∙ plus_both _ _ _ _ (plus_both _ _ _ _ f g) (plus_both _ _ _ _ h k)

-- the turned amplitudes of the row of bit 0, summed
pub low_row_is : (g : Angles) (low high r a b c d : Omega) → r ≡ plus (plus a b) (plus c d) → a ≡ times (root 0) low → b ≡ times (root g.theta) low → c ≡ times (root (6 + g.lambda)) high → d ≡ times (root (6 + (g.lambda + (4 + g.theta)))) high → r ≡ row (u_matrix g) false low high
low_row_is g low high r a b c d e i j k l = summed r a b c d _ _ _ _ e i j k l ∙ sym (low_sum g.theta g.lambda low high)

-- and of the row of bit 1
pub high_row_is : (g : Angles) (low high r a b c d : Omega) → r ≡ plus (plus a b) (plus c d) → a ≡ times (root (2 + g.phi)) low → b ≡ times (root (2 + (g.phi + (4 + g.theta)))) low → c ≡ times (root (g.phi + g.lambda)) high → d ≡ times (root (g.phi + g.lambda + g.theta)) high → r ≡ row (u_matrix g) true low high
high_row_is g low high r a b c d e i j k l = summed r a b c d _ _ _ _ e i j k l ∙ sym (high_sum g.theta g.phi g.lambda low high)
