-- The scale of what is taken out is |p|² for the product p of it.
use Rattle.std.proofs.Common.{◌≡◌, ℕ, zero, suc, ◌+◌, Bool, true, false, refl, sym, ap, ◌∙◌, arith, ℤ, pos, negsuc, ◌+ℤ◌, ◌*ℤ◌}
use Rattle.std.proofs.lemmas.Int.{ints}
use Rattle.qt_ring.specs.declared.omega.Omega.{Omega}
use Rattle.qt_ring.specs.Ring.{one, plus, minus, times, root, two_to, the_omega, root_two, one_minus_omega, epsilon, epsilon_inverse, norm_b}
use Rattle.qt_ring.specs.Places.{digit}
use Rattle.qt_ring.proofs.Dividing.{times_two}
use Rattle.qt_ring.proofs.Units.{norm_of_product}
use Rattle.qt_root2.specs.Root2.{Root2, times_root2, one_root2}
use Rattle.qt_root2.specs.Root2.{power as power_root2}
use Rattle.qt_root2.specs.Scaling.{unit, unit_inverse, prime, unit_power, lifted_root2, IsScaled}
use Rattle.qt_root2.specs.Real.{lifted}
use Rattle.qt_root2.proofs.Ring.{times_comm, times-one, one-times, lifted-times}
use Rattle.qt_canon_laws.specs.Powers.{power, once, epsilon_power}
use Rattle.qt_canon_laws.specs.Canonical.{Taken, factor_of, scale_of, norm}

abbrev made : ℤ → ℤ → Root2
made a b = record { a = a; b = b }

norm-times : (x y : Omega) → norm (times x y) ≡ times_root2 (norm x) (norm y)
norm-times x y = ap (λ t. made t (norm_b (times x y))) (norm_of_product x y).0 ∙ ap (made _) (norm_of_product x y).1

-- ---- of each factor
norm-one : norm one ≡ one_root2
unfolding one
norm-one = refl

norm-epsilon : norm epsilon ≡ unit
unfolding epsilon plus one
norm-epsilon = refl

norm-epsilon_inverse : norm epsilon_inverse ≡ unit_inverse
unfolding epsilon_inverse plus minus one
norm-epsilon_inverse = refl

norm-one_minus_omega : norm one_minus_omega ≡ prime
unfolding one_minus_omega plus minus one the_omega
norm-one_minus_omega = refl

norm-omega : norm the_omega ≡ one_root2
unfolding the_omega
norm-omega = refl

norm-two : norm (two_to 1) ≡ record { a = pos 4; b = pos 0 }
unfolding plus one
norm-two = refl

norm-power : (x : Omega) (y : Root2) (n : ℕ) → norm x ≡ y → norm (power x n) ≡ power_root2 y n
norm-power x y zero e = norm-one
norm-power x y (suc n) e = norm-times x (power x n) ∙ ap (λ t. times_root2 t (norm (power x n))) e ∙ ap (times_root2 y) (norm-power x y n e)

norm-root : (j : ℕ) → norm (root j) ≡ one_root2
norm-root zero = norm-one
norm-root (suc j) = norm-times the_omega (root j) ∙ ap (λ t. times_root2 t (norm (root j))) norm-omega ∙ ap (times_root2 one_root2) (norm-root j) ∙ times-one one_root2

norm-epsilon_power : (m : ℤ) → norm (epsilon_power m) ≡ unit_power m
norm-epsilon_power (pos n) = norm-power epsilon unit n norm-epsilon
norm-epsilon_power (negsuc n) = norm-power epsilon_inverse unit_inverse (suc n) norm-epsilon_inverse

fourfold : (a b : ℤ) → (a +ℤ a +ℤ (a +ℤ a) ≡ pos 4 *ℤ a +ℤ pos 2 *ℤ (pos 0 *ℤ b)) × (b +ℤ b +ℤ (b +ℤ b) ≡ pos 4 *ℤ b +ℤ pos 0 *ℤ a)
fourfold a b = (omega (arith, ints), omega (arith, ints))

lifted_twice : (x : Root2) (t : ℕ) → lifted_root2 x (suc t + suc t) ≡ times_root2 (record { a = pos 4; b = pos 0 }) (lifted_root2 x (t + t))
lifted_twice x t =
    let z : suc t + suc t ≡ suc (suc (t + t)) = omega arith in
    ap (lifted_root2 x) z ∙ ap (λ k. made k (lifted x.b (suc (suc (t + t))))) (fourfold (lifted x.a (t + t)) (lifted x.b (t + t))).0 ∙ ap (made _) (fourfold (lifted x.a (t + t)) (lifted x.b (t + t))).1

norm-two_to : (t : ℕ) → norm (two_to t) ≡ lifted_root2 one_root2 (t + t)
norm-two_to zero = norm-one
norm-two_to (suc t) = ap norm (sym (times_two (two_to t))) ∙ norm-times (two_to 1) (two_to t) ∙ ap (λ k. times_root2 k (norm (two_to t))) norm-two ∙ ap (times_root2 (record { a = pos 4; b = pos 0 })) (norm-two_to t) ∙ sym (lifted_twice one_root2 t)

norm-once_root_two : (b : Bool) → norm (once root_two b) ≡ lifted_root2 one_root2 (digit b)
norm-once_root_two false = norm-one
norm-once_root_two true = refl

norm-once_one_minus_omega : (b : Bool) → norm (once one_minus_omega b) ≡ power_root2 prime (digit b)
norm-once_one_minus_omega false = norm-one
norm-once_one_minus_omega true = norm-one_minus_omega ∙ sym (times-one prime)

-- ---- of their product
lifted_root2-lifted : (x : Root2) (m n : ℕ) → lifted_root2 (lifted_root2 x m) n ≡ lifted_root2 x (m + n)
lifted_root2-lifted x m zero = let z : m + zero ≡ m = omega arith in ap (lifted_root2 x) (sym z)
lifted_root2-lifted x m (suc n) = let z : m + suc n ≡ suc (m + n) = omega arith in ap (λ (t : Root2). record { a = t.a +ℤ t.a; b = t.b +ℤ t.b }) (lifted_root2-lifted x m n) ∙ ap (lifted_root2 x) (sym z)

both : (x y : Omega) (a b : Root2) → norm x ≡ a → norm y ≡ b → norm (times x y) ≡ times_root2 a b
both x y a b e f = norm-times x y ∙ ap (λ t. times_root2 t (norm y)) e ∙ ap (times_root2 a) f

gathered : (m n : ℕ) (p u : Root2) → times_root2 (lifted_root2 one_root2 m) (times_root2 (lifted_root2 one_root2 n) (times_root2 p (times_root2 u one_root2))) ≡ lifted_root2 (times_root2 one_root2 (times_root2 u p)) (m + n)
gathered m n p u =
    ap (λ t. times_root2 (lifted_root2 one_root2 m) (times_root2 (lifted_root2 one_root2 n) t)) (ap (times_root2 p) (times-one u) ∙ times_comm p u)
    ∙ lifted-times one_root2 (times_root2 (lifted_root2 one_root2 n) (times_root2 u p)) m
    ∙ ap (λ t. lifted_root2 t m) (one-times (times_root2 (lifted_root2 one_root2 n) (times_root2 u p)) ∙ lifted-times one_root2 (times_root2 u p) n)
    ∙ lifted_root2-lifted (times_root2 one_root2 (times_root2 u p)) n m
    ∙ (let z : n + m ≡ m + n = omega arith in ap (lifted_root2 (times_root2 one_root2 (times_root2 u p))) z)

pub scale_is_norm : (k : Taken) → IsScaled (scale_of k) one_root2 (norm (factor_of k))
scale_is_norm k =
    let turn : Omega = root k.turns in
    let units : Omega = epsilon_power k.units in
    let odd : Omega = once one_minus_omega k.has_one_minus_omega in
    let half : Omega = once root_two k.has_root_two in
    both (two_to k.twos) (times half (times odd (times units turn))) (lifted_root2 one_root2 (k.twos + k.twos)) _ (norm-two_to k.twos)
    (both half (times odd (times units turn)) (lifted_root2 one_root2 (digit k.has_root_two)) _ (norm-once_root_two k.has_root_two)
    (both odd (times units turn) (power_root2 prime (digit k.has_one_minus_omega)) _ (norm-once_one_minus_omega k.has_one_minus_omega)
    (both units turn (unit_power k.units) one_root2 (norm-epsilon_power k.units) (norm-root k.turns))))
    ∙ gathered (k.twos + k.twos) (digit k.has_root_two) (power_root2 prime (digit k.has_one_minus_omega)) (unit_power k.units)
