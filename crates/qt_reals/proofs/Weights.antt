-- What the answers of `Weight::scaled`, `Weight::mass` and `Weight::plus` are as real numbers: a product, a product and a sum.
use Rattle.std.proofs.Common.{◌≡◌, ℕ, zero, suc, ◌+◌, ◌^◌, sym, ap, ◌∙◌, arith, ℤ, pos, negsuc, ◌+ℤ◌, ◌-ℤ◌}
use Rattle.std.proofs.lemmas.Int.{ints}
use Rattle.qt_root2.specs.declared.mass.Mass.{Mass}
use Rattle.qt_root2.specs.declared.scale.Scale.{Scale}
use Rattle.qt_root2.specs.declared.weight.Weight.{Weight}
use Rattle.qt_root2.specs.Masses.{real_of_mass}
use Rattle.qt_root2.specs.Numerators.{mass_numerator, weight_numerator}
use Rattle.qt_root2.specs.Real.{Real, lifted, plus_real, one_real}
use Rattle.qt_root2.specs.Root2.{Root2, times_root2, one_root2}
use Rattle.qt_root2.specs.Scaling.{factor, lifted_root2, IsTimesTwos, IsScaled}
use Rattle.qt_root2.proofs.Reals.{IsLeast, least_is_least, least_double, plus_real-least}
use Rattle.qt_root2.proofs.Ring.{same_root2, times-one}
use Rattle.qt_reals.specs.Product.{least_of, times_real, two_power}
use Rattle.qt_reals.specs.Weight.{real_of_weight, real_of_scale}
use Rattle.qt_reals.specs.Norm.{quarters}
use Rattle.qt_reals.proofs.Products.{
  least_both,
  least_raised,
  least_of_same,
  times_real-least,
  times_real_comm,
  times_real_assoc,
  times_real_is_least,
  one_real-times,
  times_lifted,
  plus_root2,
}

-- ---- powers of 2

least_over_0 : (k : ℕ) (p : Root2) → least_of (k + 0) p ≡ least_of k p
least_over_0 k p = let e : k + 0 ≡ k = omega arith in ap (λ n. least_of n p) e

times_lifted_one : (x : Root2) (n : ℕ) → times_root2 x (lifted_root2 one_root2 n) ≡ lifted_root2 x n
times_lifted_one x n = times_lifted x one_root2 n ∙ ap (λ u. lifted_root2 u n) (times-one x)

-- over one power of 2, a number times 2^z is that number times the real number 2^z
up_real : (n k : ℕ) (x : Root2) → times_real (least_of k x) (two_power (pos n)) ≡ least_of k (lifted_root2 x n)
up_real n k x = times_real-least k 0 x (lifted_root2 one_root2 n) ∙ least_over_0 k (times_root2 x (lifted_root2 one_root2 n))
    ∙ ap (least_of k) (times_lifted_one x n)

down_real : (n k : ℕ) (x : Root2) → times_real (least_of k x) (two_power (negsuc n)) ≡ least_of (suc n + k) x
down_real n k x =
    let e : k + suc n ≡ suc n + k = omega arith in
    times_real-least k (suc n) x one_root2 ∙ least_both (k + suc n) (suc n + k) (times_root2 x one_root2) x e (times-one x)

pub times_twos_real : (z : ℤ) (k : ℕ) (x y : Root2) → IsTimesTwos z x y → least_of k y ≡ times_real (least_of k x) (two_power z)
times_twos_real (pos n) k x y h = ap (least_of k) h ∙ sym (up_real n k x)
times_twos_real (negsuc n) k x y h = sym (least_raised (suc n) k y) ∙ ap (least_of (suc n + k)) h ∙ sym (down_real n k x)

pub real_times_twos : (z : ℤ) (k : ℕ) (x y : Root2) → least_of k y ≡ times_real (least_of k x) (two_power z) → IsTimesTwos z x y
real_times_twos (pos n) k x y h = least_of_same k y (lifted_root2 x n) (h ∙ up_real n k x)
real_times_twos (negsuc n) k x y h = least_of_same (suc n + k) (lifted_root2 y (suc n)) x (least_raised (suc n) k y ∙ h ∙ down_real n k x)

-- ---- scales

factor_real : (by : Scale) (k : ℕ) (x : Root2)
    → times_real (least_of k (times_root2 x (factor by))) (two_power by.twos) ≡ times_real (least_of k x) (real_of_scale by)
factor_real by k x =
    ap (λ r. times_real r (two_power by.twos)) (sym (times_real-least k 0 x (factor by) ∙ least_over_0 k (times_root2 x (factor by))))
    ∙ times_real_assoc (least_of k x) (least_of 0 (factor by)) (two_power by.twos)
    ∙ ap (times_real (least_of k x)) (times_real_comm (least_of 0 (factor by)) (two_power by.twos))

-- y is x scaled just where the real number of y is that of x times that of the scale
pub scaled_real : (by : Scale) (k : ℕ) (x y : Root2) → IsScaled by x y → least_of k y ≡ times_real (least_of k x) (real_of_scale by)
scaled_real by k x y h = times_twos_real by.twos k (times_root2 x (factor by)) y h ∙ factor_real by k x

pub real_scaled : (by : Scale) (k : ℕ) (x y : Root2) → least_of k y ≡ times_real (least_of k x) (real_of_scale by) → IsScaled by x y
real_scaled by k x y h = real_times_twos by.twos k (times_root2 x (factor by)) y (h ∙ sym (factor_real by k x))

pub scaled_weight : (by : Scale) (w v : Weight) → IsScaled by (weight_numerator w) (weight_numerator v)
    → real_of_weight v ≡ times_real (real_of_weight w) (real_of_scale by)
unfolding real_of_weight
scaled_weight by w v h = scaled_real by 96 (weight_numerator w) (weight_numerator v) h

pub weight_scaled : (by : Scale) (w v : Weight) → real_of_weight v ≡ times_real (real_of_weight w) (real_of_scale by)
    → IsScaled by (weight_numerator w) (weight_numerator v)
unfolding real_of_weight
weight_scaled by w v h = real_scaled by 96 (weight_numerator w) (weight_numerator v) h

-- the same for any numerator, of a size that no weight has
pub numerator_scaled : (by : Scale) (w : Weight) (y : Root2) → least_of 96 y ≡ times_real (real_of_weight w) (real_of_scale by)
    → IsScaled by (weight_numerator w) y
unfolding real_of_weight
numerator_scaled by w y h = real_scaled by 96 (weight_numerator w) y h

-- a scale that 1 is scaled by to p stands for p
pub scale_is : (by : Scale) (p : Root2) → IsScaled by one_root2 p → real_of_scale by ≡ least_of 0 p
scale_is by p h = sym (scaled_real by 0 one_root2 p h ∙ one_real-times (real_of_scale by) (times_real_is_least (two_power by.twos) (least_of 0 (factor by))))

-- 2^m / 2^n
two_ratio : (m n : ℕ) → least_of n (lifted_root2 one_root2 m) ≡ two_power (pos m -ℤ pos n)
two_ratio m zero = let e : pos m ≡ pos m -ℤ pos 0 = omega (arith, ints) in ap two_power e
two_ratio zero (suc n) = let e : negsuc n ≡ pos 0 -ℤ pos (suc n) = omega (arith, ints) in ap two_power e
two_ratio (suc m) (suc n) =
    let e : pos m -ℤ pos n ≡ pos (suc m) -ℤ pos (suc n) = omega (arith, ints) in
    least_double n (lifted (pos 1) m) (lifted (pos 0) m) ∙ two_ratio m n ∙ ap two_power e

two_power_over : (z : ℤ) (n : ℕ) → two_power (z -ℤ pos n) ≡ times_real (two_power z) (least_of n one_root2)
two_power_over (pos m) n =
    let e : n ≡ 0 + n = omega arith in
    sym (two_ratio m n) ∙ least_both n (0 + n) (lifted_root2 one_root2 m) (times_root2 (lifted_root2 one_root2 m) one_root2) e (sym (times-one (lifted_root2 one_root2 m)))
    ∙ sym (times_real-least 0 n (lifted_root2 one_root2 m) one_root2)
two_power_over (negsuc m) n =
    let e : negsuc m -ℤ pos n ≡ negsuc (m + n) = omega (arith, ints) in
    let f : suc (m + n) ≡ suc m + n = omega arith in
    ap two_power e ∙ least_both (suc (m + n)) (suc m + n) one_root2 (times_root2 one_root2 one_root2) f (sym (times-one one_root2))
    ∙ sym (times_real-least (suc m) n one_root2 one_root2)

times_real_last : (x y z : Real) → times_real (times_real x z) y ≡ times_real (times_real x y) z
times_real_last x y z = times_real_assoc x z y ∙ ap (times_real x) (times_real_comm z y) ∙ sym (times_real_assoc x y z)

-- a scale with 2·halvings fewer twos stands for a 4^halvings-th of it
pub scale_over : (s t : Scale) (halvings : ℕ) → t.twos ≡ s.twos -ℤ pos (halvings + halvings) → t.units ≡ s.units → t.primes ≡ s.primes
    → real_of_scale t ≡ times_real (real_of_scale s) (quarters halvings)
scale_over s t halvings e f g =
    real_parts t s.units s.primes f g
    ∙ ap (λ z. times_real (two_power z) (least_of 0 (factor s))) e
    ∙ ap (λ r. times_real r (least_of 0 (factor s))) (two_power_over s.twos (halvings + halvings))
    ∙ times_real_last (two_power s.twos) (least_of 0 (factor s)) (quarters halvings)
  where
    real_parts : (t : Scale) (u : ℤ) (p : ℕ) → t.units ≡ u → t.primes ≡ p
        → real_of_scale t ≡ times_real (two_power t.twos) (least_of 0 (factor (record t { units = u; primes = p })))
    real_parts t u p f g = ap (λ u. times_real (two_power t.twos) (least_of 0 (factor (record t { units = u })))) f
        ∙ ap (λ p. times_real (two_power t.twos) (least_of 0 (factor (record t { units = u; primes = p })))) g

-- ---- masses and sums

pub mass_real : (k : ℕ) (w n m : Root2) → m ≡ times_root2 w n → least_of k m ≡ times_real (least_of k w) (least_of 0 n)
mass_real k w n m h = ap (least_of k) h ∙ sym (times_real-least k 0 w n ∙ least_over_0 k (times_root2 w n))

-- the mass of an outcome is the weight times the squared norm of its state
pub mass_of_weight : (w : Weight) (norm : Root2) (m : Mass) → mass_numerator m ≡ times_root2 (weight_numerator w) norm
    → real_of_mass m ≡ times_real (real_of_weight w) (least_of 0 norm)
unfolding real_of_weight
mass_of_weight w norm m h = mass_real 96 (weight_numerator w) norm (mass_numerator m) h

sum_real : (k : ℕ) (x y z : Root2) → z ≡ plus_root2 x y → least_of k z ≡ plus_real (least_of k x) (least_of k y)
sum_real k x y z h = ap (least_of k) h ∙ sym (plus_real-least k x.a x.b y.a y.b)

pub real_of_weight-plus : (x y z : Weight) → z.a ≡ x.a +ℤ y.a → z.b ≡ x.b +ℤ y.b → real_of_weight z ≡ plus_real (real_of_weight x) (real_of_weight y)
unfolding real_of_weight
real_of_weight-plus x y z e f =
    sum_real 96 (weight_numerator x) (weight_numerator y) (weight_numerator z) (same_root2 (weight_numerator z) (plus_root2 (weight_numerator x) (weight_numerator y)) e f)

-- the weight of the root branch
pub real_of_weight-one : (w : Weight) → w.a ≡ pos (2 ^ 96) → w.b ≡ pos 0 → real_of_weight w ≡ one_real
unfolding real_of_weight
real_of_weight-one w e f = one_at 96 (weight_numerator w) (same_root2 (weight_numerator w) (lifted_root2 one_root2 96) e f)
  where
    one_at : (k : ℕ) (p : Root2) → p ≡ lifted_root2 one_root2 k → least_of k p ≡ one_real
    one_at k p h = let e : k ≡ k + 0 = omega arith in least_both k (k + 0) p (lifted_root2 one_root2 k) e h ∙ least_raised k 0 one_root2

pub real_of_weight_is_least : (w : Weight) → IsLeast (real_of_weight w)
unfolding real_of_weight
real_of_weight_is_least w = least_is_least 96 w.a w.b

pub real_of_scale_is_least : (s : Scale) → IsLeast (real_of_scale s)
real_of_scale_is_least s = times_real_is_least (two_power s.twos) (least_of 0 (factor s))
