-- |x|² of ring numbers and of lists of them as real numbers: of a product it is the product, and a common factor comes out of the mass of a state.
use Rattle.std.proofs.Common.{◌≡◌, ℕ, ◌+◌, List, [], ◌∷◌, ◌++◌, refl, sym, ap, ◌∙◌, arith, pos, ◌-ℤ◌}
use Rattle.qt_ring.specs.declared.omega.Omega.{Omega}
use Rattle.qt_ring.specs.Ring.{nil, one, times, norm_a, norm_b}
use Rattle.qt_ring.specs.State.{State, total_a, total_b}
use Rattle.qt_ring.proofs.Norms.{norm-nil, norm_zero}
use Rattle.qt_ring.proofs.Units.{norm_of_product}
use Rattle.qt_root2.specs.declared.scale.Scale.{Scale}
use Rattle.qt_root2.specs.declared.weight.Weight.{Weight}
use Rattle.qt_root2.specs.Numerators.{weight_numerator}
use Rattle.qt_root2.specs.Real.{plus_real, zero_real, one_real}
use Rattle.qt_root2.specs.Root2.{Root2, times_root2, one_root2}
use Rattle.qt_root2.specs.Scaling.{IsScaled}
use Rattle.qt_root2.proofs.Reals.{IsLeast, least_is_least, least_zero_only, plus_real-least, zero_real-plus, plus_real_assoc}
use Rattle.qt_root2.proofs.Ring.{same_root2, times_comm, times-one, one-times}
use Rattle.qt_mass.specs.Mass.{mass}
use Rattle.qt_reals.specs.Norm.{norm_root2, norm_real, total_root2, total_real, quarters, scaled_entries, scaled_state, factored, factor_real}
use Rattle.qt_reals.specs.Product.{least_of, times_real}
use Rattle.qt_reals.specs.Weight.{real_of_weight}
use Rattle.qt_reals.proofs.Products.{least_both, times_real-least, times_real_assoc, times_real_comm, plus_root2, times_root2_plus, zero_times_root2}
use Rattle.qt_reals.proofs.Weights.{scaled_weight, scale_is, scale_over}

-- ---- one number

pub norm_root2_times : (x y : Omega) → norm_root2 (times x y) ≡ times_root2 (norm_root2 x) (norm_root2 y)
norm_root2_times x y = let n = norm_of_product x y in same_root2 (norm_root2 (times x y)) (times_root2 (norm_root2 x) (norm_root2 y)) n.0 n.1

-- |x·y|² = |x|²·|y|²
pub norm_real_times : (x y : Omega) → norm_real (times x y) ≡ times_real (norm_real x) (norm_real y)
norm_real_times x y = ap (least_of 0) (norm_root2_times x y) ∙ sym (times_real-least 0 0 (norm_root2 x) (norm_root2 y))

pub norm_real_is_least : (x : Omega) → IsLeast (norm_real x)
norm_real_is_least x = least_is_least 0 (norm_a x) (norm_b x)

pub norm_real-nil : norm_real nil ≡ zero_real
norm_real-nil = ap (least_of 0) (same_root2 (norm_root2 nil) (record { a = pos 0; b = pos 0 }) norm-nil.0 norm-nil.1)

pub norm_real_zero_only : (x : Omega) → norm_real x ≡ zero_real → x ≡ nil
norm_real_zero_only x h = norm_zero x (least_zero_only 0 (norm_a x) (norm_b x) h).0

pub norm_real-one : norm_real one ≡ one_real
unfolding one
norm_real-one = refl

-- ---- lists of entries

nothing : Root2
nothing = record { a = pos 0; b = pos 0 }

nil_scaled : (p : Root2) → record { a = pos 0; b = pos 0 } ≡ times_root2 p (record { a = pos 0; b = pos 0 })
nil_scaled p = sym (times_comm p (record { a = pos 0; b = pos 0 }) ∙ zero_times_root2 p)

pub total_scaled : (c : Omega) (es : List Omega) → total_root2 (scaled_entries c es) ≡ times_root2 (norm_root2 c) (total_root2 es)
total_scaled c [] = nil_scaled (norm_root2 c)
total_scaled c (e ∷ es) =
    ap (plus_root2 (norm_root2 (times c e))) (total_scaled c es)
    ∙ ap (λ p. plus_root2 p (times_root2 (norm_root2 c) (total_root2 es))) (norm_root2_times c e)
    ∙ sym (times_root2_plus (norm_root2 c) (norm_root2 e) (total_root2 es))

pub total_real_scaled : (c : Omega) (es : List Omega) → total_real (scaled_entries c es) ≡ times_real (norm_real c) (total_real es)
total_real_scaled c es = ap (least_of 0) (total_scaled c es) ∙ sym (times_real-least 0 0 (norm_root2 c) (total_root2 es))

pub total_real_is_least : (es : List Omega) → IsLeast (total_real es)
total_real_is_least es = least_is_least 0 (total_a es) (total_b es)

pub total_real-nil : total_real [] ≡ zero_real
total_real-nil = refl

pub total_real-cons : (e : Omega) (es : List Omega) → total_real (e ∷ es) ≡ plus_real (norm_real e) (total_real es)
total_real-cons e es = sym (plus_real-least 0 (norm_a e) (norm_b e) (total_a es) (total_b es))

pub total_real-append : (xs ys : List Omega) → total_real (xs ++ ys) ≡ plus_real (total_real xs) (total_real ys)
total_real-append [] ys = sym (zero_real-plus (total_real ys) (total_real_is_least ys))
total_real-append (x ∷ xs) ys =
    total_real-cons x (xs ++ ys)
    ∙ ap (plus_real (norm_real x)) (total_real-append xs ys)
    ∙ sym (plus_real_assoc (norm_real x) (total_real xs) (total_real ys))
    ∙ ap (λ r. plus_real r (total_real ys)) (sym (total_real-cons x xs))

-- ---- states

mass_is : (s : State) → mass s ≡ least_of (s.halvings + s.halvings) (total_root2 s.entries)
unfolding mass
mass_is s = refl

-- a common factor of the entries
pub mass_scaled : (c : Omega) (s : State) → mass (scaled_state c s) ≡ times_real (norm_real c) (mass s)
mass_scaled c s =
    let h = s.halvings + s.halvings in
    let e : s.halvings + s.halvings ≡ 0 + (s.halvings + s.halvings) = omega arith in
    mass_is (scaled_state c s)
    ∙ least_both h (0 + h) (total_root2 (scaled_entries c s.entries)) (times_root2 (norm_root2 c) (total_root2 s.entries)) e (total_scaled c s.entries)
    ∙ sym (times_real-least 0 h (norm_root2 c) (total_root2 s.entries))
    ∙ ap (times_real (norm_real c)) (sym (mass_is s))

-- the mass is that of the entries over 4^halvings
pub mass_over : (s : State) → mass s ≡ times_real (quarters s.halvings) (total_real s.entries)
mass_over s =
    let h = s.halvings + s.halvings in
    let e : s.halvings + s.halvings ≡ s.halvings + s.halvings + 0 = omega arith in
    mass_is s
    ∙ least_both h (h + 0) (total_root2 s.entries) (times_root2 one_root2 (total_root2 s.entries)) e (sym (one-times (total_root2 s.entries)))
    ∙ sym (times_real-least h 0 one_root2 (total_root2 s.entries))

pub quarters-plus : (m n : ℕ) → quarters (m + n) ≡ times_real (quarters m) (quarters n)
quarters-plus m n =
    let e : m + n + (m + n) ≡ m + m + (n + n) = omega arith in
    least_both (m + n + (m + n)) (m + m + (n + n)) one_root2 (times_root2 one_root2 one_root2) e (sym (times-one one_root2))
    ∙ sym (times_real-least (m + m) (n + n) one_root2 one_root2)

-- more halvings of the same entries
pub mass_halved : (s : State) (n : ℕ) → mass (record s { halvings = n + s.halvings }) ≡ times_real (quarters n) (mass s)
mass_halved s n =
    mass_over (record s { halvings = n + s.halvings })
    ∙ ap (λ r. times_real r (total_real s.entries)) (quarters-plus n s.halvings)
    ∙ times_real_assoc (quarters n) (quarters s.halvings) (total_real s.entries)
    ∙ ap (times_real (quarters n)) (sym (mass_over s))

-- ---- a factor taken out of a state, and put into the weight

pub factor_real_is : (p : Omega) (halvings : ℕ) → factor_real p halvings ≡ times_real (quarters halvings) (norm_real p)
factor_real_is p halvings =
    let h = halvings + halvings in
    let e : halvings + halvings ≡ halvings + halvings + 0 = omega arith in
    least_both h (h + 0) (norm_root2 p) (times_root2 one_root2 (norm_root2 p)) e (sym (one-times (norm_root2 p)))
    ∙ sym (times_real-least h 0 one_root2 (norm_root2 p))

pub factor_real_is_least : (p : Omega) (halvings : ℕ) → IsLeast (factor_real p halvings)
factor_real_is_least p halvings = least_is_least (halvings + halvings) (norm_a p) (norm_b p)

-- the weight scaled by |p|² over 4^halvings: `s` stands for |p|², and `t` is `s` with 2·halvings fewer twos
pub weight_factored : (p : Omega) (s t : Scale) (halvings : ℕ) (w v : Weight) → IsScaled s one_root2 (norm_root2 p)
    → t.twos ≡ s.twos -ℤ pos (halvings + halvings) → t.units ≡ s.units → t.primes ≡ s.primes
    → IsScaled t (weight_numerator w) (weight_numerator v) → real_of_weight v ≡ times_real (real_of_weight w) (factor_real p halvings)
weight_factored p s t halvings w v n e f g h =
    scaled_weight t w v h
    ∙ ap (times_real (real_of_weight w))
    (scale_over s t halvings e f g ∙ ap (λ r. times_real r (quarters halvings)) (scale_is s (norm_root2 p) n) ∙ times_real_comm (norm_real p) (quarters halvings) ∙ sym (factor_real_is p halvings))

-- the mass of p·u over 2^halvings is that of u times |p|² / 4^halvings
pub mass_factored : (p : Omega) (u : List Omega) (s : State) → s.entries ≡ scaled_entries p u
    → mass s ≡ times_real (factor_real p s.halvings) (total_real u)
mass_factored p u s e =
    mass_over s
    ∙ ap (λ es. times_real (quarters s.halvings) (total_real es)) e
    ∙ ap (times_real (quarters s.halvings)) (total_real_scaled p u)
    ∙ sym (times_real_assoc (quarters s.halvings) (norm_real p) (total_real u))
    ∙ ap (λ r. times_real r (total_real u)) (sym (factor_real_is p s.halvings))

-- so the weight times the mass is the same before and after
pub weighed_mass : (p : Omega) (u : List Omega) (s : State) (w v : Weight) → s.entries ≡ scaled_entries p u
    → real_of_weight v ≡ times_real (real_of_weight w) (factor_real p s.halvings)
    → times_real (real_of_weight w) (mass s) ≡ times_real (real_of_weight v) (total_real u)
weighed_mass p u s w v e f =
    ap (times_real (real_of_weight w)) (mass_factored p u s e)
    ∙ sym (times_real_assoc (real_of_weight w) (factor_real p s.halvings) (total_real u))
    ∙ ap (λ r. times_real r (total_real u)) (sym f)

pub mass_of_factored : (p : Omega) (halvings : ℕ) (s : State) → mass (factored p halvings s) ≡ times_real (factor_real p halvings) (mass s)
mass_of_factored p halvings s =
    mass_halved (scaled_state p s) halvings
    ∙ ap (times_real (quarters halvings)) (mass_scaled p s)
    ∙ sym (times_real_assoc (quarters halvings) (norm_real p) (mass s))
    ∙ ap (λ r. times_real r (mass s)) (sym (factor_real_is p halvings))
