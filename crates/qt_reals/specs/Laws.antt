-- Laws of the exact real numbers (a + b√2) / 2^k in least form: a commutative semiring, the answers of weights in it, and |x|² in it.
-- Probabilities are added over outcomes and multiplied along a run (OpenQASM 3.0 live specification, "Quantum measurement and reset"; Cross et al. 2022).
use Rattle.std.specs.Prelude.{◌≡◌, ◌↔◌, ℕ, ◌+◌, List, ◌++◌, pos, ◌-ℤ◌}
use Rattle.qt_ring.specs.declared.omega.Omega.{Omega}
use Rattle.qt_ring.specs.Ring.{times}
use Rattle.qt_ring.specs.State.{State}
use Rattle.qt_root2.specs.declared.mass.Mass.{Mass}
use Rattle.qt_root2.specs.declared.scale.Scale.{Scale}
use Rattle.qt_root2.specs.declared.weight.Weight.{Weight}
use Rattle.qt_root2.specs.Masses.{real_of_mass}
use Rattle.qt_root2.specs.Numerators.{mass_numerator, weight_numerator}
use Rattle.qt_root2.specs.Real.{Real, zero_real, one_real, plus_real}
use Rattle.qt_root2.specs.Root2.{Root2, times_root2, one_root2}
use Rattle.qt_root2.specs.Scaling.{lifted_root2, IsScaled}
use Rattle.qt_mass.specs.Mass.{mass}
use Rattle.qt_reals.specs.Norm.{norm_root2, norm_real, total_real, quarters, factored, factor_real}
use Rattle.qt_reals.specs.Product.{numerator, least_of, times_real}
use Rattle.qt_reals.specs.Weight.{real_of_weight, real_of_scale}

-- the number is over the least power of 2
abbrev pub IsInLeastForm : Real → Type 0
IsInLeastForm x = least_of x.k (numerator x) ≡ x

-- ---- the least form

-- numbers in least form that are one number are equal
abbrev pub LeastFormIsUnique : Type 0
LeastFormIsUnique = (x y : Real) → IsInLeastForm x → IsInLeastForm y → lifted_root2 (numerator x) y.k ≡ lifted_root2 (numerator y) x.k → x ≡ y

abbrev pub LeastFormIsSame : Type 0
LeastFormIsSame = (k : ℕ) (p : Root2) → (let x = least_of k p in lifted_root2 (numerator x) k ≡ lifted_root2 p x.k)

abbrev pub ProductsAreInLeastForm : Type 0
ProductsAreInLeastForm = (x y : Real) → IsInLeastForm (times_real x y)

abbrev pub SumsAreInLeastForm : Type 0
SumsAreInLeastForm = (x y : Real) → IsInLeastForm (plus_real x y)

-- ---- sums and products

abbrev pub SumsCommute : Type 0
SumsCommute = (x y : Real) → plus_real x y ≡ plus_real y x

abbrev pub SumsAssociate : Type 0
SumsAssociate = (x y z : Real) → plus_real (plus_real x y) z ≡ plus_real x (plus_real y z)

abbrev pub ZeroIsNeutral : Type 0
ZeroIsNeutral = (x : Real) → IsInLeastForm x → plus_real x zero_real ≡ x

abbrev pub ProductsCommute : Type 0
ProductsCommute = (x y : Real) → times_real x y ≡ times_real y x

abbrev pub ProductsAssociate : Type 0
ProductsAssociate = (x y z : Real) → times_real (times_real x y) z ≡ times_real x (times_real y z)

abbrev pub ProductsDistribute : Type 0
ProductsDistribute = (x y z : Real) → times_real x (plus_real y z) ≡ plus_real (times_real x y) (times_real x z)

abbrev pub ZeroAbsorbs : Type 0
ZeroAbsorbs = (x : Real) → times_real zero_real x ≡ zero_real

abbrev pub OneIsNeutral : Type 0
OneIsNeutral = (x : Real) → IsInLeastForm x → times_real one_real x ≡ x

-- ---- weights

-- a weight scaled is the product with the scale, and no other weight is
abbrev pub ScaledIsProduct : Type 0
ScaledIsProduct = (by : Scale) (w v : Weight)
    → IsScaled by (weight_numerator w) (weight_numerator v) ↔ (real_of_weight v ≡ times_real (real_of_weight w) (real_of_scale by))

-- a weight scaled by |p|² over 4^halvings, where `s` stands for |p|² and `t` is `s` with 2·halvings fewer twos
abbrev pub ScaledByNorm : Type 0
ScaledByNorm = (p : Omega) (s t : Scale) (halvings : ℕ) (w v : Weight) → IsScaled s one_root2 (norm_root2 p)
    → t.twos ≡ s.twos -ℤ pos (halvings + halvings) → t.units ≡ s.units → t.primes ≡ s.primes
    → IsScaled t (weight_numerator w) (weight_numerator v) → real_of_weight v ≡ times_real (real_of_weight w) (factor_real p halvings)

-- a mass is the product of the weight and the squared norm
abbrev pub MassIsProduct : Type 0
MassIsProduct = (w : Weight) (norm : Root2) (m : Mass) → mass_numerator m ≡ times_root2 (weight_numerator w) norm
    → real_of_mass m ≡ times_real (real_of_weight w) (least_of 0 norm)

-- ---- |x|²

abbrev pub NormOfProduct : Type 0
NormOfProduct = (x y : Omega) → norm_real (times x y) ≡ times_real (norm_real x) (norm_real y)

-- the mass of a state whose entries are all multiplied by p, over 2^halvings more
abbrev pub MassOfFactored : Type 0
MassOfFactored = (p : Omega) (halvings : ℕ) (s : State) → mass (factored p halvings s) ≡ times_real (factor_real p halvings) (mass s)

abbrev pub MassIsOverQuarters : Type 0
MassIsOverQuarters = (s : State) → mass s ≡ times_real (quarters s.halvings) (total_real s.entries)

abbrev pub TotalsAdd : Type 0
TotalsAdd = (xs ys : List Omega) → total_real (xs ++ ys) ≡ plus_real (total_real xs) (total_real ys)
