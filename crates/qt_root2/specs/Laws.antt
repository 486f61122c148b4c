-- Laws of the numbers a + b√2, and of those among them that are good: not below 0, and neither is a − b√2.
-- Squared sizes of amplitudes are good, and probabilities are sums and products of them (OpenQASM 3.0 live specification, "Quantum
-- measurement and reset"; Cross et al. 2022).
use Rattle.std.specs.Prelude.{◌≡◌, ℤ, pos, ◌+ℤ◌, ◌≤ℤ◌, unsigned_abs}
use Rattle.qt_root2.specs.declared.scale.Scale.{Scale}
use Rattle.qt_root2.specs.Scaling.{IsScaled}
use Rattle.qt_root2.specs.Root2.{Root2, IsGood, times_root2, one_root2}

abbrev pub SumsAreGood : Type 0
SumsAreGood = (a b c d : ℤ) → IsGood a b → IsGood c d → IsGood (a +ℤ c) (b +ℤ d)

abbrev pub ProductsAreGood : Type 0
ProductsAreGood = (x y : Root2) → IsGood x.a x.b → IsGood y.a y.b → (let product = times_root2 x y in IsGood product.a product.b)

-- |b| ≤ a
abbrev pub GoodIsBounded : Type 0
GoodIsBounded = (a b : ℤ) → IsGood a b → pos (unsigned_abs b) ≤ℤ a

abbrev pub ProductsCommute : Type 0
ProductsCommute = (x y : Root2) → times_root2 x y ≡ times_root2 y x

abbrev pub ProductsAssociate : Type 0
ProductsAssociate = (x y z : Root2) → times_root2 (times_root2 x y) z ≡ times_root2 x (times_root2 y z)

abbrev pub OneIsNeutral : Type 0
OneIsNeutral = (x : Root2) → times_root2 x one_root2 ≡ x

-- a number scaled is one number at most
abbrev pub ScaledIsOne : Type 0
ScaledIsOne = (by : Scale) (x y z : Root2) → IsScaled by x y → IsScaled by x z → y ≡ z
