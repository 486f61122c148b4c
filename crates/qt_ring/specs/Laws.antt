-- Laws of the ring Z[ω], of |x|² and of division, and that U and gphase are unitary
-- (OpenQASM 3.0 live specification, "Gates": gates are unitary transformations; Cross et al. 2022).
use Rattle.std.specs.Prelude.{◌≡◌, ◌≢◌, ℕ, ◌↔◌, pos, ◌+ℤ◌, ◌*ℤ◌, ◌≤ℤ◌}
use Rattle.qt_ring.specs.declared.omega.Omega.{Omega}
use Rattle.qt_ring.specs.Ring.{nil, one, root_two, one_minus_omega, epsilon, epsilon_inverse, plus, minus, times, conj, root, two_to, whole, norm_a, norm_b}
use Rattle.qt_ring.specs.Division.{Divides, IsUnit, SameParity, parity, IsEven}
use Rattle.qt_ring.specs.Matrix.{IsUnitary, u_gate, phase_gate}

-- ---- sums
abbrev pub SumsCommute : Type 0
SumsCommute = (x y : Omega) → plus x y ≡ plus y x

abbrev pub SumsAssociate : Type 0
SumsAssociate = (x y z : Omega) → plus (plus x y) z ≡ plus x (plus y z)

abbrev pub NilIsNeutral : Type 0
NilIsNeutral = (x : Omega) → plus x nil ≡ x

abbrev pub MinusIsOpposite : Type 0
MinusIsOpposite = (x : Omega) → plus x (minus x) ≡ nil

-- ---- products
abbrev pub ProductsCommute : Type 0
ProductsCommute = (x y : Omega) → times x y ≡ times y x

abbrev pub ProductsAssociate : Type 0
ProductsAssociate = (x y z : Omega) → times (times x y) z ≡ times x (times y z)

abbrev pub OneIsNeutral : Type 0
OneIsNeutral = (x : Omega) → times x one ≡ x

abbrev pub ProductsDistribute : Type 0
ProductsDistribute = (x y z : Omega) → times x (plus y z) ≡ plus (times x y) (times x z)

abbrev pub TwoDoubles : Type 0
TwoDoubles = (x : Omega) → times (two_to 1) x ≡ plus x x

-- ---- conjugates
abbrev pub ConjKeepsSums : Type 0
ConjKeepsSums = (x y : Omega) → conj (plus x y) ≡ plus (conj x) (conj y)

abbrev pub ConjKeepsProducts : Type 0
ConjKeepsProducts = (x y : Omega) → conj (times x y) ≡ times (conj x) (conj y)

abbrev pub ConjKeepsOne : Type 0
ConjKeepsOne = conj one ≡ one

abbrev pub ConjUndoesItself : Type 0
ConjUndoesItself = (x : Omega) → conj (conj x) ≡ x

-- ---- |x|² = A + B√2
abbrev pub NormIsProduct : Type 0
NormIsProduct = (x : Omega) → times x (conj x) ≡ plus (whole (norm_a x)) (times (whole (norm_b x)) root_two)

-- |x·y|² = |x|² · |y|²
abbrev pub NormOfProduct : Type 0
NormOfProduct = (x y : Omega) → (norm_a (times x y) ≡ norm_a x *ℤ norm_a y +ℤ pos 2 *ℤ (norm_b x *ℤ norm_b y)) × (norm_b (times x y) ≡ norm_a x *ℤ norm_b y +ℤ norm_b x *ℤ norm_a y)

-- neither A + B√2 nor A − B√2 is below 0
abbrev pub NormIsGood : Type 0
NormIsGood = (x : Omega) → (pos 0 ≤ℤ norm_a x) × ((pos 2 *ℤ (norm_b x *ℤ norm_b x)) ≤ℤ (norm_a x *ℤ norm_a x))

abbrev pub OnlyNilHasNormZero : Type 0
OnlyNilHasNormZero = (x : Omega) → norm_a x ≡ pos 0 → x ≡ nil

-- ---- units
abbrev pub RootsAreUnits : Type 0
RootsAreUnits = (n : ℕ) → IsUnit (root n)

abbrev pub EpsilonTimesItsInverse : Type 0
EpsilonTimesItsInverse = times epsilon epsilon_inverse ≡ one

-- a factor that is a unit changes no divisibility
abbrev pub UnitsKeepDivisors : Type 0
UnitsKeepDivisors = (u d x : Omega) → IsUnit u → (Divides d (times u x) ↔ Divides d x)

-- ---- which numbers 2, √2 and 1 − ω divide
abbrev pub TwoDividesByParity : Type 0
TwoDividesByParity = (x : Omega) → (Divides (two_to 1) x ↔ IsEven x)

abbrev pub RootTwoDividesByParity : Type 0
RootTwoDividesByParity = (x : Omega) → (Divides root_two x ↔ (SameParity x.c0 x.c2 × SameParity x.c1 x.c3))

abbrev pub OneMinusOmegaDividesByParity : Type 0
OneMinusOmegaDividesByParity = (x : Omega) → (Divides one_minus_omega x ↔ (parity (x.c0 +ℤ x.c1 +ℤ x.c2 +ℤ x.c3) ≡ 0))

-- ---- quotients
-- a product is 0 only where a factor is
abbrev pub HasNoZeroDivisors : Type 0
HasNoZeroDivisors = (x y : Omega) → times x y ≡ nil → x ≢ nil → y ≡ nil

-- there is one quotient at most
abbrev pub QuotientsAreUnique : Type 0
QuotientsAreUnique = (d y z : Omega) → d ≢ nil → times d y ≡ times d z → y ≡ z

-- ---- how 2, √2 and 1 − ω divide one another's multiples
abbrev pub RootTwoDividesTwo : Type 0
RootTwoDividesTwo = Divides root_two (two_to 1)

abbrev pub OneMinusOmegaDividesRootTwo : Type 0
OneMinusOmegaDividesRootTwo = Divides one_minus_omega root_two

abbrev pub TwoInRootTwo : Type 0
TwoInRootTwo = (x : Omega) → (Divides (two_to 1) (times root_two x) ↔ Divides root_two x)

abbrev pub RootTwoInOneMinusOmega : Type 0
RootTwoInOneMinusOmega = (x : Omega) → (Divides root_two (times one_minus_omega x) ↔ Divides one_minus_omega x)

-- ---- gates, at all angles in eighths of a turn
abbrev pub UIsUnitary : Type 0
UIsUnitary = (theta phi lambda : ℕ) → IsUnitary (u_gate theta phi lambda)

abbrev pub PhaseIsUnitary : Type 0
PhaseIsUnitary = (gamma : ℕ) → IsUnitary (phase_gate gamma)
