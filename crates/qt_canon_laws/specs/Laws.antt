-- Laws of the canonical form of a list of amplitudes: there is one, and it doesn't see a factor of the list
-- (OpenQASM 3.0 live specification, "Quantum measurement and reset"; Cross et al. 2022: a state matters only up to a factor).
use Rattle.std.specs.Prelude.{◌≡◌, ◌↔◌, false, List}
use Rattle.qt_ring.specs.declared.omega.Omega.{Omega}
use Rattle.qt_ring.specs.State.{all_nil}
use Rattle.qt_ring.specs.Multiples.{scaled}
use Rattle.qt_root2.specs.Root2.{one_root2}
use Rattle.qt_root2.specs.Scaling.{IsScaled}
use Rattle.qt_canon_laws.specs.Canonical.{Taken, IsCanonical, factor_of, scale_of, norm}

-- a list has a canonical form exactly where it isn't all 0
abbrev pub FormExists : Type 0
FormExists = (v : List Omega) → (all_nil v ≡ false) ↔ ((u : List Omega) × ((k : Taken) × IsCanonical v u k))

-- there is one canonical form, and one way to take it out
abbrev pub FormIsOne : Type 0
FormIsOne = (v u w : List Omega) (k l : Taken) → IsCanonical v u k → IsCanonical v w l → (u ≡ w) × (k ≡ l)

-- the list is its form times the product of all that was taken out
abbrev pub ListIsProduct : Type 0
ListIsProduct = (v u : List Omega) (k : Taken) → IsCanonical v u k → scaled (factor_of k) u ≡ v

-- the scale stands for the squared size of that product
abbrev pub ScaleIsNorm : Type 0
ScaleIsNorm = (k : Taken) → IsScaled (scale_of k) one_root2 (norm (factor_of k))

-- a list and d times it have one canonical form
abbrev pub SameFormTimes : Omega → Type 0
SameFormTimes d = (v u w : List Omega) (k l : Taken) → IsCanonical v u k → IsCanonical (scaled d v) w l → u ≡ w
