-- Division in the ring Z[ω]. Amplitudes are kept small by taking common divisors out of a state: powers of 2, √2 and 1 − ω
-- (OpenQASM 3.0 live specification, "Quantum measurement and reset"; Cross et al. 2022: a state matters only up
-- to a factor).
use Rattle.std.specs.Prelude.{◌≡◌, ℕ, ◌%◌, ℤ}
use Rattle.std.specs.Int.RustNames.{unsigned_abs}
use Rattle.qt_ring.specs.declared.omega.Omega.{Omega}
use Rattle.qt_ring.specs.Ring.{one, times}

-- x is a multiple of d
abbrev pub Divides : Omega → Omega → Type 0
Divides d x = (y : Omega) × (times d y ≡ x)

abbrev pub IsUnit : Omega → Type 0
IsUnit u = Divides u one

-- 0 for an even number and 1 for an odd one
abbrev pub parity : ℤ → ℕ
parity z = unsigned_abs z % 2

abbrev pub SameParity : ℤ → ℤ → Type 0
SameParity a b = parity a ≡ parity b

-- all coefficients are even
pub record IsEven (x : Omega) : Type 0 where
  pub c0_even : parity x.c0 ≡ 0
  pub c1_even : parity x.c1 ≡ 0
  pub c2_even : parity x.c2 ≡ 0
  pub c3_even : parity x.c3 ≡ 0
