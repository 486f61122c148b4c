-- What the first three steps of the canonical form take out of all amplitudes of a state: a power of 2, √2 and 1 − ω
-- (OpenQASM 3.0 live specification, "Quantum measurement and reset"; Cross et al. 2022: a state matters only up to a factor).
use Rattle.std.specs.Prelude.{◌≡◌, ℕ, ◌≤◌, false, List}
use Rattle.qt_ring.specs.declared.omega.Omega.{Omega}
use Rattle.qt_ring.specs.Ring.{times, two_to, root_two, one_minus_omega}
use Rattle.qt_ring.specs.Multiples.{DividesAll}
use Rattle.qt_canon_laws.specs.Powers.{once}
use Rattle.qt_canon.specs.declared.divisor.Divisor.{Divisor}
use Rattle.qt_canon.specs.EvenDivisors.{even_divisor}

-- the number that the divisor stands for
abbrev pub divisor_of : Divisor → Omega
divisor_of d = times (even_divisor d.twos d.has_root_two) (once one_minus_omega d.has_one_minus_omega)

-- it divides all entries, no greater power of 2 does, and where it lacks √2 or 1 − ω, that doesn't divide what the steps before leave
pub record IsGreatestDivisor (d : Divisor) (v : List Omega) : Type 0 where
  pub whole : DividesAll (divisor_of d) v
  pub twos : (k : ℕ) → DividesAll (two_to k) v → k ≤ d.twos
  pub no_root_two : d.has_root_two ≡ false → DividesAll (times (two_to d.twos) root_two) v → ⊥
  pub no_one_minus_omega : d.has_one_minus_omega ≡ false → DividesAll (times (even_divisor d.twos d.has_root_two) one_minus_omega) v → ⊥
