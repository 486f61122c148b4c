-- Products of powers of 2 with √2 or without, by which all amplitudes of a state are divided
-- (OpenQASM 3.0 live specification, "Quantum measurement and reset"; Cross et al. 2022: a state matters only up to a factor).
use Rattle.std.specs.Prelude.{ℕ, Bool}
use Rattle.qt_ring.specs.declared.omega.Omega.{Omega}
use Rattle.qt_ring.specs.Ring.{times, two_to, root_two}
use Rattle.qt_canon_laws.specs.Powers.{once}

-- 2^t, and √2 once or not
abbrev pub even_divisor : ℕ → Bool → Omega
even_divisor t r = times (two_to t) (once root_two r)
