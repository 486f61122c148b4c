-- Real numbers a + b√2 with whole a and b as numbers of the ring Z[ω], since √2 is ω − ω³: among them are the powers of ε = 1 + √2, by
-- which the amplitudes of a state are multiplied (OpenQASM 3.0 live specification, "Quantum measurement and reset";
-- Cross et al. 2022: a state matters only up to a factor).
use Rattle.std.specs.Prelude.{ℤ, pos, ◌-ℤ◌}
use Rattle.qt_ring.specs.declared.omega.Omega.{Omega}

-- a + b√2
abbrev pub real : ℤ → ℤ → Omega
real a b = record { c0 = a; c1 = b; c2 = pos 0; c3 = pos 0 -ℤ b }
