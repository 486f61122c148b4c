-- The real number that a mass stands for, and the one that a reduced number stands for.
-- A mass is the probability of an outcome (OpenQASM 3.0 live specification, "Quantum measurement and reset"; Cross et al. 2022).
use Rattle.qt_root2.specs.declared.mass.Mass.{Mass}
use Rattle.qt_root2.specs.declared.mass.Reduced.{Reduced}
use Rattle.qt_root2.specs.Real.{Real, least}

-- (a + b√2) / 2^96 over the least power of two
abbrev pub real_of_mass : Mass → Real
real_of_mass m = least 96 m.a m.b

abbrev pub real_of_reduced : Reduced → Real
real_of_reduced r = record { a = r.a; b = r.b; k = r.k }
