-- The numerators a + b√2 of weights and masses, which are over 2^96.
-- Both stand for |amplitude|² (OpenQASM 3.0 live specification, "Quantum measurement and reset"; Cross et al. 2022).
use Rattle.qt_root2.specs.declared.mass.Mass.{Mass}
use Rattle.qt_root2.specs.declared.numerator.Numerator.{Numerator}
use Rattle.qt_root2.specs.declared.weight.Weight.{Weight}
use Rattle.qt_root2.specs.Root2.{Root2}

abbrev pub weight_numerator : Weight → Root2
weight_numerator w = record { a = w.a; b = w.b }

abbrev pub mass_numerator : Mass → Root2
mass_numerator m = record { a = m.a; b = m.b }

abbrev pub root2_of : Numerator → Root2
root2_of n = record { a = n.a; b = n.b }
