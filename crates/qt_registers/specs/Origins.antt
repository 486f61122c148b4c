-- Where qubits are counted: OpenQASM 3.0 live specification, "Quantum types" and "Subroutines"; Cross et al. 2022.
-- A qubit has its number among those of the program, or among the places of the register that a subroutine's parameter stands for.
use Rattle.std.specs.Prelude.{ℕ, ◌^◌}
use Rattle.qt_registers.specs.declared.fixed.FixedQubit.{FixedQubit}
use Rattle.qt_registers.specs.declared.fixed.FixedQubit.TheVariants as fixed
use Rattle.qt_registers.specs.declared.run.Origin.{Origin}
use Rattle.qt_registers.specs.declared.run.Origin.TheVariants as origin

-- each number of a qubit is below this
abbrev pub bound_of : Origin → ℕ
bound_of origin.Program = 2 ^ 63
bound_of (origin.Parameter parameter) = 2 ^ 32

-- the qubit with that number
abbrev pub qubit_of : Origin → ℕ → FixedQubit
qubit_of origin.Program number = fixed.Number number
qubit_of (origin.Parameter parameter) number = fixed.OfParameter parameter number
