-- Which references to qubits count as tested, where some were (flat code is this profile's; OpenQASM 3.0 live specification, "Gates",
-- applying gates).
use Rattle.std.specs.Prelude.{ℕ, Bool, true, false, nat_eq, List}
use Rattle.std.specs.List.{list_any}
use Rattle.qt_instructions.specs.declared.reference.QubitRef.{QubitRef}
use Rattle.qt_instructions.specs.declared.reference.QubitRef.TheVariants as qubit

abbrev pub is_cell : ℕ → QubitRef → Bool
is_cell cell (qubit.At q) = false
is_cell cell (qubit.Work other) = nat_eq cell other

-- a fixed qubit needs no test
abbrev pub is_tested : List QubitRef → QubitRef → Bool
is_tested tested (qubit.At q) = true
is_tested tested (qubit.Work cell) = list_any (is_cell cell) tested
