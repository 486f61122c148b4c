-- Registers of qubits: OpenQASM 3.0 live specification, "Quantum types" and "Register concatenation and slicing"; Cross et al. 2022.
-- A register is the list of its qubits, in order. A part of it is the list of the qubits at every so many places.
use Rattle.std.specs.Prelude.{◌≡◌, ℕ, zero, suc, ◌+◌, List, [], ◌∷◌, map, slice_get, Some}
use Rattle.std.specs.List.{filter_map}
use Rattle.qt_registers.specs.declared.fixed.FixedQubit.{FixedQubit}
use Rattle.qt_registers.specs.declared.fixed.FixedQubit.TheVariants as fixed

-- so many numbers: start, start + step, ..
unfoldable pub progression : ℕ → ℕ → ℕ → List ℕ
progression start step zero = []
progression start step (suc count) = start ∷ progression (start + step) step count

-- so many qubits of the program, from the first on
unfoldable pub program_qubits : ℕ → ℕ → List FixedQubit
program_qubits first count = map fixed.Number (progression first 1 count)

-- the places of the register that a parameter stands for
unfoldable pub parameter_qubits : ℕ → ℕ → List FixedQubit
parameter_qubits parameter size = map (fixed.OfParameter parameter) (progression 0 1 size)

-- the qubits at the places start, start + step, .., so many
unfoldable pub stepped : List FixedQubit → ℕ → ℕ → ℕ → List FixedQubit
stepped qubits start step count = filter_map (slice_get qubits) (progression start step count)

-- the qubit stands at some place of the register
abbrev pub Holds : List FixedQubit → FixedQubit → Type 0
Holds qubits qubit = (place : ℕ) × (slice_get qubits place ≡ Some qubit)

-- some qubit stands in both registers
abbrev pub Overlap : List FixedQubit → List FixedQubit → Type 0
Overlap left right = (qubit : FixedQubit) × Holds left qubit × Holds right qubit
