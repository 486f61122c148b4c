-- The qubits that references name, as a set and whether one of them came twice (OpenQASM 3.0 live specification, "Gates", applying gates: the
-- qubits of a call are different ones).
use Rattle.std.specs.Prelude.{ℕ, ◌^◌, ◌||◌, List, [], ◌∷◌}
use Rattle.std.specs.Int.{bit_at}
use Rattle.std.specs.Int.RustNames.{bit_or}
use Rattle.qt_ring.specs.Places.{is_one}
use Rattle.qt_machine.specs.declared.qubits.Named.{Named}

-- bit j of the mask is that of qubit j
abbrev pub with_qubit : ℕ → Named → Named
with_qubit q named = record { mask = bit_or named.mask (2 ^ q); twice = named.twice || is_one (bit_at named.mask q) }

-- the first qubit first
abbrev pub with_qubits : List ℕ → Named → Named
with_qubits [] named = named
with_qubits (q ∷ qs) named = with_qubits qs (with_qubit q named)
