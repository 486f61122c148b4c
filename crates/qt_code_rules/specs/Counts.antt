-- How many there may be of what code has (flat code is this profile's).
use Rattle.std.specs.Prelude.{◌^◌, Bool, ◌&&◌, nat_eq, nat_lt, nat_le, length}
use Rattle.qt_ring.specs.declared.TheConstants.{QUBITS}
use Rattle.qt_instructions.specs.declared.parts.Parts.{Parts}

-- as many qubits as a state may have at the most
abbrev pub has_few_qubits : Parts → Bool
has_few_qubits parts = nat_le parts.qubits QUBITS

-- fewer than 2^32 instructions, each with a place in the text, and a value for each slot
abbrev pub has_counts : Parts → Bool
has_counts parts =
    nat_lt (length parts.instructions) (2 ^ 32) && nat_eq (length parts.places) (length parts.instructions)
    && nat_eq (length parts.start) parts.slots

-- no program of an accepted size needs more work cells
abbrev pub has_few_cells : Parts → Bool
has_few_cells parts = nat_le parts.cells 16777216
