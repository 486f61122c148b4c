-- Which parts are valid flat code: nine rules (flat code is this profile's). Valid code goes on until a leaf from every start that fits.
use Rattle.std.specs.Prelude.{Bool, ◌&&◌, IsTrue}
use Rattle.std.specs.List.{list_all}
use Rattle.qt_code_rules.specs.declared.sizes.Sizes.{Sizes}
use Rattle.qt_instructions.specs.declared.parts.Parts.{Parts}
use Rattle.qt_code_rules.specs.Counts.{has_counts, has_few_cells, has_few_qubits}
use Rattle.qt_code_rules.specs.Jumps.{ends_well, jumps_fit}
use Rattle.qt_code.specs.Layouts.{has_layout}
use Rattle.qt_code.specs.Ranges.{has_instruction}
use Rattle.qt_code.specs.Different.{has_different_qubits}
use Rattle.qt_code.specs.Tested.{all_tested}

abbrev pub sizes_of : Parts → Sizes
sizes_of parts = record { slots = parts.slots; cells = parts.cells; qubits = parts.qubits }

-- 1, 2 and 9 are on how many there are of each: `has_few_qubits`, `has_counts` and `has_few_cells`

-- 3: the last instruction is an end or a jump
abbrev pub has_end : Parts → Bool
has_end parts = ends_well parts.instructions

-- 4: jumps go to instructions, and back to Ticks alone
abbrev pub has_jumps : Parts → Bool
has_jumps parts = jumps_fit parts.instructions

-- 5: what instructions name is in range
abbrev pub has_ranges : Parts → Bool
has_ranges parts = list_all (has_instruction (sizes_of parts)) parts.instructions

-- 6: the fixed qubits of one primitive differ
abbrev pub has_fixed_qubits : Parts → Bool
has_fixed_qubits parts = list_all has_different_qubits parts.instructions

-- 7: references in work cells are tested before a primitive, and no jump goes in between
abbrev pub has_tests : Parts → Bool
has_tests parts = all_tested parts.instructions

-- 8: what is told has slots and types with a size
abbrev pub has_told : Parts → Bool
has_told parts = has_layout (sizes_of parts) parts.layout

abbrev pub is_valid : Parts → Bool
is_valid parts =
    (has_few_qubits parts && has_counts parts && has_few_cells parts) && (has_end parts && has_jumps parts && has_ranges parts)
    && (has_fixed_qubits parts && has_tests parts && has_told parts)

abbrev pub IsValid : Parts → Type 0
IsValid parts = IsTrue (is_valid parts)
