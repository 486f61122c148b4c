-- What one instruction writes (flat code is this profile's; OpenQASM 3.0 live specification, "Classical instructions", "Types and Casting"
-- and "Gates"; Cross et al. 2022). Each instruction on values writes one work cell or one slot, or stumbles; the others write nothing.
use Rattle.std.specs.Prelude.{ℕ, ◌+◌, ◌<◌, Bool, ◌&&◌, is_some, List, slice_set, Ok}
use Rattle.std.specs.Int.{bit_at}
use Rattle.qt_value.specs.OpTypes.{result_type, unary_result_type}
use Rattle.qt_value.specs.Types.{width_of, has_size}
use Rattle.qt_meaning.specs.Values.{Evaluated, and_then, with_bit, converted_to, slot_at}
use Rattle.qt_instructions.specs.declared.instruction.Instr.{Instr}
use Rattle.qt_instructions.specs.declared.instruction.Instr.TheVariants as instr
use Rattle.qt_instructions.specs.declared.instruction.Operation.{Operation}
use Rattle.qt_instructions.specs.declared.instruction.Operation.TheVariants as operation
use Rattle.qt_code.specs.Cells.{Cells, with_cell, place_by, result_by, turns_by, phase_by, qubit_by, different_by}
use Rattle.qt_machine.specs.declared.write.Write.{Write}
use Rattle.qt_machine.specs.declared.write.Write.TheVariants.{Nothing, Cell, Slot}

-- ---- cells in a list

-- behind the last cell there is 0
abbrev pub held : List ℕ → Cells
held cells cell = slot_at cells cell

-- ---- writes

abbrev pub written_cells : Write → Cells → Cells
written_cells Nothing cells = cells
written_cells (Cell cell bits) cells = with_cell cell bits cells
written_cells (Slot slot bits) cells = cells

abbrev pub written_slots : Write → List ℕ → List ℕ
written_slots Nothing slots = slots
written_slots (Cell cell bits) slots = slots
written_slots (Slot slot bits) slots = slice_set slots slot bits

-- the cell or slot is there, of so many cells and slots
abbrev pub IsInside : ℕ → ℕ → Write → Type 0
IsInside cells slots Nothing = Unit {0}
IsInside cells slots (Cell cell bits) = cell < cells
IsInside cells slots (Slot slot bits) = slot < slots

-- ---- instructions

-- those that move values and bits of them
abbrev pub move_by : Instr → Cells → List ℕ → Evaluated Write
move_by (instr.Load cell bits) cells slots = Ok (Cell cell bits)
move_by (instr.Get cell slot) cells slots = Ok (Cell cell (slot_at slots slot))
move_by (instr.Put slot cell) cells slots = Ok (Slot slot (cells cell))
move_by (instr.GetAt cell first count index) cells slots = and_then (place_by count index cells) (λ n. Ok (Cell cell (slot_at slots (first + n))))
move_by (instr.PutAt first count index cell) cells slots = and_then (place_by count index cells) (λ n. Ok (Slot (first + n) (cells cell)))
move_by (instr.BitGet cell of index) cells slots =
    and_then (place_by (width_of of.kind) index cells) (λ n. Ok (Cell cell (bit_at (cells of.cell) n)))
move_by (instr.BitPut of index bit) cells slots =
    and_then (place_by (width_of of.kind) index cells) (λ n. Ok (Cell of.cell (with_bit n (bit_at (cells bit) 0) (cells of.cell))))
move_by _ cells slots = Ok Nothing

-- with so many qubits
abbrev pub write_by : ℕ → Instr → Cells → List ℕ → Evaluated Write
write_by n (instr.Apply cell operation) cells slots = and_then (result_by operation cells) (λ x. Ok (Cell cell x))
write_by n (instr.Cast cell from kind) cells slots = Ok (Cell cell (converted_to kind from.kind (cells from.cell)))
write_by n (instr.Turns cell first step last) cells slots = and_then (turns_by first step last cells) (λ x. Ok (Cell cell x))
write_by n (instr.AngleOp cell operation) cells slots = and_then (phase_by operation cells) (λ x. Ok (Cell cell x))
write_by n (instr.Qubit cell qubits index) cells slots = and_then (qubit_by qubits index cells) (λ q. Ok (Cell cell q))
write_by n (instr.Distinct qubits) cells slots = and_then (different_by n qubits cells) (λ qs. Ok Nothing)
write_by n i cells slots = move_by i cells slots

-- ---- operators

-- the operand's types have sizes, and an operator's result a type
abbrev pub has_types : Operation → Bool
has_types (operation.Unary operator of) = has_size of.kind && is_some (unary_result_type operator of.kind)
has_types (operation.Binary operator left right) =
    has_size left.kind && (has_size right.kind && is_some (result_type operator left.kind right.kind))
