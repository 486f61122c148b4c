-- What instructions name is in range: each slot, work cell and qubit is one of the code's (OpenQASM 3.0 live specification, "Types and
-- Casting"; Cross et al. 2022; flat code is this profile's). An operator is in range where it exists for the types of its operands, and a
-- conversion where there is one between its types.
use Rattle.std.specs.Prelude.{Bool, true, false, ◌&&◌, is_some}
use Rattle.std.specs.List.{list_all}
use Rattle.qt_value.specs.Casts.{converted}
use Rattle.qt_value.specs.OpTypes.{result_type, unary_result_type}
use Rattle.qt_value.specs.Types.{has_size, is_whole}
use Rattle.qt_value.specs.declared.types.ValueType.{ValueType}
use Rattle.qt_value.specs.declared.types.ValueType.TheVariants as kind
use Rattle.qt_instructions.specs.declared.primitive.Primitive.{Primitive}
use Rattle.qt_instructions.specs.declared.primitive.Primitive.TheVariants as primitive
use Rattle.qt_instructions.specs.declared.angle.AngleOperation.{AngleOperation}
use Rattle.qt_instructions.specs.declared.angle.AngleOperation.TheVariants as phase
use Rattle.qt_instructions.specs.declared.instruction.Operand.{Operand}
use Rattle.qt_instructions.specs.declared.instruction.Operation.{Operation}
use Rattle.qt_instructions.specs.declared.instruction.Operation.TheVariants as operation
use Rattle.qt_instructions.specs.declared.instruction.Instr.{Instr}
use Rattle.qt_instructions.specs.declared.instruction.Instr.TheVariants as instr
use Rattle.qt_code_rules.specs.declared.sizes.Sizes.{Sizes}
use Rattle.qt_code_rules.specs.Sizes.{has_slot, has_slots, has_cell, has_qubit, has_reference, has_angle, has_operand, has_argument, has_step, has_store}

-- ---- primitives

abbrev pub has_primitive : Sizes → Primitive → Bool
has_primitive sizes (primitive.Turn ones zeros q theta phi lambda) =
    list_all (has_reference sizes) ones && list_all (has_reference sizes) zeros && has_reference sizes q
    && has_angle sizes theta && has_angle sizes phi && has_angle sizes lambda
has_primitive sizes (primitive.Phase ones zeros gamma) =
    list_all (has_reference sizes) ones && list_all (has_reference sizes) zeros && has_angle sizes gamma

-- ---- operators and conversions

abbrev pub has_operation : Sizes → Operation → Bool
has_operation sizes (operation.Unary operator of) = has_operand sizes of && is_some (unary_result_type operator of.kind)
has_operation sizes (operation.Binary operator left right) =
    has_operand sizes left && has_operand sizes right && is_some (result_type operator left.kind right.kind)

-- whether values of a type with a size can be converted to another: that doesn't depend on the bits
abbrev pub can_convert : ValueType → ValueType → Bool
can_convert from to = has_size from && is_some (converted (record { kind = from; bits = 0 }) to)

abbrev pub has_conversion : Sizes → Operand → ValueType → Bool
has_conversion sizes from to = has_cell sizes from.cell && can_convert from.kind to

-- ---- phases

abbrev pub is_angle : ValueType → Bool
is_angle (kind.Angle n) = true
is_angle _ = false

-- a phase is multiplied and divided by whole numbers alone
abbrev pub has_angle_operation : Sizes → AngleOperation → Bool
has_angle_operation sizes (phase.Step step) = has_step sizes step
has_angle_operation sizes (phase.OfAngle value) = has_operand sizes value && is_angle value.kind
has_angle_operation sizes (phase.Product of factor) = has_argument sizes of && has_operand sizes factor && is_whole factor.kind
has_angle_operation sizes (phase.Quotient of divisor) = has_argument sizes of && has_operand sizes divisor && is_whole divisor.kind
has_angle_operation sizes (phase.NoRest value) = has_operand sizes value && is_whole value.kind

-- ---- instructions

-- those that move values and bits of them
abbrev pub has_move : Sizes → Instr → Bool
has_move sizes (instr.Load cell bits) = has_cell sizes cell
has_move sizes (instr.Get cell slot) = has_cell sizes cell && has_slot sizes slot
has_move sizes (instr.Put slot cell) = has_slot sizes slot && has_cell sizes cell
has_move sizes (instr.GetAt cell first count index) = has_cell sizes cell && has_slots sizes first count && has_operand sizes index
has_move sizes (instr.PutAt first count index cell) = has_slots sizes first count && has_operand sizes index && has_cell sizes cell
has_move sizes (instr.BitGet cell of index) = has_cell sizes cell && has_operand sizes of && has_operand sizes index
has_move sizes (instr.BitPut of index bit) = has_operand sizes of && has_operand sizes index && has_cell sizes bit
has_move sizes _ = true

-- those that reckon
abbrev pub has_reckoning : Sizes → Instr → Bool
has_reckoning sizes (instr.Apply cell operation) = has_cell sizes cell && has_operation sizes operation
has_reckoning sizes (instr.Cast cell from to) = has_cell sizes cell && has_conversion sizes from to
has_reckoning sizes (instr.Turns cell first step last) =
    has_cell sizes cell && has_operand sizes first && has_operand sizes step && has_operand sizes last
has_reckoning sizes (instr.AngleOp cell operation) = has_cell sizes cell && has_angle_operation sizes operation
has_reckoning sizes (instr.JumpIf condition to) = has_cell sizes condition
has_reckoning sizes _ = true

-- those on qubits
abbrev pub has_effect : Sizes → Instr → Bool
has_effect sizes (instr.Qubit cell qubits index) = has_cell sizes cell && list_all (has_qubit sizes) qubits && has_operand sizes index
has_effect sizes (instr.Distinct qubits) = list_all (has_reference sizes) qubits
has_effect sizes (instr.Gate p) = has_primitive sizes p
has_effect sizes (instr.Measure q store) = has_reference sizes q && has_store sizes store
has_effect sizes (instr.Reset q) = has_reference sizes q
has_effect sizes _ = true

abbrev pub has_instruction : Sizes → Instr → Bool
has_instruction sizes i = has_move sizes i && has_reckoning sizes i && has_effect sizes i
