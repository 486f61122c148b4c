-- The code of a division that may leave no rest, of two values in cells next to each other (flat code is this profile's; OpenQASM 3.0 live
-- specification, "Types and Casting", angles).
use Rattle.std.specs.Prelude.{ℕ, suc, List, [], ◌∷◌, ◌++◌}
use Rattle.qt_value.specs.OpTypes.{result_type}
use Rattle.qt_value.specs.declared.operators.Op.TheVariants as op
use Rattle.qt_typed.specs.Types.{or_bool}
use Rattle.qt_instructions.specs.declared.angle.AngleOperation.TheVariants as phase
use Rattle.qt_instructions.specs.declared.instruction.Instr.{Instr}
use Rattle.qt_instructions.specs.declared.instruction.Instr.TheVariants as instr
use Rattle.qt_instructions.specs.declared.instruction.Operand.{Operand}
use Rattle.qt_flat_code.specs.Expressions.{binary, operand}

-- the rest comes to a cell, and is tested
abbrev pub rest_code : ℕ → Operand → Operand → List Instr
rest_code cell left right =
    binary cell op.Rem left right
    ∷ instr.AngleOp cell (phase.NoRest (operand cell (or_bool (result_type op.Rem left.kind right.kind)))) ∷ []

-- the rest comes to the cell behind the second value, and the quotient to the first
abbrev pub divided_code : Operand → Operand → List Instr
divided_code left right = rest_code (suc right.cell) left right ++ (binary left.cell op.Div left right ∷ [])
