-- The code of phases, which are the arguments of gates (flat code is this profile's; OpenQASM 3.0 live specification, "Types and Casting",
-- angles, and "Gates", applying gates; Cross et al. 2022). A phase that is constant as a whole needs no code: what uses it names its units.
-- Each other one comes to a work cell, as an expression does: parts are reckoned from left to right, each into the first cell that isn't in
-- use.
use Rattle.std.specs.Prelude.{ℕ, suc, ◌+◌, List, [], ◌∷◌, ◌++◌}
use Rattle.qt_typed.specs.Types.{type_of}
use Rattle.qt_typed.specs.declared.expression.TypedPhase.{TypedPhase, end_of-TypedPhase, more_of-TypedPhase}
use Rattle.qt_typed.specs.declared.expression.TypedPhase.TheVariants.{Fixed, Angle, Neg', Add', Sub', Times', Scaled', Over'}
use Rattle.qt_instructions.specs.declared.angle.AngleArg.{AngleArg}
use Rattle.qt_instructions.specs.declared.angle.AngleArg.TheVariants as argument
use Rattle.qt_instructions.specs.declared.angle.AngleStep.{AngleStep}
use Rattle.qt_instructions.specs.declared.angle.AngleStep.TheVariants as step
use Rattle.qt_instructions.specs.declared.angle.AngleOperation.TheVariants as operation
use Rattle.qt_instructions.specs.declared.instruction.Instr.{Instr}
use Rattle.qt_instructions.specs.declared.instruction.Instr.TheVariants as instr
use Rattle.qt_flat_code.specs.Lengths.{expression_length}
use Rattle.qt_flat_code.specs.Expressions.{expression_code, operand}

-- ---- lengths

abbrev pub phase_length : TypedPhase → ℕ
phase_length (Fixed units) = 0
phase_length (Angle of) = expression_length of + 1
phase_length (Neg' k (more_of-TypedPhase of end_of-TypedPhase)) = phase_length of + 1
phase_length (Add' k (more_of-TypedPhase left end_of-TypedPhase) m (more_of-TypedPhase right end_of-TypedPhase)) =
    phase_length left + (phase_length right + 1)
phase_length (Sub' k (more_of-TypedPhase left end_of-TypedPhase) m (more_of-TypedPhase right end_of-TypedPhase)) =
    phase_length left + (phase_length right + 1)
phase_length (Times' k (more_of-TypedPhase of end_of-TypedPhase) number) = phase_length of + (expression_length number + 1)
phase_length (Scaled' number k (more_of-TypedPhase of end_of-TypedPhase)) = expression_length number + (phase_length of + 1)
phase_length (Over' k (more_of-TypedPhase of end_of-TypedPhase) number) = phase_length of + (expression_length number + 1)

-- ---- code

-- what stands for a phase in an instruction, where its cell has that number
abbrev pub phase_in : TypedPhase → ℕ → AngleArg
phase_in (Fixed units) cell = argument.Units units
phase_in _ cell = argument.Work cell

-- one operator of phase arithmetic
abbrev pub step_to : ℕ → AngleStep → Instr
step_to cell of = instr.AngleOp cell (operation.Step of)

abbrev pub phase_code : TypedPhase → ℕ → ℕ → ℕ → List Instr
phase_code (Fixed units) base cell at = []
phase_code (Angle of) base cell at =
    expression_code of base cell at ++ (instr.AngleOp cell (operation.OfAngle (operand cell (type_of of))) ∷ [])
phase_code (Neg' k (more_of-TypedPhase of end_of-TypedPhase)) base cell at =
    phase_code of base cell at ++ (step_to cell (step.Neg (phase_in of cell)) ∷ [])
phase_code (Add' k (more_of-TypedPhase left end_of-TypedPhase) m (more_of-TypedPhase right end_of-TypedPhase)) base cell at =
    phase_code left base cell at
    ++ (phase_code right base (suc cell) (at + phase_length left)
    ++ (step_to cell (step.Add (phase_in left cell) (phase_in right (suc cell))) ∷ []))
phase_code (Sub' k (more_of-TypedPhase left end_of-TypedPhase) m (more_of-TypedPhase right end_of-TypedPhase)) base cell at =
    phase_code left base cell at
    ++ (phase_code right base (suc cell) (at + phase_length left)
    ++ (step_to cell (step.Sub (phase_in left cell) (phase_in right (suc cell))) ∷ []))
phase_code (Times' k (more_of-TypedPhase of end_of-TypedPhase) number) base cell at =
    phase_code of base cell at
    ++ (expression_code number base (suc cell) (at + phase_length of)
    ++ (instr.AngleOp cell (operation.Product (phase_in of cell) (operand (suc cell) (type_of number))) ∷ []))
phase_code (Scaled' number k (more_of-TypedPhase of end_of-TypedPhase)) base cell at =
    expression_code number base cell at
    ++ (phase_code of base (suc cell) (at + expression_length number)
    ++ (instr.AngleOp cell (operation.Product (phase_in of (suc cell)) (operand cell (type_of number))) ∷ []))
phase_code (Over' k (more_of-TypedPhase of end_of-TypedPhase) number) base cell at =
    phase_code of base cell at
    ++ (expression_code number base (suc cell) (at + phase_length of)
    ++ (instr.AngleOp cell (operation.Quotient (phase_in of cell) (operand (suc cell) (type_of number))) ∷ []))
