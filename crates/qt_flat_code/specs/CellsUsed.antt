-- How many work cells some instructions use: one more than the number of the last that one of them names (flat code is this profile's).
use Rattle.std.specs.Prelude.{ℕ, suc, max, List, [], ◌∷◌, ◌++◌}
use Rattle.qt_instructions.specs.declared.reference.QubitRef.{QubitRef}
use Rattle.qt_instructions.specs.declared.reference.QubitRef.TheVariants as qubit
use Rattle.qt_instructions.specs.declared.reference.AngleRef.{AngleRef}
use Rattle.qt_instructions.specs.declared.reference.AngleRef.TheVariants as angle
use Rattle.qt_instructions.specs.declared.angle.AngleArg.{AngleArg}
use Rattle.qt_instructions.specs.declared.angle.AngleArg.TheVariants as argument
use Rattle.qt_instructions.specs.declared.angle.AngleOperation.{AngleOperation}
use Rattle.qt_instructions.specs.declared.angle.AngleOperation.TheVariants as phase
use Rattle.qt_instructions.specs.declared.angle.AngleStep.{AngleStep}
use Rattle.qt_instructions.specs.declared.angle.AngleStep.TheVariants as step
use Rattle.qt_instructions.specs.declared.primitive.Primitive.{Primitive}
use Rattle.qt_instructions.specs.declared.primitive.Primitive.TheVariants as primitive
use Rattle.qt_instructions.specs.declared.instruction.Instr.{Instr}
use Rattle.qt_instructions.specs.declared.instruction.Instr.TheVariants as instr
use Rattle.qt_instructions.specs.declared.instruction.Operation.{Operation}
use Rattle.qt_instructions.specs.declared.instruction.Operation.TheVariants as operation
use Rattle.qt_instructions.specs.declared.instruction.Store.{Store}
use Rattle.qt_instructions.specs.declared.instruction.Store.TheVariants as store

-- ---- which cells an instruction names

abbrev pub reference_cells : QubitRef → List ℕ
reference_cells (qubit.At q) = []
reference_cells (qubit.Work cell) = cell ∷ []

abbrev pub references_cells : List QubitRef → List ℕ
references_cells [] = []
references_cells (r ∷ rs) = reference_cells r ++ references_cells rs

abbrev pub angle_cells : AngleRef → List ℕ
angle_cells (angle.Eighth eighths) = []
angle_cells (angle.Work cell negated) = cell ∷ []

abbrev pub primitive_cells : Primitive → List ℕ
primitive_cells (primitive.Turn ones zeros q theta phi lambda) =
    references_cells ones
    ++ (references_cells zeros ++ (reference_cells q ++ (angle_cells theta ++ (angle_cells phi ++ angle_cells lambda))))
primitive_cells (primitive.Phase ones zeros gamma) = references_cells ones ++ (references_cells zeros ++ angle_cells gamma)

abbrev pub argument_cells : AngleArg → List ℕ
argument_cells (argument.Units units) = []
argument_cells (argument.Work cell) = cell ∷ []

abbrev pub step_cells : AngleStep → List ℕ
step_cells (step.Add left right) = argument_cells left ++ argument_cells right
step_cells (step.Sub left right) = argument_cells left ++ argument_cells right
step_cells (step.Neg of) = argument_cells of
step_cells (step.Times of k) = argument_cells of
step_cells (step.Over of k) = argument_cells of

abbrev pub phase_cells : AngleOperation → List ℕ
phase_cells (phase.Step step) = step_cells step
phase_cells (phase.OfAngle value) = value.cell ∷ []
phase_cells (phase.Product of factor) = argument_cells of ++ (factor.cell ∷ [])
phase_cells (phase.Quotient of divisor) = argument_cells of ++ (divisor.cell ∷ [])
phase_cells (phase.NoRest value) = value.cell ∷ []

abbrev pub operation_cells : Operation → List ℕ
operation_cells (operation.Unary operator of) = of.cell ∷ []
operation_cells (operation.Binary operator left right) = left.cell ∷ right.cell ∷ []

abbrev pub store_cells : Store → List ℕ
store_cells (store.BitAt slot cell) = cell ∷ []
store_cells _ = []

abbrev pub cells_in : Instr → List ℕ
cells_in instr.Tick = []
cells_in (instr.Load cell bits) = cell ∷ []
cells_in (instr.Get cell slot) = cell ∷ []
cells_in (instr.Put slot cell) = cell ∷ []
cells_in (instr.GetAt cell first count index) = cell ∷ index.cell ∷ []
cells_in (instr.PutAt first count index cell) = cell ∷ index.cell ∷ []
cells_in (instr.BitGet cell of index) = cell ∷ of.cell ∷ index.cell ∷ []
cells_in (instr.BitPut of index bit) = of.cell ∷ index.cell ∷ bit ∷ []
cells_in (instr.Apply cell operation) = cell ∷ operation_cells operation
cells_in (instr.Cast cell from to) = cell ∷ from.cell ∷ []
cells_in (instr.Turns cell first step last) = cell ∷ first.cell ∷ step.cell ∷ last.cell ∷ []
cells_in (instr.AngleOp cell operation) = cell ∷ phase_cells operation
cells_in (instr.Qubit cell qubits index) = cell ∷ index.cell ∷ []
cells_in (instr.Distinct references) = references_cells references
cells_in (instr.Gate p) = primitive_cells p
cells_in (instr.Measure q to) = reference_cells q ++ store_cells to
cells_in (instr.Reset q) = reference_cells q
cells_in (instr.Jump to) = []
cells_in (instr.JumpIf condition to) = condition ∷ []
cells_in instr.End = []

-- ---- how many there are up to the last of them

abbrev pub behind_last : List ℕ → ℕ
behind_last [] = 0
behind_last (cell ∷ cells) = max (suc cell) (behind_last cells)

abbrev pub cells_used : List Instr → ℕ
cells_used [] = 0
cells_used (i ∷ is) = max (behind_last (cells_in i)) (cells_used is)
