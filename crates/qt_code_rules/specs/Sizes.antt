-- What may be named: the slots, work cells and qubits of code (flat code is this profile's; OpenQASM 3.0 live specification, "Types and
-- Casting"; Cross et al. 2022). An operand has a type with a size.
use Rattle.std.specs.Prelude.{ℕ, ◌+◌, Bool, true, ◌&&◌, nat_lt, nat_le}
use Rattle.qt_value.specs.Types.{has_size}
use Rattle.qt_code_rules.specs.declared.sizes.Sizes.{Sizes}
use Rattle.qt_instructions.specs.declared.reference.QubitRef.{QubitRef}
use Rattle.qt_instructions.specs.declared.reference.QubitRef.TheVariants as qubit
use Rattle.qt_instructions.specs.declared.reference.AngleRef.{AngleRef}
use Rattle.qt_instructions.specs.declared.reference.AngleRef.TheVariants as angle
use Rattle.qt_instructions.specs.declared.angle.AngleArg.{AngleArg}
use Rattle.qt_instructions.specs.declared.angle.AngleArg.TheVariants as argument
use Rattle.qt_instructions.specs.declared.angle.AngleStep.{AngleStep}
use Rattle.qt_instructions.specs.declared.angle.AngleStep.TheVariants as step
use Rattle.qt_instructions.specs.declared.instruction.Operand.{Operand}
use Rattle.qt_instructions.specs.declared.instruction.Store.{Store}
use Rattle.qt_instructions.specs.declared.instruction.Store.TheVariants as store

-- ---- slots, cells, qubits

abbrev pub has_slot : Sizes → ℕ → Bool
has_slot sizes slot = nat_lt slot sizes.slots

-- so many slots from the first on
abbrev pub has_slots : Sizes → ℕ → ℕ → Bool
has_slots sizes first count = nat_le (first + count) sizes.slots

abbrev pub has_cell : Sizes → ℕ → Bool
has_cell sizes cell = nat_lt cell sizes.cells

abbrev pub has_qubit : Sizes → ℕ → Bool
has_qubit sizes q = nat_lt q sizes.qubits

abbrev pub has_reference : Sizes → QubitRef → Bool
has_reference sizes (qubit.At q) = has_qubit sizes q
has_reference sizes (qubit.Work cell) = has_cell sizes cell

abbrev pub has_angle : Sizes → AngleRef → Bool
has_angle sizes (angle.Eighth eighths) = true
has_angle sizes (angle.Work cell negated) = has_cell sizes cell

-- ---- operands

abbrev pub has_operand : Sizes → Operand → Bool
has_operand sizes operand = has_cell sizes operand.cell && has_size operand.kind

abbrev pub has_argument : Sizes → AngleArg → Bool
has_argument sizes (argument.Units units) = true
has_argument sizes (argument.Work cell) = has_cell sizes cell

abbrev pub has_step : Sizes → AngleStep → Bool
has_step sizes (step.Add left right) = has_argument sizes left && has_argument sizes right
has_step sizes (step.Sub left right) = has_argument sizes left && has_argument sizes right
has_step sizes (step.Neg of) = has_argument sizes of
has_step sizes (step.Times of k) = has_argument sizes of
has_step sizes (step.Over of k) = has_argument sizes of

-- ---- outcomes

abbrev pub has_store : Sizes → Store → Bool
has_store sizes store.Nowhere = true
has_store sizes (store.Bit slot place) = has_slot sizes slot
has_store sizes (store.BitAt slot cell) = has_slot sizes slot && has_cell sizes cell
