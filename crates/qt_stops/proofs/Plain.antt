-- Instructions that write.
use Rattle.std.proofs.Common.{◌≡◌, ℕ, refl}
use Rattle.qt_tree.specs.declared.place.Place.{Place}
use Rattle.qt_instructions.specs.declared.instruction.Instr.{Instr}
use Rattle.qt_instructions.specs.declared.instruction.Instr.TheVariants.{Tick, Gate, Measure, Reset, Jump, JumpIf, End}
use Rattle.qt_instructions.specs.declared.instruction.Store.{Store}
use Rattle.qt_instructions.specs.declared.primitive.Primitive.{Primitive}
use Rattle.qt_instructions.specs.declared.reference.QubitRef.{QubitRef}
use Rattle.qt_code.specs.Cells.{Cells}
use Rattle.qt_machine.specs.Writes.{write_by}
use Rattle.qt_stops.specs.Stops.{Moment, after, instruction_step, write_step}

pub plain_step : (n at : ℕ) (i : Instr) (place : Place) (cells : Cells) (m : Moment)
    → (i ≡ Tick → ⊥) → ((p : Primitive) → i ≡ Gate p → ⊥) → ((q : QubitRef) (to : Store) → i ≡ Measure q to → ⊥) → ((q : QubitRef) → i ≡ Reset q → ⊥)
    → ((to : ℕ) → i ≡ Jump to → ⊥) → ((condition to : ℕ) → i ≡ JumpIf condition to → ⊥) → (i ≡ End → ⊥)
    → instruction_step n at i place cells m ≡ after (write_by n i cells m.slots) place (write_step at cells m)
plain_step n at Tick place cells m tick gate measure reset jump jump_if end = absurd (tick refl)
plain_step n at (Gate p) place cells m tick gate measure reset jump jump_if end = absurd (gate p refl)
plain_step n at (Measure q to) place cells m tick gate measure reset jump jump_if end = absurd (measure q to refl)
plain_step n at (Reset q) place cells m tick gate measure reset jump jump_if end = absurd (reset q refl)
plain_step n at (Jump to) place cells m tick gate measure reset jump jump_if end = absurd (jump to refl)
plain_step n at (JumpIf condition to) place cells m tick gate measure reset jump jump_if end = absurd (jump_if condition to refl)
plain_step n at End place cells m tick gate measure reset jump jump_if end = absurd (end refl)
plain_step n at _ place cells m tick gate measure reset jump jump_if end = refl
