use Rattle.std.proofs.Common.{sym, subst}
use Rattle.qt_instructions.specs.declared.instruction.Instr.{Instr}
use Rattle.qt_machine.specs.Writes.{held}
use Rattle.qt_stops.specs.Halts.{IsHalt, IsWay, moment}
use Rattle.qt_stops.specs.Stops.{Step, instruction_step}
use Rattle.qt_stops.proofs.Plain.{plain_step}
use Rattle.qt_stops.proofs.step.step.Goals as goal

pub returns-in-Measure-clause-way : goal.returns-in-Measure-clause-way
returns-in-Measure-clause-way c = λ state.
    subst (λ (i : Instr). IsHalt c.args.sizes.qubits (instruction_step c.args.sizes.qubits c.args.stand.at i c.args.stand.place
    (held c.args.cells.now) (moment c.args.slots.now state c.args.stand.fuel)) c.measure.result (held c.args.cells.now) c.args.slots.now state)
    (sym c.in-Measure.is) (c.measure.ensures.halt c.args.slots.now state)

pub returns-in-Reset-clause-way : goal.returns-in-Reset-clause-way
returns-in-Reset-clause-way c = λ state.
    subst (λ (i : Instr). IsHalt c.args.sizes.qubits (instruction_step c.args.sizes.qubits c.args.stand.at i c.args.stand.place
    (held c.args.cells.now) (moment c.args.slots.now state c.args.stand.fuel)) c.reset.result (held c.args.cells.now) c.args.slots.now state)
    (sym c.in-Reset.is) (c.reset.ensures.halt c.args.slots.now state)

pub returns-in_default : goal.returns-in_default
returns-in_default c =
    let t = c.in_default in
    record {
      way = λ state.
          subst (λ (s : Step). IsWay c.args.sizes.qubits s c.write.result (held c.write.new.cells) c.write.new.slots state)
          (sym (plain_step c.args.sizes.qubits c.args.stand.at c.args.instruction.now c.args.stand.place (held c.args.cells.now)
          (moment c.args.slots.now state c.args.stand.fuel) t.not-Tick t.not-Gate t.not-Measure t.not-Reset t.not-Jump t.not-JumpIf t.not-End))
          (c.write.ensures.way state);
      behind = c.write.ensures.behind;
      cell_count = c.write.ensures.cell_count;
      slot_count = c.write.ensures.slot_count;
    }
