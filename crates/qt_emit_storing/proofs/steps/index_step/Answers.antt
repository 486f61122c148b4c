use Rattle.qt_emit_storing.specs.BitsIn.{bits_in}
use Rattle.qt_emit_storing.proofs.StepForms.{index_written}
use Rattle.qt_emit_storing.proofs.steps.index_step.Goals as goal

pub returns : goal.returns
returns c =
    index_written c.args.index.now (bits_in c.args.bits) c.args.base c.args.cell c.args.at c.in_ok-next.next c.in_ok-end.end _ _ _
    c.in_ok-value.value c.in_ok-next.ensures c.in_ok-value.ensures c.in_ok-bit_placed.ensures
    (rw (← c.bit_length.ensures) c.in_ok-end.ensures)
