use Rattle.qt_emit_storing.proofs.StepForms.{one_written}
use Rattle.qt_emit_storing.proofs.steps.one_tested.Goals as goal

pub returns : goal.returns
returns c =
    one_written c.args.cell c.args.of c.in_ok-next.next c.in_ok-other.other c.in_ok-next.ensures c.in_ok-other.ensures _ _
    c.in_ok-bits_tested.ensures
