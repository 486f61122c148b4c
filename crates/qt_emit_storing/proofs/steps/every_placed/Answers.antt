use Rattle.qt_emit_storing.proofs.StepForms.{every_written}
use Rattle.qt_emit_storing.proofs.steps.every_placed.Goals as goal

pub returns : goal.returns
returns c =
    every_written c.args.cell c.args.of c.in_ok-next.next c.in_ok-other.other c.in_ok-next.ensures c.in_ok-other.ensures c.args.spread.start
    c.args.spread.step c.args.count _ _ _ _ _ c.in_ok-bits_tested.ensures c.in_ok-counted.ensures c.in_ok-with_number.ensures
    c.in_ok-with_number-2.ensures
