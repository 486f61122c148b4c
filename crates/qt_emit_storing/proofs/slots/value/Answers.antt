use Rattle.qt_emit_storing.proofs.SlotForms.{value_written}
use Rattle.qt_emit_storing.proofs.slots.value.Goals as goal

pub returns : goal.returns
returns c =
    value_written c.args.e.now c.args.base c.args.cell c.args.at _ _ _ c.in_ok-coded.ensures.added c.in_ok-coded.ensures.behind
