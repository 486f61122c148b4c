use Rattle.qt_emit_storing.specs.BitsIn.{bits_in}
use Rattle.qt_emit_storing.proofs.TargetForms.{update_written}
use Rattle.qt_emit_storing.proofs.targets.update.Goals as goal

pub returns : goal.returns
returns c =
    update_written c.args.target.now c.args.operator c.args.value.now c.args.base c.args.at c.in_ok-middle.middle c.in_ok-end.end
    (bits_in c.in_ok-bits.bits) _ _ _ _ _ _ c.in_ok-coded.coded c.in_ok-bits.ensures c.in_ok-coded.ensures c.in_ok-middle.ensures
    c.in_ok-loaded.ensures c.in_ok-changed.ensures c.in_ok-stored.ensures (rw (← c.changing_length.ensures) c.in_ok-end.ensures)
