use Rattle.qt_emit_storing.specs.BitsIn.{bits_in}
use Rattle.qt_emit_storing.proofs.TargetForms.{target_written}
use Rattle.qt_emit_storing.proofs.targets.target.Goals as goal

pub returns : goal.returns
returns c =
    target_written c.args.target.now c.args.base c.args.cell c.args.at c.in_ok-next.next c.in_ok-middle.middle c.in_ok-end.end
    (bits_in c.in_ok-bits.bits) _ _ _ c.in_ok-next.ensures c.in_ok-bits.ensures c.in_ok-middle.ensures c.in_ok-stored.ensures
    (rw (← c.storing_length.ensures) c.in_ok-end.ensures)
