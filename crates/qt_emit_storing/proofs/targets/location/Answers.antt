use Rattle.qt_emit_storing.specs.BitsIn.{bits_in}
use Rattle.qt_emit_storing.proofs.TargetForms.{location_written}
use Rattle.qt_emit_storing.proofs.targets.location.Goals as goal

pub returns : goal.returns
returns c =
    location_written c.args.target.now c.args.base c.args.cell c.args.at c.in_ok-next.next c.in_ok-middle.middle c.in_ok-end.end
    (bits_in c.first_bits.result) _ _ _ c.in_ok-next.ensures c.first_bits.ensures c.in_ok-middle.ensures
    (rw (← c.as_slice.ensures) c.in_ok-end.ensures)
