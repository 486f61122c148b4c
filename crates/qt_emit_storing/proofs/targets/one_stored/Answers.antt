use Rattle.qt_emit_storing.proofs.TargetForms.{one_stored}
use Rattle.qt_emit_storing.proofs.targets.one_stored.Goals as goal

pub returns : goal.returns
returns c =
    one_stored c.args.target.now c.args.base c.args.cell c.kind_of.result c.kind_of.ensures c.in_ok-place.place c.args.from c.in_ok-old.old
    _ _ _ _ c.in_ok-place.ensures c.in_ok-old.ensures c.in_ok-got.ensures (rw (← c.place_in-index.ensures) c.in_ok-put.ensures)
    c.in_ok-stored.ensures
