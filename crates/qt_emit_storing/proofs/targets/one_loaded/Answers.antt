use Rattle.qt_emit_storing.proofs.TargetForms.{one_loaded}
use Rattle.qt_emit_storing.proofs.targets.one_loaded.Goals as goal

pub returns : goal.returns
returns c =
    one_loaded c.args.target.now c.args.base c.args.cell c.kind_of.result c.kind_of.ensures c.in_ok-place.place c.in_ok-value.value _ _ _
    c.in_ok-place.ensures c.in_ok-value.ensures c.in_ok-got.ensures (rw (← c.place_in-index.ensures) c.in_ok-put.ensures)
