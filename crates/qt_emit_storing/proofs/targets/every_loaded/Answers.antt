use Rattle.qt_emit_storing.proofs.TargetForms.{every_loaded}
use Rattle.qt_emit_storing.proofs.targets.every_loaded.Goals as goal

pub returns : goal.returns
returns c =
    every_loaded c.args.target.now c.args.base c.args.cell c.kind_of.result c.kind_of.ensures c.args.spread.start c.args.spread.step
    c.args.count c.in_ok-value.value c.in_ok-old.old c.in_ok-used.used _ _ _ _ c.in_ok-value.ensures c.in_ok-old.ensures
    c.in_ok-used.ensures c.in_ok-got.ensures c.in_ok-put.ensures c.in_ok-copied.ensures
