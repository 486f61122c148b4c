use Rattle.qt_emit_loops.proofs.LoopForms.{range_written}
use Rattle.qt_emit_loops.proofs.keeping.range.Goals as goal

pub returns : goal.returns
returns c =
    range_written c.args.first.now c.args.by.now c.args.last.now c.args.x c.args.base c.args.at c.in_ok-end.end _ _ _ _ _ _
    c.in_ok-start.start c.in_ok-step.step c.in_ok-stop.stop c.in_ok-start.ensures c.in_ok-step.ensures c.in_ok-stop.ensures
    c.in_ok-reckoned.ensures c.in_ok-range_kept.ensures c.in_ok-end.ensures
