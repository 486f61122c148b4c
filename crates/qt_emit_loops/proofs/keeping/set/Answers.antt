use Rattle.qt_emit_loops.proofs.LoopForms.{set_written}
use Rattle.qt_emit_loops.proofs.keeping.set.Goals as goal

pub returns : goal.returns
returns c =
    set_written c.args.members.now c.args.x c.args.base c.args.at c.in_ok-count.count c.in_ok-middle.middle c.in_ok-kept.kept
    c.in_ok-end.end _ _ _ c.in_ok-count.ensures c.in_ok-middle.ensures c.in_ok-kept_from.ensures c.in_ok-kept.ensures c.in_ok-end.ensures
