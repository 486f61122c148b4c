use Rattle.qt_emit_loops.proofs.LoopForms.{array_written}
use Rattle.qt_emit_loops.proofs.keeping.array.Goals as goal

pub returns : goal.returns
returns c =
    array_written c.args.kind c.args.slot c.args.count c.args.x c.args.base c.args.at c.in_ok-first.first c.in_ok-middle.middle
    c.in_ok-kept.kept c.in_ok-end.end _ _ _ c.in_ok-first.ensures c.in_ok-middle.ensures c.in_ok-gets.ensures c.in_ok-kept_from.ensures
    c.in_ok-kept.ensures c.in_ok-end.ensures
