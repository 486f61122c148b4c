use Rattle.qt_emit_loops.proofs.LoopForms.{kept_from_written}
use Rattle.qt_emit_loops.proofs.keeping.kept_from.Goals as goal

pub returns : goal.returns
returns c =
    kept_from_written c.args.count c.args.x c.in_ok-first.first c.in_ok-all.all _ _ _ c.in_ok-first.ensures c.in_ok-all.ensures
    c.in_ok-put.ensures c.in_ok-puts.ensures
