use Rattle.qt_emit_loops.proofs.LoopForms.{register_written}
use Rattle.qt_emit_loops.proofs.keeping.register.Goals as goal

pub returns : goal.returns
returns c =
    register_written c.args.width c.args.value.now c.args.x c.args.base c.args.at c.in_ok-end.end _ _ _ c.in_ok-coded.coded
    c.in_ok-coded.ensures c.in_ok-kept_from.ensures c.in_ok-end.ensures
