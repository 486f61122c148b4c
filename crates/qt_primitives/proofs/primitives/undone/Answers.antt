use Rattle.qt_primitives.proofs.Lists.{undo_step}
use Rattle.qt_primitives.proofs.primitives.undone.Goals as goal

pub loop-primitive-preserved : goal.loop-primitive-preserved
loop-primitive-preserved c = undo_step _ _ _ _ _ _ _ c.in-Some.ensures c.inverse_of.ensures c.in_ok-push.ensures.ok
    c.loop-primitive.invariant
