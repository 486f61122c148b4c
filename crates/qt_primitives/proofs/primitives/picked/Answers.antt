use Rattle.qt_primitives.proofs.Lists.{one_more_picked}
use Rattle.qt_primitives.proofs.primitives.picked.Goals as goal

pub loop-place-preserved : goal.loop-place-preserved
loop-place-preserved c =
    one_more_picked c.args.qubits.now c.args.places.now c.loop-place.place-index 0 c.loop-place.named c.push.new.self c.qubit_at.result
    c.loop-place-test.true c.loop-place.invariant c.qubit_at.ensures c.in_ok-push.ensures.ok
