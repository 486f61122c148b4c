use Rattle.qt_modify.specs.Expansions.{expansions_of, needs_in}
use Rattle.qt_modify.proofs.Tables.{call_marked}
use Rattle.qt_modify.proofs.needs.body_needs.Goals as goal

pub loop-call-preserved : goal.loop-call-preserved
loop-call-preserved c =
    call_marked (needs_in (expansions_of c.args.gates.now)) c.args.calls.now c.loop-call.call-index c.call-item.result c.loop-call.flags
    c.mark_call.new.flags c.loop-call-test.true c.call-item.is c.loop-call.invariant c.in_ok-mark_call.ensures
