use Rattle.std.proofs.Common.{◌≡◌, [], length}
use Rattle.qt_typing.specs.Gates.{operands_from}
use Rattle.qt_check_gate_calls.proofs.operands.operands_from.Given as goal

abbrev pub invariant-loop-written : goal.invariant-loop-written
invariant-loop-written l = operands_from l.names l.place l.operands l.written ≡ operands_from l.names l.place [] l.fn.written

abbrev pub decreases-loop-written : goal.decreases-loop-written
decreases-loop-written l = length l.written
