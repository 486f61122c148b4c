use Rattle.std.proofs.Common.{◌≡◌, [], length}
use Rattle.qt_typing.specs.Gates.{phases_from}
use Rattle.qt_check_gate_calls.proofs.arguments.phases_from.Given as goal

abbrev pub invariant-loop-arguments : goal.invariant-loop-arguments
invariant-loop-arguments l = phases_from l.names l.place l.phases l.arguments ≡ phases_from l.names l.place [] l.fn.arguments

abbrev pub decreases-loop-arguments : goal.decreases-loop-arguments
decreases-loop-arguments l = length l.arguments
