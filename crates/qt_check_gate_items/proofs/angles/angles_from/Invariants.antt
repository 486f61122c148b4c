use Rattle.std.proofs.Common.{◌≡◌, [], length}
use Rattle.qt_typing.specs.GateItems.{angles_from}
use Rattle.qt_check_gate_items.proofs.angles.angles_from.Given as goal

abbrev pub invariant-loop-arguments : goal.invariant-loop-arguments
invariant-loop-arguments l = angles_from l.names l.place l.angles l.arguments ≡ angles_from l.names l.place [] l.fn.arguments

abbrev pub decreases-loop-arguments : goal.decreases-loop-arguments
decreases-loop-arguments l = length l.arguments
