use Rattle.std.proofs.Common.{◌≡◌, [], length}
use Rattle.qt_typing.specs.GateItems.{body_from}
use Rattle.qt_check_gate_items.proofs.bodies.body_from.Given as goal

abbrev pub invariant-loop-statements : goal.invariant-loop-statements
invariant-loop-statements l = body_from l.included l.calls l.statements l.names ≡ body_from l.included [] l.fn.statements l.names

abbrev pub decreases-loop-statements : goal.decreases-loop-statements
decreases-loop-statements l = length l.statements
