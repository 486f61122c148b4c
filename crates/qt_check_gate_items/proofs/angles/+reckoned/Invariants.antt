-- The recursion goes down the tree: each call has fewer nodes, or a smaller number within one node.
use Rattle.std.proofs.Common.{◌+◌, ◌*◌}
use Rattle.qt_const.proofs.Nodes.{nodes, list_nodes}
use Rattle.qt_check_gate_items.proofs.angles.+reckoned.Given as goal

abbrev pub decreases-reckoned_of : goal.decreases-reckoned_of
decreases-reckoned_of l = 8 * nodes l.expr.now + 1

abbrev pub decreases-angle_form : goal.decreases-angle_form
decreases-angle_form l = 8 * nodes l.expr.now

abbrev pub decreases-call_reckoned : goal.decreases-call_reckoned
decreases-call_reckoned l = 8 * list_nodes l.arguments.now + 5

abbrev pub decreases-all_reckoned : goal.decreases-all_reckoned
decreases-all_reckoned l = 8 * list_nodes l.arguments.now + 4

abbrev pub decreases-cast_reckoned : goal.decreases-cast_reckoned
decreases-cast_reckoned l = 8 * nodes l.operand.now + 5
