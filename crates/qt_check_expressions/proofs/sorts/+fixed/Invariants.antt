-- The recursion goes down the tree: each call has fewer nodes, or a smaller number within one node.
use Rattle.std.proofs.Common.{◌+◌, ◌*◌}
use Rattle.qt_const.proofs.Nodes.{nodes, index_nodes, list_nodes, indexes_nodes, brackets_nodes}
use Rattle.qt_check_expressions.proofs.sorts.+fixed.Given as goal

abbrev pub decreases-is_fixed : goal.decreases-is_fixed
decreases-is_fixed l = 8 * nodes l.expr.now + 1

abbrev pub decreases-all_fixed : goal.decreases-all_fixed
decreases-all_fixed l = 8 * list_nodes l.exprs.now + 6

abbrev pub decreases-index_fixed : goal.decreases-index_fixed
decreases-index_fixed l = 8 * index_nodes l.index.now + 5

abbrev pub decreases-indexes_fixed : goal.decreases-indexes_fixed
decreases-indexes_fixed l = 8 * indexes_nodes l.indexes.now + 6

abbrev pub decreases-brackets_fixed : goal.decreases-brackets_fixed
decreases-brackets_fixed l = 8 * brackets_nodes l.brackets.now + 5
