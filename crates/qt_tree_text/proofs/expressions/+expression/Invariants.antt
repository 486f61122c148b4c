use Rattle.std.proofs.Common.{◌+◌, ◌*◌}
use Rattle.qt_tree_text.proofs.expressions.+expression.Given as goal

-- the depth of what is written, and within a depth who calls whom
abbrev pub decreases-write_expr : goal.decreases-write_expr
decreases-write_expr l = 4 * goal.size-write_expr l + 0

abbrev pub decreases-write_index : goal.decreases-write_index
decreases-write_index l = 4 * goal.size-write_index l + 0

abbrev pub decreases-write_range : goal.decreases-write_range
decreases-write_range l = 4 * goal.size-write_range l + 0

abbrev pub decreases-write_scalar : goal.decreases-write_scalar
decreases-write_scalar l = 4 * goal.size-write_scalar l + 0

abbrev pub decreases-write_exprs : goal.decreases-write_exprs
decreases-write_exprs l = 4 * goal.size-write_exprs l + 1

abbrev pub decreases-write_boxed : goal.decreases-write_boxed
decreases-write_boxed l = 4 * goal.size-write_boxed l + 1

abbrev pub decreases-write_end : goal.decreases-write_end
decreases-write_end l = 4 * goal.size-write_end l + 1

abbrev pub decreases-write_indexes : goal.decreases-write_indexes
decreases-write_indexes l = 4 * goal.size-write_indexes l + 1

abbrev pub decreases-write_brackets : goal.decreases-write_brackets
decreases-write_brackets l = 4 * goal.size-write_brackets l + 2
