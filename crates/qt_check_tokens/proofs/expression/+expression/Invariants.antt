-- What is counted and the parts still to come are the whole; and the recursion goes down the tree.
use Rattle.std.proofs.Common.{◌≡◌, ◌≤◌, ◌+◌, ◌*◌, map, length}
use denote.Param.Weighed.{most}
use Rattle.qt_tree.specs.declared.expression.Expr.{size-Expr}
use Rattle.qt_tree.specs.declared.expression.Index.{size-Index}
use Rattle.qt_typing.specs.Tokens.{more, brackets_tokens, expr_tokens, index_tokens}
use Rattle.qt_check_tokens.proofs.expression.+expression.Given as goal

abbrev pub decreases-count_expr : goal.decreases-count_expr
decreases-count_expr l = 8 * goal.size-count_expr l + 0

abbrev pub decreases-count_index : goal.decreases-count_index
decreases-count_index l = 8 * goal.size-count_index l + 0

abbrev pub decreases-count_range : goal.decreases-count_range
decreases-count_range l = 8 * goal.size-count_range l + 0

abbrev pub decreases-count_scalar : goal.decreases-count_scalar
decreases-count_scalar l = 8 * goal.size-count_scalar l + 0

abbrev pub decreases-count_exprs : goal.decreases-count_exprs
decreases-count_exprs l = 8 * goal.size-count_exprs l + 2

abbrev pub decreases-count_more : goal.decreases-count_more
decreases-count_more l = 8 * goal.size-count_more l + 1

abbrev pub decreases-count_brackets : goal.decreases-count_brackets
decreases-count_brackets l = 8 * goal.size-count_brackets l + 3

abbrev pub decreases-count_indexes : goal.decreases-count_indexes
decreases-count_indexes l = 8 * goal.size-count_indexes l + 2

abbrev pub decreases-count_more_indexes : goal.decreases-count_more_indexes
decreases-count_more_indexes l = 8 * goal.size-count_more_indexes l + 1

abbrev pub decreases-count_sized : goal.decreases-count_sized
decreases-count_sized l = 8 * goal.size-count_sized l + 1

abbrev pub decreases-count_part : goal.decreases-count_part
decreases-count_part l = 8 * goal.size-count_part l + 1

abbrev pub invariant-count_more-exprs : goal.invariant-count_more-exprs
invariant-count_more-exprs l =
    (l.fn.total + more (map expr_tokens l.fn.exprs) ≡ l.total + more (map expr_tokens l.left))
    × (most size-Expr l.left ≤ most size-Expr l.fn.exprs)

abbrev pub decreases-count_more-exprs : goal.decreases-count_more-exprs
decreases-count_more-exprs l = length l.left

abbrev pub invariant-count_brackets-brackets : goal.invariant-count_brackets-brackets
invariant-count_brackets-brackets l =
    (l.fn.total + brackets_tokens (map (map index_tokens) l.fn.brackets) ≡ l.total + brackets_tokens (map (map index_tokens) l.left))
    × (most (most size-Index) l.left ≤ most (most size-Index) l.fn.brackets)

abbrev pub decreases-count_brackets-brackets : goal.decreases-count_brackets-brackets
decreases-count_brackets-brackets l = length l.left

abbrev pub invariant-count_more_indexes-indexes : goal.invariant-count_more_indexes-indexes
invariant-count_more_indexes-indexes l =
    (l.fn.total + more (map index_tokens l.fn.indexes) ≡ l.total + more (map index_tokens l.left))
    × (most size-Index l.left ≤ most size-Index l.fn.indexes)

abbrev pub decreases-count_more_indexes-indexes : goal.decreases-count_more_indexes-indexes
decreases-count_more_indexes-indexes l = length l.left
