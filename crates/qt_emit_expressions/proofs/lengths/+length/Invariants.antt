-- The recursion goes down the tree.
use Rattle.std.proofs.Common.{◌≡◌, ◌≤◌, ◌+◌, ◌*◌, max, length}
use denote.Param.Weighed.{most}
use Rattle.qt_typed.specs.declared.expression.TypedExpr.{size-TypedExpr}
use Rattle.qt_flat_code.specs.Lengths.{indexes_length}
use Rattle.qt_emit_expressions.proofs.lengths.+length.Given as goal

abbrev pub decreases-length : goal.decreases-length
decreases-length l = 3 * size-TypedExpr l.e.now

abbrev pub decreases-both_length : goal.decreases-both_length
decreases-both_length l = 3 * max (size-TypedExpr l.left.now) (size-TypedExpr l.right.now) + 1

abbrev pub decreases-longer : goal.decreases-longer
decreases-longer l = 3 * size-TypedExpr l.of.now + 1

abbrev pub decreases-indexes_length : goal.decreases-indexes_length
decreases-indexes_length l = 3 * most size-TypedExpr l.indexes.now + 2

-- what is counted and what is left are the whole
abbrev pub invariant-indexes_length-indexes : goal.invariant-indexes_length-indexes
invariant-indexes_length-indexes l =
    (l.all + indexes_length l.lengths l.indexes ≡ indexes_length l.fn.lengths l.fn.indexes)
    × (most size-TypedExpr l.indexes ≤ most size-TypedExpr l.fn.indexes)

abbrev pub decreases-indexes_length-indexes : goal.decreases-indexes_length-indexes
decreases-indexes_length-indexes l = length l.indexes
