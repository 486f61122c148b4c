-- The recursion goes down the tree.
use Rattle.std.proofs.Common.{◌≤◌, ◌+◌, ◌*◌, ℕ, List, max, length}
use denote.Param.Weighed.{most}
use Rattle.qt_typed.specs.declared.expression.TypedExpr.{size-TypedExpr}
use Rattle.qt_instructions.specs.declared.instruction.Instr.{Instr}
use Rattle.qt_emit_expressions.specs.Emits.{EmitsIndexes}
use Rattle.qt_emit_expressions.proofs.expressions.+expression.Given as goal

abbrev pub decreases-expression : goal.decreases-expression
decreases-expression l = 6 * size-TypedExpr l.e.now

abbrev pub decreases-index_placed : goal.decreases-index_placed
decreases-index_placed l = 6 * size-TypedExpr l.index.now + 1

abbrev pub decreases-indexes_placed : goal.decreases-indexes_placed
decreases-indexes_placed l = 6 * most size-TypedExpr l.indexes.now + 2

abbrev pub decreases-element_place : goal.decreases-element_place
decreases-element_place l = 6 * most size-TypedExpr l.indexes.now + 3

abbrev pub decreases-element : goal.decreases-element
decreases-element l = 6 * most size-TypedExpr l.indexes.now + 4

abbrev pub decreases-slice : goal.decreases-slice
decreases-slice l = 6 * size-TypedExpr l.of.now + 1

abbrev pub decreases-conversion : goal.decreases-conversion
decreases-conversion l = 6 * size-TypedExpr l.operand.now + 1

abbrev pub decreases-unary : goal.decreases-unary
decreases-unary l = 6 * size-TypedExpr l.operand.now + 1

abbrev pub decreases-both : goal.decreases-both
decreases-both l = 6 * max (size-TypedExpr l.left.now) (size-TypedExpr l.right.now) + 1

abbrev pub decreases-bit : goal.decreases-bit
decreases-bit l = 6 * max (size-TypedExpr l.of.now) (size-TypedExpr l.index.now) + 2

abbrev pub decreases-binary : goal.decreases-binary
decreases-binary l = 6 * max (size-TypedExpr l.left.now) (size-TypedExpr l.right.now) + 2

abbrev pub decreases-quotient : goal.decreases-quotient
decreases-quotient l = 6 * max (size-TypedExpr l.left.now) (size-TypedExpr l.right.now) + 2

abbrev pub decreases-logical : goal.decreases-logical
decreases-logical l = 6 * max (size-TypedExpr l.left.now) (size-TypedExpr l.right.now) + 2

-- what the indexes that are left add from here is what all add from the beginning
abbrev pub invariant-indexes_placed-indexes : goal.invariant-indexes_placed-indexes
invariant-indexes_placed-indexes l =
    ((all : List Instr) (end : ℕ) → EmitsIndexes l.lengths l.first l.indexes l.base l.cell l.end l.out all end
    → EmitsIndexes l.fn.lengths l.first l.fn.indexes l.base l.cell l.fn.at l.fn.out all end)
    × (most size-TypedExpr l.indexes ≤ most size-TypedExpr l.fn.indexes)

abbrev pub decreases-indexes_placed-indexes : goal.decreases-indexes_placed-indexes
decreases-indexes_placed-indexes l = length l.indexes
