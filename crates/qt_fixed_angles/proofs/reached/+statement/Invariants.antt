-- The recursion goes down the tree: a body has smaller statements.
use Rattle.std.proofs.Common.{◌≡◌, ◌≤◌, ◌+◌, ◌*◌, max, length}
use denote.Param.Weighed.{most}
use Rattle.qt_typed.specs.declared.statement.TypedStatement.{size-TypedStatement}
use Rattle.qt_fixed_angles.proofs.Marking.{Rest}
use Rattle.qt_fixed_angles.proofs.reached.+statement.Given as goal

abbrev pub decreases-mark_statement : goal.decreases-mark_statement
decreases-mark_statement l = 3 * size-TypedStatement l.statement.now

abbrev pub decreases-mark_list : goal.decreases-mark_list
decreases-mark_list l = 3 * most size-TypedStatement l.statements.now + 1

abbrev pub decreases-mark_branch : goal.decreases-mark_branch
decreases-mark_branch l = 3 * max (most size-TypedStatement l.body.now) (most size-TypedStatement l.otherwise.now) + 2

-- the calls of the statements that are left are to be marked
abbrev pub invariant-mark_list-statements : goal.invariant-mark_list-statements
invariant-mark_list-statements l = record {
  rest : Rest l.below l.flags l.left l.fn.flags l.fn.statements;
  len : length l.flags ≡ length l.fn.flags;
  smaller : most size-TypedStatement l.left ≤ most size-TypedStatement l.fn.statements;
}

abbrev pub decreases-mark_list-statements : goal.decreases-mark_list-statements
decreases-mark_list-statements l = length l.left
