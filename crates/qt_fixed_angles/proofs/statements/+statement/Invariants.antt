-- The recursion goes down the tree: a body has smaller statements.
use Rattle.std.proofs.Common.{◌≡◌, ◌≤◌, ◌+◌, ◌*◌, max, length}
use denote.Param.Weighed.{most}
use Rattle.qt_typed.specs.declared.statement.TypedStatement.{size-TypedStatement}
use Rattle.qt_fixed_angles.specs.Angles as spec
use Rattle.qt_fixed_angles.specs.Reached.{angle_in}
use Rattle.qt_fixed_angles.proofs.statements.+statement.Given as goal

abbrev pub decreases-statement_angle : goal.decreases-statement_angle
decreases-statement_angle l = 3 * size-TypedStatement l.statement.now

abbrev pub decreases-list_angle : goal.decreases-list_angle
decreases-list_angle l = 3 * most size-TypedStatement l.statements.now + 1

abbrev pub decreases-branch_angle : goal.decreases-branch_angle
decreases-branch_angle l = 3 * max (most size-TypedStatement l.body.now) (most size-TypedStatement l.otherwise.now) + 2

-- no angle of the statements so far is wrong
abbrev pub invariant-list_angle-statements : goal.invariant-list_angle-statements
invariant-list_angle-statements l =
    (spec.list_angle (angle_in l.known) l.left ≡ spec.list_angle (angle_in l.known) l.fn.statements)
    × (most size-TypedStatement l.left ≤ most size-TypedStatement l.fn.statements)

abbrev pub decreases-list_angle-statements : goal.decreases-list_angle-statements
decreases-list_angle-statements l = length l.left
