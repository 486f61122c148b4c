-- The recursion goes down the tree: a body has smaller statements.
use Rattle.std.proofs.Common.{◌≡◌, ◌≤◌, ◌+◌, ◌*◌, max, length}
use denote.Param.Weighed.{most}
use Rattle.qt_gate_calls.specs.Stopped.{stopped}
use Rattle.qt_typed.specs.declared.statement.TypedStatement.{size-TypedStatement}
use Rattle.qt_typed.specs.Size as spec
use Rattle.qt_size.specs.Known.{sizes_in}
use Rattle.qt_size.proofs.statements.+statement.Given as goal

abbrev pub decreases-statement_size : goal.decreases-statement_size
decreases-statement_size l = 3 * size-TypedStatement l.statement.now

abbrev pub decreases-list_size : goal.decreases-list_size
decreases-list_size l = 3 * most size-TypedStatement l.statements.now + 1

abbrev pub decreases-branch_size : goal.decreases-branch_size
decreases-branch_size l = 3 * max (most size-TypedStatement l.body.now) (most size-TypedStatement l.otherwise.now) + 2

abbrev pub decreases-loop_size : goal.decreases-loop_size
decreases-loop_size l = 3 * most size-TypedStatement l.body.now + 2

-- the size so far and that of the statements that are left are the whole
abbrev pub invariant-list_size-statements : goal.invariant-list_size-statements
invariant-list_size-statements l =
    (stopped (l.size + spec.list_size (sizes_in l.known) l.left) ≡ stopped (spec.list_size (sizes_in l.known) l.fn.statements))
    × (most size-TypedStatement l.left ≤ most size-TypedStatement l.fn.statements) × (l.size ≤ 4294967295)

abbrev pub decreases-list_size-statements : goal.decreases-list_size-statements
decreases-list_size-statements l = length l.left
