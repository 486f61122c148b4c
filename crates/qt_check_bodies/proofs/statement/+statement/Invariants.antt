-- The recursion goes down the tree: each call has a smaller statement or body, or comes later for the same one.
use Rattle.std.proofs.Common.{◌≡◌, ◌≤◌, ℕ, ◌+◌, ◌*◌, max, Option, Some, None, List, [], map, length}
use denote.Param.Weighed.{most}
use Rattle.qt_tree.specs.declared.statement.Statement.{Statement, size-Statement}
use Rattle.qt_tree.specs.declared.statement.StatementForm.{size-StatementForm}
use Rattle.qt_typing.specs.Statements.{each_from, statement_typing}
use Rattle.qt_check_bodies.proofs.statement.+statement.Given as goal

abbrev pub size_of_other : Option (List Statement) → ℕ
size_of_other None = 0
size_of_other (Some other) = most size-Statement other

abbrev pub decreases-statement_typed : goal.decreases-statement_typed
decreases-statement_typed l = 8 * size-Statement l.statement.now

abbrev pub decreases-form_typed : goal.decreases-form_typed
decreases-form_typed l = 8 * size-StatementForm l.form.now

abbrev pub decreases-each : goal.decreases-each
decreases-each l = 8 * most size-Statement l.body.now + 1

abbrev pub decreases-inside : goal.decreases-inside
decreases-inside l = 8 * most size-Statement l.body.now + 2

abbrev pub decreases-scoped : goal.decreases-scoped
decreases-scoped l = 8 * most size-Statement l.body.now + 3

abbrev pub decreases-optional_body : goal.decreases-optional_body
decreases-optional_body l = 8 * size_of_other l.otherwise.now + 4

abbrev pub decreases-branches : goal.decreases-branches
decreases-branches l = 8 * max (most size-Statement l.body.now) (size_of_other l.otherwise.now) + 5

abbrev pub decreases-branching : goal.decreases-branching
decreases-branching l = 8 * max (most size-Statement l.body.now) (size_of_other l.otherwise.now) + 6

abbrev pub decreases-while_body : goal.decreases-while_body
decreases-while_body l = 8 * most size-Statement l.body.now + 4

abbrev pub decreases-while_loop : goal.decreases-while_loop
decreases-while_loop l = 8 * most size-Statement l.body.now + 5

abbrev pub decreases-for_inside : goal.decreases-for_inside
decreases-for_inside l = 8 * most size-Statement l.body.now + 3

abbrev pub decreases-for_body : goal.decreases-for_body
decreases-for_body l = 8 * most size-Statement l.body.now + 4

abbrev pub decreases-for_loop : goal.decreases-for_loop
decreases-for_loop l = 8 * most size-Statement l.body.now + 5

-- what is done and the statements still to come are the whole
abbrev pub invariant-each-statements : goal.invariant-each-statements
invariant-each-statements l =
    (each_from l.around [] (map statement_typing l.fn.body) l.fn.state
    ≡ each_from l.around l.done (map statement_typing l.left) l.state)
    × (most size-Statement l.left ≤ most size-Statement l.fn.body)

abbrev pub decreases-each-statements : goal.decreases-each-statements
decreases-each-statements l = length l.left
