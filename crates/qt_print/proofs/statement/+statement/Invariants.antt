use Rattle.std.proofs.Common.{ℕ, ◌+◌, ◌*◌, max, Option, Some, None, List, map, drop}
use denote.Param.Weighed.{most}
use Rattle.qt_tree.specs.declared.statement.Statement.{Statement, size-Statement}
use Rattle.qt_tree.specs.declared.statement.StatementForm.{size-StatementForm}
use Rattle.qt_print.specs.Statements.{all_lines, statement_lines}
use Rattle.qt_print.proofs.Lines.{LinesLeft}
use Rattle.qt_print.proofs.statement.+statement.Given as goal

-- what is put and the statements still to come are the whole
abbrev pub invariant-put_statements-loop-statement : goal.invariant-put_statements-loop-statement
invariant-put_statements-loop-statement l = LinesLeft l.margin l.fn.page (all_lines (map statement_lines l.all)) l.page (all_lines (map statement_lines (drop l.statement-index l.all)))

-- the depth of what is put, and within a depth who calls whom
abbrev pub size_of_other : Option (List Statement) → ℕ
size_of_other None = 0
size_of_other (Some other) = most size-Statement other

abbrev pub decreases-put_statement : goal.decreases-put_statement
decreases-put_statement l = 5 * size-Statement l.statement.now

abbrev pub decreases-put_form : goal.decreases-put_form
decreases-put_form l = 5 * size-StatementForm l.form.now

abbrev pub decreases-put_statements : goal.decreases-put_statements
decreases-put_statements l = 5 * most size-Statement l.all.now + 1

abbrev pub decreases-put_body : goal.decreases-put_body
decreases-put_body l = 5 * most size-Statement l.body.now + 2

abbrev pub decreases-put_else : goal.decreases-put_else
decreases-put_else l = 5 * size_of_other l.otherwise.now + 3

abbrev pub decreases-put_while : goal.decreases-put_while
decreases-put_while l = 5 * most size-Statement l.body.now + 3

abbrev pub decreases-put_for : goal.decreases-put_for
decreases-put_for l = 5 * most size-Statement l.body.now + 3

abbrev pub decreases-put_if : goal.decreases-put_if
decreases-put_if l = 5 * max (most size-Statement l.body.now) (size_of_other l.otherwise.now) + 4
