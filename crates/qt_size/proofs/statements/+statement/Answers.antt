use Rattle.qt_typed.specs.Size.{list_size}
use Rattle.qt_size.specs.Known.{sizes_in}
use Rattle.qt_size.proofs.Sizes.{counted}
use Rattle.qt_size.proofs.StatementViews.{branch_counted, loop_counted}
use Rattle.qt_size.proofs.statements.+statement.Goals as goal

pub list_size-returns : goal.list_size-returns
list_size-returns t c =
    counted (sizes_in c.args.known.now) c.statements.size c.statements.left.now
    (list_size (sizes_in c.args.known.now) c.args.statements.now) c.in_default.len_below c.statements.invariant.2 c.statements.invariant.0

pub statement_size-returns-in-If : goal.statement_size-returns-in-If
statement_size-returns-in-If t c =
    branch_counted (sizes_in c.args.known.now) c.args.statement.now c.in-If.at c.in-If.condition c.in-If.body c.in-If.body_slots
    c.in-If.otherwise c.in-If.otherwise_slots c.branch_size.result c.in-If.is
    (rw (← c.as_slice.ensures, ← c.as_slice-in-If.ensures) c.branch_size.ensures)

pub statement_size-returns-in-Loop : goal.statement_size-returns-in-Loop
statement_size-returns-in-Loop t c =
    loop_counted (sizes_in c.args.known.now) c.args.statement.now c.in-Loop.at c.in-Loop.over c.in-Loop.loop_slots c.in-Loop.body
    c.in-Loop.body_slots c.loop_size.result c.in-Loop.is (rw (← c.as_slice-in-Loop.ensures) c.loop_size.ensures)
