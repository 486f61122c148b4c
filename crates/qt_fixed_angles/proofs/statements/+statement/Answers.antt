use Rattle.qt_fixed_angles.specs.Reached.{angle_in}
use Rattle.qt_fixed_angles.proofs.Views.{branch_found, loop_found}
use Rattle.qt_fixed_angles.proofs.statements.+statement.Goals as goal

pub statement_angle-returns-in-If : goal.statement_angle-returns-in-If
statement_angle-returns-in-If t c =
    branch_found (angle_in c.args.known.now) c.args.statement.now c.in-If.at c.in-If.condition c.in-If.body c.in-If.body_slots
    c.in-If.otherwise c.in-If.otherwise_slots c.branch_angle.result c.in-If.is
    (rw (← c.as_slice.ensures, ← c.as_slice-in-If.ensures) c.branch_angle.ensures)

pub statement_angle-returns-in-Loop : goal.statement_angle-returns-in-Loop
statement_angle-returns-in-Loop t c =
    loop_found (angle_in c.args.known.now) c.args.statement.now c.in-Loop.at c.in-Loop.over c.in-Loop.loop_slots c.in-Loop.body
    c.in-Loop.body_slots c.list_angle.result c.in-Loop.is (rw (← c.as_slice-in-Loop.ensures) c.list_angle.ensures)
