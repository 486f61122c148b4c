use Rattle.qt_fixed_angles.proofs.Views.{branch_marked, loop_marked}
use Rattle.qt_fixed_angles.proofs.reached.+statement.Goals as goal

pub mark_statement-returns-in-If-clause-marks : goal.mark_statement-returns-in-If-clause-marks
mark_statement-returns-in-If-clause-marks t c =
    branch_marked c.args.below c.args.flags.now c.mark_branch.new.flags c.args.statement.now c.in-If.at c.in-If.condition c.in-If.body
    c.in-If.body_slots c.in-If.otherwise c.in-If.otherwise_slots c.in-If.is
    (rw (← c.as_slice.ensures, ← c.as_slice-in-If.ensures) c.mark_branch.ensures.marks)

pub mark_statement-returns-in-Loop-clause-marks : goal.mark_statement-returns-in-Loop-clause-marks
mark_statement-returns-in-Loop-clause-marks t c =
    loop_marked c.args.below c.args.flags.now c.mark_list.new.flags c.args.statement.now c.in-Loop.at c.in-Loop.over c.in-Loop.loop_slots
    c.in-Loop.body c.in-Loop.body_slots c.in-Loop.is (rw (← c.as_slice-in-Loop.ensures) c.mark_list.ensures.marks)
