use Rattle.std.proofs.Common.{◌∙◌}
use Rattle.qt_check_bodies.proofs.Each.{from_none, ended}
use Rattle.qt_check_bodies.proofs.FormViews.{branch_makes}
use Rattle.qt_check_bodies.proofs.statement.+statement.Goals as goal

pub form_typed-returns-in-If : goal.form_typed-returns-in-If
form_typed-returns-in-If t c =
    branch_makes c.args.form.now c.args.place c.args.around c.args.state.now c.in-If.condition c.in-If.body c.in-If.otherwise c.in_ok-at.at
    c.branching.result c.branching.new.state c.in-If.is c.in_ok-at.ensures (rw (← c.as_slice-in-If.ensures) c.branching.ensures)

pub each-returns : goal.each-returns
each-returns t c =
    from_none c.args.around c.args.body.now c.args.state.now
    ∙ (c.statements.invariant.0 ∙ ended c.args.around c.statements.done c.statements.left.now c.statements.state c.in_default.len_below)
