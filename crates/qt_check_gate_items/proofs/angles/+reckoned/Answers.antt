use Rattle.qt_tree.specs.declared.expression.Expr.TheVariants.{outs-Call}
use Rattle.qt_check_gate_items.proofs.angles.+reckoned.Goals as goal

pub angle_form-returns-in-Call : goal.angle_form-returns-in-Call
angle_form-returns-in-Call t c = rw (c.in-Call.is, outs-Call c.in-Call.name c.in-Call.arguments) c.call_reckoned.ensures
