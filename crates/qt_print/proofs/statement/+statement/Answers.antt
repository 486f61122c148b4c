use Rattle.std.proofs.Common.{map}
use Rattle.qt_print.specs.Statements.{all_lines, statement_lines}
use Rattle.qt_print.proofs.Lines.{lines_turn, if_puts}
use Rattle.qt_print.proofs.statement.+statement.Goals as goal

pub put_statements-loop-statement-preserved : goal.put_statements-loop-statement-preserved
put_statements-loop-statement-preserved t c =
    lines_turn statement_lines c.args.margin.now _ _ _ (all_lines (map statement_lines c.args.all.now)) c.args.all.now c.loop-statement.statement-index c.statement-item.result c.loop-statement-test.true c.statement-item.is
    c.put_statement.ensures c.loop-statement.invariant

pub put_form-returns-in-If : goal.put_form-returns-in-If
put_form-returns-in-If t c = if_puts _ _ _ c.args.margin.now c.args.form.now c.in-If.condition c.in-If.body c.in-If.otherwise c.in-If.is c.begin.ensures (rw (← c.as_slice-in-If.ensures) c.put_if.ensures)
