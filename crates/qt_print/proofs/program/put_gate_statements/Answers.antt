use Rattle.std.proofs.Common.{codes, map}
use Rattle.qt_print.specs.Statements.{all_lines}
use Rattle.qt_print.specs.Programs.{gate_statement_lines}
use Rattle.qt_print.proofs.Lines.{lines_turn}
use Rattle.qt_print.proofs.program.put_gate_statements.Goals as goal

pub loop-statement-preserved : goal.loop-statement-preserved
loop-statement-preserved c = lines_turn gate_statement_lines (codes "  ") _ _ _ (all_lines (map gate_statement_lines c.args.all.now)) c.args.all.now c.loop-statement.statement-index c.statement-item.result c.loop-statement-test.true c.statement-item.is c.put_gate_statement.ensures c.loop-statement.invariant
