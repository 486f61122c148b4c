use Rattle.std.proofs.Common.{map, drop, codes}
use Rattle.qt_print.specs.Statements.{all_lines}
use Rattle.qt_print.specs.Programs.{gate_statement_lines}
use Rattle.qt_print.proofs.Lines.{LinesLeft}
use Rattle.qt_print.proofs.program.put_gate_statements.Given as goal

-- what is put and what is still to come are the whole
abbrev pub invariant-loop-statement : goal.invariant-loop-statement
invariant-loop-statement l = LinesLeft (codes "  ") l.fn.page (all_lines (map gate_statement_lines l.all)) l.page (all_lines (map gate_statement_lines (drop l.statement-index l.all)))
