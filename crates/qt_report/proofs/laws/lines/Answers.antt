use Rattle.qt_report.proofs.Lines.{report_lines-are_lines, concat-report_lines}
use Rattle.qt_report.proofs.laws.lines.Goals as goal

pub returns-clause-whole : goal.returns-clause-whole
returns-clause-whole c = concat-report_lines c.args.of.now

pub returns-clause-each : goal.returns-clause-each
returns-clause-each c = report_lines-are_lines c.args.of.now
