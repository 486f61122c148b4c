use Rattle.std.proofs.Common.{[], map}
use Rattle.qt_print.specs.Statements.{statement_lines}
use Rattle.qt_print.specs.Programs.{definition_head}
use Rattle.qt_print.proofs.Lines.{block_puts}
use Rattle.qt_print.proofs.program.put_definition.Goals as goal

pub returns : goal.returns
returns c = block_puts _ _ _ _ _ [] (definition_head c.args.definition.now) (map statement_lines c.args.definition.now.body) c.begin.ensures c.put_definition_head.ensures (rw (← c.as_slice.ensures) c.put_body.ensures) c.end.ensures
