use Rattle.std.proofs.Common.{[], map}
use Rattle.qt_print.specs.Programs.{gate_head, gate_statement_lines}
use Rattle.qt_print.proofs.Lines.{block_puts}
use Rattle.qt_print.proofs.program.put_gate_item.Goals as goal

pub returns : goal.returns
returns c = block_puts _ _ _ _ _ [] (gate_head c.args.gate.now) (map gate_statement_lines c.args.gate.now.body) c.begin.ensures c.put_gate_head.ensures (rw (← c.as_slice.ensures) c.put_gate_body.ensures) c.end.ensures
