use Rattle.std.proofs.Common.{rules, arith, Ok, Err}
use Rattle.std.proofs.lemmas.Grind.{common_steps}
use Rattle.qt_tree.specs.declared.statement.StatementForm.TheVariants as s
use Rattle.qt_terminals.specs.declared.terminal.Terminal.TheVariants as w
use Rattle.qt_grammar.specs.Sorts.{operand}
use Rattle.qt_grammar.specs.Language.{an_operand}
use Rattle.qt_simple_statements.specs.Parser.{read_reset, read_operand}
use Rattle.qt_simple_statements.proofs.Semicolons.{led_statement_says}
use Rattle.qt_simple_statements.proofs.statements.reset.Goals as goal

pub returns-in_err-qubits : goal.returns-in_err-qubits
unfolding read_reset read_operand
returns-in_err-qubits c =
    let ts = c.args.tokens.now in
    let h = led_statement_says ts c.args.levels c.args.at {s = operand} (an_operand) (s.Reset) w.Reset c.in_ok-at.at c.operand-qubits.result (Err c.in_err-qubits.field-0.0) c.in_ok-at.ensures c.operand-qubits.ensures c.in_err-qubits.ensures in
    first_of (search rules, grind (arith, common_steps))

pub returns : goal.returns
unfolding read_reset read_operand
returns c =
    let ts = c.args.tokens.now in
    led_statement_says ts c.args.levels c.args.at {s = operand} (an_operand) (s.Reset) w.Reset c.in_ok-at.at c.operand-qubits.result (Ok (c.in_ok-qubits.qubits, c.in_ok-qubits.at)) c.in_ok-at.ensures c.operand-qubits.ensures c.in_ok-qubits.ensures
