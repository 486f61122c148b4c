use Rattle.std.proofs.Common.{rules, arith, Ok, Err}
use Rattle.std.proofs.lemmas.Grind.{common_steps}
use Rattle.qt_tree.specs.declared.statement.StatementForm.TheVariants as s
use Rattle.qt_terminals.specs.declared.terminal.Terminal.TheVariants as w
use Rattle.qt_grammar.specs.Sorts.{operand, several}
use Rattle.qt_grammar.specs.Language.{or_none, operands}
use Rattle.qt_simple_statements.specs.Parser.{read_barrier, read_any_operands}
use Rattle.qt_simple_statements.proofs.Semicolons.{led_statement_says}
use Rattle.qt_simple_statements.proofs.statements.barrier.Goals as goal

pub returns-in_err-qubits : goal.returns-in_err-qubits
unfolding read_barrier read_any_operands
returns-in_err-qubits c =
    let ts = c.args.tokens.now in
    let h = led_statement_says ts c.args.levels c.args.at {s = several operand} (or_none {s = operand} operands) (s.Barrier) w.Barrier c.in_ok-at.at c.any_operands-qubits.result (Err c.in_err-qubits.field-0.0) c.in_ok-at.ensures c.any_operands-qubits.ensures c.in_err-qubits.ensures in
    first_of (search rules, grind (arith, common_steps))

pub returns : goal.returns
unfolding read_barrier read_any_operands
returns c =
    let ts = c.args.tokens.now in
    led_statement_says ts c.args.levels c.args.at {s = several operand} (or_none {s = operand} operands) (s.Barrier) w.Barrier c.in_ok-at.at c.any_operands-qubits.result (Ok (c.in_ok-qubits.qubits, c.in_ok-qubits.at)) c.in_ok-at.ensures c.any_operands-qubits.ensures c.in_ok-qubits.ensures
