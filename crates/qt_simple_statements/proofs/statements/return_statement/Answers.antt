use Rattle.std.proofs.Common.{rules, arith, Ok, Err}
use Rattle.std.proofs.lemmas.Grind.{common_steps}
use Rattle.qt_tree.specs.declared.statement.StatementForm.TheVariants as s
use Rattle.qt_terminals.specs.declared.terminal.Terminal.TheVariants as w
use Rattle.qt_grammar.specs.Sorts.{right, optional}
use Rattle.qt_grammar.specs.Form.{maybe}
use Rattle.qt_grammar.specs.Language.{a_right}
use Rattle.qt_simple_statements.specs.Parser.{read_return, read_optional_right}
use Rattle.qt_simple_statements.proofs.Semicolons.{led_statement_says}
use Rattle.qt_simple_statements.proofs.statements.return_statement.Goals as goal

pub returns-in_err-value : goal.returns-in_err-value
unfolding read_return read_optional_right
returns-in_err-value c =
    let ts = c.args.tokens.now in
    let h = led_statement_says ts c.args.levels c.args.at {s = optional right} (maybe a_right) (s.Return) w.Return c.in_ok-at.at c.optional_right-value.result (Err c.in_err-value.field-0.0) c.in_ok-at.ensures c.optional_right-value.ensures c.in_err-value.ensures in
    first_of (search rules, grind (arith, common_steps))

pub returns : goal.returns
unfolding read_return read_optional_right
returns c =
    let ts = c.args.tokens.now in
    led_statement_says ts c.args.levels c.args.at {s = optional right} (maybe a_right) (s.Return) w.Return c.in_ok-at.at c.optional_right-value.result (Ok (c.in_ok-value.value, c.in_ok-value.at)) c.in_ok-at.ensures c.optional_right-value.ensures c.in_ok-value.ensures
