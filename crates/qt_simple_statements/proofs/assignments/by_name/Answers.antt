use Rattle.std.proofs.Common.{◌≡◌, Ok}
use Rattle.qt_terminals.specs.declared.terminal.Terminal.TheVariants as w
use Rattle.qt_terminals.specs.Alphabet.{code}
use Rattle.qt_expr.specs.Parser.{read_label}
use Rattle.qt_expr.proofs.HandedOn.{closed_says}
use Rattle.qt_simple_statements.specs.Parser.{read_behind_first_name}
use Rattle.qt_simple_statements.proofs.Tails.{by_name_is}
use Rattle.qt_simple_statements.proofs.assignments.by_name.Goals as goal

pub returns : goal.returns
returns c =
    let ts = c.args.tokens.now in
    let name : read_label ts c.args.at ≡ Ok (c.in_ok-name.name, c.in_ok-name.at) = c.in_ok-name.ensures in
    let h = closed_says ts (code w.Semicolon) (read_behind_first_name ts c.args.levels c.in_ok-name.name c.in_ok-name.at) c.behind_first_name-form.result c.behind_first_name-form.ensures in
    rw (by_name_is ts c.args.levels c.args.at, name, c.closed.ensures) h
