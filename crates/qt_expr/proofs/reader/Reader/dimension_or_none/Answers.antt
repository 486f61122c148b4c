use Rattle.std.proofs.Common.{◌≡◌, [], ◌∷◌, true, rules, arith}
use Rattle.std.proofs.lemmas.Grind.{common_steps}
use Rattle.qt_terminals.specs.declared.terminal.Terminal.TheVariants as w
use Rattle.qt_terminals.specs.Alphabet.{code}
use Rattle.qt_terminals.specs.Terminals.{stream}
use Rattle.qt_grammar.specs.Form.{member, terminal_at}
use Rattle.qt_expr.specs.Parser.{read_expression}
use Rattle.qt_expr.proofs.HandedOn.{says_on}
use Rattle.qt_expr.proofs.Forms.{dimension_says}
use Rattle.qt_expr.proofs.reader.Reader.dimension_or_none.Goals as goal

pub returns : goal.returns
returns g c =
    let ts = c.args.tokens.now in
    let begins : member (terminal_at (stream ts) c.args.at) (code w.Comma ∷ []) ≡ true = first_of (search rules, grind (arith, common_steps)) in
    rw c.present.ensures (dimension_says ts c.args.nesting.levels c.args.nesting.outer c.args.at c.in_ok-at.at c.boxed.result begins c.in_ok-at.ensures (says_on (read_expression ts c.args.nesting.levels c.args.nesting.outer c.in_ok-at.at) c.expression.result c.boxed.result c.expression.ensures c.boxed.ensures))
