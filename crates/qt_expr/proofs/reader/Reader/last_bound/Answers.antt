use Rattle.std.proofs.Common.{◌≡◌, [], ◌∷◌, true, rules, arith}
use Rattle.std.proofs.lemmas.Grind.{common_steps}
use Rattle.qt_terminals.specs.declared.terminal.Terminal.TheVariants as w
use Rattle.qt_terminals.specs.Alphabet.{code}
use Rattle.qt_terminals.specs.Terminals.{stream}
use Rattle.qt_grammar.specs.Form.{member, terminal_at}
use Rattle.qt_expr.proofs.Forms.{last_bound_says}
use Rattle.qt_expr.proofs.reader.Reader.last_bound.Goals as goal

pub returns : goal.returns
returns g c =
    let ts = c.args.tokens.now in
    let begins : member (terminal_at (stream ts) c.args.at) (code w.Colon ∷ []) ≡ true = first_of (search rules, grind (arith, common_steps)) in
    rw c.present.ensures (last_bound_says ts c.args.nesting.levels c.args.nesting.outer c.args.at c.in_ok-at.at c.expression_or_none.result begins c.in_ok-at.ensures c.expression_or_none.ensures)
