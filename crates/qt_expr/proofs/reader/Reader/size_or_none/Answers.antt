use Rattle.std.proofs.Common.{rules, arith, ◌≡◌, true}
use Rattle.std.proofs.lemmas.Grind.{common_steps}
use Rattle.qt_terminals.specs.Terminals.{stream}
use Rattle.qt_grammar.specs.Sorts.{expr}
use Rattle.qt_grammar.specs.Form.{member, terminal_at}
use Rattle.qt_grammar.specs.Lookahead.{first}
use Rattle.qt_grammar.specs.Language.{size}
use Rattle.qt_expr.specs.Parser.{read_sized, read_size}
use Rattle.qt_expr.proofs.HandedOn.{present_says, says_on}
use Rattle.qt_expr.proofs.reader.Reader.size_or_none.Goals as goal

pub returns : goal.returns
unfolding read_sized read_size
returns g c =
    let ts = c.args.tokens.now in
    let begins : member (terminal_at (stream ts) c.args.at) (first {s = expr} (size)) ≡ true = first_of (search rules, grind (arith, common_steps)) in
    rw c.present.ensures (present_says ts c.args.nesting.levels c.args.nesting.outer c.args.at {s = expr} (size) c.boxed.result begins (says_on _ c.size.result c.boxed.result c.size.ensures c.boxed.ensures))
