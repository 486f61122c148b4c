use Rattle.std.proofs.Common.{rules, arith, ◌≡◌, true, sym, subst}
use Rattle.std.proofs.lemmas.Grind.{common_steps}
use Rattle.qt_terminals.specs.Terminals.{stream}
use Rattle.qt_grammar.specs.Sorts.{expr, optional, both}
use Rattle.qt_grammar.specs.Form.{member, terminal_at, maybe}
use Rattle.qt_grammar.specs.Lookahead.{first}
use Rattle.qt_terminals.specs.declared.terminal.Terminal.TheVariants as w
use Rattle.qt_grammar.specs.Language.{◌⊗◌, ◌⊳◌, exactly, expression}
use Rattle.qt_grammar.specs.Outcome.{Says}
use Rattle.qt_expr.specs.Parser.{read_bounds_or_none, read_bounds}
use Rattle.qt_expr.proofs.HandedOn.{present_says}
use Rattle.qt_expr.proofs.reader.Reader.bounds_or_none.Goals as goal

pub returns : goal.returns
unfolding read_bounds_or_none read_bounds
returns g c =
    let ts = c.args.tokens.now in
    let begins : member (terminal_at (stream ts) c.args.at) (first {s = both expr (optional (optional expr))} (expression ⊗ maybe {s = optional expr} (exactly w.Colon ⊳ maybe expression))) ≡ true = first_of (search rules, grind (arith, common_steps)) in
    subst (λ out. Says (read_bounds_or_none ts c.args.nesting.levels c.args.nesting.outer c.args.at) out) (sym c.present.ensures) (present_says ts c.args.nesting.levels c.args.nesting.outer c.args.at {s = both expr (optional (optional expr))} (expression ⊗ maybe {s = optional expr} (exactly w.Colon ⊳ maybe expression)) c.bounds.result begins c.bounds.ensures)
