use Rattle.qt_terminals.specs.declared.terminal.Terminal.TheVariants as w
use Rattle.qt_grammar.specs.Sorts.{expr, any}
use Rattle.qt_grammar.specs.Form.{named}
use Rattle.qt_expr.specs.Parser.{read_in_parentheses, read_any}
use Rattle.qt_expr.proofs.HandedOn.{enclosed_says}
use Rattle.qt_expr.proofs.reader.Reader.in_parentheses.Goals as goal

pub returns : goal.returns
unfolding read_in_parentheses read_any
returns g c = rw c.closed.ensures (enclosed_says c.args.tokens.now c.args.nesting.levels c.args.nesting.outer c.args.at {s = expr} (named any) w.LeftParen w.RightParen c.in_ok-at.at c.any.result c.in_ok-at.ensures c.any.ensures)
