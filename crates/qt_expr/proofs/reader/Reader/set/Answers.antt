use Rattle.qt_terminals.specs.declared.terminal.Terminal.TheVariants as w
use Rattle.qt_grammar.specs.Sorts.{expr, several, a_set}
use Rattle.qt_grammar.specs.Form.{named}
use Rattle.qt_expr.specs.Parser.{read_set, read_members}
use Rattle.qt_expr.proofs.HandedOn.{enclosed_says}
use Rattle.qt_expr.proofs.reader.Reader.set.Goals as goal

pub returns : goal.returns
unfolding read_set read_members
returns g c = rw c.closed.ensures (enclosed_says c.args.tokens.now c.args.nesting.levels c.args.nesting.outer c.args.at {s = several expr} (named a_set) w.LeftBrace w.RightBrace c.in_ok-at.at c.members.result c.in_ok-at.ensures c.members.ensures)
