use Rattle.qt_terminals.specs.declared.terminal.Terminal.TheVariants as w
use Rattle.qt_grammar.specs.Sorts.{expr, several, any}
use Rattle.qt_grammar.specs.Form.{named}
use Rattle.qt_grammar.specs.Language.{or_none, commas}
use Rattle.qt_expr.specs.Parser.{read_arguments, read_list_or_none}
use Rattle.qt_expr.proofs.HandedOn.{enclosed_says}
use Rattle.qt_expr.proofs.reader.Reader.arguments.Goals as goal

pub returns : goal.returns
unfolding read_arguments read_list_or_none
returns g c = rw c.closed.ensures (enclosed_says c.args.tokens.now c.args.nesting.levels c.args.nesting.outer c.args.at {s = several expr} (or_none {s = expr} (commas {s = expr} (named any))) w.LeftParen w.RightParen c.in_ok-at.at c.list_or_none.result c.in_ok-at.ensures c.list_or_none.ensures)
