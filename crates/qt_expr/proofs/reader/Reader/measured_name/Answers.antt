use Rattle.qt_terminals.specs.declared.terminal.Terminal.TheVariants as w
use Rattle.qt_grammar.specs.Sorts.{expr, label, optional, both, in_sizeof}
use Rattle.qt_grammar.specs.Form.{named}
use Rattle.qt_expr.specs.Parser.{read_measured_name, read_in_size_of}
use Rattle.qt_expr.proofs.HandedOn.{enclosed_says}
use Rattle.qt_expr.proofs.reader.Reader.measured_name.Goals as goal

pub returns : goal.returns
unfolding read_measured_name read_in_size_of
returns g c = rw c.closed.ensures (enclosed_says c.args.tokens.now c.args.nesting.levels c.args.nesting.outer c.args.at {s = both label (optional expr)} (named in_sizeof) w.LeftParen w.RightParen c.in_ok-at.at c.in_size_of.result c.in_ok-at.ensures c.in_size_of.ensures)
