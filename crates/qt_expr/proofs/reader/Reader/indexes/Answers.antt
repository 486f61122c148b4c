use Rattle.qt_terminals.specs.declared.terminal.Terminal.TheVariants as w
use Rattle.qt_grammar.specs.Sorts.{index, several, an_index}
use Rattle.qt_grammar.specs.Form.{named}
use Rattle.qt_grammar.specs.Language.{commas}
use Rattle.qt_expr.specs.Parser.{read_indexes, read_index_list}
use Rattle.qt_expr.proofs.HandedOn.{enclosed_says}
use Rattle.qt_expr.proofs.reader.Reader.indexes.Goals as goal

pub returns : goal.returns
unfolding read_indexes read_index_list
returns g c = rw c.closed.ensures (enclosed_says c.args.tokens.now c.args.nesting.levels c.args.nesting.outer c.args.at {s = several index} (commas {s = index} (named an_index)) w.LeftBracket w.RightBracket c.in_ok-at.at c.index_list.result c.in_ok-at.ensures c.index_list.ensures)
