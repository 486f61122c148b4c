use Rattle.std.proofs.Common.{◌≡◌, ◌-◌, length}
use Rattle.qt_grammar.specs.Language.{indexes}
use Rattle.qt_expr.specs.Parser.{rest_some}
use Rattle.qt_expr.proofs.reader.Reader.more_of_all_indexes.Given as goal

abbrev pub invariant-turn : goal.invariant-turn
invariant-turn g l = rest_some l.tokens indexes l.nesting.levels l.nesting.outer (length l.tokens) l.fn.all l.fn.at ≡ rest_some l.tokens indexes l.nesting.levels l.nesting.outer (l.turn-end - l.turn) l.all l.at
