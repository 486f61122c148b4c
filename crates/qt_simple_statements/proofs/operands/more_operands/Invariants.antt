use Rattle.std.proofs.Common.{◌≡◌, ◌-◌, None, length}
use Rattle.qt_grammar.specs.Sorts.{operand}
use Rattle.qt_grammar.specs.Language as g
use Rattle.qt_expr.specs.Parser.{rest_separated}
use Rattle.qt_simple_statements.proofs.operands.more_operands.Given as goal

abbrev pub invariant-turn : goal.invariant-turn
invariant-turn l = rest_separated l.tokens {s = operand} l.between g.an_operand l.levels None (length l.tokens) l.fn.all l.fn.at
    ≡ rest_separated l.tokens {s = operand} l.between g.an_operand l.levels None (l.turn-end - l.turn) l.all l.at
