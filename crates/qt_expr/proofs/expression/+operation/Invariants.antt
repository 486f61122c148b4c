use Rattle.std.proofs.Common.{◌≡◌, ◌+◌, ◌-◌, ◌*◌, length}
use Rattle.qt_expr.specs.Parser.{read_more_operands}
use Rattle.qt_expr.proofs.expression.+operation.Given as goal

abbrev pub decreases-operation : goal.decreases-operation
decreases-operation l = 32 * l.nesting.levels + 2 * (10 - l.strength) + 1

abbrev pub decreases-more_operands : goal.decreases-more_operands
decreases-more_operands l = 32 * l.nesting.levels + 2 * (10 - l.strength)

abbrev pub invariant-more_operands-turn : goal.invariant-more_operands-turn
invariant-more_operands-turn l = read_more_operands l.tokens l.nesting.levels l.nesting.outer l.strength (length l.tokens) l.fn.left l.fn.at ≡ read_more_operands l.tokens l.nesting.levels l.nesting.outer l.strength (l.turn-end - l.turn) l.left l.at
