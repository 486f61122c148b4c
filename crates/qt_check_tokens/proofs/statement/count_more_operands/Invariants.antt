-- What is counted and the parts still to come are the whole.
use Rattle.std.proofs.Common.{◌≡◌, ◌+◌, map, length}
use Rattle.qt_typing.specs.Tokens.{more, operand_tokens}
use Rattle.qt_check_tokens.proofs.statement.count_more_operands.Given as goal

abbrev pub invariant-operands : goal.invariant-operands
invariant-operands l = l.fn.total + more (map operand_tokens l.fn.operands) ≡ l.total + more (map operand_tokens l.left)

abbrev pub decreases-operands : goal.decreases-operands
decreases-operands l = length l.left
