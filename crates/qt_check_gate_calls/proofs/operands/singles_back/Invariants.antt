use Rattle.std.proofs.Common.{◌≡◌, ◌++◌, length, reverse}
use Rattle.qt_typing.specs.Gates.{singles}
use Rattle.qt_check_gate_calls.proofs.operands.singles_back.Given as goal

abbrev pub invariant-loop-operand : goal.invariant-loop-operand
invariant-loop-operand l = l.back ++ reverse (singles l.operands) ≡ reverse (singles l.fn.operands)

abbrev pub decreases-loop-operand : goal.decreases-loop-operand
decreases-loop-operand l = length l.operands
