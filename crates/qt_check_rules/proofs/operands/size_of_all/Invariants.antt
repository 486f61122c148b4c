use Rattle.std.proofs.Common.{◌≡◌, length}
use Rattle.qt_typing.specs.Gates.{size_of_all}
use Rattle.qt_check_rules.proofs.operands.size_of_all.Given as goal

abbrev pub invariant-loop-operands : goal.invariant-loop-operands
invariant-loop-operands l = size_of_all l.operands ≡ size_of_all l.fn.operands

abbrev pub decreases-loop-operands : goal.decreases-loop-operands
decreases-loop-operands l = length l.operands
