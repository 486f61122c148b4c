use Rattle.std.proofs.Common.{◌≡◌, length}
use Rattle.qt_typing.specs.Gates.{any_clashes}
use Rattle.qt_check_gate_calls.proofs.operands.any_clashes.Given as goal

abbrev pub invariant-loop-done : goal.invariant-loop-done
invariant-loop-done l = any_clashes l.done l.of ≡ any_clashes l.fn.done l.of

abbrev pub decreases-loop-done : goal.decreases-loop-done
decreases-loop-done l = length l.done
