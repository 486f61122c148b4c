use Rattle.std.proofs.Common.{◌≡◌, ◌++◌, length, reverse}
use Rattle.qt_typing.specs.Gates.{singles}
use Rattle.qt_check_gate_calls.proofs.operands.singles.Given as goal

abbrev pub invariant-loop-qubit : goal.invariant-loop-qubit
invariant-loop-qubit l = l.qubits ++ reverse l.back ≡ singles l.fn.operands

abbrev pub decreases-loop-qubit : goal.decreases-loop-qubit
decreases-loop-qubit l = length l.back
