use Rattle.std.proofs.Common.{◌≡◌, ◌++◌, length}
use Rattle.qt_typing.specs.GateItems.{body_qubits}
use Rattle.qt_check_gate_items.proofs.bodies.body_qubits.Given as goal

abbrev pub invariant-loop-operands : goal.invariant-loop-operands
invariant-loop-operands l = l.qubits ++ body_qubits l.operands ≡ body_qubits l.fn.operands

abbrev pub decreases-loop-operands : goal.decreases-loop-operands
decreases-loop-operands l = length l.operands
