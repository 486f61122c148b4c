use Rattle.std.proofs.Common.{◌≡◌, length}
use Rattle.qt_typing.specs.GateItems.{body_barrier}
use Rattle.qt_check_gate_items.proofs.bodies.body_barrier.Given as goal

abbrev pub invariant-loop-qubits : goal.invariant-loop-qubits
invariant-loop-qubits l = body_barrier l.place l.qubits l.names ≡ body_barrier l.place l.fn.qubits l.names

abbrev pub decreases-loop-qubits : goal.decreases-loop-qubits
decreases-loop-qubits l = length l.qubits
