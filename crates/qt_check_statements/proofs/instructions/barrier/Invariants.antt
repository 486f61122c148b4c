use Rattle.std.proofs.Common.{◌≡◌, length}
use Rattle.qt_typing.specs.Statements.{barrier}
use Rattle.qt_check_statements.proofs.instructions.barrier.Given as goal

abbrev pub invariant-loop-qubits : goal.invariant-loop-qubits
invariant-loop-qubits l = barrier l.place l.qubits l.names ≡ barrier l.place l.fn.qubits l.names

abbrev pub decreases-loop-qubits : goal.decreases-loop-qubits
decreases-loop-qubits l = length l.qubits
