use Rattle.std.proofs.Common.{◌≡◌, length}
use Rattle.qt_primitives.specs.Primitives.{inner_qubits}
use Rattle.qt_primitives.proofs.primitives.inner_qubits.Given as goal

abbrev pub invariant-modifiers : goal.invariant-modifiers
invariant-modifiers l = inner_qubits l.modifiers l.qubits ≡ inner_qubits l.fn.modifiers l.fn.qubits

abbrev pub decreases-modifiers : goal.decreases-modifiers
decreases-modifiers l = length l.modifiers
