use Rattle.std.proofs.Common.{◌≡◌, length}
use Rattle.qt_primitives.specs.Primitives.{inner_controls}
use Rattle.qt_primitives.proofs.primitives.add_controls.Given as goal

abbrev pub invariant-modifiers : goal.invariant-modifiers
invariant-modifiers l = inner_controls l.modifiers l.qubits l.controls ≡ inner_controls l.fn.modifiers l.fn.qubits l.fn.controls

abbrev pub decreases-modifiers : goal.decreases-modifiers
decreases-modifiers l = length l.modifiers
