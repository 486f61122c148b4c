use Rattle.std.proofs.Common.{◌≡◌, ◌≤◌, ◌+◌, length}
use Rattle.qt_typing.specs.Gates.{controls}
use Rattle.qt_check_gate_calls.proofs.modifiers.controls.Given as goal

abbrev pub invariant-loop-modifiers : goal.invariant-loop-modifiers
invariant-loop-modifiers l =
    (l.count + controls l.modifiers ≡ controls l.fn.modifiers) × (l.count + length l.modifiers ≤ length l.fn.modifiers)

abbrev pub decreases-loop-modifiers : goal.decreases-loop-modifiers
decreases-loop-modifiers l = length l.modifiers
