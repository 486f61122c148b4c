use Rattle.std.proofs.Common.{◌≡◌}
use Rattle.qt_gate_calls.specs.Primitives.{repeated}
use Rattle.qt_primitives.proofs.primitives.copies.Given as goal

abbrev pub invariant-loop-i : goal.invariant-loop-i
invariant-loop-i l = l.copies ≡ repeated l._i l.primitives
