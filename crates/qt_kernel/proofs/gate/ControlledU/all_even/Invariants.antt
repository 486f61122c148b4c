use Rattle.std.proofs.Common.{ℕ, ◌<◌, ◌+◌}
use Rattle.qt_ring.specs.Ring.{two_to}
use Rattle.qt_ring.specs.Division.{Divides}
use Rattle.qt_kernel.specs.Gates.{entry_after}
use Rattle.qt_kernel.proofs.gate.ControlledU.all_even.Given as goal

abbrev pub invariant-loop-index : goal.invariant-loop-index
invariant-loop-index l = (k : ℕ) → k < l.index → Divides (two_to (l.by + 1)) (entry_after l.self l.entries k)
