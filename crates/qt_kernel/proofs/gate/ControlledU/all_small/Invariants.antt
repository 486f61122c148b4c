use Rattle.std.proofs.Common.{◌≡◌, ℕ, ◌<◌}
use Rattle.qt_ring.specs.declared.omega.Omega.{Omega}
use Rattle.qt_ring.specs.Ring.{two_to, times}
use Rattle.qt_vector.specs.States.{IsSmall}
use Rattle.qt_kernel.specs.Gates.{entry_after}
use Rattle.qt_kernel.proofs.gate.ControlledU.all_small.Given as goal

abbrev pub invariant-loop-index : goal.invariant-loop-index
invariant-loop-index l = (k : ℕ) → k < l.index → (y : Omega) → times (two_to l.by) y ≡ entry_after l.self l.entries k → IsSmall y
