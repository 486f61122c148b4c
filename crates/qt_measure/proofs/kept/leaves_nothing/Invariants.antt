use Rattle.std.proofs.Common.{◌≡◌, ℕ, ◌<◌, get_or}
use Rattle.qt_ring.specs.Ring.{nil}
use Rattle.qt_ring.specs.State.{project}
use Rattle.qt_measure.proofs.kept.leaves_nothing.Given as goal

abbrev pub invariant-loop-index : goal.invariant-loop-index
invariant-loop-index l = (j : ℕ) → j < l.index → get_or (project l.qubit l.outcome l.state).entries j nil ≡ nil
