use Rattle.qt_ring.specs.State.{project}
use Rattle.qt_measure.proofs.Projected.{Common}
use Rattle.qt_measure.proofs.kept.common_twos.Given as goal

abbrev pub invariant-loop-index : goal.invariant-loop-index
invariant-loop-index l = Common l.state.halvings (project l.qubit l.outcome l.state).entries l.index l.by
