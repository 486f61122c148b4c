use Rattle.std.proofs.Common.{◌≡◌, take}
use Rattle.qt_ring.specs.Multiples.{scaled}
use Rattle.qt_ring.specs.Ring.{two_to}
use Rattle.qt_ring.specs.State.{project}
use Rattle.qt_vector.specs.States.{AreSmall}
use Rattle.qt_measure.proofs.kept.kept_halved.Given as goal

abbrev pub invariant-loop-index : goal.invariant-loop-index
invariant-loop-index l = record {
  value : scaled (two_to l.by) l.kept.items ≡ take l.index (project l.qubit l.outcome l.state).entries;
  small : AreSmall l.kept.items;
}
