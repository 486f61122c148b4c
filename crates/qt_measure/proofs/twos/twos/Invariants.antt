use Rattle.std.proofs.Common.{◌≡◌}
use Rattle.qt_ring.specs.Ring.{times, two_to}
use Rattle.qt_vector.specs.States.{IsSmall}
use Rattle.qt_measure.proofs.twos.twos.Given as goal

abbrev pub invariant-loop-by : goal.invariant-loop-by
invariant-loop-by l = record {
  value : times (two_to l.by) l.rest ≡ l.fn.amplitude;
  small : IsSmall l.rest;
}
