use Rattle.std.proofs.Common.{◌≡◌}
use Rattle.qt_ring.specs.Ring.{times, two_to}
use Rattle.qt_vector.specs.States.{IsSmall}
use Rattle.qt_measure.proofs.twos.halved.Given as goal

abbrev pub invariant-loop-step : goal.invariant-loop-step
invariant-loop-step l = record {
  value : times (two_to l._step) l.rest ≡ l.fn.amplitude;
  small : IsSmall l.rest;
}
