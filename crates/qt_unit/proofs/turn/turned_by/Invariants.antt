use Rattle.std.proofs.Common.{◌≡◌, ◌^◌}
use Rattle.qt_ring.specs.Wide.{number_of}
use Rattle.qt_ring.specs.Ring.{Within, times, root}
use Rattle.qt_unit.proofs.turn.turned_by.Given as goal

abbrev pub invariant-loop-step : goal.invariant-loop-step
invariant-loop-step l = record { value : number_of l.product ≡ times (root l._step) (number_of l.fn.x); size : Within (2 ^ 120) (number_of l.product) }
