use Rattle.std.proofs.Common.{◌≡◌, ◌^◌, ℕ}
use Rattle.qt_ring.specs.declared.omega.Omega.{Omega}
use Rattle.qt_ring.specs.Ring.{Within, times, root}
use Rattle.qt_ring.proofs.omega.Omega.times_omega.Given as goal

pub record Turned (x product : Omega) (step : ℕ) : Type 0 where
  pub value : product ≡ times (root step) x
  pub size : Within (2 ^ 54) product

abbrev pub invariant-loop-step : goal.invariant-loop-step
invariant-loop-step l = Turned l.fn.self l.product l._step
