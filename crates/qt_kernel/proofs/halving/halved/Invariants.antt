use Rattle.qt_kernel.proofs.Halves.{Halving}
use Rattle.qt_kernel.proofs.halving.halved.Given as goal

abbrev pub invariant-loop-step : goal.invariant-loop-step
invariant-loop-step l = Halving l.by l.fn.x l._step l.rest
