use Rattle.qt_unit.proofs.EpsilonParts.{Downward}
use Rattle.qt_unit.proofs.epsilon.parts_down.Given as goal

abbrev pub invariant-loop-step : goal.invariant-loop-step
invariant-loop-step l = Downward l._step l.a l.b
