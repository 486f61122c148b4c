use Rattle.qt_unit.proofs.EpsilonParts.{Upward}
use Rattle.qt_unit.proofs.epsilon.parts_up.Given as goal

abbrev pub invariant-loop-step : goal.invariant-loop-step
invariant-loop-step l = Upward l._step l.a l.b
