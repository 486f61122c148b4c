use Rattle.std.proofs.Common.{◌≡◌, ◌-◌}
use Rattle.qt_root2.specs.Numerators.{root2_of}
use Rattle.qt_root2.specs.Root2.{power, times_root2}
use Rattle.qt_root2.specs.Scaling.{unit}
use Rattle.qt_root2.proofs.numerator.Numerator.raised.Given as goal

abbrev pub invariant-loop-step : goal.invariant-loop-step
invariant-loop-step l = times_root2 (root2_of l.number) (power unit (l.steps - l._step)) ≡ times_root2 (root2_of l.fn.self) (power unit l.steps)
