use Rattle.std.proofs.Common.{◌≡◌}
use Rattle.qt_root2.specs.Numerators.{root2_of}
use Rattle.qt_root2.specs.Scaling.{lifted_root2}
use Rattle.qt_root2.proofs.numerator.Numerator.halvings.Given as goal

abbrev pub invariant-loop-time : goal.invariant-loop-time
invariant-loop-time l = lifted_root2 (root2_of l.number) l._time ≡ root2_of l.fn.self
