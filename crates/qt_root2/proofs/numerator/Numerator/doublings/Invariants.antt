use Rattle.std.proofs.Common.{◌≡◌}
use Rattle.qt_root2.specs.Numerators.{root2_of}
use Rattle.qt_root2.specs.Scaling.{lifted_root2}
use Rattle.qt_root2.proofs.numerator.Numerator.doublings.Given as goal

abbrev pub invariant-loop-time : goal.invariant-loop-time
invariant-loop-time l = root2_of l.number ≡ lifted_root2 (root2_of l.fn.self) l._time
