use Rattle.std.proofs.Common.{◌≡◌}
use Rattle.qt_root2.specs.Real.{least}
use Rattle.qt_root2.proofs.numerator.Numerator.over.Given as goal

abbrev pub invariant-loop-exponent : goal.invariant-loop-exponent
invariant-loop-exponent l = least l.exponent l.number.a l.number.b ≡ least l.fn.k l.fn.self.a l.fn.self.b

abbrev pub decreases-loop-exponent : goal.decreases-loop-exponent
decreases-loop-exponent l = l.exponent
