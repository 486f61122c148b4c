use Rattle.std.proofs.Common.{◌-◌, length}
use Rattle.qt_fixed_angles.proofs.reached.none_set.Given as goal

abbrev pub invariant-loop-flags : goal.invariant-loop-flags
invariant-loop-flags l = Unit {0}

abbrev pub decreases-loop-flags : goal.decreases-loop-flags
decreases-loop-flags l = l.count - length l.flags
