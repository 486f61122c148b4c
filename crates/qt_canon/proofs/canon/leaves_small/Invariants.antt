use Rattle.std.proofs.Common.{take}
use Rattle.qt_canon.specs.Plans.{LeavesSmall}
use Rattle.qt_canon.proofs.canon.leaves_small.Given as goal

abbrev pub invariant-loop-entry : goal.invariant-loop-entry
invariant-loop-entry l = LeavesSmall l.plan (take l.entry-index l.entries)
