use Rattle.qt_canon.specs.Plans.{taken_of}
use Rattle.qt_canon.proofs.Results.{Writing}
use Rattle.qt_canon.proofs.canon.write.Given as goal

abbrev pub invariant-loop-entry : goal.invariant-loop-entry
invariant-loop-entry l = Writing (taken_of l.fn.plan) l.fn.entries l.entries l.entry-index
