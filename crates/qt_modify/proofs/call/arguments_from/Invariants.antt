use Rattle.std.proofs.Common.{◌≡◌, ◌++◌, length}
use Rattle.qt_modify.specs.Calls.{arguments_from, behind_arguments}
use Rattle.qt_modify.proofs.call.arguments_from.Given as goal

abbrev pub invariant-phases : goal.invariant-phases
invariant-phases l = record {
  same : l.arguments ++ arguments_from l.next l.phases ≡ arguments_from l.fn.next l.fn.phases;
  behind : behind_arguments l.next l.phases ≡ behind_arguments l.fn.next l.fn.phases;
}

abbrev pub decreases-phases : goal.decreases-phases
decreases-phases l = length l.phases
