use Rattle.std.proofs.Common.{◌≡◌, length, take}
use Rattle.qt_modify.specs.Known.{KnowsNeeds}
use Rattle.qt_modify.proofs.needs.needs_of.Given as goal

abbrev pub invariant-loop-number : goal.invariant-loop-number
invariant-loop-number l = record {
  as_many : length l.needs ≡ l.number;
  known : KnowsNeeds (take l.number l.gates) l.needs;
}
