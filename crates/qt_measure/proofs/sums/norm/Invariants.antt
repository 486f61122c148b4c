use Rattle.std.proofs.Common.{◌≡◌, take}
use Rattle.qt_ring.specs.State.{total_a, total_b}
use Rattle.qt_measure.proofs.sums.norm.Given as goal

abbrev pub invariant-loop-entry : goal.invariant-loop-entry
invariant-loop-entry l = record {
  first_is : l.first ≡ total_a (take l.entry-index l.fn.entries);
  second_is : l.second ≡ total_b (take l.entry-index l.fn.entries);
}
