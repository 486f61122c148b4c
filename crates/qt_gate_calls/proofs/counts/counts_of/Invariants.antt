use Rattle.std.proofs.Common.{◌≡◌, length, take}
use Rattle.qt_gate_calls.specs.Stopped.{AreCounted}
use Rattle.qt_gate_calls.proofs.counts.counts_of.Given as goal

abbrev pub invariant-loop-body : goal.invariant-loop-body
invariant-loop-body l = record {
  as_many : length l.counts ≡ l.body-index;
  counted : AreCounted (take l.body-index l.bodies) l.counts;
}
