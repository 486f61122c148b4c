use Rattle.std.proofs.Common.{◌+◌, ◌-◌, ◌≤◌}
use Rattle.qt_kernel.specs.Gates.{AllDivide}
use Rattle.qt_kernel.proofs.gate.ControlledU.multiply.Given as goal

abbrev pub invariant-loop-by : goal.invariant-loop-by
invariant-loop-by l = record {
  room : l.by ≤ l.halvings + 1;
  whole : AllDivide l.self l.by l.entries;
}

abbrev pub decreases-loop-by : goal.decreases-loop-by
decreases-loop-by l = l.halvings + 1 - l.by
