use Rattle.std.proofs.Common.{◌≡◌, ◌+◌, length, map}
use Rattle.qt_gates.specs.Named as spec
use Rattle.qt_gates.proofs.named.gate_in.Given as goal

abbrev pub invariant-table : goal.invariant-table
invariant-table l = record {
  numbered : l.number + length l.rows ≡ length l.initial.rows;
  same :
      spec.gate_in l.number (map (λ row. (row.0.now, row.1, row.2)) l.rows) l.name
      ≡ spec.gate_in 0 (map (λ row. (row.0.now, row.1, row.2)) l.initial.rows) l.name;
}

abbrev pub decreases-table : goal.decreases-table
decreases-table l = length l.rows
