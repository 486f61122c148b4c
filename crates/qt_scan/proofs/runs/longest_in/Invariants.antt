use Rattle.std.proofs.Common.{◌≡◌, ◌+◌, ◌≤◌, true, length, max, map}
use Rattle.qt_scan.specs.Bytes.{byte, have_no_nul, longest_in}
use Rattle.qt_scan.proofs.runs.longest_in.Given as goal

abbrev pub invariant-table : goal.invariant-table
invariant-table l = record {
  plain : have_no_nul (map (λ w. w.now) l.table) ≡ true;
  within : l.at + l.longest ≤ length l.text;
  rest : max l.longest (longest_in (byte l.text) (map (λ w. w.now) l.table) l.at) ≡ longest_in (byte l.text) (map (λ w. w.now) l.initial.table) l.at;
}

abbrev pub decreases-table : goal.decreases-table
decreases-table l = length l.table
