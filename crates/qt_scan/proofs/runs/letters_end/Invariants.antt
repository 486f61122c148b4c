use Rattle.std.proofs.Common.{◌≤◌, ◌-◌, length}
use Rattle.qt_scan.specs.Bytes.{is_letter, byte, EachFrom}
use Rattle.qt_scan.proofs.runs.letters_end.Given as goal

abbrev pub invariant-end : goal.invariant-end
invariant-end l = (l.at ≤ l.end) × (l.end ≤ length l.text) × EachFrom (byte l.text) is_letter l.at l.end

abbrev pub decreases-end : goal.decreases-end
decreases-end l = length l.text - l.end
