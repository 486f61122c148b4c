use Rattle.std.proofs.Common.{◌≤◌, ◌-◌, length}
use Rattle.qt_scan.specs.Bytes.{is_name_byte, byte, EachFrom}
use Rattle.qt_scan.proofs.runs.word_end.Given as goal

abbrev pub invariant-end : goal.invariant-end
invariant-end l = (l.at ≤ l.end) × (l.end ≤ length l.text) × EachFrom (byte l.text) is_name_byte l.at l.end

abbrev pub decreases-end : goal.decreases-end
decreases-end l = length l.text - l.end
