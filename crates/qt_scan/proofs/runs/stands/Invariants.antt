use Rattle.std.proofs.Common.{◌≡◌, ◌+◌, ◌≤◌, true, length}
use Rattle.qt_scan.specs.Bytes.{byte, has_no_nul, stands}
use Rattle.qt_scan.proofs.runs.stands.Given as goal

abbrev pub invariant-word : goal.invariant-word
invariant-word l = record {
  plain : has_no_nul l.word ≡ true;
  within : l.at ≤ length l.text;
  same : l.at + length l.word ≡ l.initial.at + length l.initial.word;
  rest : stands (byte l.text) l.word l.at ≡ stands (byte l.text) l.initial.word l.initial.at;
}

abbrev pub decreases-word : goal.decreases-word
decreases-word l = length l.word
