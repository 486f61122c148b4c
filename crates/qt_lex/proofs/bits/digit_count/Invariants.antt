use Rattle.std.proofs.Common.{◌≡◌, ◌-◌, ◌≤◌}
use Rattle.qt_lex.specs.Bytes.{byte}
use Rattle.qt_lex.specs.Bits as spec
use Rattle.qt_lex.proofs.bits.digit_count.Given as goal

abbrev pub invariant-loop-at : goal.invariant-loop-at
invariant-loop-at l = record {
  small : l.count ≤ l.at - l.fn.start;
  value : l.count ≡ spec.digit_count (byte l.text) l.fn.start (l.at - l.fn.start);
}
