use Rattle.std.proofs.Common.{◌≡◌, ◌<◌, ◌-◌}
use Rattle.qt_lex.specs.Bytes.{byte}
use Rattle.qt_lex.specs.Numbers.{base_of, number_of}
use Rattle.qt_lex.proofs.number.is_wide.Given as goal

abbrev pub invariant-loop-place : goal.invariant-loop-place
invariant-loop-place l = record {
  small : l.number < 18446744073709551616;
  is : l.number ≡ number_of (byte l.text) (base_of l.fn.whole.radix) l.fn.whole.start (l.place - l.fn.whole.start);
}
