use Rattle.std.proofs.Common.{◌≡◌, ◌-◌, true}
use Rattle.qt_lex.specs.Bytes.{byte}
use Rattle.qt_lex.specs.Bits as spec
use Rattle.qt_lex.proofs.bits.each_goes_on.Given as goal

abbrev pub invariant-loop-at : goal.invariant-loop-at
invariant-loop-at l = spec.each_goes_on (byte l.text) l.fn.start (l.at - l.fn.start) ≡ true
