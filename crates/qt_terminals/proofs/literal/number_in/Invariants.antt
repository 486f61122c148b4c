use Rattle.std.proofs.Common.{◌≡◌, ◌-◌, ◌%◌, ◌^◌}
use Rattle.qt_lex.specs.Bytes.{byte}
use Rattle.qt_lex.specs.Numbers.{number_of}
use Rattle.qt_terminals.proofs.literal.number_in.Given as goal

abbrev pub invariant-loop-at : goal.invariant-loop-at
invariant-loop-at l = l.number ≡ number_of (byte l.text) l.fn.base l.fn.start (l.at - l.fn.start) % 2 ^ 64
