use Rattle.std.proofs.Common.{◌≡◌, ℕ, ◌≤◌, ◌<◌, ◌-◌, true, length}
use Rattle.qt_lex.specs.Bytes.{byte}
use Rattle.qt_lex.specs.Numbers.{is_digit_of, goes_on}
use Rattle.qt_lex.proofs.number.spaced_end.Given as goal

abbrev pub invariant-end : goal.invariant-end
invariant-end l = record {
  ahead : l.at ≤ l.end;
  within : l.end ≤ length l.text;
  first : is_digit_of l.radix (byte l.text l.at) ≡ true;
  each : (k : ℕ) → l.at ≤ k → k < l.end → goes_on (byte l.text) l.radix k ≡ true;
}

abbrev pub decreases-end : goal.decreases-end
decreases-end l = length l.text - l.end
