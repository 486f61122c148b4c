use Rattle.std.proofs.Common.{◌≡◌, ℕ, ◌≤◌, ◌<◌, ◌-◌, eqb, false, length}
use Rattle.qt_lex.specs.Bytes.{byte}
use Rattle.qt_lex.proofs.lexer.line_end.Given as goal

abbrev pub invariant-end : goal.invariant-end
invariant-end l = (l.at ≤ l.end) × (l.end ≤ length l.text) × ((k : ℕ) → l.at ≤ k → k < l.end → eqb (byte l.text k) 10 ≡ false)

abbrev pub decreases-end : goal.decreases-end
decreases-end l = length l.text - l.end
