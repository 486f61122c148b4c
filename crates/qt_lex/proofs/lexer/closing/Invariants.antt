use Rattle.std.proofs.Common.{◌≡◌, ℕ, ◌≤◌, ◌<◌, ◌-◌, false, length, codes}
use Rattle.qt_lex.specs.Bytes.{byte, stands}
use Rattle.qt_lex.proofs.lexer.closing.Given as goal

abbrev pub invariant-end : goal.invariant-end
invariant-end l = (l.at ≤ l.end) × (l.end ≤ length l.text) × ((k : ℕ) → l.at ≤ k → k < l.end → stands (byte l.text) (codes "*/") k ≡ false)

abbrev pub decreases-end : goal.decreases-end
decreases-end l = length l.text - l.end
