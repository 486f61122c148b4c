use Rattle.std.proofs.Common.{◌≡◌, ℕ, ◌≤◌, ◌-◌, List, length}
use Rattle.qt_lex.specs.declared.tokens.Token.{Token}
use Rattle.qt_lex.specs.Bytes.{byte}
use Rattle.qt_lex.specs.Tokens.{Lexes, Fails, place_of}
use Rattle.qt_lex.proofs.fault.fault_in.Given as goal

abbrev pub invariant-text : goal.invariant-text
invariant-text l = record {
  within : l.at ≤ length l.text;
  place : l.place ≡ place_of (byte l.text) l.file l.at;
  tokens : (rest : List Token) → Lexes (byte l.text) l.file (length l.text) l.at rest → (all : List Token) × Lexes (byte l.text) l.file (length l.text) 0 all;
  fault : (p : ℕ) → Fails (byte l.text) (length l.text) l.at p → Fails (byte l.text) (length l.text) 0 p;
}

abbrev pub decreases-text : goal.decreases-text
decreases-text l = length l.text - l.at
