-- Reading a form of a list of tokens, and that list with another terminal at one place.
use Rattle.std.proofs.Common.{◌≡◌, ℕ, zero, suc, ◌≤◌, ◌<◌, List, [], ◌∷◌, length, Option, refl, arith}
use Rattle.std.proofs.lemmas.List.{get_or_past}
use Rattle.qt_terminals.specs.declared.terminal.Terminal.{Terminal}
use Rattle.qt_terminals.specs.Terminals.{PlacedTerminal, stream, with_terminal, past_the_end}
use Rattle.qt_grammar.specs.Sorts.{Sort, Value}
use Rattle.qt_grammar.specs.Form.{Form, terminal_at}
use Rattle.qt_grammar.specs.Outcome.{Outcome}
use Rattle.qt_grammar.specs.Spelling.{Limits}
use Rattle.qt_grammar.specs.Reading.{run, run_to}

-- a form of a list of tokens, read from a place on within limits
unfoldable pub reading : List PlacedTerminal → Limits → {s : Sort} → Form s → Option ℕ → ℕ → Outcome (Value s)
reading all l f outer i = run (stream all) l.operators (length all) (run_to (stream all) l.operators (length all) l.levels) f outer i

-- behind the last token stands the end
pub past : (all : List PlacedTerminal) (i : ℕ) → length all ≤ i → terminal_at (stream all) i ≡ 0
past all i le = rw (get_or_past all i past_the_end le) refl

pub same_before : (all : List PlacedTerminal) (n : ℕ) (terminal : Terminal) (k : ℕ) → k < n → stream all k ≡ stream (with_terminal all n terminal) k
same_before [] n terminal k lt = refl
same_before (t ∷ ts) zero terminal k lt = absurd (omega (arith, lt))
same_before (t ∷ ts) (suc n) terminal zero lt = refl
same_before (t ∷ ts) (suc n) terminal (suc k) lt = same_before ts n terminal k (omega (arith, lt))
