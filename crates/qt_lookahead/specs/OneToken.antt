-- What reading one token answers, and what is put together with it. OpenQASM 3.0, the grammar in the appendix of the live
-- specification.
use Rattle.std.specs.Prelude.{◌≡◌, ℕ, ◌+◌, List, [], ◌∷◌, if◌then◌else◌, Result, Ok, Err}
use Rattle.qt_terminals.specs.Terminals.{PlacedTerminal, stream}
use Rattle.qt_grammar.specs.declared.refusal.Refusal.{Refusal}
use Rattle.qt_grammar.specs.declared.refusal.Refusal.TheVariants.{Syntax}
use Rattle.qt_grammar.specs.Form.{member, terminal_at}
use Rattle.qt_grammar.specs.Outcome.{Outcome}
pub use Rattle.qt_grammar.specs.Outcome.{Says}
use Rattle.qt_grammar.specs.Spelling.{language_limits}

-- the place behind a token, where the outcome is that token and that place
abbrev pub Steps : {A : Type 0} → Outcome A → A → Result ℕ Refusal → Type 0
Steps out x (Ok behind) = out ≡ Ok (x, behind)
Steps out x (Err e) = out ≡ Err e

-- the same, where something was read before the token
abbrev pub Ends : {A B : Type 0} → Outcome A → A → B → Result (B × ℕ) Refusal → Type 0
Ends out x before (Ok read) = (out ≡ Ok (x, read.1)) × (read.0 ≡ before)
Ends out x before (Err e) = out ≡ Err e

-- what was read before something, and that
abbrev pub Adds : {A B : Type 0} → A → Result (B × ℕ) Refusal → Result ((A × B) × ℕ) Refusal → Type 0
Adds before found (Ok both) = (found ≡ Ok (both.0.1, both.1)) × (both.0.0 ≡ before)
Adds before found (Err e) = found ≡ Err e

-- how many operators an expression has at most that stands in no other
abbrev pub cap : ℕ
cap = language_limits.operators

-- a token of the terminal with this number, or the place where another stands
unfoldable pub read_exactly : List PlacedTerminal → ℕ → ℕ → Outcome PlacedTerminal
read_exactly tokens n at = if member (terminal_at (stream tokens) at) (n ∷ []) then Ok (stream tokens at, at + 1) else Err (Syntax at)
