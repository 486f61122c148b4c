-- The terminals of a text's tokens, as the grammar sees them: each with its spelling, its place, and how many operators stand
-- before it. OpenQASM 3.0 live specification, the lexical grammar in its appendix.
use Rattle.std.specs.Prelude.{◌≡◌, ℕ, zero, suc, ◌+◌, if◌then◌else◌, List, [], ◌∷◌, slice_index_or}
use Rattle.qt_tree.specs.declared.place.Place.{Place}
use Rattle.qt_lex.specs.declared.tokens.Token.{Token}
use Rattle.qt_terminals.specs.declared.terminal.Terminal.{Terminal}
use Rattle.qt_terminals.specs.declared.terminal.Terminal.TheVariants as w
use Rattle.qt_terminals.specs.Literals.{cut}
use Rattle.qt_terminals.specs.Alphabet.{terminal_of, is_operator}

-- what the grammar sees of a token
pub record PlacedTerminal : Type 0 where
  pub terminal : Terminal
  pub spelling : List ℕ
  pub place : Place
  -- how many of the tokens before it are operators
  pub operators : ℕ

-- the bytes of a token; none where it begins or ends inside a character, which no token of a text does
unfoldable pub spelling_of : List ℕ → Token → List ℕ
spelling_of text token = cut text token.start token.end

unfoldable pub terminal_at : List ℕ → Token → Terminal
terminal_at text token = terminal_of token.kind (spelling_of text token)

-- a token behind n operators
abbrev pub placed_terminal : List ℕ → ℕ → Token → PlacedTerminal
placed_terminal text n token = record {
  terminal = terminal_at text token;
  spelling = spelling_of text token;
  place = token.place;
  operators = n;
}

-- how many operators stand before what follows a terminal that n operators stand before
abbrev pub behind : ℕ → Terminal → ℕ
behind n terminal = if is_operator terminal then n + 1 else n

-- tokens behind n operators
abbrev pub terminals_behind : List ℕ → ℕ → List Token → List PlacedTerminal
terminals_behind text n [] = []
terminals_behind text n (t ∷ ts) = placed_terminal text n t ∷ terminals_behind text (behind n (terminal_at text t)) ts

unfoldable pub terminals : List ℕ → List Token → List PlacedTerminal
terminals text tokens = terminals_behind text 0 tokens

-- the last of these is the end of the text, and no other is
abbrev pub EndsOnce : List PlacedTerminal → Type 0
EndsOnce [] = ⊥
EndsOnce (t ∷ []) = t.terminal ≡ w.End
EndsOnce (t ∷ u ∷ ts) = (t.terminal ≡ w.End → ⊥) × EndsOnce (u ∷ ts)

-- what stands behind the last token, if anyone asks: the end of the text once more, with no spelling and 0 for its count
abbrev pub past_the_end : PlacedTerminal
past_the_end = record {
  terminal = w.End;
  spelling = [];
  place = record { file = 0; line = 1; column = 1 };
  operators = 0;
}

abbrev pub stream : List PlacedTerminal → ℕ → PlacedTerminal
stream ts i = slice_index_or ts i past_the_end

-- the same tokens, but that one of them has another terminal
abbrev pub with_terminal : List PlacedTerminal → ℕ → Terminal → List PlacedTerminal
with_terminal [] i terminal = []
with_terminal (t ∷ ts) zero terminal = record t { terminal = terminal } ∷ ts
with_terminal (t ∷ ts) (suc i) terminal = t ∷ with_terminal ts i terminal
