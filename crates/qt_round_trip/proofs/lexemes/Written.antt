-- When the tokens of a stream are printed lexemes, one after another. `ts i` is the token at place i.
use Rattle.std.specs.Prelude.{◌≡◌, ℕ, ◌+◌, List, [], ◌∷◌, ◌++◌}
use Rattle.qt_terminals.specs.declared.terminal.Terminal.TheVariants as w
use Rattle.qt_terminals.specs.Terminals.{PlacedTerminal, behind}
use Rattle.qt_lexemes.specs.Lexemes.{Lexeme}
use Rattle.qt_print.specs.Statements.{Line}
use Rattle.qt_round_trip.proofs.lexemes.Spelling.{meaning}

-- the lexemes of lines, without their breaks
abbrev pub lexemes_of : List Line → List Lexeme
lexemes_of [] = []
lexemes_of (line ∷ lines) = line.lexemes ++ lexemes_of lines

module _ (ts : ℕ → PlacedTerminal) where
  -- from place i up to j the tokens are these lexemes
  abbrev pub Written : List Lexeme → ℕ → ℕ → Type 0
  Written [] i j = j ≡ i
  Written (lexeme ∷ lexemes) i j = ((ts i).terminal ≡ meaning lexeme) × ((ts i).spelling ≡ lexeme.text) × Written lexemes (i + 1) j

  -- each token but the end counts itself for the next, if it is an operator
  abbrev pub Counts : Type 0
  Counts = (i : ℕ) → ((ts i).terminal ≡ w.End → ⊥) → (ts (i + 1)).operators ≡ behind ((ts i).operators) ((ts i).terminal)
