-- The canonical text of a program, read again: it gives the same program but for places, and isn't long.
use Rattle.std.specs.Prelude.{◌≡◌, ◌≢◌, ℕ, ◌*◌, ◌^◌, ◌≤◌, List, length, Result, Ok, Err}
use Rattle.qt_tree.specs.declared.place.Place.{Place}
use Rattle.qt_tree.specs.declared.program.Program.{Program}
use Rattle.qt_lex.specs.declared.tokens.Token.{Token}
use Rattle.qt_lex.specs.Tokens.{GivesTokens, FailsAt}
use Rattle.qt_terminals.specs.Terminals.{terminals, stream}
use Rattle.qt_grammar.specs.declared.refusal.Refusal.{Refusal}
use Rattle.qt_grammar.specs.declared.refusal.Refusal.TheVariants.{OutOfMemory}
use Rattle.qt_grammar.specs.Spelling.{language_limits}
use Rattle.qt_grammar.specs.Promise.{OnlyProgram, Parses}
use Rattle.qt_print.specs.Text.{canonical}
use Rattle.qt_round_trip.specs.Places.{SameButPlaces}

-- the text gives these tokens, and they spell this program within the limits, and no other
pub record ReadsAs (text : List ℕ) (file : ℕ) (tokens : List Token) (p : Program) : Type 0 where
  pub given : GivesTokens text file tokens
  pub spelled : OnlyProgram (stream (terminals text tokens)) language_limits p

-- the canonical text of a program gives tokens that spell a program and no other; it is the same but for places, and has the
-- same canonical text
pub record IsReadAgain (file : ℕ) (p : Program) : Type 0 where
  pub tokens : List Token
  pub given : GivesTokens (canonical p) file tokens
  pub program : Program
  pub spelled : OnlyProgram (stream (terminals (canonical p) tokens)) language_limits program
  pub same : SameButPlaces p program
  pub text : canonical program ≡ canonical p

-- the program of a text is read again from its canonical text, whatever the number of that text
abbrev pub RoundTrip : Type 0
RoundTrip = (text : List ℕ) (file : ℕ) (tokens : List Token) (p : Program) → ReadsAs text file tokens p → (other : ℕ) → IsReadAgain other p

-- no character of the canonical text is refused
abbrev pub LexesAgain : Type 0
LexesAgain = (text : List ℕ) (file : ℕ) (tokens : List Token) (p : Program) → ReadsAs text file tokens p
    → (other : ℕ) (place : Place) → FailsAt (canonical p) other place → ⊥

-- of the tokens of the canonical text each right answer of a parser, but for want of memory, is the same program but for places
abbrev pub ParsesAgain : Type 0
ParsesAgain = (text : List ℕ) (file : ℕ) (tokens : List Token) (p : Program) → ReadsAs text file tokens p
    → (other : ℕ) (written : List Token) → GivesTokens (canonical p) other written
    → (answer : Result Program Refusal) → answer ≢ Err OutOfMemory
    → Parses (stream (terminals (canonical p) written)) language_limits answer
    → (q : Program) × (answer ≡ Ok q) × SameButPlaces p q × (canonical q ≡ canonical p)

-- whatever program the canonical text is that of, it is the same but for places
abbrev pub KeepsTheTree : Type 0
KeepsTheTree = (text : List ℕ) (file : ℕ) (tokens : List Token) (p : Program) (other : ℕ) (written : List Token) (q : Program)
    → ReadsAs text file tokens p → ReadsAs (canonical p) other written q → SameButPlaces p q

-- the canonical text of the program of a text has at most 500 bytes for each byte of the text
abbrev pub IsBounded : Type 0
IsBounded = (text : List ℕ) (file : ℕ) (tokens : List Token) (p : Program)
    → ReadsAs text file tokens p → length (canonical p) ≤ 500 * length text

-- so it has at most 2^31 bytes, which a lexer takes, where the text has at most 2^20
abbrev pub CanBeRead : Type 0
CanBeRead = (text : List ℕ) (file : ℕ) (tokens : List Token) (p : Program)
    → ReadsAs text file tokens p → length text ≤ 2 ^ 20 → length (canonical p) ≤ 2 ^ 31

-- programs that are the same but for places have the same canonical text
abbrev pub SameText : Type 0
SameText = (p q : Program) → SameButPlaces p q → canonical p ≡ canonical q
