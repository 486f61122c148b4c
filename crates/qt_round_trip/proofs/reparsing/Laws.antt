-- Tokens that are the canonical lexemes of a program spell that program, but for places.
use Rattle.std.specs.Prelude.{◌≡◌, ℕ, IsTrue, List}
use Rattle.qt_lex.specs.declared.tokens.Token.{Token}
use Rattle.qt_tree.specs.declared.program.Program.{Program}
use Rattle.qt_terminals.specs.declared.terminal.Terminal.TheVariants as w
use Rattle.qt_terminals.specs.Literals.{is_bit_text}
use Rattle.qt_terminals.specs.Terminals.{PlacedTerminal, terminals, stream}
use Rattle.qt_grammar.specs.Spelling.{Limits, SpellsProgram}
use Rattle.qt_print.specs.Programs.{program_lines}
use Rattle.qt_round_trip.proofs.literals.Kept.{IsFaithful, AreNumbersAgain}
use Rattle.qt_round_trip.specs.Places.{SameButPlaces}
use Rattle.qt_round_trip.proofs.lexemes.Written.{lexemes_of, Written, Counts}

-- each bit string is spelled as one
abbrev pub HasBitTexts : (ℕ → PlacedTerminal) → Type 0
HasBitTexts ts = (i : ℕ) → (ts i).terminal ≡ w.BitText → IsTrue (is_bit_text ((ts i).spelling))

-- the tokens of a text are such
abbrev pub TextsHaveBitTexts : Type 0
TextsHaveBitTexts = (text : List ℕ) (tokens : List Token) → HasBitTexts (stream (terminals text tokens))

-- Where tokens spell a program within limits, other tokens that are its canonical lexemes, and then the end, spell within the same
-- limits a program that is the same but for places.
-- Each bit string has to be spelled as one: a token `""` that is called a bit string would be printed as `""`, which is none.
abbrev pub ReadsAgain : Type 0
ReadsAgain = (ts written : ℕ → PlacedTerminal) → Counts ts → Counts written → (ts 0).operators ≡ (written 0).operators
    → ((i : ℕ) → IsFaithful (ts i)) → HasBitTexts ts → AreNumbersAgain
    → (l : Limits) (p : Program) → SpellsProgram ts l p
    → (j : ℕ) → Written written (lexemes_of (program_lines p)) 0 j → (written j).terminal ≡ w.End
    → (q : Program) × SpellsProgram written l q × SameButPlaces p q
