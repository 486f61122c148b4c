-- What holds of each line that is printed of a program: its lexemes are spelled as tokens, and the text isn't long.
use Rattle.std.specs.Prelude.{ℕ, ◌*◌, ◌≤◌, length}
use Rattle.qt_tree.specs.declared.program.Program.{Program}
use Rattle.qt_terminals.specs.Terminals.{PlacedTerminal}
use Rattle.qt_grammar.specs.Spelling.{Limits, SpellsProgram}
use Rattle.qt_print.specs.Programs.{program_lines}
use Rattle.qt_print.specs.Text.{canonical}
use Rattle.qt_round_trip.proofs.lexemes.Spelling.{IsSpelled, AllLines}
use Rattle.qt_round_trip.proofs.literals.Kept.{IsFaithful, AreNumbersAgain, total_length}

-- each printed lexeme of a program that tokens spell is spelled as a token
abbrev pub AreSpelled : Type 0
AreSpelled = (ts : ℕ → PlacedTerminal) → ((i : ℕ) → IsFaithful (ts i)) → AreNumbersAgain
    → (l : Limits) (p : Program) → SpellsProgram ts l p → AllLines IsSpelled (program_lines p)

-- The canonical text has at most 500 bytes for each byte of the tokens. That is a round bound, which no text reaches: a token of n bytes
-- pays 401 bytes for a line of its lexeme, with a margin of 128 and two braces, and at most 20 times n for its own text, so 421 for each
-- byte at most. Texts grow less: a chain of `if(a)` without braces at the deepest levels, as `if(a)if(a)x=1;`, grows about 49 times.
abbrev pub IsShort : Type 0
IsShort = (ts : ℕ → PlacedTerminal) → ((i : ℕ) → IsFaithful (ts i)) → AreNumbersAgain
    → (l : Limits) (p : Program) → l.levels ≤ 64 → (h : SpellsProgram ts l p) → length (canonical p) ≤ 500 * total_length ts h.0
