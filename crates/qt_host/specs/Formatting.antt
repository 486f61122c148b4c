-- Formatting is idempotent and keeps the program: what is said of a text that is formatted already.
use Rattle.std.specs.Prelude.{◌≡◌, ℕ, ◌≤◌, List, [], ◌∷◌, codes, length}
use Rattle.qt_outside.specs.Causes.{Texts, text_of}
use Rattle.qt_tree.specs.declared.program.Program.{Program}
use Rattle.qt_round_trip.specs.Places.{SameButPlaces}
use Rattle.qt_print.specs.Text.{canonical}
use Rattle.qt_read.specs.Reading.{IsTextOfProgram, most_bytes}
use Rattle.qt_host.specs.Said.{Said, answered}

-- where `format` answers these bytes for a text, and they are no more than a text may have, it answers them for themselves
abbrev pub FormatsAgain : List ℕ → Type 0
FormatsAgain output = (texts others : Texts) (name other : List ℕ) → Said (codes "format" ∷ name ∷ []) texts (answered output)
    → text_of others other ≡ output → length output ≤ most_bytes → Said (codes "format" ∷ other ∷ []) others (answered output)

-- the canonical text of the program of a text is that of no other program, but for places
abbrev pub KeepsTheProgram : Type 0
KeepsTheProgram = (text : List ℕ) (file other : ℕ) (p q : Program)
    → IsTextOfProgram file text p → IsTextOfProgram other (canonical p) q → SameButPlaces p q
