-- Which line tells of a status, and that a line tells of a refused text.
use Rattle.std.specs.Prelude.{◌≡◌, ℕ, ◌==◌, if◌then◌else◌, ◌⊎◌, List, [], ◌∷◌}
use Rattle.qt_tree.specs.declared.refusal.TextRefusal.{TextRefusal}
use Rattle.qt_read.specs.Lines.{refusal_line}
use Rattle.qt_words.specs.Words.{named}
use Rattle.qt_words.specs.Lines.{unserved_line}
use Rattle.qt_lines.specs.Lines.{form_line, shelf_line, sink_line, memory_line}

-- the line tells that the text of that name is refused, for some reason, or has another form
abbrev pub TellsRefusal : List ℕ → List ℕ → Type 0
TellsRefusal name line = (line ≡ form_line name) ⊎ ((refusal : TextRefusal) × (line ≡ refusal_line (name ∷ []) refusal))

-- the line of each status other than 0 and 1
abbrev pub fault_line : ℕ → List (List ℕ) → List ℕ
fault_line status words =
    if status == 2 then unserved_line words
    else if status == 4 then shelf_line (named words)
    else if status == 5 then sink_line
    else memory_line
