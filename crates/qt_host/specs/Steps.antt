-- What the steps of the top call find: the text that was fetched, and the answer that it comes to.
use Rattle.std.specs.Prelude.{◌≡◌, ℕ, ◌⊎◌, List, [], ◌∷◌}
use Rattle.qt_outside.specs.Causes.{Rose}
use Rattle.qt_tree.specs.declared.program.Program.{Program as Source}
use Rattle.qt_read.specs.Lines.{refusal_line}
use Rattle.qt_read.specs.Reading.{IsTextOfProgram, IsRefused}
use Rattle.qt_print.specs.Text.{canonical}
use Rattle.qt_first.specs.declared.program.Program.{Program}
use Rattle.qt_first.specs.Form.{IsFirstFormText}
use Rattle.qt_report.specs.declared.distribution.Chance.{Chance}
use Rattle.qt_report.specs.Report.{report_text}
use Rattle.qt_run.specs.Tree.{leaves_of}
use Rattle.qt_run.specs.Distribution.{IsDistribution, layout_of}
use Rattle.qt_words.specs.declared.request.Mode.{Mode}
use Rattle.qt_words.specs.declared.request.Mode.TheVariants.{Run, Format}
use Rattle.qt_lines.specs.Lines.{form_line, shelf_line, memory_line}
use Rattle.qt_host.specs.declared.refusal.HostRefusal.{HostRefusal}
use Rattle.qt_host.specs.declared.refusal.HostRefusal.TheVariants.{Shelf, Text, Early, OutOfMemory}

-- the report of the program whose text it is
abbrev pub IsReportOf : List ℕ → List ℕ → Type 0
IsReportOf text report =
    (p : Program) × (chances : List Chance) × IsFirstFormText p text × IsDistribution (leaves_of p) chances
    × (report ≡ report_text (record { layout = layout_of p; chances = chances }))

-- the answer to a mode for a text that is that of a program
abbrev pub IsAnswer : Mode → List ℕ → List ℕ → Type 0
IsAnswer Run text bytes = (source : Source) × IsTextOfProgram 0 text source × IsReportOf text bytes
IsAnswer Format text bytes = (source : Source) × IsTextOfProgram 0 text source × (bytes ≡ canonical source)

-- why a text has no program: it is refused, or memory ran out
abbrev pub HasNoSource : List ℕ → List ℕ → HostRefusal → Type 0
HasNoSource name text (Text reason) = IsRefused name 0 text reason
HasNoSource name text OutOfMemory = Unit {0}
HasNoSource name text _ = ⊥

-- why a text has no answer: it is that of no program, or of none of the first form, or memory ran out
abbrev pub HasNoAnswer : Mode → List ℕ → List ℕ → HostRefusal → Type 0
HasNoAnswer mode name text (Text reason) = IsRefused name 0 text reason
HasNoAnswer Run name text (Early of) =
    (of ≡ name) × ((source : Source) × IsTextOfProgram 0 text source) × ((p : Program) → ¬ IsFirstFormText p text)
HasNoAnswer Format name text (Early of) = ⊥
HasNoAnswer mode name text (Shelf of) = ⊥
HasNoAnswer mode name text OutOfMemory = Unit {0}

-- why there is no text: the shelf's count rose for that name, or memory ran out
abbrev pub HasNoText : ℕ → ℕ → List ℕ → List ℕ → HostRefusal → Type 0
HasNoText before now failed name (Shelf of) = Rose before now × (failed ≡ name) × (of ≡ name)
HasNoText before now failed name OutOfMemory = Unit {0}
HasNoText before now failed name _ = ⊥

-- the status and the line that tell a refusal: its own, or those of want of memory where the line finds none
abbrev pub status_of : HostRefusal → ℕ
status_of (Shelf of) = 4
status_of (Text reason) = 1
status_of (Early of) = 1
status_of OutOfMemory = 6

abbrev pub line_of : List ℕ → HostRefusal → List ℕ
line_of name (Shelf of) = shelf_line of
line_of name (Text reason) = refusal_line (name ∷ []) reason
line_of name (Early of) = form_line of
line_of name OutOfMemory = memory_line

abbrev pub IsTold : List ℕ → HostRefusal → ℕ → List ℕ → Type 0
IsTold name refusal status line = ((status ≡ status_of refusal) × (line ≡ line_of name refusal)) ⊎ ((status ≡ 6) × (line ≡ memory_line))

-- why the text of a name has no answer; that the shelf failed is said of no text
abbrev pub HasNoAnswerAt : Mode → List ℕ → List ℕ → HostRefusal → Type 0
HasNoAnswerAt mode name text (Shelf of) = Unit {0}
HasNoAnswerAt mode name text reason = HasNoAnswer mode name text reason

-- what a refused request leaves of the shelf: it failed for that name, or its count stands where it stood; a text of another form is
-- told by that name
abbrev pub HasShelfCause : ℕ → ℕ → List ℕ → List ℕ → HostRefusal → Type 0
HasShelfCause before now failed name (Shelf of) = Rose before now × (failed ≡ name) × (of ≡ name)
HasShelfCause before now failed name (Text reason) = now ≡ before
HasShelfCause before now failed name (Early of) = (now ≡ before) × (of ≡ name)
HasShelfCause before now failed name OutOfMemory = Unit {0}
