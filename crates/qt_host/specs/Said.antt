-- What is said of the words of the command line and of the texts that the shelf holds: one answer, made of the status, the
-- bytes for the standard output and the bytes for the standard error. For `run` and a text of the first form the bytes are the
-- report of exactly the distribution of its program; for `format` they are the canonical text of the program.
use Rattle.std.specs.Prelude.{◌≡◌, ℕ, List, [], ◌∷◌, codes}
use Rattle.qt_outside.specs.Causes.{Texts, text_of}
use Rattle.qt_tree.specs.declared.program.Program.{Program as Source}
use Rattle.qt_tree.specs.declared.refusal.TextRefusal.{TextRefusal}
use Rattle.qt_read.specs.Lines.{refusal_line}
use Rattle.qt_read.specs.Reading.{IsTextOfProgram, IsRefused}
use Rattle.qt_print.specs.Text.{canonical}
use Rattle.qt_first.specs.declared.program.Program.{Program}
use Rattle.qt_first.specs.Form.{IsFirstFormText}
use Rattle.qt_report.specs.declared.distribution.Chance.{Chance}
use Rattle.qt_report.specs.Report.{report_text}
use Rattle.qt_run.specs.Tree.{leaves_of}
use Rattle.qt_run.specs.Distribution.{IsDistribution, layout_of}
use Rattle.qt_words.specs.Words.{Asks, IsMode, AreServed}
use Rattle.qt_words.specs.Lines.{unserved_line}
use Rattle.qt_lines.specs.Lines.{form_line}

pub record Answer : Type 0 where
  pub status : ℕ
  pub output : List ℕ
  pub error : List ℕ

abbrev pub answered : List ℕ → Answer
answered bytes = record { status = 0; output = bytes; error = [] }

abbrev pub refused : ℕ → List ℕ → Answer
refused status line = record { status = status; output = []; error = line }

pub data Said (words : List (List ℕ)) (texts : Texts) : Answer → Type 0 where
  -- the words ask for nothing that is served
  other_words : ¬ AreServed words → Said words texts (refused 2 (unserved_line words))
  -- the text is that of no program
  refused_text : (mode name : List ℕ) (refusal : TextRefusal) → Asks words mode name → IsMode mode
      → IsRefused name 0 (text_of texts name) refusal → Said words texts (refused 1 (refusal_line (name ∷ []) refusal))
  -- the text is that of a program, but of none of the first form
  other_form : (name : List ℕ) (source : Source) → Asks words (codes "run") name
      → IsTextOfProgram 0 (text_of texts name) source → ((p : Program) → ¬ IsFirstFormText p (text_of texts name))
      → Said words texts (refused 1 (form_line name))
  -- the text is that of a program of the first form, and these chances are its distribution
  report_of : (name : List ℕ) (source : Source) (p : Program) (chances : List Chance) → Asks words (codes "run") name
      → IsTextOfProgram 0 (text_of texts name) source → IsFirstFormText p (text_of texts name) → IsDistribution (leaves_of p) chances
      → Said words texts (answered (report_text (record { layout = layout_of p; chances = chances })))
  -- the text is that of a program, and this is its canonical text
  canonical_of : (name : List ℕ) (source : Source) → Asks words (codes "format") name
      → IsTextOfProgram 0 (text_of texts name) source → Said words texts (answered (canonical source))

-- of words and texts exactly one answer is said
abbrev pub OneAnswer : Type 0
OneAnswer =
    (words : List (List ℕ)) (texts : Texts)
    → (answer : Answer) × Said words texts answer × ((other : Answer) → Said words texts other → other ≡ answer)
