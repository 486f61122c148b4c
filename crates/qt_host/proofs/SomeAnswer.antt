-- Of words and texts an answer is said.
use Rattle.std.proofs.Common.{◌≡◌, ◌⊎◌, inl, inr, ⊎_elim, ℕ, List, [], ◌∷◌, codes, refl, ◌∙◌}
use Rattle.qt_outside.specs.Causes.{Texts, text_of}
use Rattle.qt_tree.specs.declared.program.Program.{Program as Source}
use Rattle.qt_tree.specs.declared.refusal.TextRefusal.{TextRefusal}
use Rattle.qt_read.specs.Lines.{refusal_line}
use Rattle.qt_read.specs.Reading.{IsTextOfProgram, IsRefused}
use Rattle.qt_print.specs.Text.{canonical}
use Rattle.qt_first.specs.declared.program.Program.{Program}
use Rattle.qt_first.specs.Form.{IsFirstFormText}
use Rattle.qt_report.specs.Report.{report_text}
use Rattle.qt_run.specs.Tree.{leaves_of}
use Rattle.qt_run.specs.Distribution.{layout_of}
use Rattle.qt_words.specs.Words.{Asks, IsMode, AreServed}
use Rattle.qt_words.specs.Lines.{unserved_line}
use Rattle.qt_lines.specs.Lines.{form_line}
use Rattle.qt_host.specs.Said.{Answer, Said, other_words, refused_text, other_form, report_of, canonical_of, answered, refused}
use Rattle.qt_host.proofs.Deciding.{IsDecided, same_list}
use Rattle.qt_host.proofs.FirstForm.{first_form}
use Rattle.qt_host.proofs.Distributions.{some_distribution}

-- the words ask for something that is served, or they don't
served : (words : List (List ℕ)) → IsDecided (AreServed words)
served [] = inr (λ s. let e = s.2 in cc)
served (mode ∷ []) = inr (λ s. let e = s.2 in cc)
served (mode ∷ name ∷ []) = step (same_list mode (codes "run")) (same_list mode (codes "format"))
  where
    first : {a b c d : List ℕ} → a ∷ b ∷ [] ≡ c ∷ d ∷ [] → a ≡ c
    first e = cc

    step : IsDecided (mode ≡ codes "run") → IsDecided (mode ≡ codes "format") → IsDecided (AreServed (mode ∷ name ∷ []))
    step (inl e) d = inl (mode, name, refl, inl e)
    step (inr run) (inl e) = inl (mode, name, refl, inr e)
    step (inr run) (inr format) = inr (λ s. ⊎_elim (λ e. run (first s.2 ∙ e)) (λ e. format (first s.2 ∙ e)) s.3)
served (mode ∷ name ∷ word ∷ words) = inr (λ s. let e = s.2 in cc)

-- the text is that of a program, or it is refused
abbrev pub HasOutcome : List ℕ → List ℕ → Type 0
HasOutcome name text = ((source : Source) × IsTextOfProgram 0 text source) ⊎ ((refusal : TextRefusal) × IsRefused name 0 text refusal)

module _ (words : List (List ℕ)) (texts : Texts) where
  abbrev SomeAnswer : Type 0
  SomeAnswer = (answer : Answer) × Said words texts answer

  asked : {mode name other : List ℕ} → Asks words mode name → mode ≡ other → Asks words other name
  asked ask e = cc

  reported : (name : List ℕ) (source : Source) → Asks words (codes "run") name → IsTextOfProgram 0 (text_of texts name) source
      → IsDecided ((p : Program) × IsFirstFormText p (text_of texts name)) → SomeAnswer
  reported name source ask spelt (inl form) =
      let d = some_distribution (leaves_of form.0) in (
        answered (report_text (record { layout = layout_of form.0; chances = d.0 })),
        report_of name source form.0 d.0 ask spelt form.1 d.1,
      )
  reported name source ask spelt (inr none) = (refused 1 (form_line name), other_form name source ask spelt (λ p form. none (p, form)))

  of_text : (mode name : List ℕ) → Asks words mode name → IsMode mode → HasOutcome name (text_of texts name) → SomeAnswer
  of_text mode name ask is (inr bad) = (refused 1 (refusal_line (name ∷ []) bad.0), refused_text mode name bad.0 ask is bad.1)
  of_text mode name ask (inl run) (inl spelt) = reported name spelt.0 (asked ask run) spelt.1 (first_form (text_of texts name))
  of_text mode name ask (inr format) (inl spelt) = (answered (canonical spelt.0), canonical_of name spelt.0 (asked ask format) spelt.1)

  pub some_answer : ((name text : List ℕ) → HasOutcome name text) → SomeAnswer
  some_answer outcome = step (served words)
    where
      step : IsDecided (AreServed words) → SomeAnswer
      step (inl s) = of_text s.0 s.1 s.2 s.3 (outcome s.1 (text_of texts s.1))
      step (inr never) = (refused 2 (unserved_line words), other_words never)
