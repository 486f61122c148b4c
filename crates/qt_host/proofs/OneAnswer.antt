-- Of the same words and texts one answer is said.
use Rattle.std.proofs.Common.{◌≡◌, inl, inr, ℕ, List, [], ◌∷◌, codes, refl, sym, ap, ◌∙◌, subst}
use Rattle.qt_outside.specs.Causes.{Texts, text_of}
use Rattle.qt_tree.specs.declared.program.Program.{Program as Source}
use Rattle.qt_tree.specs.declared.refusal.TextRefusal.{TextRefusal}
use Rattle.qt_read.specs.Lines.{refusal_line}
use Rattle.qt_read.specs.Reading.{IsTextOfProgram, IsRefused}
use Rattle.qt_read.proofs.Outcomes.{one_outcome}
use Rattle.qt_print.specs.Text.{canonical}
use Rattle.qt_first.specs.declared.program.Program.{Program}
use Rattle.qt_first.specs.Form.{IsFirstFormText}
use Rattle.qt_first.proofs.Programs.{one_text}
use Rattle.qt_report.specs.declared.distribution.Chance.{Chance}
use Rattle.qt_report.specs.Report.{report_text}
use Rattle.qt_run.specs.Tree.{leaves_of}
use Rattle.qt_run.specs.Distribution.{IsDistribution, layout_of}
use Rattle.qt_run.proofs.Chances.{one_distribution}
use Rattle.qt_words.specs.Words.{Asks, IsMode, AreServed}
use Rattle.qt_lines.specs.Lines.{form_line}
use Rattle.qt_host.specs.Said.{Answer, Said, other_words, refused_text, other_form, report_of, canonical_of, answered, refused}

-- the words name one text
one_name : {words : List (List ℕ)} {mode other name text : List ℕ} → Asks words mode name → Asks words other text → name ≡ text
one_name e f = cc

one_mode : {words : List (List ℕ)} {mode other name text : List ℕ} → Asks words mode name → Asks words other text → mode ≡ other
one_mode e f = cc

two_modes : {words : List (List ℕ)} {name text : List ℕ} → Asks words (codes "run") name → Asks words (codes "format") text → ⊥
two_modes e f = run_is_format (one_mode e f)
  where
    run_is_format : codes "run" ≡ codes "format" → ⊥
    run_is_format e = absurd (cc e)

abbrev report_by : Program → List Chance → Answer
report_by p chances = answered (report_text (record { layout = layout_of p; chances = chances }))

one_report : (p r : Program) (first second : List Chance) → p ≡ r → IsDistribution (leaves_of p) first → IsDistribution (leaves_of r) second → report_by p first ≡ report_by r second
one_report p r first second e d f =
    let g : IsDistribution (leaves_of p) second = subst (λ x. IsDistribution (leaves_of x) second) (sym e) f in
    ap (report_by p) (one_distribution (leaves_of p) first second d g) ∙ ap (λ x. report_by x second) e

module _ (words : List (List ℕ)) (texts : Texts) where
  -- a text isn't both refused and that of a program
  never : {mode other name text : List ℕ} (reason : TextRefusal) (source : Source) → Asks words mode name → Asks words other text → IsRefused name 0 (text_of texts name) reason → IsTextOfProgram 0 (text_of texts text) source → ⊥
  never {name = name} reason source e f bad spelt =
      (one_outcome name 0 (text_of texts name)).either source reason (subst (λ n. IsTextOfProgram 0 (text_of texts n) source) (sym (one_name e f)) spelt) bad

  same_lines : {mode other name text : List ℕ} (first second : TextRefusal) → Asks words mode name → Asks words other text → IsRefused name 0 (text_of texts name) first → IsRefused text 0 (text_of texts text) second
      → refused 1 (refusal_line (name ∷ []) first) ≡ refused 1 (refusal_line (text ∷ []) second)
  same_lines {name = name} first second e f bad too =
      let names = one_name e f in
      let reasons = (one_outcome name 0 (text_of texts name)).refusals first second bad (subst (λ n. IsRefused n 0 (text_of texts n) second) (sym names) too) in
      ap (λ x. refused 1 (refusal_line (name ∷ []) x)) reasons ∙ ap (λ n. refused 1 (refusal_line (n ∷ []) second)) names

  same_text : {mode other name text : List ℕ} (p : Program) → Asks words mode name → Asks words other text → IsFirstFormText p (text_of texts text) → IsFirstFormText p (text_of texts name)
  same_text p e f h = subst (λ n. IsFirstFormText p (text_of texts n)) (sym (one_name e f)) h

  same_source : {mode other name text : List ℕ} (first second : Source) → Asks words mode name → Asks words other text → IsTextOfProgram 0 (text_of texts name) first → IsTextOfProgram 0 (text_of texts text) second → first ≡ second
  same_source {name = name} first second e f h g =
      (one_outcome name 0 (text_of texts name)).programs first second h (subst (λ n. IsTextOfProgram 0 (text_of texts n) second) (sym (one_name e f)) g)

  served : {mode name : List ℕ} → Asks words mode name → IsMode mode → AreServed words
  served {mode} {name} ask is = (mode, name, ask, is)

  pub one_answer : (first second : Answer) → Said words texts first → Said words texts second → first ≡ second
  one_answer _ _ (other_words none) (other_words other) = refl
  one_answer _ _ (other_words none) (refused_text mode name reason ask is bad) = absurd (none (served ask is))
  one_answer _ _ (other_words none) (other_form name source ask spelt nowhere) = absurd (none (served ask (inl refl)))
  one_answer _ _ (other_words none) (report_of name source p chances ask spelt text d) = absurd (none (served ask (inl refl)))
  one_answer _ _ (other_words none) (canonical_of name source ask spelt) = absurd (none (served ask (inr refl)))
  one_answer _ _ (refused_text mode name reason ask is bad) (other_words none) = absurd (none (served ask is))
  one_answer _ _ (refused_text mode name reason ask is bad) (refused_text other text second asks it too) = same_lines reason second ask asks bad too
  one_answer _ _ (refused_text mode name reason ask is bad) (other_form text source asks spelt none) = absurd (never reason source ask asks bad spelt)
  one_answer _ _ (refused_text mode name reason ask is bad) (report_of text source p chances asks spelt form d) = absurd (never reason source ask asks bad spelt)
  one_answer _ _ (refused_text mode name reason ask is bad) (canonical_of text source asks spelt) = absurd (never reason source ask asks bad spelt)
  one_answer _ _ (other_form name source ask spelt none) (other_words other) = absurd (other (served ask (inl refl)))
  one_answer _ _ (other_form name source ask spelt none) (refused_text mode text reason asks is bad) = absurd (never reason source asks ask bad spelt)
  one_answer _ _ (other_form name source ask spelt none) (other_form text other asks it nowhere) = ap (λ n. refused 1 (form_line n)) (one_name ask asks)
  one_answer _ _ (other_form name source ask spelt none) (report_of text other p chances asks it form d) = absurd (none p (same_text p ask asks form))
  one_answer _ _ (other_form name source ask spelt none) (canonical_of text other asks it) = absurd (two_modes ask asks)
  one_answer _ _ (report_of name source p chances ask spelt form d) (other_words none) = absurd (none (served ask (inl refl)))
  one_answer _ _ (report_of name source p chances ask spelt form d) (refused_text mode text reason asks is bad) = absurd (never reason source asks ask bad spelt)
  one_answer _ _ (report_of name source p chances ask spelt form d) (other_form text other asks it none) = absurd (none p (same_text p asks ask form))
  one_answer _ _ (report_of name source p chances ask spelt form d) (report_of text other r second asks it spelled f) =
      one_report p r chances second (one_text p r (text_of texts name) form (same_text r ask asks spelled)) d f
  one_answer _ _ (report_of name source p chances ask spelt form d) (canonical_of text other asks it) = absurd (two_modes ask asks)
  one_answer _ _ (canonical_of name source ask spelt) (other_words none) = absurd (none (served ask (inr refl)))
  one_answer _ _ (canonical_of name source ask spelt) (refused_text mode text reason asks is bad) = absurd (never reason source asks ask bad spelt)
  one_answer _ _ (canonical_of name source ask spelt) (other_form text other asks it none) = absurd (two_modes asks ask)
  one_answer _ _ (canonical_of name source ask spelt) (report_of text other p chances asks it form d) = absurd (two_modes asks ask)
  one_answer _ _ (canonical_of name source ask spelt) (canonical_of text other asks it) = ap (λ s. answered (canonical s)) (same_source source other ask asks spelt it)
