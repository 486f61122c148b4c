-- A formatted text is formatted to itself, and is that of the same program.
use Rattle.std.proofs.Common.{◌≡◌, ℕ, ◌≤◌, List, [], ◌∷◌, codes, length, refl, sym, ap, ◌∙◌, subst}
use Rattle.std.specs.Str.{IsUtf8}
use Rattle.qt_outside.specs.Causes.{Texts, text_of}
use Rattle.qt_tree.specs.declared.program.Program.{Program}
use Rattle.qt_print.specs.Text.{canonical}
use Rattle.qt_read.specs.Reading.{IsTextOfProgram, most_bytes, SpellsOnly}
use Rattle.qt_round_trip.specs.Laws.{ReadsAs}
use Rattle.qt_round_trip.proofs.Again.{round_trip, keeps_the_program as keeps}
use Rattle.qt_words.specs.Words.{Asks}
use Rattle.qt_host.specs.Said.{Answer, Said, other_words, refused_text, other_form, report_of, canonical_of, answered}
use Rattle.qt_host.specs.Formatting.{FormatsAgain, KeepsTheProgram}

is_text_of : (text : List ℕ) (file : ℕ) (p : Program) (is : IsTextOfProgram file text p) → ReadsAs text file is.tokens p
unfolding SpellsOnly
is_text_of text file p is = record { given = is.has.given; spelled = is.spelled }

-- the canonical text, if it is no longer than a text may be, is that of a program with the same canonical text
again : (text : List ℕ) (file other : ℕ) (p : Program) → IsTextOfProgram file text p → IsUtf8 (canonical p) → length (canonical p) ≤ most_bytes
    → (q : Program) × IsTextOfProgram other (canonical p) q × (canonical q ≡ canonical p)
unfolding SpellsOnly
again text file other p is utf8 within =
    let found = round_trip text file is.tokens p (is_text_of text file p is) other in
    (found.program, record { tokens = found.tokens; has = record { within = within; utf8 = utf8; given = found.given }; spelled = found.spelled }, found.text)

pub keeps_the_program : KeepsTheProgram
keeps_the_program text file other p q is its = keeps text file is.tokens p other its.tokens q (is_text_of text file p is) (is_text_of (canonical p) other q its)

module _ (output : List ℕ) (utf8 : IsUtf8 output) (texts others : Texts) (name other : List ℕ) (stored : text_of others other ≡ output) (within : length output ≤ most_bytes) where
  abbrev Format : List ℕ → List (List ℕ)
  Format text = codes "format" ∷ text ∷ []

  run_is_format : {words : List (List ℕ)} {text : List ℕ} → words ≡ Format name → Asks words (codes "run") text → ⊥
  run_is_format e f = apart cc
    where
      apart : codes "run" ≡ codes "format" → ⊥
      apart e = absurd (cc e)

  said_again : (words : List (List ℕ)) (answer : Answer) → Said words texts answer → words ≡ Format name → answer ≡ answered output → Said (Format other) others (answered output)
  said_again _ _ (other_words none) w e = let status = ap (λ a. a.status) e in absurd (cc status)
  said_again _ _ (refused_text mode text reason ask is bad) w e = let status = ap (λ a. a.status) e in absurd (cc status)
  said_again _ _ (other_form text source ask spelt none) w e = let status = ap (λ a. a.status) e in absurd (cc status)
  said_again _ _ (report_of text source p chances ask spelt form d) w e = absurd (run_is_format w ask)
  said_again _ _ (canonical_of text source ask spelt) w e =
      let bytes : canonical source ≡ output = ap (λ a. a.output) e in
      let found = again (text_of texts text) 0 0 source spelt (subst IsUtf8 (sym bytes) utf8) (subst (λ t. length t ≤ most_bytes) (sym bytes) within) in
      let its : IsTextOfProgram 0 (text_of others other) found.0 = subst (λ t. IsTextOfProgram 0 t found.0) (bytes ∙ sym stored) found.1 in
      subst (λ t. Said (Format other) others (answered t)) (found.2 ∙ bytes) (canonical_of other found.0 refl its)

pub formats_again : (output : List ℕ) → IsUtf8 output → FormatsAgain output
formats_again output utf8 texts others name other said stored within =
    said_again output utf8 texts others name other stored within (codes "format" ∷ name ∷ []) (answered output) said refl refl
