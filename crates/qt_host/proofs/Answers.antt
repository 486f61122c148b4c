-- From the text as far as it was fetched to what is said of the whole text: a text that is longer than the fetch reaches is refused
-- for its length, and every other is fetched whole.
use Rattle.std.proofs.Common.{◌≡◌, ◌≢◌, ℕ, ◌≤◌, inl, inr, List, [], ◌∷◌, ◌++◌, codes, length, take, refl, sym, ap, ◌∙◌, subst, arith, length-take}
use Rattle.std.proofs.lemmas.List.{take_all}
use Rattle.qt_outside.specs.Causes.{Texts, text_of}
use Rattle.qt_tree.specs.declared.program.Program.{Program as Source}
use Rattle.qt_tree.specs.declared.refusal.TextRefusal.{TextRefusal}
use Rattle.qt_tree.specs.declared.refusal.TextRefusal.TheVariants as e
use Rattle.qt_read.specs.Reading.{IsTextOfProgram, IsRefused, most_bytes, long, no_utf8, no_token, stopped}
use Rattle.std.specs.Prelude.{Result, Ok, Err, MatchResult}
use Rattle.qt_read.specs.Lines.{refusal_words}
use Rattle.qt_words.specs.Words.{Asks, IsMode, named}
use Rattle.qt_words.specs.Requests.{mode_word}
use Rattle.qt_words.specs.declared.request.Mode.{Mode}
use Rattle.qt_words.specs.declared.request.Mode.TheVariants.{Run, Format}
use Rattle.qt_lines.specs.Lines.{IsLine, form_line, shelf_line}
use Rattle.qt_host.specs.Lines.{TellsRefusal, fault_line}
use Rattle.qt_host.specs.Said.{Said, answered, refused, refused_text, other_form, report_of, canonical_of}
use Rattle.qt_host.specs.Steps.{IsAnswer, HasNoSource, HasNoAnswer, HasNoAnswerAt, HasShelfCause, IsTold}
use Rattle.qt_host.specs.declared.refusal.HostRefusal.{HostRefusal}
use Rattle.qt_host.specs.declared.refusal.HostRefusal.TheVariants.{Shelf, Text, Early, OutOfMemory}

-- how far a text is fetched
abbrev reach : ℕ
reach = 1048577

-- a part that is shorter than it may be is the whole
whole : (text : List ℕ) → length (take reach text) ≤ most_bytes → take reach text ≡ text
whole text h = take_all reach text (omega (arith, length-take reach text))

whole_source : (text : List ℕ) (source : Source) → IsTextOfProgram 0 (take reach text) source → take reach text ≡ text
whole_source text source h = whole text h.has.within

-- the reason of the part that was fetched is that of the whole text
whole_reason : (name text : List ℕ) (reason : TextRefusal) → IsRefused name 0 (take reach text) reason → IsRefused name 0 text reason
whole_reason name text reason (long l) = long (omega (arith, l, length-take reach text))
whole_reason name text reason (no_utf8 count within none valid) = subst (λ t. IsRefused name 0 t (e.E1 name count)) (whole text within) (no_utf8 count within none valid)
whole_reason name text reason (no_token place within utf8 fails) = subst (λ t. IsRefused name 0 t (e.E3 place)) (whole text within) (no_token place within utf8 fails)
whole_reason name text reason (stopped ts why has stop) = subst (λ t. IsRefused name 0 t why) (whole text has.within) (stopped ts why has stop)

is_mode : (mode : Mode) → IsMode (mode_word mode)
is_mode Run = inl refl
is_mode Format = inr refl

abbrev part : List ℕ → List ℕ
part text = take reach text

whole_answer : (mode : Mode) (text bytes : List ℕ) → IsAnswer mode (part text) bytes → IsAnswer mode text bytes
whole_answer Run text bytes a = subst (λ t. IsAnswer Run t bytes) (whole_source text a.0 a.1) a
whole_answer Format text bytes a = subst (λ t. IsAnswer Format t bytes) (whole_source text a.0 a.1) a

why_whole : (mode : Mode) (name text : List ℕ) (reason : HostRefusal) → HasNoAnswer mode name (part text) reason → HasNoAnswerAt mode name text reason
why_whole mode name text (Shelf of) h = tt
why_whole Run name text (Text reason) h = whole_reason name text reason h
why_whole Format name text (Text reason) h = whole_reason name text reason h
why_whole Run name text (Early of) h = subst (λ t. HasNoAnswer Run name t (Early of)) (whole_source text h.1.0 h.1.1) h
why_whole Format name text (Early of) h = absurd h
why_whole Run name text OutOfMemory h = tt
why_whole Format name text OutOfMemory h = tt

-- why a text has no program is why it has no answer
pub no_answer : (mode : Mode) (name text : List ℕ) (reason : HostRefusal) → HasNoSource name text reason → HasNoAnswer mode name text reason
no_answer mode name text (Shelf of) h = absurd h
no_answer Run name text (Text reason) h = h
no_answer Format name text (Text reason) h = h
no_answer mode name text (Early of) h = absurd h
no_answer Run name text OutOfMemory h = tt
no_answer Format name text OutOfMemory h = tt

-- what is answered to the part that was fetched is the answer to the whole
of_whole : {A : Type 0} (bytes : A → List ℕ) (mode : Mode) (name text : List ℕ) (result : Result A HostRefusal)
    → MatchResult result (λ a. IsAnswer mode (part text) (bytes a)) (HasNoAnswer mode name (part text)) → MatchResult result (λ a. IsAnswer mode text (bytes a)) (HasNoAnswerAt mode name text)
of_whole bytes mode name text (Ok a) h = whole_answer mode text (bytes a) h
of_whole bytes mode name text (Err reason) h = why_whole mode name text reason h

pub of_fetched : {A : Type 0} (bytes : A → List ℕ) (mode : Mode) (name text fetched : List ℕ) (result : Result A HostRefusal) → fetched ≡ part text
    → MatchResult result (λ a. IsAnswer mode fetched (bytes a)) (HasNoAnswer mode name fetched) → MatchResult result (λ a. IsAnswer mode text (bytes a)) (HasNoAnswerAt mode name text)
of_fetched bytes mode name text fetched result same h =
    of_whole bytes mode name text result (subst (λ t. MatchResult result (λ a. IsAnswer mode t (bytes a)) (HasNoAnswer mode name t)) same h)

module _ (words : List (List ℕ)) (texts : Texts) (name : List ℕ) where
  -- an answer is said
  pub said : (mode : Mode) (bytes : List ℕ) → Asks words (mode_word mode) name → IsAnswer mode (text_of texts name) bytes → Said words texts (answered bytes)
  said Run bytes ask a =
      let r = a.2 in subst (λ t. Said words texts (answered t)) (sym r.4) (report_of name a.0 r.0 r.1 ask a.1 r.2 r.3)
  said Format bytes ask a = subst (λ t. Said words texts (answered t)) (sym a.2) (canonical_of name a.0 ask a.1)

  -- the line of a refusal that is told by 1 is said
  pub told : (mode : Mode) (reason : HostRefusal) (status : ℕ) (line : List ℕ) → Asks words (mode_word mode) name → HasNoAnswerAt mode name (text_of texts name) reason → IsTold name reason status line → status ≡ 1 → Said words texts (refused 1 line)
  told mode (Shelf of) status line ask h (inl t) one = absurd (omega (arith, t.0, one))
  told Run (Text reason) status line ask h (inl t) one = subst (λ l. Said words texts (refused 1 l)) (sym t.1) (refused_text (mode_word Run) name reason ask (is_mode Run) h)
  told Format (Text reason) status line ask h (inl t) one = subst (λ l. Said words texts (refused 1 l)) (sym t.1) (refused_text (mode_word Format) name reason ask (is_mode Format) h)
  told Run (Early of) status line ask h (inl t) one =
      subst (λ l. Said words texts (refused 1 l)) (sym (t.1 ∙ ap form_line h.0)) (other_form name h.1.0 ask h.1.1 h.2)
  told Format (Early of) status line ask h (inl t) one = absurd h
  told mode OutOfMemory status line ask h (inl t) one = absurd (omega (arith, t.0, one))
  told mode reason status line ask h (inr t) one = absurd (omega (arith, t.0, one))

-- the line of a refusal that isn't told by 1 is that of its status
pub line_of_status : (words : List (List ℕ)) (mode name : List ℕ) (before now : ℕ) (failed : List ℕ) (reason : HostRefusal) (status : ℕ) (line : List ℕ)
    → Asks words mode name → HasShelfCause before now failed name reason → IsTold name reason status line → status ≢ 1 → line ≡ fault_line status words
line_of_status words mode name before now failed reason status line ask cause (inr h) other =
    h.1 ∙ sym (ap (λ s. fault_line s words) h.0)
line_of_status words mode name before now failed (Shelf of) status line ask cause (inl h) other =
    h.1 ∙ ap shelf_line cause.2 ∙ ap shelf_line (sym (ap named ask)) ∙ sym (ap (λ s. fault_line s words) h.0)
line_of_status words mode name before now failed (Text reason) status line ask cause (inl h) other = absurd (other h.0)
line_of_status words mode name before now failed (Early of) status line ask cause (inl h) other = absurd (other h.0)
line_of_status words mode name before now failed OutOfMemory status line ask cause (inl h) other =
    h.1 ∙ sym (ap (λ s. fault_line s words) h.0)

is_form_line : (name : List ℕ) → IsLine (form_line name)
is_form_line name = (codes "E0 " ++ name ++ codes " form", refl)

-- what is told by 1 is one line, and tells that the text of that name is refused
pub refused_line : (name : List ℕ) (before now : ℕ) (failed : List ℕ) (reason : HostRefusal) (status : ℕ) (line : List ℕ)
    → HasShelfCause before now failed name reason → IsTold name reason status line → status ≡ 1 → IsLine line × TellsRefusal name line
refused_line name before now failed reason status line cause (inr t) one = absurd (omega (arith, t.0, one))
refused_line name before now failed (Shelf of) status line cause (inl t) one = absurd (omega (arith, t.0, one))
refused_line name before now failed (Text reason) status line cause (inl t) one = ((refusal_words (name ∷ []) reason, t.1), inr (reason, t.1))
refused_line name before now failed (Early of) status line cause (inl t) one =
    let same : line ≡ form_line name = t.1 ∙ ap form_line cause.1 in
    (subst IsLine (sym same) (is_form_line name), inl same)
refused_line name before now failed OutOfMemory status line cause (inl t) one = absurd (omega (arith, t.0, one))
