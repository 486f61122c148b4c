-- From a text as far as it was fetched to the whole text: one that is longer than the fetch reaches is refused for its length, and every
-- other is fetched whole.
use Rattle.std.proofs.Common.{◌≡◌, ℕ, ◌≤◌, List, length, take, sym, subst, arith, length-take}
use Rattle.std.proofs.lemmas.List.{take_all}
use Rattle.qt_outside.specs.Causes.{Texts, text_of}
use Rattle.qt_read.specs.Reading.{IsTextOfProgram, IsRefused, IsReason, most_bytes, long, no_utf8, no_token, stopped}
use Rattle.qt_tree.specs.declared.program.Program.{Program}
use Rattle.qt_tree.specs.declared.refusal.TextRefusal.{TextRefusal}
use Rattle.qt_tree.specs.declared.refusal.TextRefusal.TheVariants as e
use Rattle.qt_includes.specs.declared.refusal.IncludeRefusal.{IncludeRefusal}
use Rattle.qt_includes.specs.declared.refusal.IncludeRefusal.TheVariants.{Text}
use Rattle.qt_includes.specs.Steps.{IsToldAs, HasNoProgram}

-- how far a text is fetched
abbrev reach : ℕ
reach = 1048577

-- a part that is shorter than it may be is the whole
whole : (text : List ℕ) → length (take reach text) ≤ most_bytes → take reach text ≡ text
whole text h = take_all reach text (omega (arith, length-take reach text))

-- the program of the part that was fetched is that of the whole text
pub whole_program : (file : ℕ) (text part : List ℕ) (program : Program) → part ≡ take reach text → IsTextOfProgram file part program → IsTextOfProgram file text program
whole_program file text part program same h =
    let p : IsTextOfProgram file (take reach text) program = subst (λ t. IsTextOfProgram file t program) same h in
    subst (λ t. IsTextOfProgram file t program) (whole text p.has.within) p

-- the reason of the part that was fetched is that of the whole text
whole_reason : (name : List ℕ) (file : ℕ) (text : List ℕ) (reason : TextRefusal) → IsRefused name file (take reach text) reason → IsRefused name file text reason
whole_reason name file text reason (long l) = long (omega (arith, l, length-take reach text))
whole_reason name file text reason (no_utf8 count within none valid) = subst (λ t. IsRefused name file t (e.E1 name count)) (whole text within) (no_utf8 count within none valid)
whole_reason name file text reason (no_token place within utf8 fault) = subst (λ t. IsRefused name file t (e.E3 place)) (whole text within) (no_token place within utf8 fault)
whole_reason name file text reason (stopped ts why has stop) = subst (λ t. IsRefused name file t why) (whole text has.within) (stopped ts why has stop)

module _ (texts : Texts) (name : List ℕ) (file : ℕ) (part : List ℕ) (same : part ≡ take reach (text_of texts name)) where
  refused : (reason : TextRefusal) → IsRefused name file part reason → IsRefused name file (text_of texts name) reason
  refused reason h = whole_reason name file (text_of texts name) reason (subst (λ t. IsRefused name file t reason) same h)

  of_told : (reason : TextRefusal) (told : IncludeRefusal) → told ≡ Text reason → IsRefused name file part reason → HasNoProgram texts name file told
  of_told reason told is h = subst (HasNoProgram texts name file) (sym is) (refused reason h)

  -- a reason that is told says why there is no program
  pub no_program : (reason : TextRefusal) (told : IncludeRefusal) → IsToldAs reason told → IsReason name file part reason → HasNoProgram texts name file told
  no_program e.OutOfMemory told is h = subst (HasNoProgram texts name file) (sym is) tt
  no_program (e.E1 a b) told is h = of_told (e.E1 a b) told is h
  no_program (e.E2 a) told is h = of_told (e.E2 a) told is h
  no_program (e.E3 a) told is h = of_told (e.E3 a) told is h
  no_program (e.E4 a) told is h = of_told (e.E4 a) told is h
  no_program (e.E5 a) told is h = of_told (e.E5 a) told is h
  no_program (e.E6 a b) told is h = of_told (e.E6 a b) told is h
  no_program (e.E7 a) told is h = of_told (e.E7 a) told is h
  no_program (e.E8 a b) told is h = of_told (e.E8 a b) told is h
  no_program (e.E9 a b) told is h = of_told (e.E9 a b) told is h
  no_program (e.E10 a) told is h = of_told (e.E10 a) told is h
  no_program (e.E11 a b) told is h = of_told (e.E11 a b) told is h
  no_program (e.E12 a b) told is h = of_told (e.E12 a b) told is h
  no_program (e.E13 a b) told is h = of_told (e.E13 a b) told is h
  no_program (e.E14 a b d) told is h = of_told (e.E14 a b d) told is h
  no_program (e.E15 a) told is h = of_told (e.E15 a) told is h
  no_program (e.E16 a) told is h = of_told (e.E16 a) told is h
  no_program (e.E17 a) told is h = of_told (e.E17 a) told is h
  no_program (e.E18 a) told is h = of_told (e.E18 a) told is h
  no_program (e.E19 a b) told is h = of_told (e.E19 a b) told is h
