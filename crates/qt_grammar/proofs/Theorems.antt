-- The laws, from what reading says.
use Rattle.std.proofs.Common.{ℕ, subst, ◌≡◌, ◌≢◌, ◌+◌, ◌≤◌, List, None, Result, Ok, Err, refl, sym, ◌∙◌, arith}
use Rattle.qt_terminals.specs.Terminals.{PlacedTerminal, stream}
use Rattle.qt_grammar.specs.declared.refusal.Refusal.{Refusal}
use Rattle.qt_grammar.specs.declared.refusal.Refusal.TheVariants.{Syntax, Nest, OutOfMemory}
use Rattle.qt_grammar.specs.Sorts.{Value, program, expr}
use Rattle.qt_grammar.specs.Outcome.{Outcome}
use Rattle.qt_grammar.specs.Language.{expression, whole}
use Rattle.qt_grammar.specs.Spelling.{Limits, Opens}
use Rattle.qt_grammar.proofs.Lists.{reading}
use Rattle.qt_grammar.specs.Promise.{Answers, Parses}
use Rattle.qt_grammar.specs.Theorems.{OneProgram, SomeParse, OneParse, SomeAnswer, OneAnswer, OpensOnTheWay, LargerLimitsSpellMore, TooDeepBeforeStopper, SpelledIsParsed, TooDeepIsTold, StopperIsTold}
use Rattle.qt_grammar.proofs.Tables.{tested_whole, tested_expression}
use Rattle.qt_grammar.proofs.Promises as promise
use Rattle.qt_grammar.proofs.Limits.{reads_more}
use Rattle.qt_grammar.proofs.Agree.{opens_before}
use Rattle.qt_grammar.proofs.Parsers.{form_outcome, form_decides}

some_parse-of : (all : List PlacedTerminal) (l : Limits) (out : Outcome (Value program)) → out ≢ Err OutOfMemory → Answers (stream all) program whole None 0 l out
    → (r : Result (Value program) Refusal) × (r ≢ Err OutOfMemory) × Parses (stream all) l r
some_parse-of all l (Ok z) ne a = (Ok z.0, (λ h. cc h), promise.parses (stream all) l (Ok z.0) (Ok z) a (z.1, refl))
some_parse-of all l (Err (Syntax n)) ne a = (Err (Syntax n), (λ h. cc h), promise.parses (stream all) l (Err (Syntax n)) (Err (Syntax n)) a (λ m. refl))
some_parse-of all l (Err (Nest n)) ne a = (Err (Nest n), (λ h. cc h), promise.parses (stream all) l (Err (Nest n)) (Err (Nest n)) a (λ m. refl))
some_parse-of all l (Err OutOfMemory) ne a = absurd (ne refl)

pub some_parse : SomeParse
some_parse all l = some_parse-of all l (reading all l whole None 0) (form_decides all l program whole tested_whole None 0) (form_outcome all l program whole tested_whole None 0)

pub one_parse : OneParse
one_parse all l a b x y h g = promise.one_parse (stream all) l a b x y h g

pub one_program : OneProgram
one_program all l m p q h g = same (some_parse all l).0 (some_parse all l).1 (some_parse all l).2
  where
    same : (r : Result (Value program) Refusal) → r ≢ Err OutOfMemory → Parses (stream all) l r → p ≡ q
    same (Ok t) ne a = a.only l p h ∙ sym (a.only m q g)
    same (Err (Syntax n)) ne a = absurd (a.none l p h)
    same (Err (Nest n)) ne a = absurd (promise.program_fits (stream all) l p h.0 n h.1 a)
    same (Err OutOfMemory) ne a = absurd (ne refl)

pub some_answer : SomeAnswer
some_answer all l outer i = (reading all l expression outer i, form_decides all l expr expression tested_expression outer i, form_outcome all l expr expression tested_expression outer i)

pub one_answer : OneAnswer
one_answer all l outer i a b x y h g = promise.one_answer (stream all) expr expression tested_expression outer i l a b x y h g

pub opens_on_the_way : OpensOnTheWay
opens_on_the_way all l j k le o = opens_before (stream all) l.operators l.levels whole tested_whole None 0 k j o (omega arith) le

pub larger_limits_spell_more : LargerLimitsSpellMore
larger_limits_spell_more all l m p a b h = (h.0, reads_more (stream all) l.operators m.operators b l.levels m.levels a whole None 0 p h.0 h.1)

pub too_deep_before_stopper : TooDeepBeforeStopper
too_deep_before_stopper all l m n d s = let le : m + 1 ≤ n = (s.longest).longest (m + 1) d.larger in omega (arith, le)

pub spelled_is_parsed : SpelledIsParsed
spelled_is_parsed all l p h = same (some_parse all l).0 (some_parse all l).1 (some_parse all l).2
  where
    same : (r : Result (Value program) Refusal) → r ≢ Err OutOfMemory → Parses (stream all) l r → Parses (stream all) l (Ok p)
    same (Ok t) ne a = subst (λ q. Parses (stream all) l (Ok q)) (sym (a.only l p h)) a
    same (Err (Syntax n)) ne a = absurd (a.none l p h)
    same (Err (Nest n)) ne a = absurd (promise.program_fits (stream all) l p h.0 n h.1 a)
    same (Err OutOfMemory) ne a = absurd (ne refl)

-- a list that opens a program ends within the longest
pub too_deep_is_told : TooDeepIsTold
too_deep_is_told all l k o beyond = found (some_parse all l).0 (some_parse all l).1 (some_parse all l).2
  where
    within_longest : (j : ℕ) → k ≤ j → Opens (stream all) program whole None 0 l j → ⊥
    within_longest j le h = beyond (opens_on_the_way all l k j le h)

    found : (r : Result (Value program) Refusal) → r ≢ Err OutOfMemory → Parses (stream all) l r → (n : ℕ) × Parses (stream all) l (Err (Nest n))
    found (Ok p) ne a =
        absurd (within_longest (a.spells).0 (promise.no_longer (stream all) l o.0 p (a.spells).0 k (a.spells).1 o.1) (promise.opens_spelled (stream all) program whole tested_whole None 0 l p (a.spells).0 (a.spells).1))
    found (Err (Syntax n)) ne a = absurd (within_longest n ((a.longest).longest k o) a.before)
    found (Err (Nest n)) ne a = (n, a)
    found (Err OutOfMemory) ne a = absurd (ne refl)

pub stopper_is_told : StopperIsTold
stopper_is_told all l n s o = promise.parses (stream all) l (Err (Syntax n)) (Err (Syntax n)) (o, s) (λ m. refl)
