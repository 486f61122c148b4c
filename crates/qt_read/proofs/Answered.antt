-- Tokens spell a program, or one of them is refused for a reason.
use Rattle.std.proofs.Common.{◌≡◌, ◌≢◌, ℕ, ◌<◌, ◌⊎◌, inl, inr, Bool, true, false, eqb, List, Option, Some, None, Result, Ok, Err, refl, ap, subst, arith}
use Rattle.qt_tree.specs.declared.program.Program.{Program}
use Rattle.qt_tree.specs.declared.refusal.Feature.{Feature}
use Rattle.qt_tree.specs.declared.refusal.Feature.TheVariants.{Annotation}
use Rattle.qt_lex.proofs.Tables.{eqb_same, compare}
use Rattle.qt_terminals.specs.declared.terminal.Terminal.{Terminal}
use Rattle.qt_terminals.specs.declared.terminal.Terminal.TheVariants as w
use Rattle.qt_terminals.specs.Alphabet.{feature_of, code}
use Rattle.qt_terminals.specs.Terminals.{PlacedTerminal, stream, with_terminal}
use Rattle.qt_terminals.proofs.Codes.{code_same}
use Rattle.qt_grammar.specs.declared.refusal.Refusal.{Refusal}
use Rattle.qt_grammar.specs.declared.refusal.Refusal.TheVariants.{Syntax, Nest, OutOfMemory}
use Rattle.qt_grammar.specs.Sorts.{Value, program}
use Rattle.qt_grammar.specs.Outcome.{Outcome}
use Rattle.qt_grammar.specs.Language.{whole}
use Rattle.qt_grammar.specs.Spelling.{language_limits}
use Rattle.qt_grammar.specs.Promise.{OnlyProgram, CouldBegin}
use Rattle.qt_grammar.proofs.Lists.{reading}
use Rattle.qt_grammar.proofs.Tables.{tested_whole}
use Rattle.qt_grammar.proofs.Parsers.{program_parses, barrier_begins, barrier_refused, form_decides}
use Rattle.qt_lookahead.specs.declared.refusal.ParseRefusal.{ParseRefusal}
use Rattle.qt_lookahead.specs.declared.refusal.ParseRefusal.TheVariants as p
use Rattle.qt_parse.specs.Promise.{Refused, StopsAt}

is_at : (terminal : Terminal) → (terminal ≡ w.At) ⊎ (terminal ≡ w.At → ⊥)
is_at terminal = by_code (eqb (code terminal) 77) refl
  where
    by_code : (same : Bool) → eqb (code terminal) 77 ≡ same → (terminal ≡ w.At) ⊎ (terminal ≡ w.At → ⊥)
    by_code true e = inl (code_same terminal w.At (eqb_same (code terminal) 77 e))
    by_code false e = inr (λ h. let f : eqb (code terminal) 77 ≡ true = ap (λ t. eqb (code t) 77) h in absurd (cc (e, f)))

same_number : {m n : ℕ} → (let o : Outcome (Value program) = Err (Syntax m) in o) ≡ Err (Syntax n) → m ≡ n
same_number e = cc

-- what a parser could answer of the tokens
abbrev pub Answered : List PlacedTerminal → Type 0
Answered all = ((tree : Program) × OnlyProgram (stream all) language_limits tree) ⊎ ((e : ParseRefusal) × (e ≢ p.OutOfMemory) × Refused all e)

module _ (all : List PlacedTerminal) where
  abbrev first_reading : Outcome (Value program)
  first_reading = reading all language_limits whole None 0

  -- the stopper, where reading stops
  module _ (n : ℕ) (stopped : reading all language_limits whole None 0 ≡ Err (Syntax n)) where
    stops : StopsAt all n (stream all n).place
    unfolding reading
    stops = record { stopper = program_parses all (Err (Syntax n)) (λ m. stopped); place = refl }

    abbrev begun : Outcome (Value program)
    begun = reading (with_terminal all n w.Barrier) language_limits whole None 0

    could_or_not : (out : Outcome (Value program)) → begun ≡ out → CouldBegin all n ⊎ (CouldBegin all n → ⊥)
    unfolding reading
    could_or_not (Ok (tree, j)) e = inl (barrier_begins all n stopped (Ok tree) (j, e) (λ h. absurd (cc h)) (λ h. absurd (cc h)))
    could_or_not (Err (Nest m)) e = inl (barrier_begins all n stopped (Err (Nest m)) (λ h. e) (λ h. absurd (cc h)) (λ h. absurd (cc h)))
    could_or_not (Err OutOfMemory) e = absurd (form_decides (with_terminal all n w.Barrier) language_limits program whole tested_whole None 0 e)
    could_or_not (Err (Syntax m)) e = by_number (compare m n)
      where
        told_same : (let o : Result Program Refusal = Err (Syntax m) in o) ≡ Err (Syntax n) → m ≡ n
        told_same h = cc

        elsewhere : (m ≡ n → ⊥) → CouldBegin all n
        elsewhere differ = barrier_begins all n stopped (Err (Syntax m)) (λ g. e) (λ g. differ (told_same g)) (λ g. absurd (cc g))

        by_number : (m < n) ⊎ ((m ≡ n) ⊎ (n < m)) → CouldBegin all n ⊎ (CouldBegin all n → ⊥)
        by_number (inl less) = inl (elsewhere (λ g. omega (arith, less, g)))
        by_number (inr (inr more)) = inl (elsewhere (λ g. omega (arith, more, g)))
        by_number (inr (inl same)) = inr (barrier_refused all n stopped (subst (λ k. begun ≡ Err (Syntax k)) same e))

    unnamed : feature_of (stream all n).terminal ≡ None → ((stream all n).terminal ≡ w.At → CouldBegin all n → ⊥) → Answered all
    unnamed none never = inr (p.Syntax (stream all n).place, (λ e. absurd (cc e)), (n, stops, λ feature of. elim of [ inl a ↦ absurd (named feature a) | inr b ↦ never b.0 b.1 ]))
      where
        named : (feature : Feature) → feature_of (stream all n).terminal ≡ Some feature → ⊥
        named feature a = absurd (cc (none, a))

    at_sign : feature_of (stream all n).terminal ≡ None → (stream all n).terminal ≡ w.At → CouldBegin all n ⊎ (CouldBegin all n → ⊥) → Answered all
    at_sign none at (inl could) = inr (p.NotInProfile (stream all n).place Annotation, (λ e. absurd (cc e)), (n, stops, inr (at, could, refl)))
    at_sign none at (inr never) = unnamed none (λ e. never)

    of_feature : (o : Option Feature) → feature_of (stream all n).terminal ≡ o → Answered all
    of_feature (Some feature) e = inr (p.NotInProfile (stream all n).place feature, (λ h. absurd (cc h)), (n, stops, inl e))
    of_feature None e = elim (is_at (stream all n).terminal) [
      | inl at ↦ at_sign e at (could_or_not begun refl)
      | inr other ↦ unnamed e (λ at could. other at)
    ]

  answer_of : (out : Outcome (Value program)) → first_reading ≡ out → Answered all
  unfolding reading
  answer_of (Ok (tree, j)) e = inl (tree, program_parses all (Ok tree) (j, e))
  answer_of (Err (Syntax n)) e = of_feature n e (feature_of (stream all n).terminal) refl
  answer_of (Err (Nest n)) e = inr (p.Nest (stream all n).place, (λ h. absurd (cc h)), (n, record { first = program_parses all (Err (Nest n)) (λ m. e); place = refl }))
  answer_of (Err OutOfMemory) e = absurd (form_decides all language_limits program whole tested_whole None 0 e)

  pub answered : Answered all
  answered = answer_of first_reading refl
