-- What reading the whole grammar says of the tokens of a text.
use Rattle.std.proofs.Common.{◌≡◌, ◌≢◌, ℕ, ◌⊎◌, inl, inr, List, Option, Some, None, Result, Ok, Err, refl, subst, sym, ap}
use Rattle.qt_tree.specs.declared.program.Program.{Program}
use Rattle.qt_tree.specs.declared.refusal.Feature.{Feature}
use Rattle.qt_tree.specs.declared.refusal.Feature.TheVariants.{Annotation}
use Rattle.qt_terminals.specs.declared.terminal.Terminal.TheVariants as w
use Rattle.qt_terminals.specs.Alphabet.{feature_of}
use Rattle.qt_terminals.specs.Terminals.{PlacedTerminal, stream, with_terminal}
use Rattle.qt_grammar.specs.declared.refusal.Refusal.{Refusal}
use Rattle.qt_grammar.specs.declared.refusal.Refusal.TheVariants as r
use Rattle.qt_grammar.specs.Outcome.{Tells}
use Rattle.qt_grammar.specs.Spelling.{language_limits}
use Rattle.qt_grammar.specs.Promise.{Parses, OnlyProgram, CouldBegin}
use Rattle.qt_grammar.proofs.Parsers.{program_parses, barrier_begins, barrier_refused}
use Rattle.qt_lookahead.specs.declared.refusal.ParseRefusal.TheVariants.{Syntax, NotInProfile}
use Rattle.qt_lookahead.specs.Refusals.{stopped_by, located}
use Rattle.qt_parse.specs.Parser.{read_whole}
use Rattle.qt_parse.specs.Promise.{IsOfFeature, StopsAt, TooDeepAt, Refused}

pub parses : (all : List PlacedTerminal) (out : Result Program Refusal) → Tells (read_whole all 64 0) out → Parses (stream all) language_limits out
unfolding read_whole
parses all out h = program_parses all out h

pub found : (all : List PlacedTerminal) (p : Program) → Tells (read_whole all 64 0) (Ok p) → OnlyProgram (stream all) language_limits p
found all p h = parses all (Ok p) h

pub too_deep : (all : List PlacedTerminal) (n : ℕ) → Tells (read_whole all 64 0) (Err (r.Nest n)) → Refused all (located all (r.Nest n))
too_deep all n h = (n, record { first = parses all (Err (r.Nest n)) h; place = refl })

pub begins : (all now : List PlacedTerminal) (n : ℕ) (out : Result Program Refusal) → now ≡ with_terminal all n w.Barrier → read_whole all 64 0 ≡ Err (r.Syntax n)
    → Tells (read_whole now 64 0) out → out ≢ Err (r.Syntax n) → out ≢ Err r.OutOfMemory → CouldBegin all n
unfolding read_whole
begins all now n out e h t a b = barrier_begins all n h out (subst (λ x. Tells (read_whole x 64 0) out) e t) a b

pub never_begins : (all now : List PlacedTerminal) (n : ℕ) → now ≡ with_terminal all n w.Barrier → read_whole all 64 0 ≡ Err (r.Syntax n)
    → Tells (read_whole now 64 0) (Err (r.Syntax n)) → CouldBegin all n → ⊥
unfolding read_whole
never_begins all now n e h t = barrier_refused all n h (subst (λ x. read_whole x 64 0 ≡ Err (r.Syntax n)) e (t (λ x. cc)))

-- the stopper at place n of the list
module _ (all : List PlacedTerminal) (n : ℕ) (h : read_whole all 64 0 ≡ Err (r.Syntax n)) where
  stops : StopsAt all n (stream all n).place
  stops = record { stopper = parses all (Err (r.Syntax n)) (λ m. h); place = refl }

  pub annotation : (stream all n).terminal ≡ w.At → CouldBegin all n → Refused all (NotInProfile (stream all n).place Annotation)
  annotation p q = (n, stops, inr (p, q, refl))

  unnamed : feature_of (stream all n).terminal ≡ None → ((stream all n).terminal ≡ w.At → CouldBegin all n → ⊥) → Refused all (Syntax (stream all n).place)
  unnamed p q = (n, stops, λ f o. elim o [ inl a ↦ none f a | inr b ↦ q b.0 b.1 ])
    where
      none : (f : Feature) → feature_of (stream all n).terminal ≡ Some f → ⊥
      none f a = cc (p, a)

  pub no_annotation : (stream all n).terminal ≡ w.At → (CouldBegin all n → ⊥) → Refused all (Syntax (stream all n).place)
  no_annotation p q = unnamed (ap feature_of p) (λ e. q)

  pub by_terminal : ((stream all n).terminal ≡ w.At → ⊥) → Refused all (located all (r.Syntax n))
  by_terminal p = named (feature_of (stream all n).terminal) refl
    where
      named : (o : Option Feature) → feature_of (stream all n).terminal ≡ o → Refused all (stopped_by o (stream all n).place)
      named None e = unnamed e (λ a c. p a)
      named (Some f) e = (n, stops, inl e)
