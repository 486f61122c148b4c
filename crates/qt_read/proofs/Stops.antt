-- Tokens spell one program, or are refused at one token for one reason.
use Rattle.std.proofs.Common.{◌≡◌, ◌≢◌, ◌∙◌, inl, inr, ℕ, List, Some, Result, Ok, Err, refl, sym, ap, subst}
use Rattle.qt_tree.specs.declared.place.Place.{Place}
use Rattle.qt_tree.specs.declared.refusal.Feature.{Feature}
use Rattle.qt_tree.specs.declared.program.Program.{Program}
use Rattle.qt_tree.specs.declared.refusal.TextRefusal.{TextRefusal}
use Rattle.qt_lex.specs.declared.tokens.Token.{Token}
use Rattle.qt_terminals.specs.declared.terminal.Terminal.{Terminal}
use Rattle.qt_terminals.specs.declared.terminal.Terminal.TheVariants as w
use Rattle.qt_terminals.specs.Alphabet.{feature_of}
use Rattle.qt_terminals.specs.Terminals.{PlacedTerminal, terminals, stream}
use Rattle.qt_grammar.specs.declared.refusal.Refusal.{Refusal}
use Rattle.qt_grammar.specs.declared.refusal.Refusal.TheVariants.{Syntax, Nest, OutOfMemory}
use Rattle.qt_grammar.specs.Spelling.{language_limits}
use Rattle.qt_grammar.specs.Promise.{OnlyProgram, Parses}
use Rattle.qt_grammar.proofs.Theorems.{one_parse}
use Rattle.qt_lookahead.specs.declared.refusal.ParseRefusal.{ParseRefusal}
use Rattle.qt_lookahead.specs.declared.refusal.ParseRefusal.TheVariants as p
use Rattle.qt_parse.specs.Promise.{Refused, StopsAt, TooDeepAt, IsOfFeature}
use Rattle.qt_read.specs.Reading.{SpellsOnly, IsStopped, refusal_of}

pub one_program : (text : List ℕ) (ts : List Token) (a b : Program) → SpellsOnly text ts a → SpellsOnly text ts b → a ≡ b
unfolding SpellsOnly
one_program text ts a b h g = g.only language_limits a h.spells

abbrev refused : Refusal → Result Program Refusal
refused x = Err x

module _ (all : List PlacedTerminal) where
  -- the answers of a parser
  one_token : (a b : Refusal) → a ≢ OutOfMemory → b ≢ OutOfMemory → Parses (stream all) language_limits (Err a) → Parses (stream all) language_limits (Err b) → a ≡ b
  one_token a b p q h g = refusal_same (one_parse all language_limits (Err a) (Err b) (λ e. p (refusal_same e)) (λ e. q (refusal_same e)) h g)
    where
      refusal_same : {x y : Refusal} → refused x ≡ refused y → x ≡ y
      refusal_same e = cc

  one_stopper : (m n : ℕ) (at of : Place) → StopsAt all m at → StopsAt all n of → m ≡ n
  one_stopper m n at of h g = number_same (one_token (Syntax m) (Syntax n) (λ e. absurd (cc e)) (λ e. absurd (cc e)) h.stopper g.stopper)
    where
      number_same : Syntax m ≡ Syntax n → m ≡ n
      number_same e = cc

  one_too_deep : (m n : ℕ) (at of : Place) → TooDeepAt all m at → TooDeepAt all n of → m ≡ n
  one_too_deep m n at of h g = number_same (one_token (Nest m) (Nest n) (λ e. absurd (cc e)) (λ e. absurd (cc e)) h.first g.first)
    where
      number_same : Nest m ≡ Nest n → m ≡ n
      number_same e = cc

  not_both : (m n : ℕ) (at of : Place) → StopsAt all m at → TooDeepAt all n of → ⊥
  not_both m n at of h g = apart (one_token (Syntax m) (Nest n) (λ e. absurd (cc e)) (λ e. absurd (cc e)) h.stopper g.first)
    where
      apart : Syntax m ≡ Nest n → ⊥
      apart e = absurd (cc e)

  same_place : (m n : ℕ) (at of : Place) → m ≡ n → at ≡ (stream all m).place → of ≡ (stream all n).place → at ≡ of
  same_place m n at of e h g = h ∙ ap (λ x. (stream all x).place) e ∙ sym g

  one_feature : (n : ℕ) (a b : Feature) → IsOfFeature all n a → IsOfFeature all n b → a ≡ b
  one_feature n a b (inl h) (inl g) = cc (h, g)
  one_feature n a b (inl h) (inr g) = absurd (at_has_none (stream all n).terminal a g.0 h)
    where
      at_has_none : (word : Terminal) (feature : Feature) → word ≡ w.At → feature_of word ≡ Some feature → ⊥
      at_has_none word feature e h = absurd (cc (sym (ap feature_of e) ∙ h))
  one_feature n a b (inr h) (inl g) = absurd (at_has_none (stream all n).terminal b h.0 g)
    where
      at_has_none : (word : Terminal) (feature : Feature) → word ≡ w.At → feature_of word ≡ Some feature → ⊥
      at_has_none word feature e h = absurd (cc (sym (ap feature_of e) ∙ h))
  one_feature n a b (inr h) (inr g) = h.2 ∙ sym g.2

  syntax_once : (a b : Place) → Refused all (p.Syntax a) → Refused all (p.Syntax b) → a ≡ b
  syntax_once a b h g = same_place h.0 g.0 a b (one_stopper h.0 g.0 a b h.1 g.1) h.1.place g.1.place

  nest_once : (a b : Place) → Refused all (p.Nest a) → Refused all (p.Nest b) → a ≡ b
  nest_once a b h g = same_place h.0 g.0 a b (one_too_deep h.0 g.0 a b h.1 g.1) h.1.place g.1.place

  feature_place : (a b : Place) (f g : Feature) → Refused all (p.NotInProfile a f) → Refused all (p.NotInProfile b g) → a ≡ b
  feature_place a b f g h k = same_place h.0 k.0 a b (one_stopper h.0 k.0 a b h.1 k.1) h.1.place k.1.place

  feature_once : (a b : Place) (f g : Feature) → Refused all (p.NotInProfile a f) → Refused all (p.NotInProfile b g) → f ≡ g
  feature_once a b f g h k = one_feature h.0 f g h.2 (subst (λ n. IsOfFeature all n g) (sym (one_stopper h.0 k.0 a b h.1 k.1)) k.2)

  syntax_or_feature : (a b : Place) (f : Feature) → Refused all (p.Syntax a) → Refused all (p.NotInProfile b f) → ⊥
  syntax_or_feature a b f h g = h.2 f (subst (λ n. IsOfFeature all n f) (sym (one_stopper h.0 g.0 a b h.1 g.1)) g.2)

  one_refusal : (a b : ParseRefusal) → a ≢ p.OutOfMemory → b ≢ p.OutOfMemory → Refused all a → Refused all b → a ≡ b
  one_refusal (p.Syntax a) (p.Syntax b) m n h g = ap p.Syntax (syntax_once a b h g)
  one_refusal (p.Syntax a) (p.Nest b) m n h g = absurd (not_both h.0 g.0 a b h.1 g.1)
  one_refusal (p.Syntax a) (p.NotInProfile b f) m n h g = absurd (syntax_or_feature a b f h g)
  one_refusal (p.Nest a) (p.Syntax b) m n h g = absurd (not_both g.0 h.0 b a g.1 h.1)
  one_refusal (p.Nest a) (p.Nest b) m n h g = ap p.Nest (nest_once a b h g)
  one_refusal (p.Nest a) (p.NotInProfile b f) m n h g = absurd (not_both g.0 h.0 b a g.1 h.1)
  one_refusal (p.NotInProfile a f) (p.Syntax b) m n h g = absurd (syntax_or_feature b a f g h)
  one_refusal (p.NotInProfile a f) (p.Nest b) m n h g = absurd (not_both h.0 g.0 a b h.1 g.1)
  one_refusal (p.NotInProfile a f) (p.NotInProfile b k) m n h g = ap (λ x. p.NotInProfile x f) (feature_place a b f k h g) ∙ ap (p.NotInProfile b) (feature_once a b f k h g)
  one_refusal p.OutOfMemory b m n h g = absurd (m refl)
  one_refusal (p.Syntax a) p.OutOfMemory m n h g = absurd (n refl)
  one_refusal (p.Nest a) p.OutOfMemory m n h g = absurd (n refl)
  one_refusal (p.NotInProfile a f) p.OutOfMemory m n h g = absurd (n refl)

  -- a program is spelled, or a token is refused
  program_or_token : (q : Program) (e : Refusal) → e ≢ OutOfMemory → OnlyProgram (stream all) language_limits q → Parses (stream all) language_limits (Err e) → ⊥
  program_or_token q e m h g = absurd (cc (one_parse all language_limits (Ok q) (Err e) (λ x. absurd (cc x)) (λ x. m (refusal_same x)) h g))
    where
      refusal_same : {x y : Refusal} → refused x ≡ refused y → x ≡ y
      refusal_same x = cc

  program_or_refusal : (q : Program) (e : ParseRefusal) → e ≢ p.OutOfMemory → OnlyProgram (stream all) language_limits q → Refused all e → ⊥
  program_or_refusal q (p.Syntax a) m h g = program_or_token q (Syntax g.0) (λ e. absurd (cc e)) h g.1.stopper
  program_or_refusal q (p.Nest a) m h g = program_or_token q (Nest g.0) (λ e. absurd (cc e)) h g.1.first
  program_or_refusal q (p.NotInProfile a f) m h g = program_or_token q (Syntax g.0) (λ e. absurd (cc e)) h g.1.stopper
  program_or_refusal q p.OutOfMemory m h g = m refl

pub one_stop : (text : List ℕ) (ts : List Token) (a b : TextRefusal) → IsStopped text ts a → IsStopped text ts b → a ≡ b
unfolding IsStopped
one_stop text ts a b h g = h.3 ∙ ap refusal_of (one_refusal (terminals text ts) h.0 g.0 h.1 g.1 h.2 g.2) ∙ sym g.3

pub program_or_stop : (text : List ℕ) (ts : List Token) (q : Program) (e : TextRefusal) → SpellsOnly text ts q → IsStopped text ts e → ⊥
unfolding SpellsOnly IsStopped
program_or_stop text ts q e h g = program_or_refusal (terminals text ts) q g.0 g.1 h g.2
