-- What `parse` answers for the tokens of a text: their program, or the token that is refused and why. OpenQASM 3.0, the grammar
-- in the appendix of the live specification.
use Rattle.std.specs.Prelude.{◌≡◌, ◌≢◌, ℕ, ◌⊎◌, List, Some, None}
use Rattle.qt_tree.specs.declared.place.Place.{Place}
use Rattle.qt_tree.specs.declared.refusal.Feature.{Feature}
use Rattle.qt_tree.specs.declared.refusal.Feature.TheVariants as f
use Rattle.qt_terminals.specs.declared.terminal.Terminal.TheVariants as w
use Rattle.qt_terminals.specs.Alphabet.{feature_of}
use Rattle.qt_terminals.specs.Terminals.{PlacedTerminal, stream}
use Rattle.qt_grammar.specs.Sorts.{program}
use Rattle.qt_grammar.specs.Language.{whole}
use Rattle.qt_grammar.specs.Spelling.{language_limits}
use Rattle.qt_grammar.specs.Promise.{NoProgram, FirstTooDeep, CouldBegin}
use Rattle.qt_lookahead.specs.declared.refusal.ParseRefusal.{ParseRefusal}
use Rattle.qt_lookahead.specs.declared.refusal.ParseRefusal.TheVariants.{Syntax, Nest, NotInProfile, OutOfMemory}

module _ (all : List PlacedTerminal) where
  -- the token at place n of the list is of a feature that the profile leaves out: by its terminal, or as an `@` where a statement,
  -- or a call in a gate's body, could begin
  abbrev pub IsOfFeature : ℕ → Feature → Type 0
  IsOfFeature n feature = (feature_of (stream all n).terminal ≡ Some feature)
      ⊎ (((stream all n).terminal ≡ w.At) × CouldBegin all n × (feature ≡ f.Annotation))

  -- no program is spelled, whatever the limits, and the stopper stands at this place of the text
  pub record StopsAt (n : ℕ) (at : Place) : Type 0 where
    pub stopper : NoProgram (stream all) language_limits n
    pub place : at ≡ (stream all n).place

  -- the first token that is too deep, or an operator too many, stands at this place of the text
  pub record TooDeepAt (n : ℕ) (at : Place) : Type 0 where
    pub first : FirstTooDeep (stream all) program whole None 0 language_limits n
    pub place : at ≡ (stream all n).place

  -- a refusal is right
  abbrev pub Refused : ParseRefusal → Type 0
  Refused (Syntax at) = (n : ℕ) × StopsAt n at × ((feature : Feature) → IsOfFeature n feature → ⊥)
  Refused (NotInProfile at feature) = (n : ℕ) × StopsAt n at × IsOfFeature n feature
  Refused (Nest at) = (n : ℕ) × TooDeepAt n at
  Refused OutOfMemory = Unit {0}

  -- the tokens spell no program within the limits, and this is what `told` makes of the refusal of the token at fault
  abbrev pub IsToldBy : {E : Type 0} → (ParseRefusal → E) → E → Type 0
  IsToldBy told refusal = (why : ParseRefusal) × (why ≢ OutOfMemory) × Refused why × (refusal ≡ told why)
