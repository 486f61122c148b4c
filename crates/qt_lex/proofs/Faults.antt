-- What is answered of a text's first fault is exact, since the text has one reading.
use Rattle.std.proofs.Common.{◌≡◌, ℕ, List, Option, Some, None, refl, ap, subst}
use Rattle.std.specs.Prelude.{◌↔◌, IfNone, IfSome, IsNone}
use Rattle.qt_tree.specs.declared.place.Place.{Place}
use Rattle.qt_lex.specs.declared.tokens.Token.{Token}
use Rattle.qt_lex.specs.Tokens.{GivesTokens, FailsAt}
use Rattle.qt_lex.proofs.Readings.{one_fault, list_or_fault}

same_place : {q p : Place} → Some q ≡ Some p → q ≡ p
same_place e = cc

module _ (text : List ℕ) (file : ℕ) where
  pub no_fault_exactly : (r : Option Place) → IfNone r ((tokens : List Token) × GivesTokens text file tokens) → IfSome r (λ place. FailsAt text file place)
      → IsNone r ↔ ((tokens : List Token) × GivesTokens text file tokens)
  no_fault_exactly None given fault = ((λ e. given), (λ h. refl))
  no_fault_exactly (Some place) given fault = ((λ e. absurd (cc e)), (λ h. absurd (list_or_fault text file h.0 place h.1 fault)))

  pub fault_exactly : (r : Option Place) → IfNone r ((tokens : List Token) × GivesTokens text file tokens) → IfSome r (λ place. FailsAt text file place)
      → (place : Place) → (r ≡ Some place) ↔ FailsAt text file place
  fault_exactly None given fault place = ((λ e. absurd (cc e)), (λ h. absurd (list_or_fault text file given.0 place given.1 h)))
  fault_exactly (Some found) given fault place = ((λ e. subst (FailsAt text file) (same_place e) fault), (λ h. ap Some (one_fault text file found place fault h)))
