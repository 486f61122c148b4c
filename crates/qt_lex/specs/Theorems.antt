-- The law of reading a text from the left, token by token.
use Rattle.std.specs.Prelude.{◌≡◌, ℕ, ◌⊎◌, List}
use Rattle.qt_tree.specs.declared.place.Place.{Place}
use Rattle.qt_lex.specs.declared.tokens.Token.{Token}
use Rattle.qt_lex.specs.Tokens.{GivesTokens, FailsAt}

-- a text gives exactly one list of tokens, or has exactly one place to blame, and never both
pub record HasOneReading (text : List ℕ) (file : ℕ) : Type 0 where
  pub some : ((tokens : List Token) × GivesTokens text file tokens) ⊎ ((place : Place) × FailsAt text file place)
  pub tokens : (p q : List Token) → GivesTokens text file p → GivesTokens text file q → p ≡ q
  pub refusals : (p q : Place) → FailsAt text file p → FailsAt text file q → p ≡ q
  pub either : (p : List Token) (q : Place) → GivesTokens text file p → FailsAt text file q → ⊥
