-- Lists with a lexeme between, lists with nothing between, and lists that may be left out.
use Rattle.std.proofs.Common.{◌≡◌, ℕ, ◌+◌, List, [], ◌∷◌, ◌++◌, map, arith}
use Rattle.std.proofs.lemmas.List.{append-nil}
use Rattle.qt_grammar.specs.Sorts.{Sort, Value, token, several}
use Rattle.qt_grammar.specs.Form.{Form, one, chain}
use Rattle.qt_grammar.specs.Language.{some, or_none, listed}
use Rattle.qt_lexemes.specs.Lexemes.{Lexeme, each_behind, separated, joined}
use Rattle.qt_round_trip.proofs.lexemes.Lists.{Filled, filled_push, separated_push, joined_push}
use Rattle.qt_round_trip.proofs.extent.Costs.{Fit, fit_nothing, fit_both, fit_is, fit_more}
use Rattle.qt_round_trip.proofs.extent.Combinators.{Setting, Pays, Of, Any, pays_chain, pays_empty, pays_maybe, pays_tree, pays_as}
use Rattle.qt_round_trip.proofs.extent.Tokens.{IsPrintedAs, pays_fixed}

-- a list that isn't empty, with a lexeme between
pub record Row {A : Type 0} (between : Lexeme) (lexemes : A → List Lexeme) (xs : List A) (n : ℕ) : Type 0 where
  pub filled : Filled xs
  pub fit : Fit (separated between (map lexemes xs)) n

-- the same behind a lexeme of that kind
pub row_behind : {A : Type 0} {between : Lexeme} {lexemes : A → List Lexeme} (xs : List A) {m n : ℕ} → Fit (between ∷ []) m → Row between lexemes xs n → Fit (each_behind between (map lexemes xs)) (m + n)
row_behind [] p q = absurd q.filled
row_behind (x ∷ xs) p q = fit_both p q.fit

module _ {z : Setting} {s : Sort} {f : Form s} {x : Value s → List Lexeme} where
  pub pays_row : {ws : List ℕ} (between : Lexeme) → IsPrintedAs ws between → Pays z f (Of x) → Pays z (chain {s = s} {t = token} {u = several s} (λ x. x ∷ []) (λ xs c x. xs ++ x ∷ []) f (one ws)) (Row between x)
  pays_row between h a = pays_chain a (pays_fixed between h)
      (λ v n p. record { filled = tt; fit = fit_is (append-nil (x v)) p })
      (λ vs c v k m n p q r. record { filled = filled_push vs v; fit = fit_is (separated_push x between vs v p.filled) (fit_both p.fit (fit_both q r)) })

  pub pays_separated : {ws : List ℕ} (between : Lexeme) → IsPrintedAs ws between → Pays z f (Of x) → Pays z (chain {s = s} {t = token} {u = several s} (λ x. x ∷ []) (λ xs c x. xs ++ x ∷ []) f (one ws)) (Of (λ vs. separated between (map x vs)))
  pays_separated between h a = pays_as (pays_row between h a) (λ vs n p. p.fit)

  pub pays_some : Pays z f (Of x) → Pays z (some f) (Of (λ vs. joined (map x vs)))
  pays_some a = pays_chain {G = Any} a (pays_empty tt)
      (λ v n p. fit_is (append-nil (x v)) p)
      (λ vs c v k m n p q r. fit_is (joined_push x vs v) (fit_more (fit_both p r) (omega arith)))

module _ {z : Setting} {s : Sort} {f : Form (several s)} {x : Value (several s) → List Lexeme} where
  pub pays_or_none : x [] ≡ [] → Pays z f (Of x) → Pays z (or_none f) (Of x)
  pays_or_none e a = pays_tree (pays_maybe {G = λ o n. Fit (x (listed o)) n} a (fit_is e fit_nothing) (λ v n h. h)) (λ o n h. h)
