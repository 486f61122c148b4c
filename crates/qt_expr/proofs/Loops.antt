-- Lists that are read in turns, whatever the form of their items: one step of the loops that read them.
use Rattle.std.proofs.Common.{◌≡◌, ℕ, zero, suc, ◌+◌, ◌-◌, ◌<◌, ◌≤◌, ◌++◌, List, [], ◌∷◌, length, true, false, Option, Ok, Err, ap, ◌∙◌, refl, arith}
use Rattle.qt_terminals.specs.declared.terminal.Terminal.{Terminal}
use Rattle.qt_terminals.specs.Alphabet.{code}
use Rattle.qt_terminals.specs.Terminals.{PlacedTerminal, stream}
use Rattle.qt_grammar.specs.Sorts.{Sort, Value}
use Rattle.qt_grammar.specs.Form.{Form, member, terminal_at, pair_of}
use Rattle.qt_grammar.specs.Lookahead.{first}
use Rattle.qt_grammar.specs.Outcome.{Outcome, and_then}
use Rattle.qt_grammar.specs.Language.{separated, some}
use Rattle.qt_expr.specs.Parser.{reading, rest_separated, rest_some}

module _ (tokens : List PlacedTerminal) {s : Sort} (f : Form s) (levels : ℕ) (outer : Option ℕ) where
  -- ---- with a terminal between

  module _ (k : Terminal) where
    abbrev separated_rest : ℕ → List (Value s) → ℕ → Outcome (List (Value s))
    separated_rest = rest_separated tokens k f levels outer

    pub separated_is : (at : ℕ) → reading tokens levels (separated k f) outer at ≡ and_then (reading tokens levels f outer at) (λ x m. separated_rest (length tokens) (x ∷ []) m)
    unfolding rest_separated
    separated_is at = refl

    pub separated_ends : (n turn : ℕ) (all : List (Value s)) (at : ℕ) → n ≤ turn → separated_rest (n - turn) all at ≡ Ok (all, at)
    unfolding rest_separated
    separated_ends n turn all at done = let none : n - turn ≡ 0 = omega arith in rw none refl

    pub separated_stops : (n : ℕ) (all : List (Value s)) (at : ℕ) → member (terminal_at (stream tokens) at) (code k ∷ []) ≡ false → separated_rest n all at ≡ Ok (all, at)
    unfolding rest_separated
    separated_stops zero all at e = refl
    separated_stops (suc n) all at e = rw e refl

    separated_turn : (n : ℕ) (all : List (Value s)) (at : ℕ) → member (terminal_at (stream tokens) at) (code k ∷ []) ≡ true
        → separated_rest (suc n) all at ≡ and_then (reading tokens levels f outer (at + 1)) (λ x m. separated_rest n (all ++ x ∷ []) m)
    unfolding rest_separated
    separated_turn n all at e = rw e (tidy (reading tokens levels f outer (at + 1)))
      where
        tidy : (out : Outcome (Value s)) → and_then {A = PlacedTerminal × Value s} {B = List (Value s)} (and_then {A = Value s} {B = PlacedTerminal × Value s} out (λ x j. Ok (pair_of {A = Value s} {B = PlacedTerminal} (stream tokens at) x, j))) (λ y m. separated_rest n (all ++ y.1 ∷ []) m)
            ≡ and_then out (λ x m. separated_rest n (all ++ x ∷ []) m)
        tidy (Ok z) = refl
        tidy (Err x) = refl

    pub separated_goes_on : (n turn : ℕ) (all : List (Value s)) (at : ℕ) → turn < n → member (terminal_at (stream tokens) at) (code k ∷ []) ≡ true
        → separated_rest (n - turn) all at ≡ and_then (reading tokens levels f outer (at + 1)) (λ x m. separated_rest (n - (turn + 1)) (all ++ x ∷ []) m)
    separated_goes_on n turn all at more e = let left : n - turn ≡ suc (n - (turn + 1)) = omega arith in ap (λ t. separated_rest t all at) left ∙ separated_turn (n - (turn + 1)) all at e

  -- ---- with nothing between

  abbrev some_rest : ℕ → List (Value s) → ℕ → Outcome (List (Value s))
  some_rest = rest_some tokens f levels outer

  pub some_is : (at : ℕ) → reading tokens levels (some f) outer at ≡ and_then (reading tokens levels f outer at) (λ x m. some_rest (length tokens) (x ∷ []) m)
  unfolding rest_some
  some_is at = refl

  pub some_ends : (n turn : ℕ) (all : List (Value s)) (at : ℕ) → n ≤ turn → some_rest (n - turn) all at ≡ Ok (all, at)
  unfolding rest_some
  some_ends n turn all at done = let none : n - turn ≡ 0 = omega arith in rw none refl

  pub some_stops : (n : ℕ) (all : List (Value s)) (at : ℕ) → member (terminal_at (stream tokens) at) (first f) ≡ false → some_rest n all at ≡ Ok (all, at)
  unfolding rest_some
  some_stops zero all at e = refl
  some_stops (suc n) all at e = rw e refl

  some_turn : (n : ℕ) (all : List (Value s)) (at : ℕ) → member (terminal_at (stream tokens) at) (first f) ≡ true
      → some_rest (suc n) all at ≡ and_then (reading tokens levels f outer at) (λ x m. some_rest n (all ++ x ∷ []) m)
  unfolding rest_some
  some_turn n all at e = rw e (tidy (reading tokens levels f outer at))
    where
      tidy : (out : Outcome (Value s)) → and_then {A = Unit {0} × Value s} {B = List (Value s)} (and_then {A = Value s} {B = Unit {0} × Value s} out (λ x j. Ok (pair_of {A = Value s} {B = Unit {0}} tt x, j))) (λ y m. some_rest n (all ++ y.1 ∷ []) m)
          ≡ and_then out (λ x m. some_rest n (all ++ x ∷ []) m)
      tidy (Ok z) = refl
      tidy (Err x) = refl

  pub some_goes_on : (n turn : ℕ) (all : List (Value s)) (at : ℕ) → turn < n → member (terminal_at (stream tokens) at) (first f) ≡ true
      → some_rest (n - turn) all at ≡ and_then (reading tokens levels f outer at) (λ x m. some_rest (n - (turn + 1)) (all ++ x ∷ []) m)
  some_goes_on n turn all at more e = let left : n - turn ≡ suc (n - (turn + 1)) = omega arith in ap (λ t. some_rest t all at) left ∙ some_turn (n - (turn + 1)) all at e
