-- The lists of the grammar, each by its turns.
use Rattle.std.proofs.Common.{◌≡◌, ℕ, ◌+◌, ◌-◌, ◌<◌, ◌++◌, List, [], ◌∷◌, length, true, false, Option, None, Some, Ok, Err, refl}
use Rattle.qt_tree.specs.declared.statement.Statement.{Statement}
use Rattle.qt_tree.specs.declared.program.Item.{Item}
use Rattle.qt_terminals.specs.Terminals.{PlacedTerminal, stream}
use Rattle.qt_grammar.specs.Sorts.{Sort, Value, statement, item}
use Rattle.qt_grammar.specs.Form.{Form, member, terminal_at}
use Rattle.qt_grammar.specs.Lookahead.{first}
use Rattle.qt_grammar.specs.Outcome.{Outcome, and_then}
use Rattle.qt_grammar.specs.Language.{some, or_none, listed}
use Rattle.qt_grammar.specs.Language as g
use Rattle.qt_expr.specs.Parser.{reading, rest_some}
use Rattle.qt_expr.proofs.Loops.{some_goes_on}
use Rattle.qt_parse.specs.Parser.{read_statement, read_global, read_items}

module _ (tokens : List PlacedTerminal) (levels : ℕ) where
  pub statements_go_on : (n turn : ℕ) (all : List Statement) (at : ℕ) → turn < n → member (terminal_at (stream tokens) at) (first {s = statement} g.a_statement) ≡ true
      → rest_some tokens {s = statement} g.a_statement levels None (n - turn) all at ≡ and_then (read_statement tokens levels at) (λ x m. rest_some tokens {s = statement} g.a_statement levels None (n - (turn + 1)) (all ++ x ∷ []) m)
  unfolding read_statement
  statements_go_on n turn all at more e = some_goes_on tokens {s = statement} g.a_statement levels None n turn all at more e

  pub items_go_on : (n turn : ℕ) (all : List Item) (at : ℕ) → turn < n → member (terminal_at (stream tokens) at) (first {s = item} g.global) ≡ true
      → rest_some tokens {s = item} g.global levels None (n - turn) all at ≡ and_then (read_global tokens levels at) (λ x m. rest_some tokens {s = item} g.global levels None (n - (turn + 1)) (all ++ x ∷ []) m)
  unfolding read_global
  items_go_on n turn all at more e = some_goes_on tokens {s = item} g.global levels None n turn all at more e

-- a list of any number of items
any_of : (tokens : List PlacedTerminal) (levels : ℕ) {s : Sort} (f : Form s) (at : ℕ) → member (terminal_at (stream tokens) at) (first f) ≡ true
    → reading tokens levels (or_none {s = s} (some f)) None at ≡ and_then (reading tokens levels f None at) (λ x m. rest_some tokens f levels None (length tokens) (x ∷ []) m)
unfolding rest_some
any_of tokens levels {s} f at e = rw e (tidy (reading tokens levels f None at))
  where
    last_two : (out : Outcome (List (Value s))) → and_then {A = Option (List (Value s))} {B = List (Value s)} (and_then {A = List (Value s)} {B = Option (List (Value s))} out (λ x j. Ok (Some x, j))) (λ x j. Ok (listed x, j)) ≡ out
    last_two (Ok z) = refl
    last_two (Err x) = refl

    tidy : (out : Outcome (Value s)) → and_then {A = Option (List (Value s))} {B = List (Value s)} (and_then {A = List (Value s)} {B = Option (List (Value s))} (and_then out (λ x m. rest_some tokens f levels None (length tokens) (x ∷ []) m)) (λ x j. Ok (Some x, j))) (λ x j. Ok (listed x, j))
        ≡ and_then out (λ x m. rest_some tokens f levels None (length tokens) (x ∷ []) m)
    tidy (Ok z) = last_two (rest_some tokens f levels None (length tokens) (z.0 ∷ []) z.1)
    tidy (Err x) = refl

none_of : (tokens : List PlacedTerminal) (levels : ℕ) {s : Sort} (f : Form s) (at : ℕ) → member (terminal_at (stream tokens) at) (first f) ≡ false
    → reading tokens levels (or_none {s = s} (some f)) None at ≡ Ok ([], at)
none_of tokens levels f at e = rw e refl

pub items_are : (tokens : List PlacedTerminal) (levels at : ℕ) → member (terminal_at (stream tokens) at) (first {s = item} g.global) ≡ true
    → read_items tokens levels at ≡ and_then (read_global tokens levels at) (λ x m. rest_some tokens {s = item} g.global levels None (length tokens) (x ∷ []) m)
unfolding read_items read_global
items_are tokens levels at e = any_of tokens levels {s = item} g.global at e

pub items_are_none : (tokens : List PlacedTerminal) (levels at : ℕ) → member (terminal_at (stream tokens) at) (first {s = item} g.global) ≡ false → read_items tokens levels at ≡ Ok ([], at)
unfolding read_items
items_are_none tokens levels at e = none_of tokens levels {s = item} g.global at e
