-- The lists of the grammar, each by its first item and its turns.
use Rattle.std.proofs.Common.{◌≡◌, ℕ, ◌+◌, ◌-◌, ◌<◌, ◌++◌, List, [], ◌∷◌, length, true, Option, None}
use Rattle.qt_tree.specs.declared.expression.Expr.{Expr}
use Rattle.qt_tree.specs.declared.expression.Index.{Index}
use Rattle.qt_terminals.specs.declared.terminal.Terminal.TheVariants as w
use Rattle.qt_terminals.specs.Alphabet.{code}
use Rattle.qt_terminals.specs.Terminals.{PlacedTerminal, stream}
use Rattle.qt_grammar.specs.Sorts.{label, expr, index, several, an_index}
use Rattle.qt_grammar.specs.Form.{member, terminal_at, named}
use Rattle.qt_grammar.specs.Lookahead.{first}
use Rattle.qt_grammar.specs.Outcome.{and_then}
use Rattle.qt_grammar.specs.Language.{a_label, expression, indexes}
use Rattle.qt_expr.specs.Parser.{rest_separated, rest_some, read_label, read_names, read_expression, read_expressions, read_index, read_index_list, read_indexes, read_all_indexes}
use Rattle.qt_expr.proofs.Loops.{separated_is, separated_goes_on, some_is, some_goes_on}

module _ (tokens : List PlacedTerminal) where
  pub names_is : (at : ℕ) → read_names tokens at ≡ and_then (read_label tokens at) (λ x m. rest_separated tokens {s = label} w.Comma a_label 0 None (length tokens) (x ∷ []) m)
  unfolding read_names read_label
  names_is at = separated_is tokens {s = label} a_label 0 None w.Comma at

  pub names_go_on : (n turn : ℕ) (all : List (List ℕ)) (at : ℕ) → turn < n → member (terminal_at (stream tokens) at) (code w.Comma ∷ []) ≡ true
      → rest_separated tokens {s = label} w.Comma a_label 0 None (n - turn) all at ≡ and_then (read_label tokens (at + 1)) (λ x m. rest_separated tokens {s = label} w.Comma a_label 0 None (n - (turn + 1)) (all ++ x ∷ []) m)
  unfolding read_label
  names_go_on n turn all at more e = separated_goes_on tokens {s = label} a_label 0 None w.Comma n turn all at more e

module _ (tokens : List PlacedTerminal) (levels : ℕ) (outer : Option ℕ) where
  pub expressions_is : (at : ℕ) → read_expressions tokens levels outer at ≡ and_then (read_expression tokens levels outer at) (λ x m. rest_separated tokens {s = expr} w.Comma expression levels outer (length tokens) (x ∷ []) m)
  unfolding read_expressions read_expression
  expressions_is at = separated_is tokens {s = expr} expression levels outer w.Comma at

  pub expressions_go_on : (n turn : ℕ) (all : List Expr) (at : ℕ) → turn < n → member (terminal_at (stream tokens) at) (code w.Comma ∷ []) ≡ true
      → rest_separated tokens {s = expr} w.Comma expression levels outer (n - turn) all at ≡ and_then (read_expression tokens levels outer (at + 1)) (λ x m. rest_separated tokens {s = expr} w.Comma expression levels outer (n - (turn + 1)) (all ++ x ∷ []) m)
  unfolding read_expression
  expressions_go_on n turn all at more e = separated_goes_on tokens {s = expr} expression levels outer w.Comma n turn all at more e

  pub index_list_is : (at : ℕ) → read_index_list tokens levels outer at ≡ and_then (read_index tokens levels outer at) (λ x m. rest_separated tokens {s = index} w.Comma (named an_index) levels outer (length tokens) (x ∷ []) m)
  unfolding read_index_list read_index
  index_list_is at = separated_is tokens {s = index} (named an_index) levels outer w.Comma at

  pub index_list_goes_on : (n turn : ℕ) (all : List Index) (at : ℕ) → turn < n → member (terminal_at (stream tokens) at) (code w.Comma ∷ []) ≡ true
      → rest_separated tokens {s = index} w.Comma (named an_index) levels outer (n - turn) all at ≡ and_then (read_index tokens levels outer (at + 1)) (λ x m. rest_separated tokens {s = index} w.Comma (named an_index) levels outer (n - (turn + 1)) (all ++ x ∷ []) m)
  unfolding read_index
  index_list_goes_on n turn all at more e = separated_goes_on tokens {s = index} (named an_index) levels outer w.Comma n turn all at more e

  pub all_indexes_are : (at : ℕ) → read_all_indexes tokens levels outer at ≡ and_then (read_indexes tokens levels outer at) (λ x m. rest_some tokens {s = (several index)} indexes levels outer (length tokens) (x ∷ []) m)
  unfolding read_all_indexes read_indexes
  all_indexes_are at = some_is tokens {s = (several index)} indexes levels outer at

  pub all_indexes_go_on : (n turn : ℕ) (all : List (List Index)) (at : ℕ) → turn < n → member (terminal_at (stream tokens) at) (first {s = several index} indexes) ≡ true
      → rest_some tokens {s = (several index)} indexes levels outer (n - turn) all at ≡ and_then (read_indexes tokens levels outer at) (λ x m. rest_some tokens {s = (several index)} indexes levels outer (n - (turn + 1)) (all ++ x ∷ []) m)
  unfolding read_indexes
  all_indexes_go_on n turn all at more e = some_goes_on tokens {s = (several index)} indexes levels outer n turn all at more e
