-- The lists of statements without a body, each by its turns.
use Rattle.std.proofs.Common.{◌≡◌, ℕ, ◌+◌, ◌-◌, ◌<◌, ◌++◌, List, [], ◌∷◌, true, None}
use Rattle.qt_tree.specs.declared.statement.Operand.{Operand}
use Rattle.qt_tree.specs.declared.statement.Modifier.{Modifier}
use Rattle.qt_terminals.specs.declared.terminal.Terminal.{Terminal}
use Rattle.qt_terminals.specs.Alphabet.{code}
use Rattle.qt_terminals.specs.Terminals.{PlacedTerminal, stream}
use Rattle.qt_grammar.specs.Sorts.{operand, modifier}
use Rattle.qt_grammar.specs.Form.{member, terminal_at}
use Rattle.qt_grammar.specs.Lookahead.{first}
use Rattle.qt_grammar.specs.Outcome.{and_then}
use Rattle.qt_grammar.specs.Language as g
use Rattle.qt_expr.specs.Parser.{rest_separated, rest_some}
use Rattle.qt_expr.proofs.Loops.{separated_goes_on, some_goes_on}
use Rattle.qt_simple_statements.specs.Parser.{modifier_with_at, read_operand, read_modifier_with_at}

module _ (tokens : List PlacedTerminal) (levels : ℕ) where
  pub operands_go_on : (k : Terminal) (n turn : ℕ) (all : List Operand) (at : ℕ) → turn < n → member (terminal_at (stream tokens) at) (code k ∷ []) ≡ true
      → rest_separated tokens {s = operand} k g.an_operand levels None (n - turn) all at ≡ and_then (read_operand tokens levels (at + 1)) (λ x m. rest_separated tokens {s = operand} k g.an_operand levels None (n - (turn + 1)) (all ++ x ∷ []) m)
  unfolding read_operand
  operands_go_on k n turn all at more e = separated_goes_on tokens {s = operand} g.an_operand levels None k n turn all at more e

  pub modifiers_go_on : (n turn : ℕ) (all : List Modifier) (at : ℕ) → turn < n → member (terminal_at (stream tokens) at) (first {s = modifier} modifier_with_at) ≡ true
      → rest_some tokens {s = modifier} modifier_with_at levels None (n - turn) all at ≡ and_then (read_modifier_with_at tokens levels at) (λ x m. rest_some tokens {s = modifier} modifier_with_at levels None (n - (turn + 1)) (all ++ x ∷ []) m)
  unfolding read_modifier_with_at
  modifiers_go_on n turn all at more e = some_goes_on tokens {s = modifier} modifier_with_at levels None n turn all at more e
