-- The lists of items that hold no statement, each by its turns.
use Rattle.std.proofs.Common.{◌≡◌, ℕ, ◌+◌, ◌-◌, ◌<◌, ◌++◌, List, [], ◌∷◌, length, true, None}
use Rattle.qt_tree.specs.declared.program.ListItem.{ListItem}
use Rattle.qt_tree.specs.declared.program.GateStatement.{GateStatement}
use Rattle.qt_tree.specs.declared.program.Parameter.{Parameter}
use Rattle.qt_terminals.specs.declared.terminal.Terminal.TheVariants as w
use Rattle.qt_terminals.specs.Alphabet.{code}
use Rattle.qt_terminals.specs.Terminals.{PlacedTerminal, stream}
use Rattle.qt_grammar.specs.Sorts.{entry, gate_line, parameter}
use Rattle.qt_grammar.specs.Form.{member, terminal_at}
use Rattle.qt_grammar.specs.Lookahead.{first}
use Rattle.qt_grammar.specs.Outcome.{and_then}
use Rattle.qt_grammar.specs.Language as g
use Rattle.qt_expr.specs.Parser.{rest_separated, rest_some}
use Rattle.qt_expr.proofs.Loops.{separated_goes_on, some_goes_on}
use Rattle.qt_items.specs.Parser.{read_entry, read_gate_line, read_parameter}

module _ (tokens : List PlacedTerminal) (levels : ℕ) where
  pub entries_go_on : (n turn : ℕ) (all : List ListItem) (at : ℕ) → turn < n → member (terminal_at (stream tokens) at) (code w.Comma ∷ []) ≡ true
      → rest_separated tokens {s = entry} w.Comma g.entry_form levels None (n - turn) all at ≡ and_then (read_entry tokens levels (at + 1)) (λ x m. rest_separated tokens {s = entry} w.Comma g.entry_form levels None (n - (turn + 1)) (all ++ x ∷ []) m)
  unfolding read_entry
  entries_go_on n turn all at more e = separated_goes_on tokens {s = entry} g.entry_form levels None w.Comma n turn all at more e

  pub gate_lines_go_on : (n turn : ℕ) (all : List GateStatement) (at : ℕ) → turn < n → member (terminal_at (stream tokens) at) (first {s = gate_line} g.a_gate_line) ≡ true
      → rest_some tokens {s = gate_line} g.a_gate_line levels None (n - turn) all at ≡ and_then (read_gate_line tokens levels at) (λ x m. rest_some tokens {s = gate_line} g.a_gate_line levels None (n - (turn + 1)) (all ++ x ∷ []) m)
  unfolding read_gate_line
  gate_lines_go_on n turn all at more e = some_goes_on tokens {s = gate_line} g.a_gate_line levels None n turn all at more e

  pub parameters_go_on : (n turn : ℕ) (all : List Parameter) (at : ℕ) → turn < n → member (terminal_at (stream tokens) at) (code w.Comma ∷ []) ≡ true
      → rest_separated tokens {s = parameter} w.Comma g.a_parameter levels None (n - turn) all at ≡ and_then (read_parameter tokens levels (at + 1)) (λ x m. rest_separated tokens {s = parameter} w.Comma g.a_parameter levels None (n - (turn + 1)) (all ++ x ∷ []) m)
  unfolding read_parameter
  parameters_go_on n turn all at more e = separated_goes_on tokens {s = parameter} g.a_parameter levels None w.Comma n turn all at more e
