-- What the functions that read the items of a program answer which hold no statement: the grammar's reader of a form from the left, over
-- the terminals of a text's tokens. No expression stands round these forms. OpenQASM 3.0, the grammar in the appendix of the live
-- specification.
use Rattle.std.specs.Prelude.{ℕ, List, [], ◌∷◌, Option, None}
use Rattle.qt_tree.specs.declared.place.Place.{Place}
use Rattle.qt_tree.specs.declared.expression.Expr.{Expr}
use Rattle.qt_tree.specs.declared.expression.Scalar.{Scalar}
use Rattle.qt_tree.specs.declared.statement.GateCall.{GateCall}
use Rattle.qt_tree.specs.declared.program.Item.{Item}
use Rattle.qt_tree.specs.declared.program.ListItem.{ListItem}
use Rattle.qt_tree.specs.declared.program.GateStatement.{GateStatement}
use Rattle.qt_tree.specs.declared.program.GateForm.{GateForm}
use Rattle.qt_tree.specs.declared.program.Parameter.{Parameter}
use Rattle.qt_terminals.specs.declared.terminal.Terminal.{Terminal}
use Rattle.qt_terminals.specs.declared.terminal.Terminal.TheVariants as w
use Rattle.qt_terminals.specs.Alphabet.{code}
use Rattle.qt_terminals.specs.Terminals.{PlacedTerminal}
use Rattle.qt_grammar.specs.Sorts.{label, expr, scalar, call, gate_line, parameter, entry, several, both, an_entry, in_array, parameters, gate_block}
use Rattle.qt_grammar.specs.Form.{one, maybe, named}
use Rattle.qt_grammar.specs.Outcome.{Outcome}
use Rattle.qt_grammar.specs.Language.{◌⊗◌, ◌⊳◌}
use Rattle.qt_grammar.specs.Language as g
use Rattle.qt_expr.specs.Parser.{reading, named_to}
use Rattle.qt_simple_statements.specs.Parser.{applied}

module _ (tokens : List PlacedTerminal) where
  -- ---- declarations

  unfoldable pub read_include : Place → ℕ → Outcome Item
  read_include place at = applied {A = Place} {B = Item} place (reading tokens 0 g.include None at)

  -- a text in quotes
  unfoldable pub read_quoted : ℕ → Outcome PlacedTerminal
  read_quoted at = reading tokens 0 (one (code w.Text ∷ code w.BitText ∷ [])) None at

  unfoldable pub read_scalar_and_name : ℕ → ℕ → Outcome (Scalar × List ℕ)
  read_scalar_and_name levels at = reading tokens levels (g.a_scalar ⊗ g.a_label) None at

  -- the terminal of an input or output, its type and its name
  unfoldable pub read_declared : Terminal → ℕ → ℕ → Outcome (Scalar × List ℕ)
  read_declared k levels at = reading tokens levels (g.ended {s = both scalar label} (g.exactly k ⊳ g.a_scalar ⊗ g.a_label)) None at

  unfoldable pub read_interface : Terminal → (Place → Scalar → List ℕ → Item) → ℕ → Place → ℕ → Outcome Item
  read_interface k make levels place at = applied {A = Place} {B = Item} place (reading tokens levels (g.interface k make) None at)

  unfoldable pub read_qubits : ℕ → ℕ → Outcome (Option Expr × List ℕ)
  read_qubits levels at = reading tokens levels g.qubits None at

  unfoldable pub read_qubit_item : ℕ → Place → ℕ → Outcome Item
  read_qubit_item levels place at = applied {A = Place} {B = Item} place (reading tokens levels g.qubit_item None at)

  unfoldable pub read_register_item : ℕ → Place → ℕ → Outcome Item
  read_register_item levels place at = applied {A = Place} {B = Item} place (reading tokens levels g.register_item None at)

  -- ---- arrays

  unfoldable pub read_list : ℕ → ℕ → Outcome (List ListItem)
  read_list levels at = reading tokens levels g.list None at

  -- what stands in the braces of an array's value
  unfoldable pub read_entries : ℕ → ℕ → Outcome (List ListItem)
  read_entries levels at = named_to tokens levels an_entry None at

  unfoldable pub read_entry_list : ℕ → ℕ → Outcome (List ListItem)
  read_entry_list levels at = reading tokens levels (g.commas {s = entry} g.entry_form) None at

  unfoldable pub read_entry : ℕ → ℕ → Outcome ListItem
  read_entry levels at = reading tokens levels g.entry_form None at

  -- what stands in the brackets of an array's type
  unfoldable pub read_in_array : ℕ → ℕ → Outcome (Scalar × List Expr)
  read_in_array levels at = named_to tokens levels in_array None at

  unfoldable pub read_element_and_lengths : ℕ → ℕ → Outcome (Scalar × List Expr)
  read_element_and_lengths levels at = reading tokens levels (g.a_scalar ⊗ g.exactly w.Comma ⊳ g.expressions) None at

  unfoldable pub read_element_in_brackets : ℕ → ℕ → Outcome (Scalar × List Expr)
  read_element_in_brackets levels at = reading tokens levels (g.brackets {s = both scalar (several expr)} (named in_array)) None at

  unfoldable pub read_array_value : ℕ → ℕ → Outcome (Option (List ListItem))
  read_array_value levels at = reading tokens levels (maybe {s = several entry} (g.exactly w.Assign ⊳ g.list)) None at

  -- an array from its name on, and whole, before its semicolon
  unfoldable pub read_name_and_list : ℕ → ℕ → Outcome (List ℕ × Option (List ListItem))
  read_name_and_list levels at = reading tokens levels (g.a_label ⊗ maybe {s = several entry} (g.exactly w.Assign ⊳ g.list)) None at

  unfoldable pub read_array_parts : ℕ → ℕ → Outcome ((Scalar × List Expr) × (List ℕ × Option (List ListItem)))
  read_array_parts levels at = reading tokens levels (g.exactly w.Array ⊳ g.brackets {s = both scalar (several expr)} (named in_array) ⊗ g.a_label ⊗ maybe {s = several entry} (g.exactly w.Assign ⊳ g.list)) None at

  unfoldable pub read_array_item : ℕ → Place → ℕ → Outcome Item
  read_array_item levels place at = applied {A = Place} {B = Item} place (reading tokens levels g.array_item None at)

  -- ---- gates

  -- names with commas between, or none
  unfoldable pub read_any_names : ℕ → Outcome (List (List ℕ))
  read_any_names at = reading tokens 0 (g.or_none {s = label} g.names) None at

  unfoldable pub read_gate_barrier : ℕ → Outcome (List (List ℕ))
  read_gate_barrier at = reading tokens 0 (g.ended {s = several label} (g.exactly w.Barrier ⊳ g.or_none {s = label} g.names)) None at

  -- a gate call and its semicolon
  unfoldable pub read_call_line : ℕ → ℕ → Outcome GateCall
  read_call_line levels at = reading tokens levels (g.ended {s = call} g.gate_call) None at

  unfoldable pub read_gate_line_form : ℕ → ℕ → Outcome GateForm
  read_gate_line_form levels at = reading tokens levels g.gate_line_form None at

  unfoldable pub read_gate_line : ℕ → ℕ → Outcome GateStatement
  read_gate_line levels at = reading tokens levels g.a_gate_line None at

  -- what stands in the braces of a gate
  unfoldable pub read_gate_block : ℕ → ℕ → Outcome (List GateStatement)
  read_gate_block levels at = named_to tokens levels gate_block None at

  unfoldable pub read_gate_lines : ℕ → ℕ → Outcome (List GateStatement)
  read_gate_lines levels at = reading tokens levels (g.some {s = gate_line} g.a_gate_line) None at

  unfoldable pub read_names_in_parentheses : ℕ → Outcome (List (List ℕ))
  read_names_in_parentheses at = reading tokens 0 (g.parens {s = several label} (g.or_none {s = label} g.names)) None at

  unfoldable pub read_gate_parameters : ℕ → Outcome (Option (List (List ℕ)))
  read_gate_parameters at = reading tokens 0 (maybe {s = several label} (g.parens {s = several label} (g.or_none {s = label} g.names))) None at

  unfoldable pub read_gate_block_or_none : ℕ → ℕ → Outcome (List GateStatement)
  read_gate_block_or_none levels at = reading tokens levels (g.or_none {s = gate_line} (named gate_block)) None at

  unfoldable pub read_gate_body : ℕ → ℕ → Outcome (List GateStatement)
  read_gate_body levels at = reading tokens levels (g.braces {s = several gate_line} (g.or_none {s = gate_line} (named gate_block))) None at

  -- a gate from its qubits on, and from behind its name on
  unfoldable pub read_qubits_and_body : ℕ → ℕ → Outcome (List (List ℕ) × List GateStatement)
  read_qubits_and_body levels at = reading tokens levels (g.names ⊗ g.braces {s = several gate_line} (g.or_none {s = gate_line} (named gate_block))) None at

  unfoldable pub read_gate_parts : ℕ → ℕ → Outcome (Option (List (List ℕ)) × (List (List ℕ) × List GateStatement))
  read_gate_parts levels at = reading tokens levels (maybe {s = several label} (g.parens {s = several label} (g.or_none {s = label} g.names)) ⊗ g.names ⊗ g.braces {s = several gate_line} (g.or_none {s = gate_line} (named gate_block))) None at

  unfoldable pub read_gate_item : ℕ → Place → ℕ → Outcome Item
  read_gate_item levels place at = applied {A = Place} {B = Item} place (reading tokens levels g.gate_item None at)

  -- ---- the head of a subroutine

  unfoldable pub read_parameter : ℕ → ℕ → Outcome Parameter
  read_parameter levels at = reading tokens levels g.a_parameter None at

  -- what stands in the parentheses of a subroutine
  unfoldable pub read_parameters : ℕ → ℕ → Outcome (List Parameter)
  read_parameters levels at = named_to tokens levels parameters None at

  unfoldable pub read_parameter_list : ℕ → ℕ → Outcome (List Parameter)
  read_parameter_list levels at = reading tokens levels (g.commas {s = parameter} g.a_parameter) None at

  unfoldable pub read_parameters_or_none : ℕ → ℕ → Outcome (List Parameter)
  read_parameters_or_none levels at = reading tokens levels (g.or_none {s = parameter} (named parameters)) None at

  -- the parameters of a subroutine in their parentheses
  unfoldable pub read_in_definition : ℕ → ℕ → Outcome (List Parameter)
  read_in_definition levels at = reading tokens levels (g.parens {s = several parameter} (g.or_none {s = parameter} (named parameters))) None at

  unfoldable pub read_result_type : ℕ → ℕ → Outcome (Option Scalar)
  read_result_type levels at = reading tokens levels (maybe {s = scalar} (g.exactly w.Arrow ⊳ g.a_scalar)) None at
