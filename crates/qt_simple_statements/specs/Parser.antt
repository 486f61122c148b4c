-- What the functions that read statements without a body answer: the grammar's reader of a form from the left, over the terminals of
-- a text's tokens. No expression stands round these forms. OpenQASM 3.0, the grammar in the appendix of the live specification.
use Rattle.std.specs.Prelude.{◌≢◌, ℕ, List, Option, None, Ok}
use Rattle.qt_tree.specs.declared.expression.Expr.{Expr}
use Rattle.qt_tree.specs.declared.expression.Scalar.{Scalar}
use Rattle.qt_tree.specs.declared.expression.Index.{Index}
use Rattle.qt_tree.specs.declared.expression.Range.{Range}
use Rattle.qt_tree.specs.declared.statement.Operand.{Operand}
use Rattle.qt_tree.specs.declared.statement.Target.{Target}
use Rattle.qt_tree.specs.declared.statement.Right.{Right}
use Rattle.qt_tree.specs.declared.statement.Modifier.{Modifier}
use Rattle.qt_tree.specs.declared.statement.GateCall.{GateCall}
use Rattle.qt_tree.specs.declared.statement.Sequence.{Sequence}
use Rattle.qt_tree.specs.declared.statement.StatementForm.{StatementForm}
use Rattle.qt_tree.specs.declared.statement.StatementForm.TheVariants as s
use Rattle.qt_terminals.specs.declared.terminal.Terminal.{Terminal}
use Rattle.qt_terminals.specs.declared.terminal.Terminal.TheVariants as w
use Rattle.qt_terminals.specs.Terminals.{PlacedTerminal}
use Rattle.qt_grammar.specs.Sorts.{token, target_tail, expr, index, range, operand, target, right, modifier, statement_tail, several, optional, any, an_index, a_range}
use Rattle.qt_grammar.specs.Form.{Form, one, then_, maybe, named}
use Rattle.qt_grammar.specs.Outcome.{Outcome, and_then}
use Rattle.qt_grammar.specs.Language.{◌⊗◌, ◌⊳◌, ◌⊲◌, ◌⊕◌}
use Rattle.qt_grammar.specs.Language as g
use Rattle.qt_expr.specs.Parser.{reading}

-- what a tail makes of the part that stands before it
abbrev pub applied : {A B : Type 0} → A → Outcome (A → B) → Outcome B
applied {A} {B} x out = and_then {A = A → B} {B = B} out (λ tail j. Ok (tail x, j))

-- a modifier and its `@`
abbrev pub modifier_with_at : Form modifier
modifier_with_at = g.a_modifier ⊲ g.exactly w.At

-- a terminal that no statement with a body begins with
abbrev pub BeginsNoBody : Terminal → Type 0
BeginsNoBody k = (k ≢ w.If) × ((k ≢ w.While) × (k ≢ w.For))

module _ (tokens : List PlacedTerminal) where
  -- ---- operands, targets, right sides

  -- the index of an operand in its brackets, and that if there is one
  unfoldable pub read_index_in_brackets : ℕ → ℕ → Outcome Index
  read_index_in_brackets levels at = reading tokens levels (g.brackets {s = index} (named an_index)) None at

  unfoldable pub read_optional_index : ℕ → ℕ → Outcome (Option Index)
  read_optional_index levels at = reading tokens levels (maybe {s = index} (g.brackets {s = index} (named an_index))) None at

  unfoldable pub read_operand : ℕ → ℕ → Outcome Operand
  read_operand levels at = reading tokens levels g.an_operand None at

  -- operands with this terminal between
  unfoldable pub read_operands : Terminal → ℕ → ℕ → Outcome (List Operand)
  read_operands k levels at = reading tokens levels (g.separated {s = operand} k g.an_operand) None at

  -- operands with commas between, or none
  unfoldable pub read_any_operands : ℕ → ℕ → Outcome (List Operand)
  read_any_operands levels at = reading tokens levels (g.or_none {s = operand} g.operands) None at

  unfoldable pub read_target : ℕ → ℕ → Outcome Target
  read_target levels at = reading tokens levels g.a_target None at

  unfoldable pub read_measured : ℕ → ℕ → Outcome Operand
  read_measured levels at = reading tokens levels g.measured None at

  unfoldable pub read_right : ℕ → ℕ → Outcome Right
  read_right levels at = reading tokens levels g.a_right None at

  unfoldable pub read_first_value : ℕ → ℕ → Outcome Right
  read_first_value levels at = reading tokens levels g.first_value None at

  -- ---- gate calls

  unfoldable pub read_modifier : ℕ → ℕ → Outcome Modifier
  read_modifier levels at = reading tokens levels g.a_modifier None at

  -- the exponent of `pow`
  unfoldable pub read_exponent : ℕ → ℕ → Outcome Expr
  read_exponent levels at = reading tokens levels (g.exactly w.Pow ⊳ g.parens {s = expr} (named any)) None at

  -- the terminal of a control, and the number of controls
  unfoldable pub read_controls : Terminal → ℕ → ℕ → Outcome (Option Expr)
  read_controls k levels at = reading tokens levels (g.exactly k ⊳ maybe (g.parens {s = expr} (named any))) None at

  unfoldable pub read_modifier_with_at : ℕ → ℕ → Outcome Modifier
  read_modifier_with_at levels at = reading tokens levels modifier_with_at None at

  unfoldable pub read_modifiers : ℕ → ℕ → Outcome (List Modifier)
  read_modifiers levels at = reading tokens levels (g.some {s = modifier} modifier_with_at) None at

  unfoldable pub read_phase_call : ℕ → ℕ → Outcome GateCall
  read_phase_call levels at = reading tokens levels g.phase_call None at

  -- the arguments of a gate, if there are parentheses
  unfoldable pub read_gate_arguments : ℕ → ℕ → Outcome (Option (List Expr))
  read_gate_arguments levels at = reading tokens levels (maybe g.arguments) None at

  unfoldable pub read_named_call : ℕ → ℕ → Outcome GateCall
  read_named_call levels at = reading tokens levels g.named_call None at

  -- a call without modifiers
  unfoldable pub read_bare_call : ℕ → ℕ → Outcome GateCall
  read_bare_call levels at = reading tokens levels (g.phase_call ⊕ g.named_call) None at

  unfoldable pub read_modified_call : ℕ → ℕ → Outcome GateCall
  read_modified_call levels at = reading tokens levels g.modified_call None at

  unfoldable pub read_gate_call : ℕ → ℕ → Outcome GateCall
  read_gate_call levels at = reading tokens levels g.gate_call None at

  -- ---- statements

  unfoldable pub read_declaration : ℕ → ℕ → Outcome StatementForm
  read_declaration levels at = reading tokens levels g.declaration None at

  unfoldable pub read_optional_value : ℕ → ℕ → Outcome (Option Right)
  read_optional_value levels at = reading tokens levels (maybe {s = right} g.first_value) None at

  -- what stands behind the type of a declaration, and before its semicolon
  unfoldable pub read_name_and_value : ℕ → ℕ → Outcome (List ℕ × Option Right)
  read_name_and_value levels at = reading tokens levels (g.a_label ⊗ maybe {s = right} g.first_value) None at

  unfoldable pub read_typed_value : ℕ → ℕ → Outcome (Scalar × (List ℕ × Option Right))
  read_typed_value levels at = reading tokens levels (g.a_scalar ⊗ g.a_label ⊗ maybe {s = right} g.first_value) None at

  -- a gate call that doesn't begin with a name
  unfoldable pub read_unnamed_call : ℕ → ℕ → Outcome GateCall
  read_unnamed_call levels at = reading tokens levels (g.modified_call ⊕ g.phase_call) None at

  unfoldable pub read_optional_right : ℕ → ℕ → Outcome (Option Right)
  read_optional_right levels at = reading tokens levels (maybe {s = right} g.a_right) None at

  -- a size in brackets, if there is one, and a name before it
  unfoldable pub read_optional_size : ℕ → ℕ → Outcome (Option Expr)
  read_optional_size levels at = reading tokens levels (maybe {s = expr} g.size) None at

  unfoldable pub read_name_and_size : ℕ → ℕ → Outcome (List ℕ × Option Expr)
  read_name_and_size levels at = reading tokens levels (g.a_label ⊗ maybe {s = expr} g.size) None at

  unfoldable pub read_bit_register : ℕ → ℕ → Outcome StatementForm
  read_bit_register levels at = reading tokens levels g.bit_register None at

  -- a constant from its `=` on, from its name on, and whole, before its semicolon
  unfoldable pub read_constant_value : ℕ → ℕ → Outcome Expr
  read_constant_value levels at = reading tokens levels (g.exactly w.Assign ⊳ g.expression) None at

  unfoldable pub read_named_constant : ℕ → ℕ → Outcome (List ℕ × Expr)
  read_named_constant levels at = reading tokens levels (g.a_label ⊗ (g.exactly w.Assign ⊳ g.expression)) None at

  unfoldable pub read_typed_constant : ℕ → ℕ → Outcome (Scalar × (List ℕ × Expr))
  read_typed_constant levels at = reading tokens levels (g.exactly w.Const ⊳ g.a_scalar ⊗ g.a_label ⊗ (g.exactly w.Assign ⊳ g.expression)) None at

  unfoldable pub read_constant : ℕ → ℕ → Outcome StatementForm
  read_constant levels at = reading tokens levels g.constant None at

  -- an alias from its `=` on, and from its name on, before its semicolon
  unfoldable pub read_joined_operands : ℕ → ℕ → Outcome (List Operand)
  read_joined_operands levels at = reading tokens levels (g.exactly w.Assign ⊳ g.separated {s = operand} w.PlusPlus g.an_operand) None at

  unfoldable pub read_named_operands : ℕ → ℕ → Outcome (List ℕ × List Operand)
  read_named_operands levels at = reading tokens levels (g.a_label ⊗ (g.exactly w.Assign ⊳ g.separated {s = operand} w.PlusPlus g.an_operand)) None at

  unfoldable pub read_alias : ℕ → ℕ → Outcome StatementForm
  read_alias levels at = reading tokens levels g.alias None at

  -- an assignment to this target, from its terminal on
  unfoldable pub read_assigned : ℕ → Target → ℕ → Outcome StatementForm
  read_assigned levels to at = applied {A = Target} {B = StatementForm} to (reading tokens levels g.behind_target None at)

  -- a compound assignment to this target, from its terminal on
  unfoldable pub read_compound : ℕ → Target → ℕ → Outcome StatementForm
  read_compound levels to at = applied {A = Target} {B = StatementForm} to (reading tokens levels (then_ {s = token} {t = expr} {u = target_tail} (λ k x to. s.CompoundAssignment to (g.compound_op k.terminal) x) (one g.compounds) g.expression) None at)

  -- the operands of a call, if it has any
  unfoldable pub read_call_operands : ℕ → ℕ → Outcome (Option (List Operand))
  read_call_operands levels at = reading tokens levels (maybe {s = several operand} g.operands) None at

  -- a call of this name with arguments
  unfoldable pub read_called : ℕ → (List ℕ) → ℕ → Outcome StatementForm
  read_called levels name at = applied {A = List ℕ} {B = StatementForm} name (reading tokens levels (then_ {s = several expr} {t = optional (several operand)} {u = statement_tail} g.call_of g.arguments (maybe {s = several operand} g.operands)) None at)

  -- what stands behind this name at the beginning of a statement
  unfoldable pub read_behind_first_name : ℕ → (List ℕ) → ℕ → Outcome StatementForm
  read_behind_first_name levels name at = applied {A = (List ℕ)} {B = StatementForm} name (reading tokens levels g.behind_first_name None at)

  unfoldable pub read_by_name : ℕ → ℕ → Outcome StatementForm
  read_by_name levels at = reading tokens levels g.by_name None at

  unfoldable pub read_gate_statement : ℕ → ℕ → Outcome StatementForm
  read_gate_statement levels at = reading tokens levels g.gate_statement None at

  -- the target of a measurement, if there is one
  unfoldable pub read_measured_to : ℕ → ℕ → Outcome (Option Target)
  read_measured_to levels at = reading tokens levels (maybe {s = target} (g.exactly w.Arrow ⊳ g.a_target)) None at

  -- a measurement before its semicolon
  unfoldable pub read_stored_measurement : ℕ → ℕ → Outcome (Operand × Option Target)
  read_stored_measurement levels at = reading tokens levels (g.measured ⊗ maybe {s = target} (g.exactly w.Arrow ⊳ g.a_target)) None at

  unfoldable pub read_measurement : ℕ → ℕ → Outcome StatementForm
  read_measurement levels at = reading tokens levels g.measurement None at

  unfoldable pub read_reset : ℕ → ℕ → Outcome StatementForm
  read_reset levels at = reading tokens levels g.reset None at

  unfoldable pub read_barrier : ℕ → ℕ → Outcome StatementForm
  read_barrier levels at = reading tokens levels g.barrier None at

  -- a terminal and its semicolon
  unfoldable pub read_keyword : Terminal → ℕ → Outcome PlacedTerminal
  read_keyword k at = reading tokens 0 (g.ended {s = token} (g.exactly k)) None at

  -- a statement of one terminal
  unfoldable pub read_keyword_alone : Terminal → StatementForm → ℕ → Outcome StatementForm
  read_keyword_alone k x at = reading tokens 0 (g.keyword_alone k x) None at

  unfoldable pub read_return : ℕ → ℕ → Outcome StatementForm
  read_return levels at = reading tokens levels g.return None at

  unfoldable pub read_statement_form : ℕ → ℕ → Outcome StatementForm
  read_statement_form levels at = reading tokens levels g.statement_form None at

  -- ---- the values of a loop

  unfoldable pub read_range_in_brackets : ℕ → ℕ → Outcome Range
  read_range_in_brackets levels at = reading tokens levels (g.brackets {s = range} (named a_range)) None at

  unfoldable pub read_sequence : ℕ → ℕ → Outcome Sequence
  read_sequence levels at = reading tokens levels g.a_sequence None at

  -- a `for` from its `in` up to its body, from its `in` on, and from its name on
  unfoldable pub read_values : ℕ → ℕ → Outcome Sequence
  read_values levels at = reading tokens levels (g.exactly w.In ⊳ g.a_sequence) None at
