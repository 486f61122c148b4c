-- Each form of a statement as it is typed: the steps of the definition, read at the forms.
use Rattle.std.proofs.Common.{◌≡◌, List, map, Option, Some, None, refl, ap, sym, subst, ◌∙◌}
use Rattle.qt_tree.specs.declared.expression.CompoundOperator.{CompoundOperator}
use Rattle.qt_tree.specs.declared.expression.Expr.{Expr}
use Rattle.qt_tree.specs.declared.expression.Scalar.{Scalar}
use Rattle.qt_tree.specs.declared.label.Label.{Label}
use Rattle.qt_tree.specs.declared.place.Place.{Place}
use Rattle.qt_tree.specs.declared.statement.GateCall.{GateCall}
use Rattle.qt_tree.specs.declared.statement.Operand.{Operand}
use Rattle.qt_tree.specs.declared.statement.Right.{Right}
use Rattle.qt_tree.specs.declared.statement.Sequence.{Sequence}
use Rattle.qt_tree.specs.declared.statement.Statement.{Statement}
use Rattle.qt_tree.specs.declared.statement.StatementForm.{StatementForm, roll-StatementForm, out-roll-StatementForm}
use Rattle.qt_tree.specs.declared.statement.StatementForm.TheVariants as s
use Rattle.qt_tree.specs.declared.statement.StatementForm.TheOpen as o
use Rattle.qt_tree.specs.declared.statement.StatementForm.TheFolds.{fold-roll-StatementForm, fold_out-Statement, map-StatementForm}
use Rattle.qt_tree.specs.declared.statement.Target.{Target}
use Rattle.qt_typed.specs.declared.statement.Spot.{Spot}
use Rattle.qt_typed.specs.declared.statement.TypedAction.TheVariants as action
use Rattle.qt_typed.specs.declared.statement.TypedStatement.{TypedStatement}
use Rattle.qt_typing.specs.declared.state.Around.{Around}
use Rattle.qt_typing.specs.declared.state.State.{State}
use Rattle.qt_typing.specs.Checked.{Checked, Makes}
use Rattle.qt_typing.specs.Declarations.{declaration_of, bit_register, constant_of, alias_of}
use Rattle.qt_typing.specs.Environment.{pure, seen}
use Rattle.qt_typing.specs.Statements.{Reading, form_typing_at, form_step, statement_step, form_typing, statement_typing, simple, silent, assignment}
use Rattle.qt_typing.specs.Statements.{update, measure, reset, barrier, gate_statement, call_statement, jump, return, branching, while_loop, for_loop}
use Rattle.qt_typing.specs.Tokens.{statement_tokens}
use Rattle.qt_check_tokens.specs.Spots.{spot}
use Rattle.qt_check_bodies.specs.Bodies.{optional_readings}

-- a layer whose bodies are typed
abbrev typed_layer : o.StatementForm-F StatementForm Statement → o.StatementForm-F (Place → Reading) Reading
typed_layer = map-StatementForm StatementForm Statement (Place → Reading) Reading form_typing statement_typing

-- bodies don't count
same_tokens : (layer : o.StatementForm-F StatementForm Statement) → statement_tokens (typed_layer layer) ≡ statement_tokens layer
same_tokens (o.If condition body None) = refl
same_tokens (o.If condition body (Some other)) = refl
same_tokens _ = refl

module _ (place : Place) (around : Around) (state : State) where
  rolled : (layer : o.StatementForm-F StatementForm Statement) → form_typing (roll-StatementForm layer) place around state
      ≡ form_typing_at (typed_layer layer) (spot place (roll-StatementForm layer)) around state
  unfolding spot
  rolled layer =
      ap (λ (f : Place → Reading). f place around state) (fold-roll-StatementForm (Place → Reading) Reading form_step statement_step layer)
      ∙ ap (λ n. form_typing_at (typed_layer layer) (record { place = place; tokens = n }) around state)
      (same_tokens layer ∙ sym (ap statement_tokens (out-roll-StatementForm layer)))

  view : (form : StatementForm) (layer : o.StatementForm-F StatementForm Statement) → roll-StatementForm layer ≡ form
      → form_typing form place around state ≡ form_typing_at (typed_layer layer) (spot place form) around state
  view form layer is =
      ap (λ f. form_typing f place around state) (sym is)
      ∙ (rolled layer ∙ ap (λ f. form_typing_at (typed_layer layer) (spot place f) around state) is)

  pub declaration_typed : (scalar : Scalar) (name : Label) (value : Option Right) → form_typing (s.Declaration scalar name value) place around state
      ≡ simple (spot place (s.Declaration scalar name value)) (declaration_of (spot place (s.Declaration scalar name value)).place scalar name value) state
  declaration_typed scalar name value = view (s.Declaration scalar name value) (o.Declaration scalar name value) (s.rolls-Declaration scalar name value)

  pub bits_typed : (name : Label) (size : Option Expr) → form_typing (s.BitRegister name size) place around state
      ≡ simple (spot place (s.BitRegister name size)) (bit_register (spot place (s.BitRegister name size)).place name size) state
  bits_typed name size = view (s.BitRegister name size) (o.BitRegister name size) (s.rolls-BitRegister name size)

  pub constant_typed : (scalar : Scalar) (name : Label) (value : Expr) → form_typing (s.Constant scalar name value) place around state
      ≡ silent (constant_of (spot place (s.Constant scalar name value)).place scalar name value) state
  constant_typed scalar name value = view (s.Constant scalar name value) (o.Constant scalar name value) (s.rolls-Constant scalar name value)

  pub alias_typed : (name : Label) (parts : List Operand) → form_typing (s.Alias name parts) place around state
      ≡ silent (alias_of (spot place (s.Alias name parts)).place name parts) state
  alias_typed name parts = view (s.Alias name parts) (o.Alias name parts) (s.rolls-Alias name parts)

  pub assignment_typed : (target : Target) (value : Right) → form_typing (s.Assignment target value) place around state
      ≡ simple (spot place (s.Assignment target value)) (assignment (spot place (s.Assignment target value)).place target value) state
  assignment_typed target value = view (s.Assignment target value) (o.Assignment target value) (s.rolls-Assignment target value)

  pub update_typed : (target : Target) (operator : CompoundOperator) (value : Expr) → form_typing (s.CompoundAssignment target operator value) place around state
      ≡ simple (spot place (s.CompoundAssignment target operator value)) (seen (update (spot place (s.CompoundAssignment target operator value)).place target operator value)) state
  update_typed target operator value = view (s.CompoundAssignment target operator value) (o.CompoundAssignment target operator value) (s.rolls-CompoundAssignment target operator value)

  pub measurement_typed : (qubits : Operand) (target : Option Target) → form_typing (s.Measure qubits target) place around state
      ≡ simple (spot place (s.Measure qubits target)) (seen (measure (spot place (s.Measure qubits target)).place qubits target)) state
  measurement_typed qubits target = view (s.Measure qubits target) (o.Measure qubits target) (s.rolls-Measure qubits target)

  pub reset_typed : (qubits : Operand) → form_typing (s.Reset qubits) place around state
      ≡ simple (spot place (s.Reset qubits)) (seen (reset (spot place (s.Reset qubits)).place qubits)) state
  reset_typed qubits = view (s.Reset qubits) (o.Reset qubits) (s.rolls-Reset qubits)

  pub barrier_typed : (qubits : List Operand) → form_typing (s.Barrier qubits) place around state
      ≡ simple (spot place (s.Barrier qubits)) (seen (barrier (spot place (s.Barrier qubits)).place qubits)) state
  barrier_typed qubits = view (s.Barrier qubits) (o.Barrier qubits) (s.rolls-Barrier qubits)

  pub gate_typed : (call : GateCall) → form_typing (s.Gate call) place around state
      ≡ simple (spot place (s.Gate call)) (gate_statement (spot place (s.Gate call)).place call) state
  gate_typed call = view (s.Gate call) (o.Gate call) (s.rolls-Gate call)

  pub call_typed : (name : Label) (given : List Expr) → form_typing (s.Call name given) place around state
      ≡ simple (spot place (s.Call name given)) (call_statement (spot place (s.Call name given)).place name given) state
  call_typed name given = view (s.Call name given) (o.Call name given) (s.rolls-Call name given)

  pub branch_typed : (condition : Expr) (body : List Statement) (otherwise : Option (List Statement)) → form_typing (s.If condition body otherwise) place around state
      ≡ branching (spot place (s.If condition body otherwise)) around condition (map statement_typing body) (optional_readings otherwise) state
  branch_typed condition body None = view (s.If condition body None) (o.If condition body None) (s.rolls-If condition body None)
  branch_typed condition body (Some other) =
      view (s.If condition body (Some other)) (o.If condition body (Some other)) (s.rolls-If condition body (Some other))

  pub while_typed : (condition : Expr) (body : List Statement) → form_typing (s.While condition body) place around state
      ≡ while_loop (spot place (s.While condition body)) around condition (map statement_typing body) state
  while_typed condition body = view (s.While condition body) (o.While condition body) (s.rolls-While condition body)

  pub for_typed : (scalar : Scalar) (name : Label) (values : Sequence) (body : List Statement) → form_typing (s.For scalar name values body) place around state
      ≡ for_loop (spot place (s.For scalar name values body)) around scalar name values (map statement_typing body) state
  for_typed scalar name values body = view (s.For scalar name values body) (o.For scalar name values body) (s.rolls-For scalar name values body)

  pub break_typed : form_typing s.Break place around state
      ≡ simple (spot place s.Break) (seen (λ names. jump (spot place s.Break).place around action.Break)) state
  break_typed = view s.Break o.Break s.rolls-Break

  pub continue_typed : form_typing s.Continue place around state
      ≡ simple (spot place s.Continue) (seen (λ names. jump (spot place s.Continue).place around action.Continue)) state
  continue_typed = view s.Continue o.Continue s.rolls-Continue

  pub return_typed : (value : Option Right) → form_typing (s.Return value) place around state
      ≡ simple (spot place (s.Return value)) (return (spot place (s.Return value)).place around.returns value) state
  return_typed value = view (s.Return value) (o.Return value) (s.rolls-Return value)

  pub end_typed : form_typing s.End place around state
      ≡ simple (spot place s.End) (pure action.End) state
  end_typed = view s.End o.End s.rolls-End

pub statement_is : (statement : Statement) (around : Around) (state : State) → statement_typing statement around state
    ≡ form_typing statement.form statement.place around state
statement_is statement around state =
    ap (λ (r : Reading). r around state) (fold_out-Statement (Place → Reading) Reading form_step statement_step statement)

-- a branch, by what is known where it is typed
pub branch_makes : (form : StatementForm) (place : Place) (around : Around) (state : State) (condition : Expr) (body : List Statement)
    (otherwise : Option (List Statement)) (at : Spot) (result : Checked (Option TypedStatement)) (new : State)
    → form ≡ s.If condition body otherwise → at ≡ spot place form
    → Makes (branching at around condition (map statement_typing body) (optional_readings otherwise) state) result new
    → Makes (form_typing form place around state) result new
branch_makes form place around state condition body otherwise at result new is spot_is =
    let as_spot : at ≡ spot place (s.If condition body otherwise) = spot_is ∙ ap (spot place) is in
    let e : branching at around condition (map statement_typing body) (optional_readings otherwise) state ≡ form_typing form place around state
    = ap (λ t. branching t around condition (map statement_typing body) (optional_readings otherwise) state) as_spot
    ∙ (sym (branch_typed place around state condition body otherwise) ∙ ap (λ f. form_typing f place around state) (sym is)) in
    λ made. subst (λ outcome. Makes outcome result new) e made

pub ruleset forms = (
  declaration_typed,
  bits_typed,
  constant_typed,
  alias_typed,
  assignment_typed,
  update_typed,
  measurement_typed,
  reset_typed,
  barrier_typed,
  gate_typed,
  call_typed,
  branch_typed,
  while_typed,
  for_typed,
  break_typed,
  continue_typed,
  return_typed,
  end_typed,
)
