-- How many tokens each form of a statement has: the steps of the definition, read at the forms.
use Rattle.std.proofs.Common.{◌≡◌, ◌+◌, List, map, Option, Some, None, ap, sym, ◌∙◌}
use Rattle.qt_tree.specs.declared.expression.CompoundOperator.{CompoundOperator}
use Rattle.qt_tree.specs.declared.expression.Expr.{Expr}
use Rattle.qt_tree.specs.declared.expression.Scalar.{Scalar}
use Rattle.qt_tree.specs.declared.label.Label.{Label}
use Rattle.qt_tree.specs.declared.statement.GateCall.{GateCall}
use Rattle.qt_tree.specs.declared.statement.Operand.{Operand}
use Rattle.qt_tree.specs.declared.statement.Right.{Right}
use Rattle.qt_tree.specs.declared.statement.Sequence.{Sequence}
use Rattle.qt_tree.specs.declared.statement.Statement.{Statement}
use Rattle.qt_tree.specs.declared.statement.StatementForm.{StatementForm, roll-StatementForm, out-roll-StatementForm}
use Rattle.qt_tree.specs.declared.statement.StatementForm.TheVariants as s
use Rattle.qt_tree.specs.declared.statement.StatementForm.TheOpen as o
use Rattle.qt_tree.specs.declared.statement.Target.{Target}
use Rattle.qt_typing.specs.Tokens.{statement_tokens, scalar_tokens, expr_tokens, exprs_tokens, optional_expr, operand_tokens, target_tokens}
use Rattle.qt_typing.specs.Tokens.{right_tokens, optional_right, optional_target, call_tokens, sequence_tokens, else_tokens, separated}
use Rattle.qt_check_tokens.specs.Spots.{form_tokens}

view : (form : StatementForm) (layer : o.StatementForm-F StatementForm Statement) → roll-StatementForm layer ≡ form
    → form_tokens form ≡ statement_tokens layer
view form layer is = ap form_tokens (sym is) ∙ ap statement_tokens (out-roll-StatementForm layer)

pub declaration_form : (scalar : Scalar) (name : Label) (value : Option Right) → form_tokens (s.Declaration scalar name value) ≡ scalar_tokens scalar + 2 + optional_right 1 value
declaration_form scalar name value = view (s.Declaration scalar name value) (o.Declaration scalar name value) (s.rolls-Declaration scalar name value)

pub register_form : (name : Label) (size : Option Expr) → form_tokens (s.BitRegister name size) ≡ 3 + optional_expr 2 size
register_form name size = view (s.BitRegister name size) (o.BitRegister name size) (s.rolls-BitRegister name size)

pub constant_form : (scalar : Scalar) (name : Label) (value : Expr) → form_tokens (s.Constant scalar name value) ≡ 0
constant_form scalar name value = view (s.Constant scalar name value) (o.Constant scalar name value) (s.rolls-Constant scalar name value)

pub alias_form : (name : Label) (parts : List Operand) → form_tokens (s.Alias name parts) ≡ 0
alias_form name parts = view (s.Alias name parts) (o.Alias name parts) (s.rolls-Alias name parts)

pub assignment_form : (target : Target) (value : Right) → form_tokens (s.Assignment target value) ≡ target_tokens target + 2 + right_tokens value
assignment_form target value = view (s.Assignment target value) (o.Assignment target value) (s.rolls-Assignment target value)

pub update_form : (target : Target) (operator : CompoundOperator) (value : Expr) → form_tokens (s.CompoundAssignment target operator value) ≡ target_tokens target + 2 + expr_tokens value
update_form target operator value = view (s.CompoundAssignment target operator value) (o.CompoundAssignment target operator value) (s.rolls-CompoundAssignment target operator value)

pub measurement_form : (qubits : Operand) (target : Option Target) → form_tokens (s.Measure qubits target) ≡ 2 + operand_tokens qubits + optional_target target
measurement_form qubits target = view (s.Measure qubits target) (o.Measure qubits target) (s.rolls-Measure qubits target)

pub reset_form : (qubits : Operand) → form_tokens (s.Reset qubits) ≡ 2 + operand_tokens qubits
reset_form qubits = view (s.Reset qubits) (o.Reset qubits) (s.rolls-Reset qubits)

pub barrier_form : (qubits : List Operand) → form_tokens (s.Barrier qubits) ≡ 2 + separated (map operand_tokens qubits)
barrier_form qubits = view (s.Barrier qubits) (o.Barrier qubits) (s.rolls-Barrier qubits)

pub gate_form : (call : GateCall) → form_tokens (s.Gate call) ≡ call_tokens call
gate_form call = view (s.Gate call) (o.Gate call) (s.rolls-Gate call)

pub call_form : (name : Label) (arguments : List Expr) → form_tokens (s.Call name arguments) ≡ 4 + exprs_tokens arguments
call_form name arguments = view (s.Call name arguments) (o.Call name arguments) (s.rolls-Call name arguments)

pub branch_form : (condition : Expr) (body : List Statement) (otherwise : Option (List Statement)) → form_tokens (s.If condition body otherwise)
    ≡ 3 + expr_tokens condition + else_tokens otherwise
branch_form condition body None = view (s.If condition body None) (o.If condition body None) (s.rolls-If condition body None)
branch_form condition body (Some other) =
    view (s.If condition body (Some other)) (o.If condition body (Some other)) (s.rolls-If condition body (Some other))

pub while_form : (condition : Expr) (body : List Statement) → form_tokens (s.While condition body) ≡ 3 + expr_tokens condition
while_form condition body = view (s.While condition body) (o.While condition body) (s.rolls-While condition body)

pub for_form : (scalar : Scalar) (name : Label) (values : Sequence) (body : List Statement) → form_tokens (s.For scalar name values body) ≡ 3 + scalar_tokens scalar + sequence_tokens values
for_form scalar name values body = view (s.For scalar name values body) (o.For scalar name values body) (s.rolls-For scalar name values body)

pub break_form : form_tokens s.Break ≡ 2
break_form = view s.Break o.Break s.rolls-Break

pub continue_form : form_tokens s.Continue ≡ 2
continue_form = view s.Continue o.Continue s.rolls-Continue

pub return_form : (value : Option Right) → form_tokens (s.Return value) ≡ 2 + optional_right 0 value
return_form value = view (s.Return value) (o.Return value) (s.rolls-Return value)

pub end_form : form_tokens s.End ≡ 2
end_form = view s.End o.End s.rolls-End

pub ruleset forms = (
  declaration_form,
  register_form,
  constant_form,
  alias_form,
  assignment_form,
  update_form,
  measurement_form,
  reset_form,
  barrier_form,
  gate_form,
  call_form,
  branch_form,
  while_form,
  for_form,
  break_form,
  continue_form,
  return_form,
  end_form,
)
