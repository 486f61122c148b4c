-- The typing of statements (OpenQASM 3.0 live specification, "Classical instructions", "Built-in quantum instructions" and "Scoping of
-- variables"; Cross et al. 2022), one line a form. Within a statement judgements go from left to right, and the target's come after the
-- right side's. A body is a scope of its own. A statement that does nothing when it runs has no typed form.
use Rattle.std.specs.Prelude.{ℕ, ◌+◌, Bool, true, false, not, ◌&&◌, if◌then◌else◌, List, [], ◌∷◌, ◌++◌, length, Option, Some, None, Ok, Err}
use Rattle.qt_const_rules.specs.declared.modes.Mode.TheVariants as mode
use Rattle.qt_names.specs.Entries.{Name}
use Rattle.qt_names.specs.Scopes.{finding}
use Rattle.qt_names.specs.declared.named.Named.{Named}
use Rattle.qt_names.specs.declared.named.What.{What}
use Rattle.qt_names.specs.declared.named.What.TheVariants as what
use Rattle.qt_tree.specs.declared.expression.CompoundOperator.{CompoundOperator}
use Rattle.qt_tree.specs.declared.expression.CompoundOperator.TheVariants as compound
use Rattle.qt_tree.specs.declared.expression.Expr.{Expr}
use Rattle.qt_tree.specs.declared.expression.Range.{Range, out-Range}
use Rattle.qt_tree.specs.declared.expression.Scalar.{Scalar}
use Rattle.qt_tree.specs.declared.place.Place.{Place}
use Rattle.qt_tree.specs.declared.refusal.Cause.TheVariants as cause
use Rattle.qt_tree.specs.declared.refusal.TextRefusal.TheVariants as refusal
use Rattle.qt_tree.specs.declared.statement.GateCall.{GateCall}
use Rattle.qt_tree.specs.declared.statement.Operand.{Operand}
use Rattle.qt_tree.specs.declared.statement.Right.{Right}
use Rattle.qt_tree.specs.declared.statement.Sequence.{Sequence}
use Rattle.qt_tree.specs.declared.statement.Sequence.TheVariants as over
use Rattle.qt_tree.specs.declared.statement.Statement.{Statement}
use Rattle.qt_tree.specs.declared.statement.StatementForm.{StatementForm}
use Rattle.qt_tree.specs.declared.statement.StatementForm.TheOpen as s
use Rattle.qt_tree.specs.declared.statement.StatementForm.TheOpen.{StatementForm-F, Statement-F}
use Rattle.qt_tree.specs.declared.statement.StatementForm.TheFolds.{fold-StatementForm, fold-Statement}
use Rattle.qt_tree.specs.declared.statement.Target.{Target}
use Rattle.qt_typed.specs.declared.expression.TypedExpr.{TypedExpr}
use Rattle.qt_typed.specs.declared.expression.TypedExpr.TheVariants as typed_expr
use Rattle.qt_typed.specs.declared.expression.TypedTarget.{TypedTarget}
use Rattle.qt_typed.specs.declared.statement.Spot.{Spot}
use Rattle.qt_typed.specs.declared.statement.TypedAction.{TypedAction}
use Rattle.qt_typed.specs.declared.statement.TypedAction.TheVariants as action
use Rattle.qt_typed.specs.declared.statement.TypedLoop.TheVariants as loop
use Rattle.qt_typed.specs.declared.statement.TypedRight.TheVariants as typed_right
use Rattle.qt_typed.specs.declared.statement.TypedSequence.{TypedSequence}
use Rattle.qt_typed.specs.declared.statement.TypedSequence.TheVariants as sequence
use Rattle.qt_typed.specs.declared.statement.TypedStatement.{TypedStatement}
use Rattle.qt_typed.specs.declared.statement.TypedStatement.TheVariants as typed
use Rattle.qt_value.specs.Types.{is_whole, width_of}
use Rattle.qt_value.specs.declared.constant.ConstValue.{ConstValue}
use Rattle.qt_value.specs.declared.constant.ConstValue.TheVariants as constant
use Rattle.qt_value.specs.declared.operators.Op.{Op}
use Rattle.qt_value.specs.declared.operators.Op.TheVariants as op
use Rattle.qt_value.specs.declared.types.ValueType.{ValueType}
use Rattle.qt_value.specs.declared.types.ValueType.TheVariants as kind
use Rattle.qt_typing.specs.declared.indexes.Storage.{Storage}
use Rattle.qt_typing.specs.declared.names.Names.{Names}
use Rattle.qt_typing.specs.declared.operand.Operand.TheVariants as operand
use Rattle.qt_typing.specs.declared.state.Around.{Around}
use Rattle.qt_typing.specs.declared.state.Body.{Body}
use Rattle.qt_typing.specs.declared.state.Called.{Called}
use Rattle.qt_typing.specs.declared.state.Returns.{Returns}
use Rattle.qt_typing.specs.declared.state.Returns.TheVariants as returns
use Rattle.qt_typing.specs.declared.state.State.{State}
use Rattle.qt_typing.specs.Checked.{Checked, and_then, unless}
use Rattle.qt_typing.specs.Environment.{Typing, ◌>>=◌, pure, seen, type_at, take_slots, span_from, enter, leave}
use Rattle.qt_typing.specs.Conversions.{wanted, truth_at}
use Rattle.qt_typing.specs.Indexes.{whole_index}
use Rattle.qt_typing.specs.declared.operand.Beside.{Beside}
use Rattle.qt_typing.specs.declared.way.Way.TheVariants.{Unwritten}
use Rattle.qt_typing.specs.Operators.{right_beside}
use Rattle.qt_typing.specs.Expressions.{typed_of, storage_of, or_unfit, named_constant}
use Rattle.qt_typing.specs.Qubits.{operand_qubits}
use Rattle.qt_typing.specs.Targets.{target_at, measured_target}
use Rattle.qt_typing.specs.Calls.{RightForm, Measured, Calls, Plain, right_form, calling, result_at, call_as, fits_type, optional_right, right_at}
use Rattle.qt_typing.specs.Declarations.{declaration_of, bit_register, constant_of, alias_of, declare_variable}
use Rattle.qt_typing.specs.Gates.{gate_call}
use Rattle.qt_typing.specs.Tokens.{statement_tokens}

-- ---- assignments

unfoldable pub assign_value : Place → Target → Expr → Names → Checked TypedAction
assign_value place target expr names =
    and_then (typed_of names mode.Plain place expr) (λ x.
    and_then (target_at place target names) (λ (t : TypedTarget).
    and_then (wanted Unwritten names mode.Plain place t.kind expr x) (λ form. Ok (action.Assign t (typed_right.Value form)))))

unfoldable pub assign_outcomes : Place → Target → Operand → Names → Checked TypedAction
assign_outcomes place target qubits names =
    and_then (operand_qubits names place qubits) (λ of.
    and_then (measured_target place of target names) (λ t. Ok (action.Assign t (typed_right.Measure of))))

unfoldable pub assign_result : Place → Target → Called → Names → Checked TypedAction
assign_result place target called names =
    and_then (result_at place called) (λ from.
    and_then (target_at place target names) (λ (t : TypedTarget).
    and_then (call_as place t.kind called from) (λ value. Ok (action.Assign t value))))

abbrev pub assign : Place → Target → RightForm → Typing TypedAction
assign place target (Measured qubits) = seen (assign_outcomes place target qubits)
assign place target (Calls name given) = calling place name given >>= (λ called. seen (assign_result place target called))
assign place target (Plain expr) = seen (assign_value place target expr)

unfoldable pub assignment : Place → Target → Right → Typing TypedAction
assignment place target value = λ s. assign place target (right_form s.names value) s

unfoldable pub op_of_compound : CompoundOperator → Op
op_of_compound compound.Add = op.Add
op_of_compound compound.Sub = op.Sub
op_of_compound compound.Mul = op.Mul
op_of_compound compound.Div = op.Div
op_of_compound compound.Rem = op.Rem
op_of_compound compound.Pow = op.Pow
op_of_compound compound.And = op.And
op_of_compound compound.Or = op.Or
op_of_compound compound.Xor = op.Xor
op_of_compound compound.Shl = op.Shl
op_of_compound compound.Shr = op.Shr

-- the operator's result becomes a value of the target's type
unfoldable pub update : Place → Target → CompoundOperator → Expr → Names → Checked TypedAction
update place target operator expr names =
    and_then (typed_of names mode.Plain place expr) (λ x.
    and_then (target_at place target names) (λ (t : TypedTarget).
    and_then (right_beside names mode.Plain place (op_of_compound operator) t.kind expr x) (λ (b : Beside).
    and_then (unless (not (fits_type b.result t.kind)) (refusal.E10 place)) (λ _. Ok (action.Update t (op_of_compound operator) b.form)))))

-- ---- measurements, resets, barriers and calls

unfoldable pub measure : Place → Operand → Option Target → Names → Checked TypedAction
measure place qubits None names = and_then (operand_qubits names place qubits) (λ of. Ok (action.Measure of None))
measure place qubits (Some target) names =
    and_then (operand_qubits names place qubits) (λ of.
    and_then (measured_target place of target names) (λ t. Ok (action.Measure of (Some t))))

unfoldable pub reset : Place → Operand → Names → Checked TypedAction
reset place qubits names = and_then (operand_qubits names place qubits) (λ of. Ok (action.Reset of))

unfoldable pub barrier : Place → List Operand → Names → Checked TypedAction
barrier place [] names = Ok action.Barrier
barrier place (qubits ∷ rest) names = and_then (operand_qubits names place qubits) (λ of. barrier place rest names)

unfoldable pub call_statement : Place → Name → List Expr → Typing TypedAction
call_statement place name given = calling place name given >>= (λ called. pure (action.Call called.call))

unfoldable pub gate_statement : Place → GateCall → Typing TypedAction
gate_statement place call = λ s. seen (gate_call place s.included s.all_gates call) s

-- ---- jumps

-- `break` and `continue` stand in a loop
unfoldable pub jump : Place → Around → TypedAction → Checked TypedAction
jump place around action = and_then (unless (not around.in_loop) (refusal.E11 place cause.Loop)) (λ _. Ok action)

-- `return` stands in a subroutine, and has a value exactly where that has a result
unfoldable pub return : Place → Returns → Option Right → Typing TypedAction
return place returns.Nothing None = pure (action.Return None)
return place (returns.Value kind) (Some value) = right_at place kind value >>= (λ form. pure (action.Return (Some form)))
return place _ _ = λ s. Err (refusal.E11 place cause.Return)

-- ---- what a `for` goes over

-- a value that the loop's variable takes
unfoldable pub loop_value : Place → Expr → Names → Checked TypedExpr
loop_value place expr names = and_then (typed_of names mode.Plain place expr) (whole_index place true)

unfoldable pub bound : Place → Option Expr → Names → Checked TypedExpr
bound place None names = Err (refusal.E10 place)
bound place (Some expr) names = loop_value place expr names

unfoldable pub optional_value : Place → Option Expr → Names → Checked (Option TypedExpr)
optional_value place None names = Ok None
optional_value place (Some expr) names = and_then (loop_value place expr names) (λ form. Ok (Some form))

unfoldable pub range_values : Place → Range → Names → Checked TypedSequence
range_values place range names =
    and_then (bound place (out-Range range).start names) (λ first.
    and_then (optional_value place (out-Range range).step names) (λ step.
    and_then (bound place (out-Range range).end names) (λ last. Ok (sequence.Range first step last))))

unfoldable pub members_from : Place → List TypedExpr → List Expr → Names → Checked (List TypedExpr)
members_from place done [] names = Ok done
members_from place done (expr ∷ rest) names =
    and_then (loop_value place expr names) (λ form. members_from place (done ++ form ∷ []) rest names)

-- an array of one dimension, or a bit register
abbrev pub scalar_bits : Place → ValueType → TypedExpr → Checked TypedSequence
scalar_bits place (kind.Bit n) form = Ok (sequence.Bits n form)
scalar_bits place _ form = Err (refusal.E10 place)

abbrev pub elements : Place → ValueType → ℕ → ℕ → Checked TypedSequence
elements place kind slot n = if is_whole kind then Ok (sequence.Array kind slot n) else Err (refusal.E10 place)

abbrev pub stored_values : Place → ValueType → ℕ → List ℕ → Checked TypedSequence
stored_values place kind slot [] = scalar_bits place kind (typed_expr.Slot kind slot)
stored_values place kind slot (n ∷ []) = elements place kind slot n
stored_values place kind slot _ = Err (refusal.E10 place)

abbrev pub constant_values : Place → ConstValue → Checked TypedSequence
constant_values place (constant.Value x) = scalar_bits place x.kind (typed_expr.Constant x)
constant_values place (constant.Phase p) = Err (refusal.E10 place)

abbrev pub unassigned_values : Names → Place → Name → Option Storage → Checked TypedSequence
unassigned_values names place name None = and_then (named_constant names place name) (constant_values place)
unassigned_values names place name (Some v) = stored_values place v.kind v.slot v.lengths

unfoldable pub named_values : Names → Place → Name → What → Named → Checked TypedSequence
named_values names place name what.Constant it = unassigned_values names place name (storage_of it)
named_values names place name _ it =
    and_then (or_unfit place name (storage_of it)) (λ (v : Storage). stored_values place v.kind v.slot v.lengths)

unfoldable pub values_of : Place → Sequence → Names → Checked TypedSequence
values_of place (over.Range range) names = range_values place range names
values_of place (over.Set members) names = and_then (members_from place [] members names) (λ forms. Ok (sequence.Set forms))
values_of place (over.Name name) names = and_then (finding names.scopes name place) (λ it. named_values names place name it.what it)

-- what a loop keeps behind its variable
unfoldable pub kept : TypedSequence → ℕ
kept (sequence.Range first step last) = 3
kept (sequence.Set members) = length members + 1
kept (sequence.Array kind slot n) = n + 1
kept (sequence.Bits width value) = 2

-- the type of a loop's variable: its values are whole numbers
unfoldable pub loop_type : Place → Scalar → Names → Checked ValueType
loop_type place scalar names =
    and_then (type_at names mode.Plain place scalar) (λ kind. and_then (unless (not (is_whole kind)) (refusal.E10 place)) (λ _. Ok kind))

-- ---- bodies

abbrev pub Reading : Type 0
Reading = Around → Typing (Option TypedStatement)

unfoldable pub added : List TypedStatement → Option TypedStatement → List TypedStatement
added done None = done
added done (Some statement) = done ++ statement ∷ []

-- one statement after the other
abbrev pub each_from : Around → List TypedStatement → List Reading → Typing (List TypedStatement)
each_from around done [] = pure done
each_from around done (reading ∷ rest) = reading around >>= (λ t. each_from around (added done t) rest)

unfoldable pub each : Around → List Reading → Typing (List TypedStatement)
each around = each_from around []

-- the end of a scope in which so many entries were known before
unfoldable pub closed : ℕ → ℕ → List TypedStatement → Typing Body
closed first known statements =
    leave known >>= (λ _ s. Ok (record { statements = statements; slots = span_from first s.slots }, s))

unfoldable pub inside : Around → List Reading → ℕ → ℕ → Typing Body
inside around body first known = each around body >>= closed first known

-- a body is a scope of its own
unfoldable pub scoped : Around → List Reading → Typing Body
scoped around body = λ s. (enter >>= (λ _. inside around body s.slots (length s.names.consts))) s

abbrev pub no_body : Typing Body
no_body = λ s. Ok (record { statements = []; slots = span_from s.slots s.slots }, s)

unfoldable pub optional_body : Around → Option (List Reading) → Typing Body
optional_body around None = no_body
optional_body around (Some body) = scoped around body

unfoldable pub in_loop : Around → Around
in_loop around = record { in_loop = true; returns = around.returns }

-- ---- `if` and `while`

unfoldable pub condition_at : Place → Expr → Names → Checked TypedExpr
condition_at place expr names = and_then (typed_of names mode.Plain place expr) (truth_at place)

unfoldable pub both_branches : Spot → Around → TypedExpr → Option (List Reading) → Body → Typing (Option TypedStatement)
both_branches at around test otherwise a =
    optional_body around otherwise >>= (λ b. pure (Some (typed.If at test a.statements a.slots b.statements b.slots)))

unfoldable pub branches : Spot → Around → List Reading → Option (List Reading) → TypedExpr → Typing (Option TypedStatement)
branches at around body otherwise test = scoped around body >>= both_branches at around test otherwise

unfoldable pub branching : Spot → Around → Expr → List Reading → Option (List Reading) → Typing (Option TypedStatement)
branching at around condition body otherwise = seen (condition_at at.place condition) >>= branches at around body otherwise

unfoldable pub while_body : Spot → Around → List Reading → TypedExpr → Typing (Option TypedStatement)
while_body at around body test = λ s.
    (scoped (in_loop around) body >>= (λ a. pure (Some (typed.Loop at (loop.While test) (span_from s.slots s.slots) a.statements
    a.slots)))) s

unfoldable pub while_loop : Spot → Around → Expr → List Reading → Typing (Option TypedStatement)
while_loop at around condition body = seen (condition_at at.place condition) >>= while_body at around body

-- ---- `for`: its variable stands in the scope of its body

unfoldable pub for_inside : Spot → Around → Name → ValueType → TypedSequence → List Reading → ℕ → ℕ → Typing (Option TypedStatement)
for_inside at around name kind values body first known = λ s.
    (declare_variable at.place name kind [] first >>= (λ _.
    inside (in_loop around) body s.slots known >>= (λ a.
    pure (Some (typed.Loop at (loop.For kind values) (span_from first s.slots) a.statements a.slots))))) s

unfoldable pub for_body : Spot → Around → Name → ValueType → List Reading → TypedSequence → Typing (Option TypedStatement)
for_body at around name kind body values = λ s.
    (take_slots (1 + kept values) >>= (λ first.
    enter >>= (λ _. for_inside at around name kind values body first (length s.names.consts)))) s

unfoldable pub for_values : Place → Scalar → Sequence → Names → Checked (ValueType × TypedSequence)
for_values place scalar values names =
    and_then (loop_type place scalar names) (λ kind. and_then (values_of place values names) (λ over. Ok (kind, over)))

unfoldable pub for_loop : Spot → Around → Scalar → Name → Sequence → List Reading → Typing (Option TypedStatement)
for_loop at around scalar name values body =
    seen (for_values at.place scalar values) >>= (λ r. for_body at around name r.0 body r.1)

-- ---- the forms

abbrev pub simple : Spot → Typing TypedAction → Typing (Option TypedStatement)
simple at typing = typing >>= (λ action. pure (Some (typed.Simple at action)))

-- a declaration that does nothing when it runs
abbrev pub silent : Typing (Unit {0}) → Typing (Option TypedStatement)
silent typing = typing >>= (λ _. pure None)

-- what isn't typed yet is refused; `items_built` says which programs have nothing of it
abbrev pub not_yet : {A : Type 0} → Place → Typing A
not_yet place = λ s. Err (refusal.E10 place)

abbrev pub form_typing_at : StatementForm-F (Place → Reading) Reading → Spot → Reading
form_typing_at (s.Declaration scalar name value) at around = simple at (declaration_of at.place scalar name value)
form_typing_at (s.BitRegister name size) at around = simple at (bit_register at.place name size)
form_typing_at (s.Constant scalar name value) at around = silent (constant_of at.place scalar name value)
form_typing_at (s.Alias name parts) at around = silent (alias_of at.place name parts)
form_typing_at (s.Assignment target value) at around = simple at (assignment at.place target value)
form_typing_at (s.CompoundAssignment target operator value) at around = simple at (seen (update at.place target operator value))
form_typing_at (s.Measure qubits target) at around = simple at (seen (measure at.place qubits target))
form_typing_at (s.Reset qubits) at around = simple at (seen (reset at.place qubits))
form_typing_at (s.Barrier qubits) at around = simple at (seen (barrier at.place qubits))
form_typing_at (s.Gate call) at around = simple at (gate_statement at.place call)
form_typing_at (s.Call name given) at around = simple at (call_statement at.place name given)
form_typing_at (s.If condition body otherwise) at around = branching at around condition body otherwise
form_typing_at (s.While condition body) at around = while_loop at around condition body
form_typing_at (s.For scalar name values body) at around = for_loop at around scalar name values body
form_typing_at s.Break at around = simple at (seen (λ names. jump at.place around action.Break))
form_typing_at s.Continue at around = simple at (seen (λ names. jump at.place around action.Continue))
form_typing_at (s.Return value) at around = simple at (return at.place around.returns value)
form_typing_at s.End at around = simple at (pure action.End)

abbrev pub form_step : StatementForm-F (Place → Reading) Reading → Place → Reading
form_step layer place around = form_typing_at layer (record { place = place; tokens = statement_tokens layer }) around

abbrev pub statement_step : Statement-F (Place → Reading) Reading → Reading
statement_step statement = statement.form statement.place

abbrev pub form_typing : StatementForm → Place → Reading
form_typing = fold-StatementForm (Place → Reading) Reading form_step statement_step

abbrev pub statement_typing : Statement → Reading
statement_typing = fold-Statement (Place → Reading) Reading form_step statement_step
