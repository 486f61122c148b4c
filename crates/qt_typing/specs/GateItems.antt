-- Gates that a program declares (OpenQASM 3.0 live specification, "Gates", hierarchically defined unitary gates; Cross et al. 2022). A
-- gate sees its parameters and qubits, the global constants, and the gates before it. Its name, parameters and qubits are judged at the
-- place of the item, a call in its body at its own. What stands beside a parameter in an angle is constant and reckoned exactly.
use Rattle.std.specs.Prelude.{ℕ, ◌+◌, ◌^◌, nat_eq, ◌&&◌, ℤ, pos, Bool, true, false, not, if◌then◌else◌, List, [], ◌∷◌, ◌++◌, length, Option, Some, None, Ok, Err}
use Rattle.qt_const.specs.Constants.{is_whole_zero}
use Rattle.qt_const_rules.specs.Answers.{is_zero}
use Rattle.qt_const_rules.specs.declared.consts.Known.TheVariants as known
use Rattle.qt_const_rules.specs.declared.modes.Mode.TheVariants as mode
use Rattle.qt_const_rules.specs.declared.sorts.Sort.{Sort}
use Rattle.qt_const_rules.specs.declared.sorts.Sort.TheVariants as sort
use Rattle.qt_gate_calls.specs.declared.angle.Angle.{Angle}
use Rattle.qt_gate_calls.specs.declared.angle.Angle.TheVariants as angle
use Rattle.qt_gate_calls.specs.declared.body.BodyCall.{BodyCall}
use Rattle.qt_gate_calls.specs.declared.body.GateBody.{GateBody}
use Rattle.qt_gate_calls.specs.declared.body.GateModifier.{GateModifier}
use Rattle.qt_names.specs.Entries.{Name}
use Rattle.qt_names.specs.Scopes.{found, or_unknown}
use Rattle.qt_names.specs.declared.named.Named.{Named}
use Rattle.qt_names.specs.declared.named.Places.{Places}
use Rattle.qt_names.specs.declared.named.Places.TheVariants as places
use Rattle.qt_names.specs.declared.named.What.{What}
use Rattle.qt_names.specs.declared.named.What.TheVariants as what
use Rattle.qt_tree.specs.declared.expression.Expr.{Expr, roll-Expr}
use Rattle.qt_tree.specs.declared.expression.Index.{Index, roll-Index}
use Rattle.qt_tree.specs.declared.expression.Scalar.{Scalar, roll-Scalar}
use Rattle.qt_tree.specs.declared.expression.Range.{Range, roll-Range}
use Rattle.qt_tree.specs.declared.expression.Expr.TheOpen as e
use Rattle.qt_tree.specs.declared.expression.Expr.TheOpen.{Expr-F, Index-F, Scalar-F, Range-F}
use Rattle.qt_tree.specs.declared.expression.Expr.TheFolds.{fold-Expr, map-Expr, map-Index, map-Scalar, map-Range}
use Rattle.qt_tree.specs.declared.expression.InfixOperator.{InfixOperator}
use Rattle.qt_tree.specs.declared.expression.InfixOperator.TheVariants as infixes
use Rattle.qt_tree.specs.declared.expression.PrefixOperator.{PrefixOperator}
use Rattle.qt_tree.specs.declared.expression.PrefixOperator.TheVariants as prefixes
use Rattle.qt_tree.specs.declared.place.Place.{Place}
use Rattle.qt_tree.specs.declared.program.GateForm.{GateForm}
use Rattle.qt_tree.specs.declared.program.GateForm.TheVariants as form
use Rattle.qt_tree.specs.declared.program.GateItem.{GateItem}
use Rattle.qt_tree.specs.declared.program.GateStatement.{GateStatement}
use Rattle.qt_tree.specs.declared.refusal.Cause.TheVariants as cause
use Rattle.qt_tree.specs.declared.refusal.TextRefusal.TheVariants as refusal
use Rattle.qt_tree.specs.declared.statement.GateCall.{GateCall}
use Rattle.qt_tree.specs.declared.statement.Operand.{Operand}
use Rattle.qt_typed.specs.declared.call.TypedQubit.TheVariants as qubit
use Rattle.qt_typed.specs.declared.call.TypedQubits.{TypedQubits}
use Rattle.qt_typed.specs.declared.call.TypedQubits.TheVariants as qubits
use Rattle.qt_value.specs.Numbers.{Datum, number_in}
use Rattle.qt_value.specs.Types.{is_whole}
use Rattle.qt_value.specs.declared.constant.ConstValue.{ConstValue}
use Rattle.qt_value.specs.declared.constant.ConstValue.TheVariants as constant
use Rattle.qt_value.specs.declared.types.ValueType.{ValueType}
use Rattle.qt_value.specs.declared.types.ValueType.TheVariants as kind
use Rattle.qt_typing.specs.declared.names.Names.{Names}
use Rattle.qt_typing.specs.declared.state.State.{State}
use Rattle.qt_typing.specs.Checked.{Checked, and_then, unless}
use Rattle.qt_typing.specs.Environment.{Typing, ◌>>=◌, pure, seen, constant_at, type_at, declare, declare_in_both, enter, leave}
use Rattle.qt_typing.specs.Sorts.{sort_at, is_fixed}
use Rattle.qt_typing.specs.Expressions.{builtin_at, typed_of}
use Rattle.qt_typing.specs.Qubits.{qubits_named}
use Rattle.qt_typing.specs.Declarations.{new_name}
use Rattle.qt_typing.specs.Gates.{Gate, modifiers_from, controls, gate_called, written_arguments, count_fits, constant_units, operands_from}
use Rattle.qt_typing.specs.Subroutines.{turned_inside}

-- ---- angles in a body

-- a part of an angle: a constant, or an angle of parameters
pub data Reckoned : Type 0 where
  Constant : ConstValue → Reckoned
  Angular : Angle → Reckoned

pub record AnglePart : Type 0 where
  pub written : Expr
  pub reckoned : Checked Reckoned

-- a whole number beside an angle. An angle of a constant would have to be beside a constant phase
abbrev pub whole_beside : Place → ConstValue → Checked ℤ
whole_beside place (constant.Phase p) = Err (refusal.E10 place)
whole_beside place (constant.Value x) =
    if is_whole x.kind then Ok (number_in x) else Err (refusal.E12 place cause.Variable)

abbrev pub as_angle : Place → ConstValue → Checked Angle
as_angle place (constant.Phase p) = Ok (angle.Units p)
as_angle place (constant.Value x) =
    and_then (whole_beside place (constant.Value x)) (λ z. if is_zero z then Ok (angle.Units (pos 0)) else Err (refusal.E10 place))

abbrev pub two_angles : Place → InfixOperator → Angle → Angle → Checked Reckoned
two_angles place infixes.Add a b = Ok (Angular (angle.Sum a b))
two_angles place infixes.Sub a b = Ok (Angular (angle.Difference a b))
two_angles place _ a b = Err (refusal.E10 place)

abbrev pub angle_first : Place → InfixOperator → Angle → ConstValue → Checked Reckoned
angle_first place infixes.Mul a c = and_then (whole_beside place c) (λ z. Ok (Angular (angle.Product a z)))
angle_first place infixes.Div a c = and_then (whole_beside place c) (λ z. Ok (Angular (angle.Quotient a z)))
angle_first place op a c = and_then (as_angle place c) (two_angles place op a)

abbrev pub angle_second : Place → InfixOperator → ConstValue → Angle → Checked Reckoned
angle_second place infixes.Mul c b = and_then (whole_beside place c) (λ z. Ok (Angular (angle.Product b z)))
angle_second place op c b = and_then (as_angle place c) (λ a. two_angles place op a b)

abbrev pub between_reckoned : Place → InfixOperator → Reckoned → Reckoned → Checked Reckoned
between_reckoned place op (Angular a) (Angular b) = two_angles place op a b
between_reckoned place op (Angular a) (Constant c) = angle_first place op a c
between_reckoned place op (Constant c) (Angular b) = angle_second place op c b
between_reckoned place op (Constant c) (Constant d) = Err (refusal.E10 place)

abbrev pub before_reckoned : Place → PrefixOperator → Reckoned → Checked Reckoned
before_reckoned place prefixes.Neg (Angular a) = Ok (Angular (angle.Opposite a))
before_reckoned place _ _ = Err (refusal.E10 place)

-- a parameter of the gate, without an index
abbrev pub parameter_kept : Option ValueType → Places → Option ℕ
parameter_kept (Some kind.Phase) (places.Number number) = Some number
parameter_kept _ _ = None

abbrev pub parameter_number : What → Named → Option ℕ
parameter_number what.Parameter it = parameter_kept it.of it.places
parameter_number _ it = None

abbrev pub no_brackets : {A : Type 0} → List A → Bool
no_brackets [] = true
no_brackets _ = false

abbrev pub parameter_angle : Place → Name → Bool → Option ℕ → Checked Reckoned
parameter_angle place name true (Some number) = Ok (Angular (angle.Parameter number))
parameter_angle place name false (Some number) = Err (refusal.E10 place)
parameter_angle place name alone None = Err (refusal.E8 place name)

-- a parameter as a value of another type: as an angle it would have to be constant
abbrev pub cast_parameter : Place → ValueType → Checked Reckoned
cast_parameter place (kind.Angle n) = Err (refusal.E12 place cause.Variable)
cast_parameter place _ = Err (refusal.E10 place)

abbrev pub all_reckoned : List AnglePart → Checked (Unit {0})
all_reckoned [] = Ok tt
all_reckoned (part ∷ rest) = and_then part.reckoned (λ _. all_reckoned rest)

abbrev pub angle_form : Names → Place → Expr-F AnglePart Index Scalar Range → Checked Reckoned
angle_form names place e.Pi = Ok (Angular (angle.Units (pos (2 ^ 32))))
angle_form names place e.Tau = Ok (Angular (angle.Units (pos (2 ^ 33))))
angle_form names place (e.Parenthesized inner) = inner.reckoned
angle_form names place (e.Name name brackets) =
    and_then (or_unknown name place (found names.scopes name)) (λ it. parameter_angle place name (no_brackets brackets)
    (parameter_number it.what it))
angle_form names place (e.Call name arguments) =
    and_then (builtin_at place name (found names.scopes name)) (λ _.
    and_then (all_reckoned arguments) (λ _. Err (refusal.E10 place)))
angle_form names place (e.Cast to x) =
    and_then (type_at names mode.Exact place to) (λ kind. and_then x.reckoned (λ _. cast_parameter place kind))
angle_form names place (e.Unary op x) = and_then x.reckoned (before_reckoned place op)
angle_form names place (e.Binary op left right) =
    and_then left.reckoned (λ a. and_then right.reckoned (between_reckoned place op a))
angle_form names place _ = Err (refusal.E10 place)

abbrev pub is_phase : Sort → Bool
is_phase sort.Phase = true
is_phase _ = false

-- what stands beside a parameter is typed, and reckoned exactly
abbrev pub constant_part : Names → Place → Expr → Checked Reckoned
constant_part names place whole =
    and_then (typed_of names mode.Exact place whole) (λ x. and_then (constant_at names mode.Exact place whole) (λ c. Ok (Constant c)))

abbrev pub angle_in : Names → Place → Expr → Expr-F AnglePart Index Scalar Range → Checked Reckoned
angle_in names place whole layer =
    if is_fixed names whole && not (is_phase (sort_at names whole)) then constant_part names place whole else angle_form names place layer

abbrev pub angle_written : Expr-F AnglePart Index Scalar Range → Expr
angle_written layer =
    roll-Expr (map-Expr AnglePart Index Scalar Range Expr Index Scalar Range (λ p. p.written) (λ i. i) (λ s. s) (λ r. r) layer)

abbrev pub angle_step : Names → Place → Expr-F AnglePart Index Scalar Range → AnglePart
angle_step names place layer = record { written = angle_written layer; reckoned = angle_in names place (angle_written layer) layer }

abbrev pub angle_index : Index-F AnglePart Index Scalar Range → Index
angle_index layer =
    roll-Index (map-Index AnglePart Index Scalar Range Expr Index Scalar Range (λ p. p.written) (λ i. i) (λ s. s) (λ r. r) layer)

abbrev pub angle_scalar : Scalar-F AnglePart Index Scalar Range → Scalar
angle_scalar layer =
    roll-Scalar (map-Scalar AnglePart Index Scalar Range Expr Index Scalar Range (λ p. p.written) (λ i. i) (λ s. s) (λ r. r) layer)

abbrev pub angle_range : Range-F AnglePart Index Scalar Range → Range
angle_range layer =
    roll-Range (map-Range AnglePart Index Scalar Range Expr Index Scalar Range (λ p. p.written) (λ i. i) (λ s. s) (λ r. r) layer)

abbrev pub reckoned_of : Names → Place → Expr → Checked Reckoned
reckoned_of names place expr =
    (fold-Expr AnglePart Index Scalar Range (angle_step names place) angle_index angle_scalar angle_range expr).reckoned

abbrev pub parameters_angle : Place → Reckoned → Checked Angle
parameters_angle place (Angular a) = Ok a
parameters_angle place (Constant c) = Err (refusal.E10 place)

-- an argument in a body: constant as a whole, and then typed and reckoned, or an angle of parameters
unfoldable pub body_angle : Names → Place → Expr → Checked Angle
body_angle names place expr =
    if is_fixed names expr
    then and_then (typed_of names mode.Plain place expr) (λ x.
    and_then (constant_at names mode.Plain place expr) (λ c.
    and_then (constant_units place c) (λ p. Ok (angle.Units p))))
    else and_then (reckoned_of names place expr) (parameters_angle place)

unfoldable pub angles_from : Names → Place → List Angle → List Expr → Checked (List Angle)
angles_from names place done [] = Ok done
angles_from names place done (expr ∷ rest) =
    and_then (body_angle names place expr) (λ a. angles_from names place (done ++ a ∷ []) rest)

-- ---- how many operators stand in an expression

abbrev pub sum_of : List ℕ → ℕ
sum_of [] = 0
sum_of (n ∷ rest) = n + sum_of rest

abbrev pub sum_of_all : List (List ℕ) → ℕ
sum_of_all [] = 0
sum_of_all (ns ∷ rest) = sum_of ns + sum_of_all rest

abbrev pub or_zero : Option ℕ → ℕ
or_zero None = 0
or_zero (Some n) = n

abbrev pub expr_operators : Expr-F ℕ ℕ ℕ ℕ → ℕ
expr_operators (e.Parenthesized inner) = inner
expr_operators (e.Name name brackets) = sum_of_all brackets
expr_operators (e.Call name arguments) = sum_of arguments
expr_operators (e.Cast to operand) = to + operand
expr_operators (e.SizeOf name dimension) = or_zero dimension
expr_operators (e.Unary op operand) = operand + 1
expr_operators (e.Binary op left right) = left + right + 1
expr_operators _ = 0

abbrev pub index_operators : Index-F ℕ ℕ ℕ ℕ → ℕ
index_operators (e.At place) = place
index_operators (e.Range range) = range
index_operators (e.Set places) = sum_of places

abbrev pub scalar_operators : Scalar-F ℕ ℕ ℕ ℕ → ℕ
scalar_operators e.Scalar::Bool = 0
scalar_operators (e.Bit size) = or_zero size
scalar_operators (e.Int size) = or_zero size
scalar_operators (e.Uint size) = or_zero size
scalar_operators (e.Angle size) = or_zero size

abbrev pub range_operators : Range-F ℕ ℕ ℕ ℕ → ℕ
range_operators range = or_zero range.start + or_zero range.step + or_zero range.end

abbrev pub operators_in : List Expr → ℕ
operators_in [] = 0
operators_in (expr ∷ rest) = fold-Expr ℕ ℕ ℕ ℕ expr_operators index_operators scalar_operators range_operators expr + operators_in rest

-- ---- calls in a body

-- the qubits of the gate by their numbers
abbrev pub body_qubits : List TypedQubits → List ℕ
body_qubits [] = []
body_qubits (qubits.Single (qubit.Slot number) ∷ rest) = number ∷ body_qubits rest
body_qubits (_ ∷ rest) = body_qubits rest

unfoldable pub body_call_with : Place → List Expr → List Operand → List GateModifier → Gate → Names → Checked BodyCall
body_call_with place arguments operands modifiers gate names =
    and_then (count_fits place gate.parameters (length arguments)) (λ _.
    and_then (angles_from names place [] arguments) (λ angles.
    and_then (count_fits place (controls modifiers + gate.qubits) (length operands)) (λ _.
    and_then (operands_from names place [] operands) (λ all.
    Ok (record {
      modifiers =
          modifiers;
      gate = gate.called;
      angles = angles;
      qubits = body_qubits all;
      operators = operators_in arguments;
    })))))

unfoldable pub body_call : Place → Bool → GateCall → Names → Checked BodyCall
body_call place included call names =
    and_then (modifiers_from names place [] call.modifiers) (λ modifiers.
    and_then (gate_called names included place call.gate) (λ gate.
    body_call_with place (written_arguments call.gate) call.operands modifiers gate names))

unfoldable pub body_barrier : Place → List Name → Names → Checked (Unit {0})
body_barrier place [] names = Ok tt
body_barrier place (name ∷ rest) names = and_then (qubits_named names place name) (λ _. body_barrier place rest names)

abbrev pub body_statement : Place → Bool → GateForm → Names → Checked (List BodyCall)
body_statement place included (form.Call call) names = and_then (body_call place included call names) (λ c. Ok (c ∷ []))
body_statement place included (form.Barrier qubits) names = and_then (body_barrier place qubits names) (λ _. Ok [])

unfoldable pub body_from : Bool → List BodyCall → List GateStatement → Names → Checked (List BodyCall)
body_from included done [] names = Ok done
body_from included done (s ∷ rest) names =
    and_then (body_statement s.place included s.form names) (λ more. body_from included (done ++ more) rest names)

-- ---- parameters and qubits, which stand in one scope

abbrev pub angle_named : ℕ → Named
angle_named number = record { what = what.Parameter; of = Some kind.Phase; lengths = []; places = places.Number number }

abbrev pub wire_named : ℕ → Named
wire_named number = record { what = what.Parameter; of = None; lengths = []; places = places.Number number }

unfoldable pub declare_angles : Place → ℕ → List Name → Typing (Unit {0})
declare_angles place n [] = pure tt
declare_angles place n (name ∷ rest) = declare place name (angle_named n) known.Other >>= (λ _. declare_angles place (n + 1) rest)

unfoldable pub declare_wires : Place → ℕ → List Name → Typing (Unit {0})
declare_wires place n [] = pure tt
declare_wires place n (name ∷ rest) = declare place name (wire_named n) known.Hidden >>= (λ _. declare_wires place (n + 1) rest)

abbrev pub parameters_of : GateItem → List Name
parameters_of gate = or_empty gate.parameters where
  or_empty : Option (List Name) → List Name
  or_empty None = []
  or_empty (Some names) = names

-- ---- the whole

abbrev pub body_with : GateItem → List BodyCall → GateBody
body_with gate calls = record { parameters = length (parameters_of gate); qubits = length gate.qubits; calls = calls }

unfoldable pub gate_inside : GateItem → Typing GateBody
gate_inside gate = λ s.
    (enter >>= (λ _.
    declare_angles gate.place 0 (parameters_of gate) >>= (λ _.
    declare_wires gate.place 0 gate.qubits >>= (λ _.
    seen (body_from s.included [] gate.body) >>= (λ calls.
    leave (length s.names.consts) >>= (λ _.
    pure (body_with gate calls))))))) s

unfoldable pub gate_body_of : GateItem → Typing GateBody
gate_body_of gate = λ s.
    and_then (gate_inside gate (turned_inside s.slots s)) (λ r. Ok (r.0, turned_inside s.slots r.1))

abbrev pub gate_named : ℕ → GateBody → Named
gate_named number body =
    record { what = what.Gate; of = None; lengths = body.parameters ∷ body.qubits ∷ []; places = places.Number number }

unfoldable pub declare_gate : Place → Name → GateBody → Typing (Unit {0})
declare_gate place name body = λ s.
    declare_in_both place name (gate_named (length s.gates) body) known.Hidden (record s { gates = s.gates ++ body ∷ [] })

unfoldable pub gate_item : GateItem → Typing (Unit {0})
gate_item gate = seen (new_name gate.place gate.name) >>= (λ _. gate_body_of gate >>= declare_gate gate.place gate.name)
