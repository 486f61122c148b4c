-- The typing of expressions (OpenQASM 3.0 live specification, "Types and Casting" and "Classical instructions"; Cross et al. 2022).
-- A form's typing is made of those of its parts, one line a form: a name before its indexes, an operator's operands before it. A part keeps
-- how it is written, since some parts have to be constant. A phase is typed before it is reckoned.
use Rattle.std.specs.Prelude.{ℕ, ◌-◌, ◌^◌, min, nat_eq, Bool, true, false, ◌&&◌, if◌then◌else◌, ℤ, pos, List, [], ◌∷◌, length, Option, Some, None, Result, Ok, Err}
use Rattle.qt_const.specs.Constants.{named}
use Rattle.qt_const.specs.Operators.{op_of_infix, op_of_prefix}
use Rattle.qt_const_rules.specs.Builtins.{builtin_of}
use Rattle.qt_const_rules.specs.Modes.{mode_in}
use Rattle.qt_const_rules.specs.Names.{known_of}
use Rattle.qt_const_rules.specs.Sorts.{sort_of_infix}
use Rattle.qt_const_rules.specs.declared.builtins.Builtin.{Builtin}
use Rattle.qt_const_rules.specs.declared.builtins.Builtin.TheVariants as builtin
use Rattle.qt_const_rules.specs.declared.modes.Mode.{Mode}
use Rattle.qt_const_rules.specs.declared.modes.Mode.TheVariants as mode
use Rattle.qt_names.specs.Entries.{Name}
use Rattle.qt_names.specs.Scopes.{found, or_unknown}
use Rattle.qt_names.specs.declared.named.Named.{Named}
use Rattle.qt_names.specs.declared.named.Places.{Places}
use Rattle.qt_names.specs.declared.named.Places.TheVariants as places
use Rattle.qt_names.specs.declared.named.What.{What}
use Rattle.qt_names.specs.declared.named.What.TheVariants as what
use Rattle.qt_tree.specs.declared.expression.Expr.{Expr, roll-Expr}
use Rattle.qt_tree.specs.declared.expression.Index.{Index, roll-Index}
use Rattle.qt_tree.specs.declared.expression.Scalar.{Scalar, roll-Scalar}
use Rattle.qt_tree.specs.declared.expression.Range.{Range, roll-Range}
use Rattle.qt_tree.specs.declared.expression.Expr.TheOpen as e
use Rattle.qt_tree.specs.declared.expression.Expr.TheOpen.{Expr-F, Index-F, Scalar-F, Range-F}
use Rattle.qt_tree.specs.declared.expression.Expr.TheFolds.{fold-Expr, fold-Index, map-Expr, map-Index, map-Scalar, map-Range}
use Rattle.qt_tree.specs.declared.expression.InfixOperator.{InfixOperator}
use Rattle.qt_tree.specs.declared.place.Place.{Place}
use Rattle.qt_tree.specs.declared.refusal.Cause.TheVariants as cause
use Rattle.qt_tree.specs.declared.refusal.TextRefusal.TheVariants as refusal
use Rattle.qt_typed.specs.declared.expression.TypedExpr.{TypedExpr}
use Rattle.qt_typed.specs.declared.expression.TypedExpr.TheVariants as typed
use Rattle.qt_typed.specs.declared.expression.TypedPhase.TheVariants as phase
use Rattle.qt_typed.specs.declared.expression.TypedStep.{TypedStep}
use Rattle.qt_typed.specs.declared.expression.TypedStep.TheVariants as step
use Rattle.qt_typed.specs.declared.expression.TypedVariable.{TypedVariable}
use Rattle.qt_typed.specs.declared.expression.TypedVariable.TheVariants as variable
use Rattle.qt_value.specs.OpTypes.{result_type}
use Rattle.qt_value.specs.declared.constant.ConstValue.{ConstValue}
use Rattle.qt_value.specs.declared.constant.ConstValue.TheVariants as constant
use Rattle.qt_value.specs.declared.operators.Op.{Op}
use Rattle.qt_value.specs.declared.operators.Op.TheVariants as op
use Rattle.qt_value.specs.declared.operators.UnaryOp.TheVariants as unary
use Rattle.qt_value.specs.declared.types.ValueType.{ValueType}
use Rattle.qt_typing.specs.declared.indexes.Storage.{Storage}
use Rattle.qt_typing.specs.declared.names.Names.{Names}
use Rattle.qt_typing.specs.declared.operand.Operand.{Operand}
use Rattle.qt_typing.specs.declared.operand.Operand.TheVariants as operand
use Rattle.qt_typing.specs.declared.way.Way.TheVariants.{Written, Unwritten}
use Rattle.qt_typing.specs.Checked.{Checked, and_then, answer_at, told}
use Rattle.qt_typing.specs.Environment.{constant_at, type_at}
use Rattle.qt_typing.specs.Conversions.{wanted}
use Rattle.qt_typing.specs.Sorts.{sort_at}
use Rattle.qt_typing.specs.Indexes.{Part, Shape, Single, Bounds, Several, IndexPart, Reached, all_indexes, reached, steps_from}
use Rattle.qt_typing.specs.Operators.{before_operand, unary_row, combined, both_true}
use Rattle.qt_value.specs.OpTypes.{unary_result_type}

-- ---- constants

unfoldable pub of_constant : ConstValue → Operand
of_constant (constant.Value x) = operand.Value x.kind (typed.Constant x)
of_constant (constant.Phase p) = operand.Phase (phase.Fixed p)

unfoldable pub constant_operand : Names → Mode → Place → Expr → Checked Operand
constant_operand names m place whole = and_then (constant_at names m place whole) (λ c. Ok (of_constant c))

-- ---- names

abbrev pub storage_at : Option ValueType → List ℕ → Places → Option Storage
storage_at (Some kind) lengths (places.Number slot) = Some (record { kind = kind; lengths = lengths; slot = slot })
storage_at _ lengths _ = None

abbrev pub storage_of_kind : What → Named → Option Storage
storage_of_kind what.Variable it = storage_at it.of it.lengths it.places
storage_of_kind what.Parameter it = storage_at it.of it.lengths it.places
storage_of_kind what.Constant it = storage_at it.of it.lengths it.places
storage_of_kind _ it = None

-- where a variable, a parameter that is one, or an input is kept. A constant has no slot
unfoldable pub storage_of : Named → Option Storage
storage_of it = storage_of_kind it.what it

abbrev pub or_unfit : {A : Type 0} → Place → Name → Option A → Checked A
or_unfit place name (Some a) = Ok a
or_unfit place name None = Err (refusal.E8 place name)

abbrev pub read : TypedVariable → TypedExpr
read (variable.Slot kind slot) = typed.Slot kind slot
read (variable.Element kind slot lengths indexes) = typed.Element kind slot lengths indexes

abbrev pub kind_of : TypedVariable → ValueType
kind_of (variable.Slot kind slot) = kind
kind_of (variable.Element kind slot lengths indexes) = kind

abbrev pub stepped : TypedExpr → List TypedStep → TypedExpr
stepped form [] = form
stepped form (step.At index ∷ rest) = stepped (typed.Bit form index) rest
stepped form (step.Slice start by count ∷ rest) = stepped (typed.Slice form start by count) rest

-- a value, and the indexes that are left
unfoldable pub bits_of : Names → Mode → Place → ValueType → TypedExpr → List IndexPart → Checked Operand
bits_of names m place kind form rest =
    and_then (steps_from names m place [] kind rest) (λ s. Ok (operand.Value s.kind (stepped form s.steps)))

unfoldable pub variable_operand : Names → Mode → Place → Storage → List IndexPart → Checked Operand
variable_operand names m place it indexes =
    and_then (reached names m place it it.lengths indexes) (λ r. bits_of names m place (kind_of r.variable) (read r.variable) r.rest)

abbrev pub constant_bits : Names → Mode → Place → List IndexPart → ConstValue → Checked Operand
constant_bits names m place indexes (constant.Value x) = bits_of names m place x.kind (typed.Constant x) indexes
constant_bits names m place indexes (constant.Phase p) = Err (refusal.E10 place)

-- a constant by its value
unfoldable pub named_constant : Names → Place → Name → Checked ConstValue
named_constant names place name = answer_at place (named name 0 (known_of names.consts name))

-- an input, or a constant by its value
abbrev pub unassigned : Names → Mode → Place → Name → List IndexPart → Option Storage → Checked Operand
unassigned names m place name indexes None = and_then (named_constant names place name) (constant_bits names m place indexes)
unassigned names m place name indexes (Some v) = variable_operand names m place v indexes

unfoldable pub name_operand : Names → Mode → Place → Name → List IndexPart → What → Named → Checked Operand
name_operand names m place name indexes what.Constant it = unassigned names m place name indexes (storage_of it)
name_operand names m place name indexes _ it =
    and_then (or_unfit place name (storage_of it)) (λ v. variable_operand names m place v indexes)

-- ---- operators

-- inside an operator that gives a phase, its operands are reckoned exactly
abbrev pub inner_mode : Names → Mode → InfixOperator → Part → Part → Mode
inner_mode names m operator left right = mode_in m (sort_of_infix operator (sort_at names left.written) (sort_at names right.written))

abbrev pub between_operands : Names → Mode → Place → InfixOperator → Option Op → Part → Part → Checked Operand
between_operands names m place operator (Some op) left right =
    and_then (left.typed m) (λ x. and_then (right.typed m) (combined names m place op left.written x right.written))
between_operands names m place operator None left right =
    and_then (left.typed m) (λ x. and_then (right.typed m) (both_true place operator x))

-- ---- the functions of the language, where no name hides them

unfoldable pub arity : {A : Type 0} → Place → ℕ → ℕ → Checked A
arity place wanted given = Err (refusal.E14 place wanted (told given))

abbrev pub counted : Place → Operand → Checked Operand
counted place (operand.Value kind form) = unary_row place unary.Popcount form (unary_result_type unary.Popcount kind)
counted place _ = Err (refusal.E10 place)

abbrev pub turned_row : Place → Op → TypedExpr → TypedExpr → Option ValueType → Checked Operand
turned_row place op of by (Some kind) = Ok (operand.Value kind (typed.Binary op of by))
turned_row place op of by None = Err (refusal.E10 place)

abbrev pub turned : Place → Op → Operand → Operand → Checked Operand
turned place op (operand.Value of form) (operand.Value by places) = turned_row place op form places (result_type op of by)
turned place op _ _ = Err (refusal.E10 place)

abbrev pub rotated : Mode → Place → Op → List Part → Checked Operand
rotated m place op (of ∷ by ∷ []) = and_then (of.typed m) (λ x. and_then (by.typed m) (turned place op x))
rotated m place op arguments = arity place 2 (length arguments)

abbrev pub builtin_call : Mode → Place → List Part → Builtin → Checked Operand
builtin_call m place (of ∷ []) builtin.Popcount = and_then (of.typed m) (counted place)
builtin_call m place arguments builtin.Popcount = arity place 1 (length arguments)
builtin_call m place arguments builtin.Rotl = rotated m place op.Rotl arguments
builtin_call m place arguments builtin.Rotr = rotated m place op.Rotr arguments

-- the call of a name that stands for something: a subroutine's is no part of an expression
abbrev pub hidden_call : Place → Name → What → Checked Builtin
hidden_call place name what.Subroutine = Err (refusal.E11 place cause.Call)
hidden_call place name _ = Err (refusal.E8 place name)

unfoldable pub builtin_at : Place → Name → Option Named → Checked Builtin
builtin_at place name None = or_unfit place name (builtin_of name)
builtin_at place name (Some it) = hidden_call place name it.what

-- ---- the forms

abbrev pub as_written : Expr-F Part IndexPart Scalar Range → Expr
as_written layer =
    roll-Expr (map-Expr Part IndexPart Scalar Range Expr Index Scalar Range (λ p. p.written) (λ p. p.written) (λ s. s) (λ r. r) layer)

abbrev pub form_typed : Names → Mode → Place → Expr → Expr-F Part IndexPart Scalar Range → Checked Operand
form_typed names m place whole (e.Whole n) = constant_operand names m place whole
form_typed names m place whole (e.BitText bits length) = constant_operand names m place whole
form_typed names m place whole e.Pi = Ok (operand.Phase (phase.Fixed (pos (2 ^ 32))))
form_typed names m place whole e.Tau = Ok (operand.Phase (phase.Fixed (pos (2 ^ 33))))
form_typed names m place whole (e.Expr::Bool b) = constant_operand names m place whole
form_typed names m place whole (e.Parenthesized inner) = inner.typed m
form_typed names m place whole (e.Name name brackets) =
    and_then (or_unknown name place (found names.scopes name)) (λ it. name_operand names m place name (all_indexes brackets) it.what it)
form_typed names m place whole (e.Call name arguments) =
    and_then (builtin_at place name (found names.scopes name)) (builtin_call m place arguments)
form_typed names m place whole (e.Cast to x) =
    and_then (type_at names m place to) (λ kind.
    and_then (x.typed m) (λ y.
    and_then (wanted Written names m place kind x.written y) (λ form. Ok (operand.Value kind form))))
form_typed names m place whole (e.SizeOf name dimension) = constant_operand names m place whole
form_typed names m place whole (e.Unary operator x) = and_then (x.typed m) (before_operand place (op_of_prefix operator))
form_typed names m place whole (e.Binary operator left right) =
    between_operands names (inner_mode names m operator left right) place operator (op_of_infix operator) left right

-- ---- whole trees

abbrev pub expr_step : Names → Place → Expr-F Part IndexPart Scalar Range → Part
expr_step names place layer = record { written = as_written layer; typed = λ m. form_typed names m place (as_written layer) layer }

abbrev pub shape_of : Index-F Part IndexPart Scalar Range → Shape
shape_of (e.At part) = Single part
shape_of (e.Range range) = Bounds range
shape_of (e.Set parts) = Several

abbrev pub index_step : Index-F Part IndexPart Scalar Range → IndexPart
index_step layer = record {
  written =
      roll-Index (map-Index Part IndexPart Scalar Range Expr Index Scalar Range (λ p. p.written) (λ p. p.written) (λ s. s) (λ r. r) layer);
  shape = shape_of layer;
}

abbrev pub scalar_step : Scalar-F Part IndexPart Scalar Range → Scalar
scalar_step layer =
    roll-Scalar (map-Scalar Part IndexPart Scalar Range Expr Index Scalar Range (λ p. p.written) (λ p. p.written) (λ s. s) (λ r. r) layer)

abbrev pub range_step : Range-F Part IndexPart Scalar Range → Range
range_step layer =
    roll-Range (map-Range Part IndexPart Scalar Range Expr Index Scalar Range (λ p. p.written) (λ p. p.written) (λ s. s) (λ r. r) layer)

abbrev pub part_of : Names → Place → Expr → Part
part_of names place = fold-Expr Part IndexPart Scalar Range (expr_step names place) index_step scalar_step range_step

abbrev pub index_part : Names → Place → Index → IndexPart
index_part names place = fold-Index Part IndexPart Scalar Range (expr_step names place) index_step scalar_step range_step

abbrev pub typed_of : Names → Mode → Place → Expr → Checked Operand
typed_of names m place expr = (part_of names place expr).typed m

-- ---- expressions where something is wanted

-- a value of a type
unfoldable pub value_at : Names → Place → ValueType → Expr → Checked TypedExpr
value_at names place to expr = and_then (typed_of names mode.Plain place expr) (wanted Unwritten names mode.Plain place to expr)
