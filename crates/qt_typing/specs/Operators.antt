-- Operators between typed operands (OpenQASM 3.0 live specification, "Classical instructions" and "Types and Casting", angles; Cross et al.
-- 2022). The table of operators gives the type of two values. A phase beside an angle is constant and becomes an angle of that width; the
-- constant whole number 0 counts as phase 0 where no row fits. Phase ± phase, −phase, phase × whole and phase / whole are phases.
use Rattle.std.specs.Prelude.{ℕ, ◌&&◌, Bool, true, false, if◌then◌else◌, ℤ, pos, Option, Some, None, Ok, Err}
use Rattle.qt_const_rules.specs.Angles.{angle_of}
use Rattle.qt_const_rules.specs.declared.modes.Mode.{Mode}
use Rattle.qt_const_rules.specs.declared.modes.Mode.TheVariants as mode
use Rattle.qt_tree.specs.declared.expression.Expr.{Expr}
use Rattle.qt_tree.specs.declared.expression.InfixOperator.{InfixOperator}
use Rattle.qt_tree.specs.declared.expression.InfixOperator.TheVariants as infixes
use Rattle.qt_tree.specs.declared.place.Place.{Place}
use Rattle.qt_tree.specs.declared.refusal.TextRefusal.TheVariants as refusal
use Rattle.qt_typed.specs.declared.expression.Logical.{Logical}
use Rattle.qt_typed.specs.declared.expression.Logical.TheVariants as logical
use Rattle.qt_typed.specs.declared.expression.TypedExpr.{TypedExpr}
use Rattle.qt_typed.specs.declared.expression.TypedExpr.TheVariants as typed
use Rattle.qt_typed.specs.declared.expression.TypedPhase.{TypedPhase}
use Rattle.qt_typed.specs.declared.expression.TypedPhase.TheVariants as phase
use Rattle.qt_value.specs.OpTypes.{result_type, unary_result_type}
use Rattle.qt_value.specs.Types.{is_whole}
use Rattle.qt_value.specs.declared.operators.Op.{Op}
use Rattle.qt_value.specs.declared.operators.Op.TheVariants as op
use Rattle.qt_value.specs.declared.operators.UnaryOp.{UnaryOp}
use Rattle.qt_value.specs.declared.operators.UnaryOp.TheVariants as unary
use Rattle.qt_value.specs.declared.types.ValueType.{ValueType}
use Rattle.qt_value.specs.declared.types.ValueType.TheVariants as kind
use Rattle.qt_typing.specs.declared.names.Names.{Names}
use Rattle.qt_typing.specs.declared.operand.Beside.{Beside}
use Rattle.qt_typing.specs.declared.operand.Operand.{Operand}
use Rattle.qt_typing.specs.declared.operand.Operand.TheVariants as operand
use Rattle.qt_typing.specs.Checked.{Checked, and_then, answer_at}
use Rattle.qt_typing.specs.Conversions.{truth_at, is_zero_at, zero_angle, phase_at}

-- ---- one operand

unfoldable pub unary_row : Place → UnaryOp → TypedExpr → Option ValueType → Checked Operand
unary_row place op form None = Err (refusal.E10 place)
unary_row place op form (Some kind) = Ok (operand.Value kind (typed.Unary op form))

unfoldable pub before_operand : Place → UnaryOp → Operand → Checked Operand
before_operand place op (operand.Value kind form) = unary_row place op form (unary_result_type op kind)
before_operand place unary.Neg (operand.Phase form) = Ok (operand.Phase (phase.Neg form))
before_operand place _ _ = Err (refusal.E10 place)

-- ---- two values

-- inside a phase no division of whole numbers leaves a rest
abbrev pub quotient_form : Bool → TypedExpr → TypedExpr → TypedExpr
quotient_form true left right = typed.ExactQuotient left right
quotient_form false left right = typed.Binary op.Div left right

unfoldable pub operator_form : Mode → Op → ValueType → ValueType → TypedExpr → TypedExpr → TypedExpr
operator_form mode.Exact op.Div l r left right = quotient_form (is_whole l && is_whole r) left right
operator_form m op l r left right = typed.Binary op left right

-- what stands beside an operand, where a row gives the type of the result
abbrev pub beside : ValueType → TypedExpr → Option ValueType → Place → Checked Beside
beside kind form None place = Err (refusal.E10 place)
beside kind form (Some result) place = Ok (record { kind = kind; form = form; result = result })

-- the type of an angle of that width beside another one
abbrev pub angle_row : Op → ℕ → Option ValueType
angle_row op n = result_type op (kind.Angle n) (kind.Angle n)

-- 0 beside an angle
unfoldable pub zero_beside : Names → Mode → Place → Op → ValueType → Expr → Checked Beside
zero_beside names m place op (kind.Angle n) written =
    if is_zero_at names m written then beside (kind.Angle n) (zero_angle n) (angle_row op n) place else Err (refusal.E10 place)
zero_beside names m place op _ written = Err (refusal.E10 place)

abbrev pub angle_beside : Place → ℕ → ValueType → ℤ → Checked Beside
angle_beside place n result p =
    and_then (answer_at place (angle_of n p)) (λ x. Ok (record { kind = kind.Angle n; form = typed.Constant x; result = result }))

-- a phase beside an angle, where angles have that operator
unfoldable pub phase_beside : Place → ℕ → Option ValueType → Checked ℤ → Checked Beside
phase_beside place n None p = Err (refusal.E10 place)
phase_beside place n (Some result) p = and_then p (angle_beside place n result)

abbrev pub phase_beside_value : Place → Op → ValueType → Checked ℤ → Checked Beside
phase_beside_value place op (kind.Angle n) p = phase_beside place n (angle_row op n) p
phase_beside_value place op _ p = Err (refusal.E10 place)

unfoldable pub value_beside : Names → Mode → Place → Op → ValueType → ValueType → TypedExpr → Expr → Option ValueType → Checked Beside
value_beside names m place op left right form written (Some result) = Ok (record { kind = right; form = form; result = result })
value_beside names m place op left right form written None = zero_beside names m place op left written

-- the right operand of an operator whose left one has that type
unfoldable pub right_beside : Names → Mode → Place → Op → ValueType → Expr → Operand → Checked Beside
right_beside names m place op left written (operand.Value kind form) =
    value_beside names m place op left kind form written (result_type op left kind)
right_beside names m place op left written (operand.Phase form) = phase_beside_value place op left (phase_at names m place written)

abbrev pub joined : Mode → Op → ValueType → TypedExpr → Beside → Operand
joined m op left form b = operand.Value b.result (operator_form m op left b.kind form b.form)

abbrev pub joined_left : Mode → Op → ValueType → TypedExpr → Beside → Operand
joined_left m op right form b = operand.Value b.result (operator_form m op b.kind right b.form form)

-- two values: by their row, or where the right or the left one is 0 beside an angle
unfoldable pub two_values : Names → Mode → Place → Op → ValueType → TypedExpr → Expr → ValueType → TypedExpr → Expr
    → Option ValueType → Checked Operand
two_values names m place op l left written_left r right written_right (Some result) =
    Ok (operand.Value result (operator_form m op l r left right))
two_values names m place op l left written_left (kind.Angle n) right written_right None =
    and_then (zero_beside names m place op (kind.Angle n) written_left) (λ b. Ok (joined_left m op (kind.Angle n) right b))
two_values names m place op l left written_left r right written_right None =
    and_then (zero_beside names m place op l written_right) (λ b. Ok (joined m op l left b))

-- ---- phases

abbrev pub two_phases : Place → Op → TypedPhase → TypedPhase → Checked Operand
two_phases place op.Add left right = Ok (operand.Phase (phase.Add left right))
two_phases place op.Sub left right = Ok (operand.Phase (phase.Sub left right))
two_phases place _ left right = Err (refusal.E10 place)

abbrev pub no_phase : TypedPhase
no_phase = phase.Fixed (pos 0)

-- a phase and a whole number behind it, which counts as phase 0 where it is the constant 0
unfoldable pub phase_and_whole : Place → Op → Bool → TypedPhase → TypedExpr → Checked Operand
phase_and_whole place op.Mul is_nil left right = Ok (operand.Phase (phase.Times left right))
phase_and_whole place op.Div is_nil left right = Ok (operand.Phase (phase.Over left right))
phase_and_whole place op is_nil left right = if is_nil then two_phases place op left no_phase else Err (refusal.E10 place)

unfoldable pub whole_and_phase : Place → Op → Bool → TypedExpr → TypedPhase → Checked Operand
whole_and_phase place op.Mul is_nil left right = Ok (operand.Phase (phase.Scaled left right))
whole_and_phase place op is_nil left right = if is_nil then two_phases place op no_phase right else Err (refusal.E10 place)

-- a phase on the left of a value, and on its right; `known` is its units, where it has to be constant
unfoldable pub phase_first : Names → Mode → Place → Op → TypedPhase → Checked ℤ → ValueType → TypedExpr → Expr → Checked Operand
phase_first names m place op left known (kind.Angle n) right written =
    and_then (phase_beside place n (angle_row op n) known) (λ b. Ok (joined_left m op (kind.Angle n) right b))
phase_first names m place op left known r right written =
    if is_whole r then phase_and_whole place op (is_zero_at names m written) left right else Err (refusal.E10 place)

unfoldable pub phase_second : Names → Mode → Place → Op → ValueType → TypedExpr → Expr → TypedPhase → Checked ℤ → Checked Operand
phase_second names m place op (kind.Angle n) left written right known =
    and_then (phase_beside place n (angle_row op n) known) (λ b. Ok (joined m op (kind.Angle n) left b))
phase_second names m place op l left written right known =
    if is_whole l then whole_and_phase place op (is_zero_at names m written) left right else Err (refusal.E10 place)

-- ---- all operators but `&&` and `||`

unfoldable pub combined : Names → Mode → Place → Op → Expr → Operand → Expr → Operand → Checked Operand
combined names m place op wl (operand.Value l left) wr (operand.Value r right) =
    two_values names m place op l left wl r right wr (result_type op l r)
combined names m place op wl (operand.Value l left) wr (operand.Phase right) =
    phase_second names m place op l left wl right (phase_at names m place wr)
combined names m place op wl (operand.Phase left) wr (operand.Value r right) =
    phase_first names m place op left (phase_at names m place wl) r right wr
combined names m place op wl (operand.Phase left) wr (operand.Phase right) = two_phases place op left right

-- ---- `&&` and `||`, whose operands stand before they have to be truth values

unfoldable pub logical_of : InfixOperator → Logical
logical_of infixes.LogicalAnd = logical.And
logical_of _ = logical.Or

unfoldable pub both_true : Place → InfixOperator → Operand → Operand → Checked Operand
both_true place operator x y =
    and_then (truth_at place x) (λ a.
    and_then (truth_at place y) (λ b. Ok (operand.Value kind.Bool (typed.Logical (logical_of operator) a b))))
