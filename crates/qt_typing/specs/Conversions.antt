-- Where a value of a type is wanted (OpenQASM 3.0 live specification, "Types and Casting"; Cross et al. 2022). The table of conversions
-- decides; an angle becomes one of another width only by a cast that is written. A phase becomes an angle where it is a whole number of
-- its steps, and the constant whole number 0 counts as phase 0 where no conversion fits.
use Rattle.std.specs.Prelude.{ℕ, nat_eq, ◌&&◌, Bool, true, false, not, if◌then◌else◌, is_some, ℤ, Option, Some, None, Result, Ok, Err}
use Rattle.qt_const_rules.specs.Answers.{Answer}
use Rattle.qt_const_rules.specs.declared.modes.Mode.{Mode}
use Rattle.qt_const.specs.Constants.{cast_to, is_whole_zero}
use Rattle.qt_const.specs.Value.{value_of}
use Rattle.qt_tree.specs.declared.expression.Expr.{Expr}
use Rattle.qt_tree.specs.declared.place.Place.{Place}
use Rattle.qt_tree.specs.declared.refusal.TextRefusal.TheVariants as refusal
use Rattle.qt_typed.specs.declared.expression.TypedExpr.{TypedExpr}
use Rattle.qt_typed.specs.declared.expression.TypedExpr.TheVariants as typed
use Rattle.qt_value.specs.Casts as table
use Rattle.qt_value.specs.Types.{has_size}
use Rattle.qt_value.specs.declared.constant.ConstValue.{ConstValue}
use Rattle.qt_value.specs.declared.constant.ConstValue.TheVariants as constant
use Rattle.qt_value.specs.declared.types.ValueType.{ValueType}
use Rattle.qt_value.specs.declared.types.ValueType.TheVariants as kind
use Rattle.qt_typing.specs.declared.names.Names.{Names}
use Rattle.qt_typing.specs.declared.operand.Operand.{Operand}
use Rattle.qt_typing.specs.declared.operand.Operand.TheVariants as operand
use Rattle.qt_typing.specs.declared.way.Way.{Way}
use Rattle.qt_typing.specs.declared.way.Way.TheVariants.{Written, Unwritten}
use Rattle.qt_typing.specs.Checked.{Checked, and_then, answer_at}
use Rattle.qt_typing.specs.Environment.{constant_at}

unfoldable pub is_same : ValueType → ValueType → Bool
is_same kind.Bool kind.Bool = true
is_same (kind.Bit n) (kind.Bit m) = nat_eq n m
is_same (kind.Int n) (kind.Int m) = nat_eq n m
is_same (kind.Uint n) (kind.Uint m) = nat_eq n m
is_same (kind.Angle n) (kind.Angle m) = nat_eq n m
is_same kind.Phase kind.Phase = true
is_same _ _ = false

-- there is a conversion: whether there is one doesn't depend on the bits
abbrev pub has_row : ValueType → ValueType → Bool
has_row from to = is_some (table.converted (record { kind = from; bits = 0 }) to)

abbrev pub rescales : ValueType → ValueType → Bool
rescales (kind.Angle n) (kind.Angle m) = not (nat_eq n m)
rescales _ _ = false

unfoldable pub converts : Way → ValueType → ValueType → Bool
converts Written from to = has_row from to
converts Unwritten from to = has_row from to && not (rescales from to)

-- ---- the whole number 0 as an angle

abbrev pub is_zero_answer : Answer ConstValue → Bool
is_zero_answer (Ok (constant.Value x)) = is_whole_zero x
is_zero_answer _ = false

-- a constant whole number 0
unfoldable pub is_zero_at : Names → Mode → Expr → Bool
is_zero_at names m expr = is_zero_answer (value_of names.consts m expr)

abbrev pub zero_angle : ℕ → TypedExpr
zero_angle n = typed.Constant (record { kind = kind.Angle n; bits = 0 })

unfoldable pub zero_as : Names → Mode → Place → ValueType → Expr → Checked TypedExpr
zero_as names m place (kind.Angle n) written =
    if has_size (kind.Angle n) && is_zero_at names m written then Ok (zero_angle n) else Err (refusal.E10 place)
zero_as names m place to written = Err (refusal.E10 place)

-- ---- values

-- a value of a type as one of another
unfoldable pub as_type : Place → ValueType → ValueType → TypedExpr → Checked TypedExpr
as_type place to from form =
    if is_same from to then Ok form else
    if converts Unwritten from to then Ok (typed.Convert to form) else
    Err (refusal.E10 place)

abbrev pub value_form : Place → ConstValue → Checked TypedExpr
value_form place (constant.Value x) = Ok (typed.Constant x)
value_form place (constant.Phase p) = Err (refusal.E10 place)

-- a phase as a value of a type
unfoldable pub phase_as : Place → ValueType → ℤ → Checked TypedExpr
phase_as place to p =
    if has_size to then and_then (answer_at place (cast_to to (constant.Phase p))) (value_form place) else Err (refusal.E10 place)

-- a phase that has to be constant here
abbrev pub known_phase : Place → ConstValue → Checked ℤ
known_phase place (constant.Phase p) = Ok p
known_phase place (constant.Value x) = Err (refusal.E10 place)

unfoldable pub phase_at : Names → Mode → Place → Expr → Checked ℤ
phase_at names m place written = and_then (constant_at names m place written) (known_phase place)

-- an operand where a value of a type is wanted
unfoldable pub wanted : Way → Names → Mode → Place → ValueType → Expr → Operand → Checked TypedExpr
wanted way names m place to written (operand.Value from form) =
    if is_same from to then Ok form else
    if converts way from to then Ok (typed.Convert to form) else
    zero_as names m place to written
wanted way names m place to written (operand.Phase form) = and_then (phase_at names m place written) (phase_as place to)

-- an operand where a truth value is wanted
unfoldable pub truth_at : Place → Operand → Checked TypedExpr
truth_at place (operand.Value from form) = as_type place kind.Bool from form
truth_at place _ = Err (refusal.E10 place)
