-- The type of a typed expression (OpenQASM 3.0 live specification, "Types and Casting" and "Classical instructions"; Cross et al. 2022).
-- Conversions are written out in the tree, so it follows from the types of the parts.
use Rattle.std.specs.Prelude.{Option, Some, None}
use Rattle.qt_value.specs.OpTypes.{result_type, unary_result_type}
use Rattle.qt_value.specs.declared.operators.Op.TheVariants as op
use Rattle.qt_value.specs.declared.types.ValueType.{ValueType}
use Rattle.qt_value.specs.declared.types.ValueType.TheVariants as kind
use Rattle.qt_typed.specs.declared.expression.TypedExpr.{TypedExpr, Row_of-TypedExpr, end_of-TypedExpr, more_of-TypedExpr}
use Rattle.qt_typed.specs.declared.expression.TypedExpr.TheVariants.{Constant, Slot, Element', Bit', Slice', Convert', Unary', Binary', ExactQuotient', Logical'}

-- a type that the table of operators gives; where it gives none, which is in no typed program, any type
abbrev pub or_bool : Option ValueType → ValueType
or_bool (Some kind) = kind
or_bool None = kind.Bool

abbrev pub type_of : TypedExpr → ValueType
type_of (Constant value) = value.kind
type_of (Slot kind slot) = kind
type_of (Element' kind slot lengths k indexes) = kind
type_of (Bit' k of m index) = kind.Bit 1
type_of (Slice' k of start step count) = kind.Bit count
type_of (Convert' to k operand) = to
type_of (Unary' operator k (more_of-TypedExpr operand end_of-TypedExpr)) = or_bool (unary_result_type operator (type_of operand))
type_of (Binary' operator k (more_of-TypedExpr left end_of-TypedExpr) m (more_of-TypedExpr right end_of-TypedExpr)) =
    or_bool (result_type operator (type_of left) (type_of right))
type_of (ExactQuotient' k (more_of-TypedExpr left end_of-TypedExpr) m (more_of-TypedExpr right end_of-TypedExpr)) =
    or_bool (result_type op.Div (type_of left) (type_of right))
type_of (Logical' operator k left m right) = kind.Bool
