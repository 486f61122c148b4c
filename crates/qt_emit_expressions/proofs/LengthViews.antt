-- How many instructions an expression has, at each form as the program matches on it.
use denote.Hole.Carrier.{hidden}
use Rattle.std.proofs.Common.{◌≡◌, ℕ, ◌+◌, ◌*◌, ◌<◌, List, [], ◌∷◌, length, refl, ap, arith}
use Rattle.qt_value.specs.declared.operators.Op.{Op}
use Rattle.qt_value.specs.declared.operators.UnaryOp.{UnaryOp}
use Rattle.qt_value.specs.declared.types.ValueType.{ValueType}
use Rattle.qt_typed.specs.declared.expression.Logical.{Logical}
use Rattle.qt_typed.specs.declared.expression.TypedExpr.{TypedExpr}
use Rattle.qt_typed.specs.declared.expression.TypedExpr.TheBlock.{hidden-the_row-TypedExpr-0, hidden-the_row-TypedExpr-1}
use Rattle.qt_typed.specs.declared.expression.TypedExpr.TheVariants as form
use Rattle.qt_flat_code.specs.Lengths.{expression_length, indexes_length, jumps_of, place_length}

row_length : (lengths : List ℕ) (indexes : List TypedExpr)
    → place_length lengths (hidden-the_row-TypedExpr-0 indexes) ≡ indexes_length lengths indexes
unfolding hidden-the_row-TypedExpr-0 hidden
row_length [] [] = refl
row_length [] (index ∷ indexes) = refl
row_length (length ∷ lengths) [] = refl
row_length (length ∷ lengths) (index ∷ indexes) = ap (λ n. expression_length index + (7 + n)) (row_length lengths indexes)

pub element_length : (kind : ValueType) (slot : ℕ) (lengths : List ℕ) (indexes : List TypedExpr)
    → expression_length (form.Element kind slot lengths indexes) ≡ 2 + indexes_length lengths indexes
element_length kind slot lengths indexes = omega (arith, row_length lengths indexes)

pub bit_length : (of index : TypedExpr) → expression_length (form.Bit of index) ≡ expression_length of + (expression_length index + 1)
unfolding hidden-the_row-TypedExpr-1 hidden
bit_length of index = refl

pub slice_length : (of : TypedExpr) (start step count : ℕ)
    → expression_length (form.Slice of start step count) ≡ expression_length of + (2 + 4 * count)
unfolding hidden-the_row-TypedExpr-1 hidden
slice_length of start step count = omega arith

pub convert_length : (to : ValueType) (operand : TypedExpr) → expression_length (form.Convert to operand) ≡ expression_length operand + 1
unfolding hidden-the_row-TypedExpr-1 hidden
convert_length to operand = refl

pub unary_length : (operator : UnaryOp) (operand : TypedExpr)
    → expression_length (form.Unary operator operand) ≡ expression_length operand + 1
unfolding hidden-the_row-TypedExpr-1 hidden
unary_length operator operand = refl

pub binary_length : (operator : Op) (left right : TypedExpr)
    → expression_length (form.Binary operator left right) ≡ expression_length left + (expression_length right + 1)
unfolding hidden-the_row-TypedExpr-1 hidden
binary_length operator left right = refl

pub quotient_length : (left right : TypedExpr)
    → expression_length (form.ExactQuotient left right) ≡ expression_length left + (expression_length right + 3)
unfolding hidden-the_row-TypedExpr-1 hidden
quotient_length left right = refl

pub logical_length : (operator : Logical) (left right : TypedExpr)
    → expression_length (form.Logical operator left right) ≡ expression_length left + (expression_length right + jumps_of operator)
unfolding hidden-the_row-TypedExpr-1 hidden
logical_length operator left right = omega arith

-- where no index is left
pub counted : (all whole : ℕ) (lengths : List ℕ) (left : List TypedExpr) → length left < 1 → all + indexes_length lengths left ≡ whole
    → all ≡ whole
counted all whole [] left few is = omega (arith, is)
counted all whole (length ∷ lengths) [] few is = omega (arith, is)
counted all whole (length ∷ lengths) (index ∷ left) few is = absurd (omega (arith, few))

pub ruleset forms = (
  element_length,
  bit_length,
  slice_length,
  convert_length,
  unary_length,
  binary_length,
  quotient_length,
  logical_length,
)
