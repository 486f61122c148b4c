-- The code and the type of an expression, at each form as the program matches on it.
use denote.Hole.Carrier.{hidden}
use Rattle.std.proofs.Common.{◌≡◌, ℕ, suc, ◌+◌, List, [], ◌∷◌, ◌++◌, refl, ap}
use Rattle.qt_value.specs.OpTypes.{result_type, unary_result_type}
use Rattle.qt_value.specs.declared.operators.Op.{Op}
use Rattle.qt_value.specs.declared.operators.Op.TheVariants as op
use Rattle.qt_value.specs.declared.operators.UnaryOp.{UnaryOp}
use Rattle.qt_value.specs.declared.types.ValueType.{ValueType}
use Rattle.qt_typed.specs.Types.{or_bool, type_of}
use Rattle.qt_typed.specs.declared.expression.Logical.{Logical}
use Rattle.qt_typed.specs.declared.expression.TypedExpr.{TypedExpr}
use Rattle.qt_typed.specs.declared.expression.TypedExpr.TheBlock.{hidden-the_row-TypedExpr-0, hidden-the_row-TypedExpr-1}
use Rattle.qt_typed.specs.declared.expression.TypedExpr.TheVariants as form
use Rattle.qt_meaning.specs.Distribution.{element_count}
use Rattle.qt_instructions.specs.declared.instruction.Instr.TheVariants as instr
use Rattle.qt_instructions.specs.declared.instruction.Operation.TheVariants as operation
use Rattle.qt_flat_code.specs.Lengths.{expression_length, jumps_of}
use Rattle.qt_flat_code.specs.Expressions.{binary, exact_code, expression_code, index_code, logical_jumps, operand, place_code, place_kind, slice_code}
use Rattle.qt_flat_code.specs.Storing.{indexes_code}

row_code : (lengths : List ℕ) (first : ℕ) (indexes : List TypedExpr) (base cell at : ℕ)
    → place_code lengths first (hidden-the_row-TypedExpr-0 indexes) base cell at ≡ indexes_code lengths first indexes base cell at
unfolding hidden-the_row-TypedExpr-0 hidden
row_code [] first [] base cell at = refl
row_code [] first (index ∷ indexes) base cell at = refl
row_code (length ∷ lengths) first [] base cell at = refl
row_code (length ∷ lengths) first (index ∷ indexes) base cell at =
    ap (λ l. expression_code index base (suc cell) at ++ (index_code cell first (type_of index) length ++ l))
    (row_code lengths first indexes base cell (at + expression_length index + 7))

module _ (base cell at : ℕ) where
  pub element_code : (k : ValueType) (slot : ℕ) (lengths : List ℕ) (indexes : List TypedExpr)
      → expression_code (form.Element k slot lengths indexes) base cell at
      ≡ (instr.Load cell 0 ∷ indexes_code lengths (base + slot) indexes base cell (suc at))
      ++ (instr.GetAt cell (base + slot) (element_count lengths) (operand cell place_kind) ∷ [])
  element_code k slot lengths indexes =
      ap (λ l. instr.Load cell 0 ∷ (l ++ (instr.GetAt cell (base + slot) (element_count lengths) (operand cell place_kind) ∷ [])))
      (row_code lengths (base + slot) indexes base cell (suc at))

  pub bit_code : (of index : TypedExpr) → expression_code (form.Bit of index) base cell at
      ≡ expression_code of base cell at ++ (expression_code index base (suc cell) (at + expression_length of)
      ++ (instr.BitGet cell (operand cell (type_of of)) (operand (suc cell) (type_of index)) ∷ []))
  unfolding hidden-the_row-TypedExpr-1 hidden
  bit_code of index = refl

  pub slice_is : (of : TypedExpr) (start step count : ℕ) → expression_code (form.Slice of start step count) base cell at
      ≡ expression_code of base cell at ++ slice_code cell (type_of of) start step count
  unfolding hidden-the_row-TypedExpr-1 hidden
  slice_is of start step count = refl

  pub convert_code : (to : ValueType) (of : TypedExpr) → expression_code (form.Convert to of) base cell at
      ≡ expression_code of base cell at ++ (instr.Cast cell (operand cell (type_of of)) to ∷ [])
  unfolding hidden-the_row-TypedExpr-1 hidden
  convert_code to of = refl

  pub unary_code : (operator : UnaryOp) (of : TypedExpr) → expression_code (form.Unary operator of) base cell at
      ≡ expression_code of base cell at ++ (instr.Apply cell (operation.Unary operator (operand cell (type_of of))) ∷ [])
  unfolding hidden-the_row-TypedExpr-1 hidden
  unary_code operator of = refl

  pub binary_code : (operator : Op) (left right : TypedExpr) → expression_code (form.Binary operator left right) base cell at
      ≡ expression_code left base cell at ++ (expression_code right base (suc cell) (at + expression_length left)
      ++ (binary cell operator (operand cell (type_of left)) (operand (suc cell) (type_of right)) ∷ []))
  unfolding hidden-the_row-TypedExpr-1 hidden
  binary_code operator left right = refl

  pub quotient_code : (left right : TypedExpr) → expression_code (form.ExactQuotient left right) base cell at
      ≡ expression_code left base cell at ++ (expression_code right base (suc cell) (at + expression_length left)
      ++ exact_code cell (type_of left) (type_of right))
  unfolding hidden-the_row-TypedExpr-1 hidden
  quotient_code left right = refl

  pub logical_code : (operator : Logical) (left right : TypedExpr) → expression_code (form.Logical operator left right) base cell at
      ≡ expression_code left base cell at ++ (logical_jumps operator cell (at + expression_length left) (expression_length right)
      ++ expression_code right base cell (at + expression_length left + jumps_of operator))
  unfolding hidden-the_row-TypedExpr-1 hidden
  logical_code operator left right = refl

-- ---- types

pub element_type : (k : ValueType) (slot : ℕ) (lengths : List ℕ) (indexes : List TypedExpr)
    → type_of (form.Element k slot lengths indexes) ≡ k
element_type k slot lengths indexes = refl

pub unary_type : (operator : UnaryOp) (of : TypedExpr)
    → type_of (form.Unary operator of) ≡ or_bool (unary_result_type operator (type_of of))
unfolding hidden-the_row-TypedExpr-1 hidden
unary_type operator of = refl

pub binary_type : (operator : Op) (left right : TypedExpr)
    → type_of (form.Binary operator left right) ≡ or_bool (result_type operator (type_of left) (type_of right))
unfolding hidden-the_row-TypedExpr-1 hidden
binary_type operator left right = refl

pub quotient_type : (left right : TypedExpr)
    → type_of (form.ExactQuotient left right) ≡ or_bool (result_type op.Div (type_of left) (type_of right))
unfolding hidden-the_row-TypedExpr-1 hidden
quotient_type left right = refl
