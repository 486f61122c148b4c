-- Which typed expressions fit a frame of so many slots (OpenQASM 3.0 live specification, "Types and Casting" and "Classical instructions").
-- Each variable and each element is in the frame, each value has a type with a size, each operator and each conversion exists for the types
-- of what it is on, an element has an index for each dimension, and what a slice takes is there. The check of a program lets no other
-- through.
use Rattle.std.specs.Prelude.{ℕ, ◌+◌, ◌*◌, ◌^◌, ◌<◌, ◌≤◌, Bool, ◌&&◌, IsTrue, is_some, List, [], ◌∷◌}
use Rattle.qt_value.specs.OpTypes.{result_type, unary_result_type}
use Rattle.qt_value.specs.Types.{has_size, is_whole, width_of}
use Rattle.qt_value.specs.declared.types.ValueType.{ValueType}
use Rattle.qt_typed.specs.Types.{type_of}
use Rattle.qt_typed.specs.declared.expression.TypedExpr.{TypedExpr, Row_of-TypedExpr, end_of-TypedExpr, more_of-TypedExpr}
use Rattle.qt_typed.specs.declared.expression.TypedExpr.TheVariants.{Constant, Slot, Element', Bit', Slice', Convert', Unary', Binary', ExactQuotient', Logical'}
use Rattle.qt_meaning.specs.Distribution.{element_count}
use Rattle.qt_code.specs.Ranges.{can_convert}

-- ---- types

-- an index is whole
abbrev pub is_index : ValueType → Bool
is_index kind = is_whole kind && has_size kind

-- ---- arrays

-- no dimension is empty
abbrev pub HasNoEmptyDimension : List ℕ → Type 0
HasNoEmptyDimension [] = Unit {0}
HasNoEmptyDimension (length ∷ lengths) = (0 < length) × HasNoEmptyDimension lengths

-- the elements of an array are slots of the frame, and fewer than 2^32
abbrev pub ArrayFits : ℕ → ℕ → List ℕ → Type 0
ArrayFits slots first lengths = HasNoEmptyDimension lengths × (first + element_count lengths ≤ slots) × (element_count lengths < 2 ^ 32)

-- ---- slices

-- so many bits of a value of n bits, of which place i is place start + i · step
abbrev pub SliceFits : ℕ → ℕ → ℕ → ℕ → Type 0
SliceFits n start step count = (0 < count) × (count ≤ 64) × ((i : ℕ) → i < count → start + i * step < n)

-- ---- expressions

abbrev mutual
  pub ExpressionFits : ℕ → TypedExpr → Type 0
  ExpressionFits slots (Constant value) = IsTrue (has_size value.kind)
  ExpressionFits slots (Slot kind slot) = IsTrue (has_size kind) × (slot < slots)
  ExpressionFits slots (Element' kind slot lengths k indexes) =
      IsTrue (has_size kind) × ArrayFits slots slot lengths × IndexesFit slots lengths indexes
  ExpressionFits slots (Bit' k (more_of-TypedExpr of end_of-TypedExpr) m (more_of-TypedExpr index end_of-TypedExpr)) =
      ExpressionFits slots of × ExpressionFits slots index
  ExpressionFits slots (Slice' k (more_of-TypedExpr of end_of-TypedExpr) start step count) =
      ExpressionFits slots of × SliceFits (width_of (type_of of)) start step count
  ExpressionFits slots (Convert' to k (more_of-TypedExpr of end_of-TypedExpr)) =
      ExpressionFits slots of × IsTrue (can_convert (type_of of) to)
  ExpressionFits slots (Unary' operator k (more_of-TypedExpr of end_of-TypedExpr)) =
      ExpressionFits slots of × IsTrue (is_some (unary_result_type operator (type_of of)))
  ExpressionFits slots (Binary' operator k (more_of-TypedExpr left end_of-TypedExpr) m (more_of-TypedExpr right end_of-TypedExpr)) =
      ExpressionFits slots left × ExpressionFits slots right × IsTrue (is_some (result_type operator (type_of left) (type_of right)))
  ExpressionFits slots (ExactQuotient' k (more_of-TypedExpr left end_of-TypedExpr) m (more_of-TypedExpr right end_of-TypedExpr)) =
      ExpressionFits slots left × ExpressionFits slots right × IsTrue (is_whole (type_of left) && is_whole (type_of right))
  ExpressionFits slots (Logical' operator k (more_of-TypedExpr left end_of-TypedExpr) m (more_of-TypedExpr right end_of-TypedExpr)) =
      ExpressionFits slots left × ExpressionFits slots right

  -- an index for each dimension
  pub IndexesFit : {m : _} → ℕ → List ℕ → Row_of-TypedExpr m → Type 0
  IndexesFit slots [] end_of-TypedExpr = Unit {0}
  IndexesFit slots [] (more_of-TypedExpr index rest) = ⊥
  IndexesFit slots (length ∷ lengths) end_of-TypedExpr = ⊥
  IndexesFit slots (length ∷ lengths) (more_of-TypedExpr index rest) =
      ExpressionFits slots index × IsTrue (is_index (type_of index)) × IndexesFit slots lengths rest
