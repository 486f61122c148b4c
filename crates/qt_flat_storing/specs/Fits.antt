-- Which targets fit a frame of so many slots (OpenQASM 3.0 live specification, "Types and Casting": index sets and slicing, and "Classical
-- instructions"). Each variable and each element is in the frame, an element has an index for each dimension, each index is whole, and what
-- a slice takes is there. The check of a program lets no other through.
use Rattle.std.specs.Prelude.{◌≡◌, ℕ, ◌<◌, IsTrue, List, [], ◌∷◌}
use Rattle.qt_value.specs.Types.{has_size, width_of}
use Rattle.qt_typed.specs.Types.{type_of}
use Rattle.qt_typed.specs.declared.expression.TypedExpr.{TypedExpr}
use Rattle.qt_typed.specs.declared.expression.TypedStep.{TypedStep}
use Rattle.qt_typed.specs.declared.expression.TypedStep.TheVariants as step
use Rattle.qt_typed.specs.declared.expression.TypedTarget.{TypedTarget}
use Rattle.qt_typed.specs.declared.expression.TypedVariable.{TypedVariable}
use Rattle.qt_typed.specs.declared.expression.TypedVariable.TheVariants as variable
use Rattle.qt_meaning.specs.Places.{kind_of}
use Rattle.qt_flat_expressions.specs.Fits.{ArrayFits, ExpressionFits, SliceFits, is_index}

-- an index for each dimension
abbrev pub AllIndexesFit : ℕ → List ℕ → List TypedExpr → Type 0
AllIndexesFit slots [] [] = Unit {0}
AllIndexesFit slots (length ∷ lengths) (index ∷ rest) =
    ExpressionFits slots index × IsTrue (is_index (type_of index)) × AllIndexesFit slots lengths rest
AllIndexesFit slots _ _ = ⊥

abbrev pub VariableFits : ℕ → TypedVariable → Type 0
VariableFits slots (variable.Slot kind slot) = IsTrue (has_size kind) × (slot < slots)
VariableFits slots (variable.Element kind slot lengths indexes) =
    IsTrue (has_size kind) × ArrayFits slots slot lengths × AllIndexesFit slots lengths indexes

-- steps to bits of a value of so many bits; what a slice takes is there, and its places ascend
abbrev pub StepsFit : ℕ → ℕ → List TypedStep → Type 0
StepsFit slots n [] = Unit {0}
StepsFit slots n (step.At index ∷ steps) = ExpressionFits slots index × IsTrue (is_index (type_of index)) × StepsFit slots 1 steps
StepsFit slots n (step.Slice start by count ∷ steps) = SliceFits n start by count × (0 < by) × StepsFit slots count steps

-- how many bits are left behind steps
abbrev pub bits_left : ℕ → List TypedStep → ℕ
bits_left n [] = n
bits_left n (step.At index ∷ steps) = bits_left 1 steps
bits_left n (step.Slice start by count ∷ steps) = bits_left count steps

-- the type of a target has as many bits as its steps leave
abbrev pub TargetFits : ℕ → TypedTarget → Type 0
TargetFits slots target =
    VariableFits slots target.variable
    × StepsFit slots (width_of (kind_of target.variable)) target.steps
    × IsTrue (has_size target.kind)
    × (bits_left (width_of (kind_of target.variable)) target.steps ≡ width_of target.kind)

abbrev pub AllFit : ℕ → List TypedExpr → Type 0
AllFit slots [] = Unit {0}
AllFit slots (e ∷ es) = ExpressionFits slots e × AllFit slots es
