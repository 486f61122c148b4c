-- The flat code of assignments means what they mean (flat code is this profile's; OpenQASM 3.0 live specification, "Classical
-- instructions" and "Types and Casting").
use Rattle.std.specs.Prelude.{ℕ, ◌+◌, List, ◌++◌, Option, Some, None}
use Rattle.qt_tree.specs.declared.place.Place.{Place}
use Rattle.qt_value.specs.declared.operators.Op.{Op}
use Rattle.qt_typed.specs.declared.expression.TypedExpr.{TypedExpr}
use Rattle.qt_typed.specs.declared.expression.TypedTarget.{TypedTarget}
use Rattle.qt_instructions.specs.declared.parts.Parts.{Parts}
use Rattle.qt_flat_code.specs.Lengths.{array_length, expression_length, target_length, update_length}
use Rattle.qt_flat_code.specs.Expressions.{expression_code}
use Rattle.qt_flat_code.specs.Storing.{array_code, target_code, update_code}
use Rattle.qt_flat_expressions.specs.Fits.{ExpressionFits}
use Rattle.qt_flat_expressions.specs.Lands.{StandsAt}
use Rattle.qt_flat_storing.specs.Fits.{AllFit, TargetFits}
use Rattle.qt_flat_storing.specs.Stores.{Stores, assigned, changed, filled}

-- wherever the code of an assignment stands, whatever else the code has
abbrev pub AssignmentsStore : Type 0
AssignmentsStore =
    (code : Parts) (place : Place) (target : TypedTarget) (value : TypedExpr) (slots base at : ℕ) → ExpressionFits slots value → TargetFits slots target
    → StandsAt code place at (expression_code value base 0 at ++ target_code target base 0 (at + expression_length value))
    → Stores code place at (at + (expression_length value + target_length target)) (assigned target value base)

-- and that of a compound assignment
abbrev pub UpdatesStore : Type 0
UpdatesStore =
    (code : Parts) (place : Place) (target : TypedTarget) (operator : Op) (value : TypedExpr) (slots base at : ℕ) → ExpressionFits slots value
    → TargetFits slots target → StandsAt code place at (update_code target operator value base at)
    → Stores code place at (at + update_length target value) (changed target operator value base)

-- the elements of an array that are given, or 0 for each
abbrev pub values_fit : ℕ → ℕ → Option (List TypedExpr) → Type 0
values_fit slots count None = Unit {0}
values_fit slots count (Some values) = AllFit slots values

abbrev pub ArraysStore : Type 0
ArraysStore =
    (code : Parts) (place : Place) (values : Option (List TypedExpr)) (slot count slots base at : ℕ) → values_fit slots count values
    → StandsAt code place at (array_code values slot count base at)
    → Stores code place at (at + array_length values count) (filled values slot count base)
