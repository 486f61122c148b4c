-- The flat code of an expression means what the expression means (flat code is this profile's; OpenQASM 3.0 live specification, "Classical
-- instructions" and "Types and Casting").
use Rattle.std.specs.Prelude.{ℕ, ◌+◌}
use Rattle.qt_tree.specs.declared.place.Place.{Place}
use Rattle.qt_typed.specs.declared.expression.TypedExpr.{TypedExpr}
use Rattle.qt_meaning.specs.Expressions.{eval}
use Rattle.qt_instructions.specs.declared.parts.Parts.{Parts}
use Rattle.qt_flat_code.specs.Lengths.{expression_length}
use Rattle.qt_flat_code.specs.Expressions.{expression_code}
use Rattle.qt_flat_expressions.specs.Fits.{ExpressionFits}
use Rattle.qt_flat_expressions.specs.Lands.{Lands, StandsAt}

-- wherever the code of an expression stands, whatever else the code has, it brings the expression's value to its cell
abbrev pub ExpressionsLand : Type 0
ExpressionsLand =
    (code : Parts) (place : Place) (e : TypedExpr) (slots base cell at : ℕ) → ExpressionFits slots e
    → StandsAt code place at (expression_code e base cell at) → Lands code place at (at + expression_length e) cell (eval e base)
