-- How many operators stand in expressions, by their parts.
use Rattle.std.proofs.Common.{◌≡◌, ℕ, ◌+◌, List, [], ◌∷◌, map, Option, Some, None, refl, ap, ◌∙◌}
use Rattle.qt_tree.specs.declared.expression.Expr.{Expr}
use Rattle.qt_tree.specs.declared.expression.Index.{Index}
use Rattle.qt_tree.specs.declared.expression.Scalar.{Scalar}
use Rattle.qt_tree.specs.declared.expression.Range.{Range, out-Range}
use Rattle.qt_tree.specs.declared.expression.Expr.TheFolds.{fold_out-Range, map-Range}
use Rattle.qt_typing.specs.GateItems.{expr_operators, index_operators, scalar_operators, range_operators, operators_in, sum_of}
use Rattle.qt_check_gate_items.specs.Operators.{operators_of, index_operators_of, scalar_operators_of}
use Rattle.qt_check_gate_items.specs.Operators.{range_operators_of, optional_operators_of}

pub sum_is : (exprs : List Expr) → sum_of (map operators_of exprs) ≡ operators_in exprs
sum_is [] = refl
sum_is (expr ∷ rest) = ap (λ n. operators_of expr + n) (sum_is rest)

range_parts : (start step end : Option Expr) → range_operators (map-Range Expr Index Scalar Range ℕ ℕ ℕ ℕ operators_of index_operators_of
    scalar_operators_of range_operators_of (record { start = start; step = step; end = end }))
    ≡ optional_operators_of start + optional_operators_of step + optional_operators_of end
range_parts None None None = refl
range_parts None None (Some end) = refl
range_parts None (Some step) None = refl
range_parts None (Some step) (Some end) = refl
range_parts (Some start) None None = refl
range_parts (Some start) None (Some end) = refl
range_parts (Some start) (Some step) None = refl
range_parts (Some start) (Some step) (Some end) = refl

pub range_is : (range : Range) → range_operators_of range
    ≡ optional_operators_of (out-Range range).start + optional_operators_of (out-Range range).step
    + optional_operators_of (out-Range range).end
range_is range =
    fold_out-Range ℕ ℕ ℕ ℕ expr_operators index_operators scalar_operators range_operators range
    ∙ range_parts (out-Range range).start (out-Range range).step (out-Range range).end
