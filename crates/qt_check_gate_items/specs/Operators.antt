-- How many operators stand in a tree and its parts.
use Rattle.std.specs.Prelude.{ℕ, Option, Some, None}
use Rattle.qt_tree.specs.declared.expression.Expr.{Expr}
use Rattle.qt_tree.specs.declared.expression.Index.{Index}
use Rattle.qt_tree.specs.declared.expression.Scalar.{Scalar}
use Rattle.qt_tree.specs.declared.expression.Range.{Range}
use Rattle.qt_tree.specs.declared.expression.Expr.TheFolds.{fold-Expr, fold-Index, fold-Scalar, fold-Range}
use Rattle.qt_typing.specs.GateItems.{expr_operators, index_operators, scalar_operators, range_operators}

abbrev pub operators_of : Expr → ℕ
operators_of = fold-Expr ℕ ℕ ℕ ℕ expr_operators index_operators scalar_operators range_operators

abbrev pub index_operators_of : Index → ℕ
index_operators_of = fold-Index ℕ ℕ ℕ ℕ expr_operators index_operators scalar_operators range_operators

abbrev pub scalar_operators_of : Scalar → ℕ
scalar_operators_of = fold-Scalar ℕ ℕ ℕ ℕ expr_operators index_operators scalar_operators range_operators

abbrev pub range_operators_of : Range → ℕ
range_operators_of = fold-Range ℕ ℕ ℕ ℕ expr_operators index_operators scalar_operators range_operators

abbrev pub optional_operators_of : Option Expr → ℕ
optional_operators_of None = 0
optional_operators_of (Some expr) = operators_of expr
