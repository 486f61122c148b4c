-- An angle by its outermost form: the parts below it are as they are written, with what they are reckoned to.
use Rattle.qt_tree.specs.declared.expression.Expr.{Expr, out-Expr}
use Rattle.qt_tree.specs.declared.expression.Index.{Index}
use Rattle.qt_tree.specs.declared.expression.Scalar.{Scalar}
use Rattle.qt_tree.specs.declared.expression.Range.{Range}
use Rattle.qt_tree.specs.declared.expression.Expr.TheOpen.{Expr-F}
use Rattle.qt_tree.specs.declared.expression.Expr.TheFolds.{map-Expr}
use Rattle.qt_tree.specs.declared.place.Place.{Place}
use Rattle.qt_typing.specs.declared.names.Names.{Names}
use Rattle.qt_typing.specs.GateItems.{AnglePart, reckoned_of}

abbrev pub part : Names → Place → Expr → AnglePart
part names place expr = record { written = expr; reckoned = reckoned_of names place expr }

abbrev pub layer_of : Names → Place → Expr → Expr-F AnglePart Index Scalar Range
layer_of names place expr =
    map-Expr Expr Index Scalar Range AnglePart Index Scalar Range (part names place) (λ i. i) (λ s. s) (λ r. r) (out-Expr expr)
