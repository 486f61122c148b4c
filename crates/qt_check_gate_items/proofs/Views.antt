-- An angle by its outermost form, as the program matches on it.
use Rattle.std.proofs.Common.{◌≡◌, List, [], ◌∷◌, map, refl, ap, sym, ◌∙◌}
use Rattle.qt_tree.specs.declared.expression.Expr.{Expr, out-Expr}
use Rattle.qt_tree.specs.declared.expression.Index.{Index}
use Rattle.qt_tree.specs.declared.expression.Scalar.{Scalar}
use Rattle.qt_tree.specs.declared.expression.Range.{Range}
use Rattle.qt_tree.specs.declared.expression.Expr.TheOpen.{Expr-F}
use Rattle.qt_tree.specs.declared.expression.Expr.TheFolds.{fold_out-Expr, map-Expr}
use Rattle.qt_tree.specs.declared.place.Place.{Place}
use Rattle.qt_typing.specs.declared.names.Names.{Names}
use Rattle.qt_typing.specs.GateItems.{AnglePart, angle_in, angle_step, angle_index, angle_scalar}
use Rattle.qt_typing.specs.GateItems.{angle_range, angle_written, no_brackets, reckoned_of}
use Rattle.qt_check_gate_items.specs.Layers.{layer_of, part}
use Rattle.qt_check_gate_items.proofs.Written.{angle_of, index_again, scalar_again, range_again, parts}
use Rattle.qt_check_gate_items.proofs.Written.{expr_written, index_written, scalar_written, range_written}

pub no_brackets_again : (brackets : List (List Index)) → no_brackets (map (map (λ i. i)) brackets) ≡ no_brackets brackets
no_brackets_again [] = refl
no_brackets_again (bracket ∷ rest) = refl

module _ (names : Names) (place : Place) where
  part_is : (expr : Expr) → angle_of names place expr ≡ part names place expr
  part_is expr = ap (λ t. record { written = t; reckoned = reckoned_of names place expr }) (expr_written names place expr)

  abbrev layered : (Expr → AnglePart) → (Index → Index) → (Scalar → Scalar) → (Range → Range) → Expr → Expr-F AnglePart Index Scalar Range
  layered f g h k expr = map-Expr Expr Index Scalar Range AnglePart Index Scalar Range f g h k (out-Expr expr)

  layers : (expr : Expr) → parts names place (out-Expr expr) ≡ layer_of names place expr
  layers expr =
      ap (λ f. layered f (index_again names place) (scalar_again names place) (range_again names place) expr) (λ i. λ x. part_is x i)
      ∙ ap (λ g. layered (part names place) g (scalar_again names place) (range_again names place) expr)
      (λ i. λ x. index_written names place x i)
      ∙ ap (λ h. layered (part names place) (λ x. x) h (range_again names place) expr) (λ i. λ x. scalar_written names place x i)
      ∙ ap (λ k. layered (part names place) (λ x. x) (λ x. x) k expr) (λ i. λ x. range_written names place x i)

  step_is : (expr : Expr) → angle_of names place expr ≡ angle_step names place (parts names place (out-Expr expr))
  step_is = fold_out-Expr AnglePart Index Scalar Range (angle_step names place) angle_index angle_scalar angle_range

  written_is : (expr : Expr) → angle_written (parts names place (out-Expr expr)) ≡ expr
  written_is expr = sym (ap (λ (p : AnglePart). p.written) (step_is expr)) ∙ expr_written names place expr

  pub reckoned_is : (expr : Expr) → reckoned_of names place expr ≡ angle_in names place expr (layer_of names place expr)
  reckoned_is expr =
      ap (λ (p : AnglePart). p.reckoned) (step_is expr)
      ∙ ap (λ t. angle_in names place t (parts names place (out-Expr expr))) (written_is expr)
      ∙ ap (angle_in names place expr) (layers expr)
