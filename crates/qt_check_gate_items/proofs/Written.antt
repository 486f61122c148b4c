-- A part of an angle is written as it was: reckoning it keeps its tree.
use Rattle.std.proofs.Common.{◌≡◌, List, [], ◌∷◌, Option, Some, None, map, refl, ap, ◌∙◌, subst}
use Rattle.qt_tree.specs.declared.expression.Expr.{Expr, roll-Expr}
use Rattle.qt_tree.specs.declared.expression.Scalar.{Scalar, roll-Scalar}
use Rattle.qt_tree.specs.declared.expression.Index.{Index, roll-Index}
use Rattle.qt_tree.specs.declared.expression.Range.{Range, roll-Range}
use Rattle.qt_tree.specs.declared.expression.Expr.TheOpen as o
use Rattle.qt_tree.specs.declared.expression.Expr.TheFolds.{fold-Expr, fold-Index, fold-Scalar, fold-Range, fold-roll-Expr, fold-roll-Index}
use Rattle.qt_tree.specs.declared.expression.Expr.TheFolds.{fold-roll-Scalar, fold-roll-Range, ind-Expr, ind-Index, ind-Scalar}
use Rattle.qt_tree.specs.declared.expression.Expr.TheFolds.{ind-Range, map-Expr, map-Index, map-Scalar, map-Range}
use Rattle.qt_tree.specs.declared.place.Place.{Place}
use Rattle.qt_typing.specs.declared.names.Names.{Names}
use Rattle.qt_typing.specs.GateItems.{AnglePart, angle_step, angle_index, angle_scalar, angle_range, angle_written}

module _ (names : Names) (place : Place) where
  abbrev pub angle_of : Expr → AnglePart
  angle_of = fold-Expr AnglePart Index Scalar Range (angle_step names place) angle_index angle_scalar angle_range

  abbrev pub index_again : Index → Index
  index_again = fold-Index AnglePart Index Scalar Range (angle_step names place) angle_index angle_scalar angle_range

  abbrev pub scalar_again : Scalar → Scalar
  scalar_again = fold-Scalar AnglePart Index Scalar Range (angle_step names place) angle_index angle_scalar angle_range

  abbrev pub range_again : Range → Range
  range_again = fold-Range AnglePart Index Scalar Range (angle_step names place) angle_index angle_scalar angle_range

  -- ---- a tree by its layers

  abbrev pub parts : o.Expr-F Expr Index Scalar Range → o.Expr-F AnglePart Index Scalar Range
  parts = map-Expr Expr Index Scalar Range AnglePart Index Scalar Range angle_of index_again scalar_again
      range_again

  abbrev pub index_parts : o.Index-F Expr Index Scalar Range → o.Index-F AnglePart Index Scalar Range
  index_parts = map-Index Expr Index Scalar Range AnglePart Index Scalar Range angle_of index_again scalar_again
      range_again

  abbrev scalar_parts : o.Scalar-F Expr Index Scalar Range → o.Scalar-F AnglePart Index Scalar Range
  scalar_parts = map-Scalar Expr Index Scalar Range AnglePart Index Scalar Range angle_of index_again
      scalar_again range_again

  abbrev range_parts : o.Range-F Expr Index Scalar Range → o.Range-F AnglePart Index Scalar Range
  range_parts = map-Range Expr Index Scalar Range AnglePart Index Scalar Range angle_of index_again scalar_again
      range_again

  pub expr_rolls : (layer : o.Expr-F Expr Index Scalar Range) → angle_of (roll-Expr layer) ≡ angle_step names place (parts layer)
  expr_rolls = fold-roll-Expr AnglePart Index Scalar Range (angle_step names place) angle_index angle_scalar angle_range

  pub index_rolls : (layer : o.Index-F Expr Index Scalar Range) → index_again (roll-Index layer) ≡ angle_index (index_parts layer)
  index_rolls = fold-roll-Index AnglePart Index Scalar Range (angle_step names place) angle_index angle_scalar angle_range

  scalar_rolls : (layer : o.Scalar-F Expr Index Scalar Range) → scalar_again (roll-Scalar layer) ≡ angle_scalar (scalar_parts layer)
  scalar_rolls = fold-roll-Scalar AnglePart Index Scalar Range (angle_step names place) angle_index angle_scalar angle_range

  range_rolls : (layer : o.Range-F Expr Index Scalar Range) → range_again (roll-Range layer) ≡ angle_range (range_parts layer)
  range_rolls = fold-roll-Range AnglePart Index Scalar Range (angle_step names place) angle_index angle_scalar angle_range

  -- ---- what is shown

  abbrev pub ExprAgain : Expr → Type 0
  ExprAgain expr = (angle_of expr).written ≡ expr

  abbrev pub IndexAgain : Index → Type 0
  IndexAgain index = index_again index ≡ index

  abbrev pub ScalarAgain : Scalar → Type 0
  ScalarAgain scalar = scalar_again scalar ≡ scalar

  abbrev pub RangeAgain : Range → Type 0
  RangeAgain range = range_again range ≡ range

  -- ---- each layer, where its parts are written as they were

  module _ {A B C D : Type 0} (fa : A → Expr) (fb : B → Index) (fc : C → Scalar) (fd : D → Range) (ka : (a : A) → ExprAgain (fa a))
      (kb : (b : B) → IndexAgain (fb b)) (kc : (c : C) → ScalarAgain (fc c)) (kd : (d : D) → RangeAgain (fd d)) where
    each_expr : (es : List A) → map (λ (p : AnglePart). p.written) (map angle_of (map fa es)) ≡ map fa es
    each_expr [] = refl
    each_expr (a ∷ es) =
        ap (λ t. t ∷ map (λ (p : AnglePart). p.written) (map angle_of (map fa es))) (ka a) ∙ ap (λ t. fa a ∷ t) (each_expr es)

    each_index : (bs : List B) → map (λ (i : Index). i) (map index_again (map fb bs)) ≡ map fb bs
    each_index [] = refl
    each_index (b ∷ bs) =
        ap (λ t. t ∷ map (λ (i : Index). i) (map index_again (map fb bs))) (kb b)
        ∙ ap (λ t. fb b ∷ t) (each_index bs)

    each_bracket : (bs : List (List B)) → map (map (λ (i : Index). i)) (map (map index_again) (map (map fb) bs))
        ≡ map (map fb) bs
    each_bracket [] = refl
    each_bracket (b ∷ bs) =
        ap (λ t. t ∷ map (map (λ (i : Index). i)) (map (map index_again) (map (map fb) bs))) (each_index b)
        ∙ ap (λ t. map fb b ∷ t) (each_bracket bs)

    abbrev filled : o.Expr-F A B C D → o.Expr-F Expr Index Scalar Range
    filled = map-Expr A B C D Expr Index Scalar Range fa fb fc fd

    same_expr : (y : o.Expr-F A B C D) → angle_written (parts (filled y)) ≡ roll-Expr (filled y)
    same_expr (o.Parenthesized inner) = ap (λ t. roll-Expr (o.Parenthesized t)) (ka inner)
    same_expr (o.Name name brackets) = ap (λ t. roll-Expr (o.Name name t)) (each_bracket brackets)
    same_expr (o.Call name arguments) = ap (λ t. roll-Expr (o.Call name t)) (each_expr arguments)
    same_expr (o.Cast to a) =
        ap (λ t. roll-Expr (o.Cast t (angle_of (fa a)).written)) (kc to) ∙ ap (λ t. roll-Expr (o.Cast (fc to) t)) (ka a)
    same_expr (o.SizeOf name None) = refl
    same_expr (o.SizeOf name (Some a)) = ap (λ t. roll-Expr (o.SizeOf name (Some t))) (ka a)
    same_expr (o.Unary op a) = ap (λ t. roll-Expr (o.Unary op t)) (ka a)
    same_expr (o.Binary op a b) =
        ap (λ t. roll-Expr (o.Binary op t (angle_of (fa b)).written)) (ka a) ∙ ap (λ t. roll-Expr (o.Binary op (fa a) t)) (ka b)
    same_expr _ = refl

    expr_again : (y : o.Expr-F A B C D) → ExprAgain (roll-Expr (filled y))
    expr_again y = ap (λ (p : AnglePart). p.written) (expr_rolls (filled y)) ∙ same_expr y

    same_index : (y : o.Index-F A B C D) → IndexAgain (roll-Index (map-Index A B C D Expr Index Scalar Range fa fb fc fd y))
    same_index (o.At a) = index_rolls (o.At (fa a)) ∙ ap (λ t. roll-Index (o.At t)) (ka a)
    same_index (o.Range d) = index_rolls (o.Range (fd d)) ∙ ap (λ t. roll-Index (o.Range t)) (kd d)
    same_index (o.Set es) = index_rolls (o.Set (map fa es)) ∙ ap (λ t. roll-Index (o.Set t))
        (each_expr es)

    same_scalar : (y : o.Scalar-F A B C D) → ScalarAgain (roll-Scalar (map-Scalar A B C D Expr Index Scalar Range fa fb fc fd y))
    same_scalar o.Scalar::Bool = scalar_rolls o.Scalar::Bool
    same_scalar (o.Bit None) = scalar_rolls (o.Bit None)
    same_scalar (o.Bit (Some a)) = scalar_rolls (o.Bit (Some (fa a))) ∙ ap (λ t. roll-Scalar (o.Bit (Some t))) (ka a)
    same_scalar (o.Int None) = scalar_rolls (o.Int None)
    same_scalar (o.Int (Some a)) = scalar_rolls (o.Int (Some (fa a))) ∙ ap (λ t. roll-Scalar (o.Int (Some t))) (ka a)
    same_scalar (o.Uint None) = scalar_rolls (o.Uint None)
    same_scalar (o.Uint (Some a)) = scalar_rolls (o.Uint (Some (fa a))) ∙ ap (λ t. roll-Scalar (o.Uint (Some t))) (ka a)
    same_scalar (o.Angle None) = scalar_rolls (o.Angle None)
    same_scalar (o.Angle (Some a)) = scalar_rolls (o.Angle (Some (fa a))) ∙ ap (λ t. roll-Scalar (o.Angle (Some t))) (ka a)

    -- a bound that may be left out
    again_if : Option A → Option Expr
    again_if None = None
    again_if (Some a) = Some (angle_of (fa a)).written

    bound : Option A → Option Expr
    bound None = None
    bound (Some a) = Some (fa a)

    bound_again : (a : Option A) → again_if a ≡ bound a
    unfolding again_if bound
    bound_again None = refl
    bound_again (Some a) = ap Some (ka a)

    bounds_again : (start step end : Option A) → roll-Range (record { start = again_if start; step = again_if step; end = again_if end })
        ≡ roll-Range (record { start = bound start; step = bound step; end = bound end })
    bounds_again start step end =
        ap (λ t. roll-Range (record { start = t; step = again_if step; end = again_if end })) (bound_again start)
        ∙ (ap (λ t. roll-Range (record { start = bound start; step = t; end = again_if end })) (bound_again step)
        ∙ ap (λ t. roll-Range (record { start = bound start; step = bound step; end = t })) (bound_again end))

    same_bounds : (start step end : Option A)
        → RangeAgain (roll-Range (map-Range A B C D Expr Index Scalar Range fa fb fc fd
        (record { start = start; step = step; end = end })))
    unfolding again_if bound
    same_bounds None None None = range_rolls (record { start = None; step = None; end = None }) ∙ bounds_again None None None
    same_bounds None None (Some c) = range_rolls (record { start = None; step = None; end = Some (fa c) }) ∙ bounds_again None None (Some c)
    same_bounds None (Some b) None = range_rolls (record { start = None; step = Some (fa b); end = None }) ∙ bounds_again None (Some b) None
    same_bounds None (Some b) (Some c) =
        range_rolls (record { start = None; step = Some (fa b); end = Some (fa c) }) ∙ bounds_again None (Some b) (Some c)
    same_bounds (Some a) None None = range_rolls (record { start = Some (fa a); step = None; end = None }) ∙ bounds_again (Some a) None None
    same_bounds (Some a) None (Some c) =
        range_rolls (record { start = Some (fa a); step = None; end = Some (fa c) }) ∙ bounds_again (Some a) None (Some c)
    same_bounds (Some a) (Some b) None =
        range_rolls (record { start = Some (fa a); step = Some (fa b); end = None }) ∙ bounds_again (Some a) (Some b) None
    same_bounds (Some a) (Some b) (Some c) =
        range_rolls (record { start = Some (fa a); step = Some (fa b); end = Some (fa c) }) ∙ bounds_again (Some a) (Some b) (Some c)

    same_range : (y : o.Range-F A B C D) → RangeAgain (roll-Range (map-Range A B C D Expr Index Scalar Range fa fb fc fd y))
    same_range y = same_bounds y.start y.step y.end

  -- ---- the induction

  abbrev ShownExpr : Type 0
  ShownExpr = (expr : Expr) × ExprAgain expr

  abbrev ShownIndex : Type 0
  ShownIndex = (index : Index) × IndexAgain index

  abbrev ShownScalar : Type 0
  ShownScalar = (scalar : Scalar) × ScalarAgain scalar

  abbrev ShownRange : Type 0
  ShownRange = (range : Range) × RangeAgain range

  expr_shown : (y : o.Expr-F Expr Index Scalar Range) (z : o.Expr-F ShownExpr ShownIndex ShownScalar ShownRange)
      → map-Expr ShownExpr ShownIndex ShownScalar ShownRange Expr Index Scalar Range (λ p. p.0) (λ p. p.0) (λ p. p.0) (λ p. p.0) z ≡ y
      → ExprAgain (roll-Expr y)
  expr_shown y z is =
      subst (λ t. ExprAgain (roll-Expr t)) is (expr_again (λ p. p.0) (λ p. p.0) (λ p. p.0) (λ p. p.0) (λ p. p.1) (λ p. p.1) (λ p. p.1)
      (λ p. p.1) z)

  index_shown : (y : o.Index-F Expr Index Scalar Range) (z : o.Index-F ShownExpr ShownIndex ShownScalar ShownRange)
      → map-Index ShownExpr ShownIndex ShownScalar ShownRange Expr Index Scalar Range (λ p. p.0) (λ p. p.0) (λ p. p.0) (λ p. p.0) z ≡ y
      → IndexAgain (roll-Index y)
  index_shown y z is =
      subst (λ t. IndexAgain (roll-Index t)) is
      (same_index (λ p. p.0) (λ p. p.0) (λ p. p.0) (λ p. p.0) (λ p. p.1) (λ p. p.1) (λ p. p.1) (λ p. p.1) z)

  scalar_shown : (y : o.Scalar-F Expr Index Scalar Range) (z : o.Scalar-F ShownExpr ShownIndex ShownScalar ShownRange)
      → map-Scalar ShownExpr ShownIndex ShownScalar ShownRange Expr Index Scalar Range (λ p. p.0) (λ p. p.0) (λ p. p.0) (λ p. p.0) z ≡ y
      → ScalarAgain (roll-Scalar y)
  scalar_shown y z is =
      subst (λ t. ScalarAgain (roll-Scalar t)) is
      (same_scalar (λ p. p.0) (λ p. p.0) (λ p. p.0) (λ p. p.0) (λ p. p.1) (λ p. p.1) (λ p. p.1) (λ p. p.1) z)

  range_shown : (y : o.Range-F Expr Index Scalar Range) (z : o.Range-F ShownExpr ShownIndex ShownScalar ShownRange)
      → map-Range ShownExpr ShownIndex ShownScalar ShownRange Expr Index Scalar Range (λ p. p.0) (λ p. p.0) (λ p. p.0) (λ p. p.0) z ≡ y
      → RangeAgain (roll-Range y)
  range_shown y z is =
      subst (λ t. RangeAgain (roll-Range t)) is
      (same_range (λ p. p.0) (λ p. p.0) (λ p. p.0) (λ p. p.0) (λ p. p.1) (λ p. p.1) (λ p. p.1) (λ p. p.1) z)

  pub expr_written : (expr : Expr) → ExprAgain expr
  expr_written = ind-Expr ExprAgain IndexAgain ScalarAgain RangeAgain expr_shown index_shown scalar_shown range_shown

  pub index_written : (index : Index) → IndexAgain index
  index_written = ind-Index ExprAgain IndexAgain ScalarAgain RangeAgain expr_shown index_shown scalar_shown range_shown

  pub scalar_written : (scalar : Scalar) → ScalarAgain scalar
  scalar_written = ind-Scalar ExprAgain IndexAgain ScalarAgain RangeAgain expr_shown index_shown scalar_shown range_shown

  pub range_written : (range : Range) → RangeAgain range
  range_written = ind-Range ExprAgain IndexAgain ScalarAgain RangeAgain expr_shown index_shown scalar_shown range_shown
