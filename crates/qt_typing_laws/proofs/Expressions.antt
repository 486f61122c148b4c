-- What an expression is typed as fits.
use Rattle.std.proofs.Common.{◌≡◌, ℕ, List, [], ◌∷◌, ◌++◌, length, map, Option, Some, None, refl, sym, subst}
use Rattle.qt_names.specs.Entries as scope
use Rattle.qt_names.specs.Scopes.{found}
use Rattle.qt_names.specs.declared.named.Named.{Named}
use Rattle.qt_names.specs.declared.named.What.{What}
use Rattle.qt_names.specs.declared.named.What.TheVariants as what
use Rattle.qt_tree.specs.declared.expression.Expr.{Expr, roll-Expr}
use Rattle.qt_tree.specs.declared.expression.Scalar.{Scalar}
use Rattle.qt_tree.specs.declared.expression.Index.{Index, roll-Index}
use Rattle.qt_tree.specs.declared.expression.Range.{Range}
use Rattle.qt_tree.specs.declared.expression.InfixOperator.{InfixOperator}
use Rattle.qt_tree.specs.declared.expression.Expr.TheOpen as o
use Rattle.qt_tree.specs.declared.expression.Expr.TheFolds.{fold-Scalar, fold-Range, fold-roll-Expr, fold-roll-Index}
use Rattle.qt_tree.specs.declared.expression.Expr.TheFolds.{ind-Expr, ind-Index, map-Expr, map-Index}
use Rattle.qt_tree.specs.declared.place.Place.{Place}
use Rattle.qt_value.specs.OpTypes.{result_type, unary_result_type}
use Rattle.qt_value.specs.declared.constant.ConstValue.{ConstValue}
use Rattle.qt_value.specs.declared.constant.ConstValue.TheVariants as constant
use Rattle.qt_value.specs.declared.operators.Op.{Op}
use Rattle.qt_value.specs.declared.operators.Op.TheVariants as op
use Rattle.qt_value.specs.declared.operators.UnaryOp.TheVariants as unary
use Rattle.qt_value.specs.declared.types.ValueType.{ValueType}
use Rattle.qt_const.specs.Operators.{op_of_infix, op_of_prefix}
use Rattle.qt_const_rules.specs.Names.{known_of}
use Rattle.qt_const_rules.specs.declared.builtins.Builtin.{Builtin}
use Rattle.qt_const_rules.specs.declared.builtins.Builtin.TheVariants as builtin
use Rattle.qt_const_rules.specs.declared.modes.Mode.{Mode}
use Rattle.qt_typed.specs.declared.expression.TypedExpr.{TypedExpr}
use Rattle.qt_typed.specs.declared.expression.TypedExpr.TheVariants as form
use Rattle.qt_typing.specs.declared.indexes.Steps.{Steps}
use Rattle.qt_typing.specs.declared.indexes.Storage.{Storage}
use Rattle.qt_typing.specs.declared.names.Names.{Names}
use Rattle.qt_typing.specs.declared.operand.Operand.{Operand}
use Rattle.qt_typing.specs.declared.operand.Operand.TheVariants as operand
use Rattle.qt_typing.specs.declared.way.Way.TheVariants.{Written}
use Rattle.qt_typing.specs.Checked.{and_then}
use Rattle.qt_typing.specs.Indexes.{Part, IndexPart, Reached, all_indexes}
use Rattle.qt_typing.specs.Expressions.{arity, as_written, between_operands, bits_of, builtin_at, builtin_call, constant_bits, constant_operand, counted, expr_step, form_typed, index_part, index_step, inner_mode, kind_of, name_operand, named_constant, of_constant, or_unfit, part_of, range_step, read, rotated, scalar_step, storage_of, turned, turned_row, typed_of, unassigned, variable_operand}
use Rattle.qt_typing_laws.specs.Fits.{ConstantFits, NamedFits, NamesFit, OperandFits, StorageFits}
use Rattle.qt_typing_laws.specs.Laws.{ExpressionsAreTyped}
use Rattle.qt_typing_laws.proofs.Constants.{known_fits, named_fits}
use Rattle.qt_typing_laws.proofs.Conversions.{constant_fits, type_sized_at, wanted_fits}
use Rattle.qt_typing_laws.proofs.Holding.{Holds, ok_holds, err_holds, any_holds, then_holds, answer_holds}
use Rattle.qt_typing_laws.proofs.Indexes.{PartFits, ShapeFits, ShapesFit, NoStep, reached_fits, stepped_fits, steps_fit, variable_read}
use Rattle.qt_typing_laws.proofs.Names.{found_is, known_name}
use Rattle.qt_typing_laws.proofs.Operators.{before_fits, both_true_fit, combined_fits, unary_row_fits}
use Rattle.qt_typing_laws.proofs.Views.{ValueFits, binary_fits, value_sized}

-- ---- names

pub storage_fits : (slots : ℕ) (place : Place) (name : scope.Name) (it : Named) (t : Option Storage) → NamedFits slots it
    → storage_of it ≡ t → Holds (StorageFits slots) (or_unfit place name t)
storage_fits slots place name it None h e = err_holds
storage_fits slots place name it (Some kept) h e = ok_holds (h kept e)

constant_typed : (slots : ℕ) (c : ConstValue) → ConstantFits c → OperandFits slots (of_constant c)
unfolding of_constant
constant_typed slots (constant.Value x) h = (h, refl)
constant_typed slots (constant.Phase p) h = tt

module _ (slots : ℕ) (names : Names) (fits : NamesFit slots names) where
  constant_operand_fits : (m : Mode) (place : Place) (whole : Expr) → Holds (OperandFits slots) (constant_operand names m place whole)
  unfolding constant_operand
  constant_operand_fits m place whole = then_holds (constant_fits slots names fits m place whole) (λ c h. ok_holds (constant_typed slots c h))

  module _ (m : Mode) (place : Place) where
    bits_typed : (k : ValueType) (of : TypedExpr) (rest : List IndexPart) → ValueFits slots k of → ShapesFit slots rest
        → Holds (OperandFits slots) (bits_of names m place k of rest)
    unfolding bits_of
    bits_typed k of rest h s =
        then_holds (steps_fit slots names m place k k [] rest (value_sized slots k of h) (NoStep k) s)
        (λ (t : Steps) g. ok_holds (stepped_fits slots k t.kind t.steps of h g))

    variable_typed : (it : Storage) (indexes : List IndexPart) → StorageFits slots it → ShapesFit slots indexes
        → Holds (OperandFits slots) (variable_operand names m place it indexes)
    unfolding variable_operand
    variable_typed it indexes h s =
        then_holds (reached_fits slots names m place it indexes h s)
        (λ (r : Reached) g. bits_typed (kind_of r.variable) (read r.variable) r.rest (variable_read slots names m place r.variable g.variable) g.rest)

    constant_bits_typed : (indexes : List IndexPart) (c : ConstValue) → ConstantFits c → ShapesFit slots indexes
        → Holds (OperandFits slots) (constant_bits names m place indexes c)
    constant_bits_typed indexes (constant.Value x) h s = bits_typed x.kind (form.Constant x) indexes (h, refl) s
    constant_bits_typed indexes (constant.Phase p) h s = err_holds

    pub named_constant_fits : (name : scope.Name) → Holds ConstantFits (named_constant names place name)
    unfolding named_constant
    named_constant_fits name =
        answer_holds place (named_fits name 0 (known_of names.consts name) (known_fits names.consts name fits.1))

    unassigned_typed : (name : scope.Name) (indexes : List IndexPart) (it : Named) (t : Option Storage) → NamedFits slots it
        → storage_of it ≡ t → ShapesFit slots indexes → Holds (OperandFits slots) (unassigned names m place name indexes t)
    unassigned_typed name indexes it None h e s =
        then_holds (named_constant_fits name) (λ c g. constant_bits_typed indexes c g s)
    unassigned_typed name indexes it (Some kept) h e s = variable_typed kept indexes (h kept e) s

    stored_typed : (name : scope.Name) (indexes : List IndexPart) (it : Named) → NamedFits slots it → ShapesFit slots indexes
        → Holds (OperandFits slots) (and_then (or_unfit place name (storage_of it)) (λ v. variable_operand names m place v indexes))
    stored_typed name indexes it h s =
        then_holds (storage_fits slots place name it (storage_of it) h refl) (λ v g. variable_typed v indexes g s)

    name_typed : (name : scope.Name) (indexes : List IndexPart) (w : What) (it : Named) → NamedFits slots it → ShapesFit slots indexes
        → Holds (OperandFits slots) (name_operand names m place name indexes w it)
    unfolding name_operand
    name_typed name indexes what.Constant it h s = unassigned_typed name indexes it (storage_of it) h refl s
    name_typed name indexes _ it h s = stored_typed name indexes it h s

    -- ---- calls

    abbrev PartsFit : List Part → Type 0
    PartsFit [] = Unit {0}
    PartsFit (part ∷ rest) = PartFits slots part × PartsFit rest

    counted_fits : (x : Operand) → OperandFits slots x → Holds (OperandFits slots) (counted place x)
    counted_fits (operand.Value k form) h = unary_row_fits slots place unary.Popcount form k (unary_result_type unary.Popcount k) h refl
    counted_fits (operand.Phase form) h = err_holds

    turned_row_fits : (o : Op) (l r : ValueType) (of by : TypedExpr) (t : Option ValueType) → ValueFits slots l of → ValueFits slots r by
        → result_type o l r ≡ t → Holds (OperandFits slots) (turned_row place o of by t)
    turned_row_fits o l r of by None h g e = err_holds
    turned_row_fits o l r of by (Some k) h g e = ok_holds (binary_fits slots o l r k of by h g e)

    turned_fits : (o : Op) (x y : Operand) → OperandFits slots x → OperandFits slots y → Holds (OperandFits slots) (turned place o x y)
    turned_fits o (operand.Value l of) (operand.Value r by) h g = turned_row_fits o l r of by (result_type o l r) h g refl
    turned_fits o (operand.Value l of) (operand.Phase by) h g = err_holds
    turned_fits o (operand.Phase of) y h g = err_holds

    rotated_fits : (o : Op) (parts : List Part) → PartsFit parts → Holds (OperandFits slots) (rotated m place o parts)
    unfolding arity
    rotated_fits o [] h = err_holds
    rotated_fits o (a ∷ []) h = err_holds
    rotated_fits o (a ∷ b ∷ []) h = then_holds (h.0 m) (λ x s. then_holds (h.1.0 m) (λ y t. turned_fits o x y s t))
    rotated_fits o (a ∷ b ∷ c ∷ rest) h = err_holds

    call_fits : (parts : List Part) (b : Builtin) → PartsFit parts → Holds (OperandFits slots) (builtin_call m place parts b)
    unfolding arity
    call_fits [] builtin.Popcount h = err_holds
    call_fits (a ∷ []) builtin.Popcount h = then_holds (h.0 m) (λ x s. counted_fits x s)
    call_fits (a ∷ b ∷ rest) builtin.Popcount h = err_holds
    call_fits parts builtin.Rotl h = rotated_fits op.Rotl parts h
    call_fits parts builtin.Rotr h = rotated_fits op.Rotr parts h

  -- ---- operators

  between_fits : (m : Mode) (place : Place) (operator : InfixOperator) (o : Option Op) (left right : Part) → PartFits slots left
      → PartFits slots right → Holds (OperandFits slots) (between_operands names m place operator o left right)
  between_fits m place operator (Some o) left right h g =
      then_holds (h m) (λ x s. then_holds (g m) (λ y t. combined_fits slots names m place o left.written x right.written y s t))
  between_fits m place operator None left right h g =
      then_holds (h m) (λ x s. then_holds (g m) (λ y t. both_true_fit slots place operator x y s t))

  -- ---- whole trees

  module _ (place : Place) where
    abbrev scalar_again : Scalar → Scalar
    scalar_again = fold-Scalar Part IndexPart Scalar Range (expr_step names place) index_step scalar_step range_step

    abbrev range_again : Range → Range
    range_again = fold-Range Part IndexPart Scalar Range (expr_step names place) index_step scalar_step range_step

    abbrev parts : o.Expr-F Expr Index Scalar Range → o.Expr-F Part IndexPart Scalar Range
    parts = map-Expr Expr Index Scalar Range Part IndexPart Scalar Range (part_of names place) (index_part names place) scalar_again range_again

    abbrev index_parts : o.Index-F Expr Index Scalar Range → o.Index-F Part IndexPart Scalar Range
    index_parts = map-Index Expr Index Scalar Range Part IndexPart Scalar Range (part_of names place) (index_part names place) scalar_again range_again

    expr_rolls : (layer : o.Expr-F Expr Index Scalar Range) → part_of names place (roll-Expr layer) ≡ expr_step names place (parts layer)
    expr_rolls = fold-roll-Expr Part IndexPart Scalar Range (expr_step names place) index_step scalar_step range_step

    index_rolls : (layer : o.Index-F Expr Index Scalar Range) → index_part names place (roll-Index layer) ≡ index_step (index_parts layer)
    index_rolls = fold-roll-Index Part IndexPart Scalar Range (expr_step names place) index_step scalar_step range_step

    abbrev ExprFits : Expr → Type 0
    ExprFits expr = PartFits slots (part_of names place expr)

    abbrev AtFits : Index → Type 0
    AtFits index = ShapeFits slots (index_part names place index).shape

    module _ {A B C D : Type 0} (fa : A → Expr) (fb : B → Index) (fc : C → Scalar) (fd : D → Range) (ka : (a : A) → ExprFits (fa a))
        (kb : (b : B) → AtFits (fb b)) where
      each_expr : (m : Mode) (es : List A) → PartsFit m place (map (part_of names place) (map fa es))
      each_expr m [] = tt
      each_expr m (a ∷ es) = (ka a, each_expr m es)

      -- one bracket, and what stands behind it
      each_index : (bs : List B) (rest : List IndexPart) → ShapesFit slots rest
          → ShapesFit slots (map (index_part names place) (map fb bs) ++ rest)
      each_index [] rest h = h
      each_index (b ∷ bs) rest h = (kb b, each_index bs rest h)

      each_bracket : (bs : List (List B)) → ShapesFit slots (all_indexes (map (map (index_part names place)) (map (map fb) bs)))
      each_bracket [] = tt
      each_bracket (b ∷ bs) = each_index b _ (each_bracket bs)

      form_fits : (y : o.Expr-F A B C D) (whole : Expr) (m : Mode)
          → Holds (OperandFits slots) (form_typed names m place whole (parts (map-Expr A B C D Expr Index Scalar Range fa fb fc fd y)))
      form_fits (o.Whole n) whole m = constant_operand_fits m place whole
      form_fits (o.BitText bits length) whole m = constant_operand_fits m place whole
      form_fits o.Pi whole m = ok_holds tt
      form_fits o.Tau whole m = ok_holds tt
      form_fits (o.Expr::Bool b) whole m = constant_operand_fits m place whole
      form_fits (o.Parenthesized inner) whole m = ka inner m
      form_fits (o.Name name brackets) whole m =
          then_holds (known_name name place (found names.scopes name) (found_is (NamedFits slots) names.scopes name fits.0))
          (λ it h. name_typed m place name _ it.what it h (each_bracket brackets))
      form_fits (o.Call name arguments) whole m =
          then_holds {r = builtin_at place name (found names.scopes name)} any_holds (λ b _. call_fits m place _ b (each_expr m arguments))
      form_fits (o.Cast to a) whole m =
          then_holds (type_sized_at slots names fits m place _) (λ k _.
          then_holds (ka a m) (λ y s.
          then_holds (wanted_fits slots names Written m place k _ y s) (λ form t. ok_holds t)))
      form_fits (o.SizeOf name dimension) whole m = constant_operand_fits m place whole
      form_fits (o.Unary operator a) whole m = then_holds (ka a m) (λ x s. before_fits slots place (op_of_prefix operator) x s)
      form_fits (o.Binary operator a b) whole m =
          between_fits (inner_mode names m operator (part_of names place (fa a)) (part_of names place (fa b))) place operator
          (op_of_infix operator) (part_of names place (fa a)) (part_of names place (fa b)) (ka a) (ka b)

      shape_fits : (y : o.Index-F A B C D) → ShapeFits slots (index_step (index_parts (map-Index A B C D Expr Index Scalar Range fa fb fc fd y))).shape
      shape_fits (o.At a) = ka a
      shape_fits (o.Range d) = tt
      shape_fits (o.Set es) = tt

    -- ---- the induction

    abbrev ShownExpr : Type 0
    ShownExpr = (expr : Expr) × ExprFits expr

    abbrev ShownIndex : Type 0
    ShownIndex = (index : Index) × AtFits index

    abbrev ShownScalar : Type 0
    ShownScalar = (scalar : Scalar) × Unit {0}

    abbrev ShownRange : Type 0
    ShownRange = (range : Range) × Unit {0}

    expr_shown : (y : o.Expr-F Expr Index Scalar Range) (z : o.Expr-F ShownExpr ShownIndex ShownScalar ShownRange)
        → map-Expr ShownExpr ShownIndex ShownScalar ShownRange Expr Index Scalar Range (λ p. p.0) (λ p. p.0) (λ p. p.0) (λ p. p.0) z ≡ y
        → ExprFits (roll-Expr y)
    expr_shown y z is =
        subst (λ t. PartFits slots t) (sym (expr_rolls y)) (λ m.
        subst (λ t. Holds (OperandFits slots) (form_typed names m place (as_written (parts y)) (parts t))) is
        (form_fits (λ p. p.0) (λ p. p.0) (λ p. p.0) (λ p. p.0) (λ p. p.1) (λ p. p.1) z (as_written (parts y)) m))

    index_shown : (y : o.Index-F Expr Index Scalar Range) (z : o.Index-F ShownExpr ShownIndex ShownScalar ShownRange)
        → map-Index ShownExpr ShownIndex ShownScalar ShownRange Expr Index Scalar Range (λ p. p.0) (λ p. p.0) (λ p. p.0) (λ p. p.0) z ≡ y
        → AtFits (roll-Index y)
    index_shown y z is =
        subst (λ (t : IndexPart). ShapeFits slots t.shape) (sym (index_rolls y))
        (subst (λ t. ShapeFits slots (index_step (index_parts t)).shape) is
        (shape_fits (λ p. p.0) (λ p. p.0) (λ p. p.0) (λ p. p.0) (λ p. p.1) (λ p. p.1) z))

    pub part_fits : (expr : Expr) → PartFits slots (part_of names place expr)
    part_fits expr =
        ind-Expr ExprFits AtFits (λ s. Unit {0}) (λ r. Unit {0}) expr_shown index_shown (λ y z is. tt) (λ y z is. tt) expr

    pub index_part_fits : (index : Index) → ShapeFits slots (index_part names place index).shape
    index_part_fits index =
        ind-Index ExprFits AtFits (λ s. Unit {0}) (λ r. Unit {0}) expr_shown index_shown (λ y z is. tt) (λ y z is. tt) index

  pub typed_fits : (m : Mode) (place : Place) (expr : Expr) → Holds (OperandFits slots) (typed_of names m place expr)
  typed_fits m place expr = part_fits place expr m

pub expressions_are_typed : ExpressionsAreTyped
expressions_are_typed slots names m place expr typed fits e = (typed_fits slots names fits m place expr).by typed e
