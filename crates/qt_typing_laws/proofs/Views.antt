-- Forms of typed expressions that fit, as the typing makes them.
use denote.Hole.Carrier.{hidden}
use Rattle.std.proofs.Common.{◌≡◌, ℕ, true, ◌&&◌, IsTrue, List, [], ◌∷◌, ◌++◌, Option, Some, refl, sym, ap, subst, ◌∙◌}
use Rattle.std.specs.Prelude.{is_some}
use Rattle.qt_value.specs.OpTypes.{result_type, unary_result_type}
use Rattle.qt_value.specs.Types.{has_size, is_whole, width_of}
use Rattle.qt_value.specs.declared.operators.Op.{Op}
use Rattle.qt_value.specs.declared.operators.Op.TheVariants as op
use Rattle.qt_value.specs.declared.operators.UnaryOp.{UnaryOp}
use Rattle.qt_value.specs.declared.types.ValueType.{ValueType}
use Rattle.qt_value.specs.declared.types.ValueType.TheVariants as kind
use Rattle.qt_code.specs.Ranges.{can_convert}
use Rattle.qt_typed.specs.Types.{or_bool, type_of}
use Rattle.qt_typed.specs.declared.expression.Logical.{Logical}
use Rattle.qt_typed.specs.declared.expression.TypedExpr.{TypedExpr}
use Rattle.qt_typed.specs.declared.expression.TypedExpr.TheBlock.{hidden-the_row-TypedExpr-0, hidden-the_row-TypedExpr-1}
use Rattle.qt_typed.specs.declared.expression.TypedExpr.TheVariants as form
use Rattle.qt_typed.specs.declared.expression.TypedPhase.{TypedPhase}
use Rattle.qt_typed.specs.declared.expression.TypedPhase.TheBlock.{hidden-the_row-TypedPhase-0}
use Rattle.qt_typed.specs.declared.expression.TypedPhase.TheVariants as phase
use Rattle.qt_flat_expressions.specs.Fits.{ArrayFits, ExpressionFits, IndexesFit, SliceFits, is_index}
use Rattle.qt_flat_expressions.proofs.Sized.{type_sized}
use Rattle.qt_typing_laws.specs.Fits.{PhaseFits}
use Rattle.qt_typing_laws.proofs.Sizes.{IsSized}

-- a value that fits and has that type
abbrev pub ValueFits : ℕ → ValueType → TypedExpr → Type 0
ValueFits slots k form = ExpressionFits slots form × (type_of form ≡ k)

pub value_sized : (slots : ℕ) (k : ValueType) (e : TypedExpr) → ValueFits slots k e → IsSized k
value_sized slots k e h = subst (λ t. has_size t ≡ true) h.1 (type_sized slots e h.0)

-- ---- indexes of an element

abbrev pub IndexFormFits : ℕ → TypedExpr → Type 0
IndexFormFits slots e = ExpressionFits slots e × IsTrue (is_index (type_of e))

-- an index for each dimension
abbrev pub ListFits : ℕ → List ℕ → List TypedExpr → Type 0
ListFits slots [] [] = Unit {0}
ListFits slots (length ∷ lengths) (index ∷ indexes) = IndexFormFits slots index × ListFits slots lengths indexes
ListFits slots _ _ = ⊥

pub list_more : (slots : ℕ) (before : List ℕ) (done : List TypedExpr) (n : ℕ) (e : TypedExpr) → ListFits slots before done
    → IndexFormFits slots e → ListFits slots (before ++ n ∷ []) (done ++ e ∷ [])
list_more slots [] [] n e h g = (g, tt)
list_more slots [] (d ∷ done) n e h g = absurd h
list_more slots (b ∷ before) [] n e h g = absurd h
list_more slots (b ∷ before) (d ∷ done) n e h g = (h.0, list_more slots before done n e h.1 g)

row_fits : (slots : ℕ) (lengths : List ℕ) (indexes : List TypedExpr) → ListFits slots lengths indexes
    → IndexesFit slots lengths (hidden-the_row-TypedExpr-0 indexes)
unfolding hidden-the_row-TypedExpr-0 hidden
row_fits slots [] [] h = tt
row_fits slots [] (e ∷ indexes) h = absurd h
row_fits slots (n ∷ lengths) [] h = absurd h
row_fits slots (n ∷ lengths) (e ∷ indexes) h = (h.0.0, h.0.1, row_fits slots lengths indexes h.1)

pub element_fits : (slots : ℕ) (k : ValueType) (slot : ℕ) (lengths : List ℕ) (indexes : List TypedExpr) → IsSized k
    → ArrayFits slots slot lengths → ListFits slots lengths indexes → ValueFits slots k (form.Element k slot lengths indexes)
element_fits slots k slot lengths indexes h g l = ((h, g, row_fits slots lengths indexes l), refl)

-- ---- bits

pub bit_fits : (slots : ℕ) (of index : TypedExpr) → ExpressionFits slots of → ExpressionFits slots index
    → ValueFits slots (kind.Bit 1) (form.Bit of index)
unfolding hidden-the_row-TypedExpr-1 hidden
bit_fits slots of index h g = ((h, g), refl)

pub slice_fits : (slots : ℕ) (k : ValueType) (of : TypedExpr) (start step count : ℕ) → ValueFits slots k of
    → SliceFits (width_of k) start step count → ValueFits slots (kind.Bit count) (form.Slice of start step count)
unfolding hidden-the_row-TypedExpr-1 hidden
slice_fits slots k of start step count h g = ((h.0, subst (λ t. SliceFits (width_of t) start step count) (sym h.1) g), refl)

-- ---- conversions and operators

pub convert_fits : (slots : ℕ) (from to : ValueType) (of : TypedExpr) → ValueFits slots from of → IsTrue (can_convert from to)
    → ValueFits slots to (form.Convert to of)
unfolding hidden-the_row-TypedExpr-1 hidden
convert_fits slots from to of h g = ((h.0, subst (λ t. IsTrue (can_convert t to)) (sym h.1) g), refl)

some_given : (t : Option ValueType) (k : ValueType) → t ≡ Some k → IsTrue (is_some t)
some_given t k e = subst (λ s. IsTrue (is_some s)) (sym e) refl

pub unary_fits : (slots : ℕ) (o : UnaryOp) (k result : ValueType) (of : TypedExpr) → ValueFits slots k of
    → unary_result_type o k ≡ Some result → ValueFits slots result (form.Unary o of)
unfolding hidden-the_row-TypedExpr-1 hidden
unary_fits slots o k result of h e =
    let typed : unary_result_type o (type_of of) ≡ Some result = ap (unary_result_type o) h.1 ∙ e in
    ((h.0, some_given (unary_result_type o (type_of of)) result typed), ap or_bool typed)

module _ (slots : ℕ) (o : Op) (l r result : ValueType) (left right : TypedExpr) (h : ValueFits slots l left) (g : ValueFits slots r right)
    (e : result_type o l r ≡ Some result) where
  operands_typed : result_type o (type_of left) (type_of right) ≡ Some result
  operands_typed = ap (λ t. result_type o t (type_of right)) h.1 ∙ (ap (λ t. result_type o l t) g.1 ∙ e)

  pub binary_fits : ValueFits slots result (form.Binary o left right)
  unfolding hidden-the_row-TypedExpr-1 hidden
  binary_fits =
      ((h.0, g.0, some_given (result_type o (type_of left) (type_of right)) result operands_typed), ap or_bool operands_typed)

pub quotient_fits : (slots : ℕ) (l r result : ValueType) (left right : TypedExpr) → ValueFits slots l left → ValueFits slots r right
    → result_type op.Div l r ≡ Some result → IsTrue (is_whole l && is_whole r) → ValueFits slots result (form.ExactQuotient left right)
unfolding hidden-the_row-TypedExpr-1 hidden
quotient_fits slots l r result left right h g e w =
    let typed = operands_typed slots op.Div l r result left right h g e in (
      (
        h.0,
        g.0,
        subst (λ t. IsTrue (is_whole t && is_whole (type_of right))) (sym h.1)
            (subst (λ t. IsTrue (is_whole l && is_whole t)) (sym g.1) w),
      ),
      ap or_bool typed,
    )

pub logical_fits : (slots : ℕ) (o : Logical) (left right : TypedExpr) → ExpressionFits slots left → ExpressionFits slots right
    → ValueFits slots kind.Bool (form.Logical o left right)
unfolding hidden-the_row-TypedExpr-1 hidden
logical_fits slots o left right h g = ((h, g), refl)

-- ---- phases

pub neg_fits : (slots : ℕ) (p : TypedPhase) → PhaseFits slots p → PhaseFits slots (phase.Neg p)
unfolding hidden-the_row-TypedPhase-0 hidden
neg_fits slots p h = h

pub add_fits : (slots : ℕ) (p q : TypedPhase) → PhaseFits slots p → PhaseFits slots q → PhaseFits slots (phase.Add p q)
unfolding hidden-the_row-TypedPhase-0 hidden
add_fits slots p q h g = (h, g)

pub sub_fits : (slots : ℕ) (p q : TypedPhase) → PhaseFits slots p → PhaseFits slots q → PhaseFits slots (phase.Sub p q)
unfolding hidden-the_row-TypedPhase-0 hidden
sub_fits slots p q h g = (h, g)

module _ (slots : ℕ) (p : TypedPhase) (k : ValueType) (n : TypedExpr) (h : PhaseFits slots p) (g : ValueFits slots k n)
    (w : is_whole k ≡ true) where
  number_whole : IsTrue (is_whole (type_of n))
  number_whole = subst (λ t. IsTrue (is_whole t)) (sym g.1) w

  pub times_fits : PhaseFits slots (phase.Times p n)
  unfolding hidden-the_row-TypedPhase-0 hidden
  times_fits = (h, g.0, number_whole)

  pub scaled_fits : PhaseFits slots (phase.Scaled n p)
  unfolding hidden-the_row-TypedPhase-0 hidden
  scaled_fits = (h, g.0, number_whole)

  pub over_fits : PhaseFits slots (phase.Over p n)
  unfolding hidden-the_row-TypedPhase-0 hidden
  over_fits = (h, g.0, number_whole)
