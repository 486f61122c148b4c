-- What operators between operands that fit are typed as fits.
use Rattle.std.proofs.Common.{◌≡◌, ℕ, Bool, true, false, ◌&&◌, ℤ, Option, Some, None, Err, refl, sym, subst}
use Rattle.qt_tree.specs.declared.expression.Expr.{Expr}
use Rattle.qt_tree.specs.declared.expression.InfixOperator.{InfixOperator}
use Rattle.qt_tree.specs.declared.place.Place.{Place}
use Rattle.qt_tree.specs.declared.refusal.TextRefusal.TheVariants as refusal
use Rattle.qt_value.specs.OpTypes.{result_type, unary_result_type}
use Rattle.qt_value.specs.Types.{has_size, is_whole}
use Rattle.qt_value.specs.declared.operators.Op.{Op}
use Rattle.qt_value.specs.declared.operators.Op.TheVariants as op
use Rattle.qt_value.specs.declared.operators.UnaryOp.{UnaryOp}
use Rattle.qt_value.specs.declared.operators.UnaryOp.TheVariants as unary
use Rattle.qt_value.specs.declared.types.ValueType.{ValueType}
use Rattle.qt_value.specs.declared.types.ValueType.TheVariants as kind
use Rattle.qt_const_rules.specs.declared.modes.Mode.{Mode}
use Rattle.qt_const_rules.specs.declared.modes.Mode.TheVariants as mode
use Rattle.qt_typed.specs.declared.expression.TypedExpr.{TypedExpr}
use Rattle.qt_typed.specs.declared.expression.TypedPhase.{TypedPhase}
use Rattle.qt_typing.specs.declared.names.Names.{Names}
use Rattle.qt_typing.specs.declared.operand.Beside.{Beside}
use Rattle.qt_typing.specs.declared.operand.Operand.{Operand}
use Rattle.qt_typing.specs.declared.operand.Operand.TheVariants as operand
use Rattle.qt_typing.specs.Checked.{Checked}
use Rattle.qt_typing.specs.Conversions.{is_zero_at, phase_at, zero_angle}
use Rattle.qt_typing.specs.Operators.{angle_row, before_operand, beside, both_true, combined, joined, joined_left, logical_of, no_phase, operator_form, phase_and_whole, phase_beside, phase_beside_value, phase_first, phase_second, quotient_form, right_beside, two_phases, two_values, unary_row, value_beside, whole_and_phase, zero_beside}
use Rattle.qt_typing_laws.specs.Fits.{OperandFits, PhaseFits}
use Rattle.qt_typing_laws.proofs.Constants.{angle_fits}
use Rattle.qt_typing_laws.proofs.Conversions.{truth_fits}
use Rattle.qt_typing_laws.proofs.Holding.{Holds, ok_holds, err_holds, any_holds, weakened, then_holds, answer_holds, if_holds}
use Rattle.qt_typing_laws.proofs.Sizes.{IsSized}
use Rattle.qt_typing_laws.proofs.Views.{ValueFits, value_sized, unary_fits, binary_fits, quotient_fits, logical_fits, neg_fits, add_fits, sub_fits, times_fits, scaled_fits, over_fits}

-- what stands on the right of a value of a type
abbrev pub BesideFits : ℕ → Op → ValueType → Beside → Type 0
BesideFits slots o l b = ValueFits slots b.kind b.form × (result_type o l b.kind ≡ Some b.result)

-- what stands beside a value of a type, and has the same
abbrev pub TwinFits : ℕ → Op → ValueType → Beside → Type 0
TwinFits slots o l b = ValueFits slots b.kind b.form × (b.kind ≡ l) × (result_type o l l ≡ Some b.result)

module _ (slots : ℕ) where
  -- ---- one operand

  pub unary_row_fits : (place : Place) (o : UnaryOp) (form : TypedExpr) (k : ValueType) (t : Option ValueType) → ValueFits slots k form
      → unary_result_type o k ≡ t → Holds (OperandFits slots) (unary_row place o form t)
  unfolding unary_row
  unary_row_fits place o form k None h e = err_holds
  unary_row_fits place o form k (Some result) h e = ok_holds (unary_fits slots o k result form h e)

  pub before_fits : (place : Place) (o : UnaryOp) (x : Operand) → OperandFits slots x → Holds (OperandFits slots) (before_operand place o x)
  unfolding before_operand
  before_fits place o (operand.Value k form) h = unary_row_fits place o form k (unary_result_type o k) h refl
  before_fits place unary.Neg (operand.Phase form) h = ok_holds (neg_fits slots form h)
  before_fits place _ (operand.Phase form) h = err_holds

  -- ---- two values

  module _ (l r result : ValueType) (left right : TypedExpr) (h : ValueFits slots l left) (g : ValueFits slots r right) where
    quotient_form_fits : (b : Bool) → (is_whole l && is_whole r) ≡ b → result_type op.Div l r ≡ Some result
        → ValueFits slots result (quotient_form b left right)
    quotient_form_fits true w e = quotient_fits slots l r result left right h g e w
    quotient_form_fits false w e = binary_fits slots op.Div l r result left right h g e

    pub operator_fits : (m : Mode) (o : Op) → result_type o l r ≡ Some result → ValueFits slots result (operator_form m o l r left right)
    unfolding operator_form
    operator_fits mode.Exact op.Div e = quotient_form_fits (is_whole l && is_whole r) refl e
    operator_fits m o e = binary_fits slots o l r result left right h g e

  twin_fits : (o : Op) (l : ValueType) (b : Beside) → TwinFits slots o l b → BesideFits slots o l b
  twin_fits o l b s = (s.0, subst (λ t. result_type o l t ≡ Some b.result) (sym s.1) s.2)

  beside_is : (place : Place) (o : Op) (k : ValueType) (form : TypedExpr) (t : Option ValueType) → ValueFits slots k form
      → result_type o k k ≡ t → Holds (TwinFits slots o k) (beside k form t place)
  beside_is place o k form None h e = err_holds
  beside_is place o k form (Some result) h e = ok_holds (h, refl, e)

  phase_beside_fits : (place : Place) (o : Op) (n : ℕ) (t : Option ValueType) (p : Checked ℤ) → IsSized (kind.Angle n)
      → angle_row o n ≡ t → Holds (TwinFits slots o (kind.Angle n)) (phase_beside place n t p)
  unfolding phase_beside
  phase_beside_fits place o n None p h e = err_holds
  phase_beside_fits place o n (Some result) p h e =
      then_holds {r = p} any_holds (λ q _.
      then_holds (answer_holds place (angle_fits n q)) (λ x s.
      ok_holds ((subst (λ k. has_size k ≡ true) (sym s) h, s), refl, e)))

  phase_value_fits : (place : Place) (o : Op) (l : ValueType) (p : Checked ℤ) → IsSized l
      → Holds (BesideFits slots o l) (phase_beside_value place o l p)
  phase_value_fits place o (kind.Angle n) p h =
      weakened (phase_beside_fits place o n (angle_row o n) p h refl) (λ b s. twin_fits o (kind.Angle n) b s)
  phase_value_fits place o _ p h = err_holds

  joined_fits : (m : Mode) (o : Op) (l : ValueType) (left : TypedExpr) (b : Beside) → ValueFits slots l left → BesideFits slots o l b
      → OperandFits slots (joined m o l left b)
  joined_fits m o l left b h s = operator_fits l b.kind b.result left b.form h s.0 m o s.1

  joined_left_fits : (m : Mode) (o : Op) (r : ValueType) (right : TypedExpr) (b : Beside) → ValueFits slots r right → TwinFits slots o r b
      → OperandFits slots (joined_left m o r right b)
  joined_left_fits m o r right b h s =
      operator_fits b.kind r b.result b.form right s.0 h m o (subst (λ t. result_type o t r ≡ Some b.result) (sym s.1) s.2)

  -- ---- phases

  two_phases_fit : (place : Place) (o : Op) (p q : TypedPhase) → PhaseFits slots p → PhaseFits slots q
      → Holds (OperandFits slots) (two_phases place o p q)
  two_phases_fit place op.Add p q h g = ok_holds (add_fits slots p q h g)
  two_phases_fit place op.Sub p q h g = ok_holds (sub_fits slots p q h g)
  two_phases_fit place _ p q h g = err_holds

  phase_and_whole_fit : (place : Place) (o : Op) (is_nil : Bool) (left : TypedPhase) (k : ValueType) (right : TypedExpr)
      → PhaseFits slots left → ValueFits slots k right → is_whole k ≡ true
      → Holds (OperandFits slots) (phase_and_whole place o is_nil left right)
  unfolding phase_and_whole
  phase_and_whole_fit place op.Mul is_nil left k right h g w = ok_holds (times_fits slots left k right h g w)
  phase_and_whole_fit place op.Div is_nil left k right h g w = ok_holds (over_fits slots left k right h g w)
  phase_and_whole_fit place o is_nil left k right h g w =
      if_holds is_nil (λ _. two_phases_fit place o left no_phase h tt) (λ _. err_holds)

  whole_and_phase_fit : (place : Place) (o : Op) (is_nil : Bool) (k : ValueType) (left : TypedExpr) (right : TypedPhase)
      → ValueFits slots k left → PhaseFits slots right → is_whole k ≡ true
      → Holds (OperandFits slots) (whole_and_phase place o is_nil left right)
  unfolding whole_and_phase
  whole_and_phase_fit place op.Mul is_nil k left right h g w = ok_holds (scaled_fits slots right k left g h w)
  whole_and_phase_fit place o is_nil k left right h g w =
      if_holds is_nil (λ _. two_phases_fit place o no_phase right tt g) (λ _. err_holds)

  module _ (names : Names) (m : Mode) (place : Place) where
    zero_beside_fits : (o : Op) (l : ValueType) (written : Expr) → IsSized l
        → Holds (TwinFits slots o l) (zero_beside names m place o l written)
    unfolding zero_beside
    zero_beside_fits o (kind.Angle n) written h =
        if_holds (is_zero_at names m written)
        (λ _. beside_is place o (kind.Angle n) (zero_angle n) (angle_row o n) (h, refl) refl) (λ _. err_holds)
    zero_beside_fits o _ written h = err_holds

    value_beside_fits : (o : Op) (l r : ValueType) (form : TypedExpr) (written : Expr) (t : Option ValueType) → ValueFits slots r form
        → IsSized l → result_type o l r ≡ t → Holds (BesideFits slots o l) (value_beside names m place o l r form written t)
    unfolding value_beside
    value_beside_fits o l r form written (Some result) h s e = ok_holds (h, e)
    value_beside_fits o l r form written None h s e = weakened (zero_beside_fits o l written s) (λ b z. twin_fits o l b z)

    pub right_beside_fits : (o : Op) (l : ValueType) (written : Expr) (x : Operand) → IsSized l → OperandFits slots x
        → Holds (BesideFits slots o l) (right_beside names m place o l written x)
    unfolding right_beside
    right_beside_fits o l written (operand.Value k form) s h = value_beside_fits o l k form written (result_type o l k) h s refl
    right_beside_fits o l written (operand.Phase form) s h = phase_value_fits place o l (phase_at names m place written) s

    two_values_fit : (o : Op) (l : ValueType) (left : TypedExpr) (wl : Expr) (r : ValueType) (right : TypedExpr) (wr : Expr)
        (t : Option ValueType) → ValueFits slots l left → ValueFits slots r right → result_type o l r ≡ t
        → Holds (OperandFits slots) (two_values names m place o l left wl r right wr t)
    unfolding two_values
    two_values_fit o l left wl r right wr (Some result) h g e = ok_holds (operator_fits l r result left right h g m o e)
    two_values_fit o l left wl (kind.Angle n) right wr None h g e =
        then_holds (zero_beside_fits o (kind.Angle n) wl (value_sized slots (kind.Angle n) right g))
        (λ b s. ok_holds (joined_left_fits m o (kind.Angle n) right b g s))
    two_values_fit o l left wl r right wr None h g e =
        then_holds (zero_beside_fits o l wr (value_sized slots l left h)) (λ b s. ok_holds (joined_fits m o l left b h (twin_fits o l b s)))

    phase_first_fits : (o : Op) (left : TypedPhase) (known : Checked ℤ) (r : ValueType) (right : TypedExpr) (written : Expr)
        → PhaseFits slots left → ValueFits slots r right → Holds (OperandFits slots) (phase_first names m place o left known r right written)
    unfolding phase_first
    phase_first_fits o left known (kind.Angle n) right written h g =
        then_holds (phase_beside_fits place o n (angle_row o n) known (value_sized slots (kind.Angle n) right g) refl)
        (λ b s. ok_holds (joined_left_fits m o (kind.Angle n) right b g s))
    phase_first_fits o left known r right written h g =
        if_holds {s = Err (refusal.E10 place)} (is_whole r) (λ w. phase_and_whole_fit place o (is_zero_at names m written) left r right h g w) (λ _. err_holds)

    phase_second_fits : (o : Op) (l : ValueType) (left : TypedExpr) (written : Expr) (right : TypedPhase) (known : Checked ℤ)
        → ValueFits slots l left → PhaseFits slots right → Holds (OperandFits slots) (phase_second names m place o l left written right known)
    unfolding phase_second
    phase_second_fits o (kind.Angle n) left written right known h g =
        then_holds (phase_beside_fits place o n (angle_row o n) known (value_sized slots (kind.Angle n) left h) refl)
        (λ b s. ok_holds (joined_fits m o (kind.Angle n) left b h (twin_fits o (kind.Angle n) b s)))
    phase_second_fits o l left written right known h g =
        if_holds {s = Err (refusal.E10 place)} (is_whole l) (λ w. whole_and_phase_fit place o (is_zero_at names m written) l left right h g w) (λ _. err_holds)

    pub combined_fits : (o : Op) (wl : Expr) (x : Operand) (wr : Expr) (y : Operand) → OperandFits slots x → OperandFits slots y
        → Holds (OperandFits slots) (combined names m place o wl x wr y)
    unfolding combined
    combined_fits o wl (operand.Value l left) wr (operand.Value r right) h g =
        two_values_fit o l left wl r right wr (result_type o l r) h g refl
    combined_fits o wl (operand.Value l left) wr (operand.Phase right) h g =
        phase_second_fits o l left wl right (phase_at names m place wr) h g
    combined_fits o wl (operand.Phase left) wr (operand.Value r right) h g =
        phase_first_fits o left (phase_at names m place wl) r right wr h g
    combined_fits o wl (operand.Phase left) wr (operand.Phase right) h g = two_phases_fit place o left right h g

  pub both_true_fit : (place : Place) (operator : InfixOperator) (x y : Operand) → OperandFits slots x → OperandFits slots y
      → Holds (OperandFits slots) (both_true place operator x y)
  unfolding both_true
  both_true_fit place operator x y h g =
      then_holds (truth_fits slots place x h) (λ a s.
      then_holds (truth_fits slots place y g) (λ b t. ok_holds (logical_fits slots (logical_of operator) a b s.0 t.0)))
