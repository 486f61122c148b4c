-- Where a value of a type is wanted, what is given fits and has that type.
use Rattle.std.proofs.Common.{◌≡◌, ℕ, true, not, ◌&&◌, IsTrue, ℤ, refl, sym, ap, subst, ◌∙◌}
use Rattle.std.proofs.lemmas.Bool.{false≢true}
use borrow.Author.Tests.{eqb-true}
use Rattle.qt_ring.proofs.RingLaws.{and_left}
use Rattle.qt_tree.specs.declared.expression.Expr.{Expr}
use Rattle.qt_tree.specs.declared.expression.Scalar.{Scalar}
use Rattle.qt_tree.specs.declared.place.Place.{Place}
use Rattle.qt_value.specs.Types.{has_size}
use Rattle.qt_value.specs.declared.constant.ConstValue.{ConstValue}
use Rattle.qt_value.specs.declared.constant.ConstValue.TheVariants as constant
use Rattle.qt_value.specs.declared.types.ValueType.{ValueType}
use Rattle.qt_value.specs.declared.types.ValueType.TheVariants as kind
use Rattle.qt_const_rules.specs.declared.modes.Mode.{Mode}
use Rattle.qt_code.specs.Ranges.{can_convert}
use Rattle.qt_typed.specs.declared.expression.TypedExpr.{TypedExpr}
use Rattle.qt_typing.specs.declared.names.Names.{Names}
use Rattle.qt_typing.specs.declared.operand.Operand.{Operand}
use Rattle.qt_typing.specs.declared.operand.Operand.TheVariants as operand
use Rattle.qt_typing.specs.declared.way.Way.{Way}
use Rattle.qt_typing.specs.declared.way.Way.TheVariants.{Written, Unwritten}
use Rattle.qt_typing.specs.Conversions.{as_type, converts, has_row, is_same, is_zero_at, phase_as, phase_at, rescales, truth_at, value_form, wanted, zero_as}
use Rattle.qt_typing.specs.Environment.{constant_at, type_at}
use Rattle.qt_typing_laws.specs.Fits.{ConstantFits, NamesFit, OperandFits}
use Rattle.qt_typing_laws.proofs.Constants.{ConstantIs, cast_is, type_fits, value_fits}
use Rattle.qt_typing_laws.proofs.Holding.{Holds, ok_holds, err_holds, any_holds, then_holds, answer_holds, if_holds}
use Rattle.qt_typing_laws.proofs.Sizes.{IsSized}
use Rattle.qt_typing_laws.proofs.Views.{ValueFits, convert_fits, value_sized}

pub same_type : (a b : ValueType) → is_same a b ≡ true → a ≡ b
unfolding is_same
same_type kind.Bool kind.Bool e = refl
same_type (kind.Bit n) (kind.Bit m) e = ap kind.Bit (eqb-true n m e)
same_type (kind.Int n) (kind.Int m) e = ap kind.Int (eqb-true n m e)
same_type (kind.Uint n) (kind.Uint m) e = ap kind.Uint (eqb-true n m e)
same_type (kind.Angle n) (kind.Angle m) e = ap kind.Angle (eqb-true n m e)
same_type kind.Phase kind.Phase e = refl
same_type _ _ e = absurd (false≢true e)

has_conversion : (w : Way) (from to : ValueType) → converts w from to ≡ true → has_row from to ≡ true
unfolding converts
has_conversion Written from to e = e
has_conversion Unwritten from to e = and_left (has_row from to) (not (rescales from to)) e

convertible : (w : Way) (from to : ValueType) → IsSized from → converts w from to ≡ true → IsTrue (can_convert from to)
convertible w from to h e = ap (λ t. t && has_row from to) h ∙ has_conversion w from to e

module _ (slots : ℕ) where
  as_same : (from to : ValueType) (form : TypedExpr) → ValueFits slots from form → is_same from to ≡ true → ValueFits slots to form
  as_same from to form h e = subst (λ k. ValueFits slots k form) (same_type from to e) h

  as_converted : (w : Way) (from to : ValueType) (form : TypedExpr) → ValueFits slots from form → converts w from to ≡ true
      → IsTrue (can_convert from to)
  as_converted w from to form h e = convertible w from to (value_sized slots from form h) e

  pub as_type_fits : (place : Place) (from to : ValueType) (form : TypedExpr) → ValueFits slots from form
      → Holds (ValueFits slots to) (as_type place to from form)
  unfolding as_type
  as_type_fits place from to form h =
      if_holds (is_same from to) (λ e. ok_holds (as_same from to form h e)) (λ _.
      if_holds (converts Unwritten from to)
      (λ e. ok_holds (convert_fits slots from to form h (as_converted Unwritten from to form h e))) (λ _. err_holds))

  pub truth_fits : (place : Place) (x : Operand) → OperandFits slots x → Holds (ValueFits slots kind.Bool) (truth_at place x)
  unfolding truth_at
  truth_fits place (operand.Value from form) h = as_type_fits place from kind.Bool form h
  truth_fits place (operand.Phase form) h = err_holds

  value_form_fits : (place : Place) (to : ValueType) (c : ConstValue) → IsSized to → ConstantIs to c
      → Holds (ValueFits slots to) (value_form place c)
  value_form_fits place to (constant.Value x) h e = ok_holds (subst (λ k. has_size k ≡ true) (sym e) h, e)
  value_form_fits place to (constant.Phase p) h e = err_holds

  pub phase_as_fits : (place : Place) (to : ValueType) (p : ℤ) → Holds (ValueFits slots to) (phase_as place to p)
  unfolding phase_as
  phase_as_fits place to p =
      if_holds (has_size to)
      (λ h. then_holds (answer_holds place (cast_is to (constant.Phase p))) (λ c e. value_form_fits place to c h e))
      (λ _. err_holds)

  module _ (names : Names) where
    zero_as_fits : (m : Mode) (place : Place) (to : ValueType) (written : Expr)
        → Holds (ValueFits slots to) (zero_as names m place to written)
    unfolding zero_as
    zero_as_fits m place (kind.Angle n) written =
        if_holds (has_size (kind.Angle n) && is_zero_at names m written)
        (λ e. ok_holds (and_left (has_size (kind.Angle n)) (is_zero_at names m written) e, refl)) (λ _. err_holds)
    zero_as_fits m place _ written = err_holds

    pub wanted_fits : (w : Way) (m : Mode) (place : Place) (to : ValueType) (written : Expr) (x : Operand) → OperandFits slots x
        → Holds (ValueFits slots to) (wanted w names m place to written x)
    unfolding wanted
    wanted_fits w m place to written (operand.Value from form) h =
        if_holds (is_same from to) (λ e. ok_holds (as_same from to form h e)) (λ _.
        if_holds (converts w from to) (λ e. ok_holds (convert_fits slots from to form h (as_converted w from to form h e)))
        (λ _. zero_as_fits m place to written))
    wanted_fits w m place to written (operand.Phase form) h =
        then_holds {r = phase_at names m place written} any_holds (λ p _. phase_as_fits place to p)

module _ (slots : ℕ) (names : Names) (fits : NamesFit slots names) where
  pub constant_fits : (m : Mode) (place : Place) (expr : Expr) → Holds ConstantFits (constant_at names m place expr)
  unfolding constant_at
  constant_fits m place expr = answer_holds place (value_fits names.consts fits.1 expr m)

  pub type_sized_at : (m : Mode) (place : Place) (scalar : Scalar) → Holds IsSized (type_at names m place scalar)
  unfolding type_at
  type_sized_at m place scalar = answer_holds place (type_fits names.consts fits.1 scalar m)
