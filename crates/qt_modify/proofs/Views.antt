-- Definitions over angles at the forms of an angle, as the program matches on them.
use Rattle.std.proofs.Common.{◌≡◌, ℕ, List, sym, ap, ◌∙◌}
use Rattle.std.specs.Prelude.{ℤ, Bool}
use Rattle.qt_gate_calls.specs.declared.angle.Angle.{Angle, roll-Angle}
use Rattle.qt_gate_calls.specs.declared.angle.Angle.TheOpen as o
use Rattle.qt_gate_calls.specs.declared.angle.Angle.TheVariants as angle
use Rattle.qt_gate_calls.specs.declared.angle.Angle.TheFolds.{fold-roll-Angle, map-Angle}
use Rattle.qt_primitives.specs.declared.unit.Argument.{Argument}
use Rattle.qt_modify.specs.Reckoning.{Reckoner, reckoned_form, reckoned}
use Rattle.qt_modify.specs.Needs.{occurs_in_form, occurs}

module _ (given : List Argument) where
  reckoned_rolls : (x : o.Angle-F Angle)
      → reckoned given (roll-Angle x) ≡ reckoned_form given (map-Angle Angle Reckoner (reckoned given) x)
  reckoned_rolls = fold-roll-Angle Reckoner (reckoned_form given)

  pub units_reckoned : (units : ℤ) → reckoned given (angle.Units units)
      ≡ reckoned_form given (o.Units units)
  units_reckoned units = ap (reckoned given) (sym (angle.rolls-Units units)) ∙ reckoned_rolls (o.Units units)

  pub parameter_reckoned : (number : ℕ) → reckoned given (angle.Parameter number)
      ≡ reckoned_form given (o.Parameter number)
  parameter_reckoned number = ap (reckoned given) (sym (angle.rolls-Parameter number)) ∙ reckoned_rolls (o.Parameter number)

  pub sum_reckoned : (a b : Angle) → reckoned given (angle.Sum a b)
      ≡ reckoned_form given (o.Sum (reckoned given a) (reckoned given b))
  sum_reckoned a b = ap (reckoned given) (sym (angle.rolls-Sum a b)) ∙ reckoned_rolls (o.Sum a b)

  pub difference_reckoned : (a b : Angle) → reckoned given (angle.Difference a b)
      ≡ reckoned_form given (o.Difference (reckoned given a) (reckoned given b))
  difference_reckoned a b = ap (reckoned given) (sym (angle.rolls-Difference a b)) ∙ reckoned_rolls (o.Difference a b)

  pub opposite_reckoned : (a : Angle) → reckoned given (angle.Opposite a)
      ≡ reckoned_form given (o.Opposite (reckoned given a))
  opposite_reckoned a = ap (reckoned given) (sym (angle.rolls-Opposite a)) ∙ reckoned_rolls (o.Opposite a)

  pub product_reckoned : (a : Angle) (factor : ℤ) → reckoned given (angle.Product a factor)
      ≡ reckoned_form given (o.Product (reckoned given a) factor)
  product_reckoned a factor = ap (reckoned given) (sym (angle.rolls-Product a factor)) ∙ reckoned_rolls (o.Product a factor)

  pub quotient_reckoned : (a : Angle) (divisor : ℤ) → reckoned given (angle.Quotient a divisor)
      ≡ reckoned_form given (o.Quotient (reckoned given a) divisor)
  quotient_reckoned a divisor = ap (reckoned given) (sym (angle.rolls-Quotient a divisor)) ∙ reckoned_rolls (o.Quotient a divisor)

pub ruleset angles = (
  units_reckoned,
  parameter_reckoned,
  sum_reckoned,
  difference_reckoned,
  opposite_reckoned,
  product_reckoned,
  quotient_reckoned,
)

occurs_rolls : (x : o.Angle-F Angle) → occurs (roll-Angle x) ≡ occurs_in_form (map-Angle Angle (ℕ → Bool) occurs x)
occurs_rolls = fold-roll-Angle (ℕ → Bool) occurs_in_form

pub units_occurs : (units : ℤ) → occurs (angle.Units units)
    ≡ occurs_in_form (o.Units units)
units_occurs units = ap (occurs) (sym (angle.rolls-Units units)) ∙ occurs_rolls (o.Units units)

pub parameter_occurs : (number : ℕ) → occurs (angle.Parameter number)
    ≡ occurs_in_form (o.Parameter number)
parameter_occurs number = ap (occurs) (sym (angle.rolls-Parameter number)) ∙ occurs_rolls (o.Parameter number)

pub sum_occurs : (a b : Angle) → occurs (angle.Sum a b)
    ≡ occurs_in_form (o.Sum (occurs a) (occurs b))
sum_occurs a b = ap (occurs) (sym (angle.rolls-Sum a b)) ∙ occurs_rolls (o.Sum a b)

pub difference_occurs : (a b : Angle) → occurs (angle.Difference a b)
    ≡ occurs_in_form (o.Difference (occurs a) (occurs b))
difference_occurs a b = ap (occurs) (sym (angle.rolls-Difference a b)) ∙ occurs_rolls (o.Difference a b)

pub opposite_occurs : (a : Angle) → occurs (angle.Opposite a)
    ≡ occurs_in_form (o.Opposite (occurs a))
opposite_occurs a = ap (occurs) (sym (angle.rolls-Opposite a)) ∙ occurs_rolls (o.Opposite a)

pub product_occurs : (a : Angle) (factor : ℤ) → occurs (angle.Product a factor)
    ≡ occurs_in_form (o.Product (occurs a) factor)
product_occurs a factor = ap (occurs) (sym (angle.rolls-Product a factor)) ∙ occurs_rolls (o.Product a factor)

pub quotient_occurs : (a : Angle) (divisor : ℤ) → occurs (angle.Quotient a divisor)
    ≡ occurs_in_form (o.Quotient (occurs a) divisor)
quotient_occurs a divisor = ap (occurs) (sym (angle.rolls-Quotient a divisor)) ∙ occurs_rolls (o.Quotient a divisor)

pub ruleset parameters = (
  units_occurs,
  parameter_occurs,
  sum_occurs,
  difference_occurs,
  opposite_occurs,
  product_occurs,
  quotient_occurs,
)
