-- The angles in a gate's body (OpenQASM 3.0 live specification, "Gates", hierarchically defined unitary gates; Cross et al. 2022).
-- What is known of an angle follows from what is known of the gate's parameters.
use Rattle.std.specs.Prelude.{List, Some}
use Rattle.qt_gate_calls.specs.declared.angle.Angle.{Angle, end_of-Angle, more_of-Angle}
use Rattle.qt_gate_calls.specs.declared.angle.Angle.TheVariants.{Units, Parameter, Sum', Difference', Opposite', Product', Quotient'}
use Rattle.qt_gate_calls.specs.Units.{KnownUnits, of_one, of_two, sum_of, difference_of, negative_of, product_of, quotient_of, nth_known}

abbrev pub value : List KnownUnits → Angle → KnownUnits
value given (Units units) = Some units
value given (Parameter number) = nth_known number given
value given (Sum' k (more_of-Angle a end_of-Angle) m (more_of-Angle b end_of-Angle)) = of_two sum_of (value given a) (value given b)
value given (Difference' k (more_of-Angle a end_of-Angle) m (more_of-Angle b end_of-Angle)) = of_two difference_of (value given a) (value given b)
value given (Opposite' k (more_of-Angle a end_of-Angle)) = of_one negative_of (value given a)
value given (Product' k (more_of-Angle a end_of-Angle) factor) = of_one (product_of factor) (value given a)
value given (Quotient' k (more_of-Angle a end_of-Angle) divisor) = of_one (quotient_of divisor) (value given a)
