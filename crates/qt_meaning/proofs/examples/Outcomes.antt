-- Two qubits, feedback and reset.
use Rattle.std.proofs.Common.{◌≡◌, refl, [], ◌∷◌, pos, None}
use Rattle.qt_ring.specs.Ring.{plus, times, minus, nil, one, imaginary, the_omega}
use Rattle.qt_ring.specs.State.{zero_state, applied, project, flip, vanishes}
use Rattle.qt_root2.specs.Real.{Real, plus_real}
use Rattle.qt_mass.specs.Mass.{mass}
use Rattle.qt_value.specs.BitPlaces.{sum_below}
use Rattle.qt_value.specs.declared.types.ValueType.TheVariants as kind
use Rattle.qt_gate_calls.specs.Standard.{standard_gates}
use Rattle.qt_typed.specs.declared.expression.TypedExpr.TheVariants as expression
use denote.Hole.Carrier.{hidden}
use Rattle.qt_typed.specs.declared.expression.TypedExpr.TheBlock.{hidden-the_row-TypedExpr-0, hidden-the_row-TypedExpr-1}
use Rattle.qt_typed.specs.declared.statement.TypedStatement.TheBlock.{hidden-the_row-TypedStatement-0}
use Rattle.qt_typed.specs.declared.program.Typed.{Typed}
use Rattle.qt_typed.specs.declared.statement.TypedAction.TheVariants as action
use Rattle.qt_meaning.specs.Values.{with_bit, place_in, number_of, is_true, converted_to}
use Rattle.qt_meaning.specs.Distribution.{probability}
use Rattle.qt_meaning.proofs.examples.Words.{at_line, h, t, x, z, cx, one as the_qubit, bit_of, read, measure, measure_to, reset, when, output, program, real}

-- bit[2] c; qubit[2] q; h q[0]; cx q[0], q[1]; c[0] = measure q[0]; c[1] = measure q[1];
abbrev bell : Typed
bell =
    program 2 1 (output (kind.Bit 2) 0 ∷ [])
    (at_line 3 (h 0) ∷ at_line 4 (cx 0 1) ∷ at_line 5 (measure_to 0 (kind.Bit 2) 0 0) ∷ at_line 6 (measure_to 1 (kind.Bit 2) 0 1) ∷ [])

both_zero : probability bell 10 (0 ∷ []) ≡ real (pos 1) (pos 0) 1
unfolding zero_state applied project vanishes mass plus_real standard_gates with_bit place_in number_of plus times minus nil one imaginary the_omega
both_zero = refl

both_one : probability bell 10 (3 ∷ []) ≡ real (pos 1) (pos 0) 1
unfolding zero_state applied project vanishes mass plus_real standard_gates with_bit place_in number_of plus times minus nil one imaginary the_omega
both_one = refl

differ : probability bell 10 (1 ∷ []) ≡ real (pos 0) (pos 0) 0
unfolding zero_state applied project vanishes mass plus_real standard_gates with_bit place_in number_of plus times minus nil one imaginary the_omega
differ = refl

-- h q[0]; cx q[0], q[1]; c[0] = measure q[0]; if (c[0]) { x q[1]; } c[1] = measure q[1];
abbrev corrected : Typed
corrected =
    program 2 1 (output (kind.Bit 2) 0 ∷ [])
    (at_line 3 (h 0) ∷ at_line 4 (cx 0 1) ∷ at_line 5 (measure_to 0 (kind.Bit 2) 0 0)
    ∷ when 6 (expression.Convert kind.Bool (bit_of (kind.Bit 2) 0 0)) (at_line 6 (x 1) ∷ []) []
    ∷ at_line 7 (measure_to 1 (kind.Bit 2) 0 1) ∷ [])

corrected_one : probability corrected 10 (1 ∷ []) ≡ real (pos 1) (pos 0) 1
unfolding zero_state applied project vanishes mass plus_real standard_gates with_bit hidden hidden-the_row-TypedExpr-0 hidden-the_row-TypedExpr-1 hidden-the_row-TypedStatement-0 place_in number_of is_true converted_to plus times minus nil one imaginary the_omega
corrected_one = refl

-- qubit q; bit c; h q; measure q; reset q; c = measure q;
abbrev forgotten : Typed
forgotten =
    program 1 1 (output (kind.Bit 1) 0 ∷ [])
    (at_line 3 (h 0) ∷ at_line 4 (action.Measure (the_qubit 0) None) ∷ at_line 5 (reset 0) ∷ at_line 6 (measure 0 0) ∷ [])

surely_zero : probability forgotten 10 (0 ∷ []) ≡ real (pos 1) (pos 0) 0
unfolding zero_state applied project flip vanishes mass plus_real standard_gates with_bit plus times minus nil one imaginary the_omega
surely_zero = refl

-- qubit[3] q; bit a; bit b; bit r; a state on q[0], a Bell pair on the others, and the state comes out of q[2]
abbrev teleported : Typed
teleported =
    program 3 3 (output (kind.Bit 1) 2 ∷ [])
    (at_line 3 (h 0) ∷ at_line 3 (t 0) ∷ at_line 3 (h 0) ∷ at_line 4 (h 1) ∷ at_line 4 (cx 1 2) ∷ at_line 5 (cx 0 1) ∷ at_line 5 (h 0)
    ∷ at_line 6 (measure 0 0) ∷ at_line 7 (measure 1 1)
    ∷ when 8 (expression.Convert kind.Bool (read (kind.Bit 1) 1)) (at_line 8 (x 2) ∷ []) []
    ∷ when 9 (expression.Convert kind.Bool (read (kind.Bit 1) 0)) (at_line 9 (z 2) ∷ []) []
    ∷ at_line 10 (measure 2 2) ∷ [])

teleported_zero : probability teleported 20 (0 ∷ []) ≡ real (pos 2) (pos 1) 2
unfolding zero_state applied project vanishes mass plus_real standard_gates with_bit hidden hidden-the_row-TypedExpr-0 hidden-the_row-TypedExpr-1 hidden-the_row-TypedStatement-0 place_in number_of is_true converted_to plus times minus nil one imaginary the_omega
teleported_zero = refl
