-- Gates at angles: constant ones, ones of the run, modifiers and inputs.
use Rattle.std.proofs.Common.{◌≡◌, refl, [], ◌∷◌, pos, negsuc, ◌^◌, None, Some}
use denote.Hole.Carrier.{hidden}
use Rattle.qt_ring.specs.Ring.{plus, times, minus, conj, nil, one, imaginary, the_omega}
use Rattle.qt_ring.specs.State.{zero_state, applied, project, flip, vanishes}
use Rattle.qt_root2.specs.Real.{Real, plus_real}
use Rattle.qt_mass.specs.Mass.{mass}
use Rattle.qt_value.specs.BitPlaces.{sum_below}
use Rattle.qt_value.specs.Results.{power}
use Rattle.qt_value.specs.declared.operators.Op.TheVariants as op
use Rattle.qt_value.specs.declared.operators.UnaryOp.TheVariants as unary
use Rattle.qt_value.specs.declared.types.ValueType.TheVariants as kind
use Rattle.qt_gate_calls.specs.Standard.{standard_gates}
use Rattle.qt_gate_calls.specs.declared.angle.Angle.TheBlock.{hidden-the_row-Angle-0}
use Rattle.qt_gate_calls.specs.declared.body.GateModifier.TheVariants as modifier
use Rattle.qt_registers.specs.declared.fixed.FixedQubit.TheVariants as fixed
use Rattle.qt_typed.specs.declared.call.TypedQubit.TheVariants as qubit
use Rattle.qt_typed.specs.declared.call.TypedQubits.TheVariants as qubits
use Rattle.qt_typed.specs.declared.expression.TypedExpr.TheBlock.{hidden-the_row-TypedExpr-0, hidden-the_row-TypedExpr-1}
use Rattle.qt_typed.specs.declared.expression.TypedExpr.TheVariants as expression
use Rattle.qt_typed.specs.declared.expression.TypedPhase.TheBlock.{hidden-the_row-TypedPhase-0}
use Rattle.qt_typed.specs.declared.expression.TypedPhase.TheVariants as phase
use Rattle.qt_typed.specs.declared.program.Typed.{Typed}
use Rattle.qt_typed.specs.declared.program.TypedParameter.TheVariants as parameter
use Rattle.qt_typed.specs.declared.statement.TypedAction.TheVariants as action
use Rattle.qt_typed.specs.declared.statement.TypedRight.TheVariants as right
use Rattle.qt_typed.specs.declared.statement.TypedSequence.TheVariants as over
use Rattle.qt_typed.specs.declared.statement.TypedStatement.TheBlock.{hidden-the_row-TypedStatement-0}
use Rattle.qt_meaning.specs.Values.{Divide, Index, Step, SameQubit, with_bit, place_in, number_of, is_true, converted_to, operated, operated_alone, slice_of, divided_exactly}
use Rattle.qt_meaning.specs.Points.{On, Ended, Faulted, Dry}
use Rattle.qt_meaning.specs.Distribution.{probability, leaves_of}
use Rattle.qt_meaning.proofs.examples.Words.{line, at_line, h, t, x, q, call, gate, read, constant, slot, bit_in, measure, measure_to, reset, output, program, real}

-- qubit[2] q; bit c; h q[0]; x q[1]; ctrl @ pow(-2) @ t q[0], q[1]; s q[0]; h q[0]; c = measure q[0];
abbrev undone : Typed
undone =
    program 2 1 (output (kind.Bit 1) 0 ∷ [])
    (at_line 4 (h 0) ∷ at_line 5 (x 1) ∷ at_line 6 (call (modifier.Ctrl ∷ modifier.Pow (negsuc 1) ∷ []) 6 [] (q 0 ∷ q 1 ∷ []))
    ∷ at_line 7 (gate 5 (q 0 ∷ [])) ∷ at_line 8 (h 0) ∷ at_line 9 (measure 0 0) ∷ [])

surely_zero : probability undone 20 (0 ∷ []) ≡ real (pos 1) (pos 0) 0
unfolding zero_state applied project flip vanishes mass plus_real standard_gates with_bit place_in number_of is_true converted_to operated operated_alone slice_of sum_below power plus times minus conj nil one imaginary the_omega hidden hidden-the_row-Angle-0 hidden-the_row-TypedExpr-0 hidden-the_row-TypedExpr-1 hidden-the_row-TypedPhase-0 hidden-the_row-TypedStatement-0
surely_zero = refl

-- qubit[2] q; bit c; h q[0]; crz(pi/2) q[0], q[1]; h q[0]; c = measure q[0];
abbrev kicked : Typed
kicked =
    program 2 1 (output (kind.Bit 1) 0 ∷ [])
    (at_line 4 (h 0) ∷ at_line 5 (call [] 26 (phase.Fixed (pos (2 ^ 31)) ∷ []) (q 0 ∷ q 1 ∷ [])) ∷ at_line 6 (h 0) ∷ at_line 7 (measure 0 0) ∷ [])

kicked_zero : probability kicked 20 (0 ∷ []) ≡ real (pos 2) (pos 1) 2
unfolding zero_state applied project flip vanishes mass plus_real standard_gates with_bit place_in number_of is_true converted_to operated operated_alone slice_of sum_below power plus times minus conj nil one imaginary the_omega hidden hidden-the_row-Angle-0 hidden-the_row-TypedExpr-0 hidden-the_row-TypedExpr-1 hidden-the_row-TypedPhase-0 hidden-the_row-TypedStatement-0
kicked_zero = refl

-- input angle[3] a; qubit q; bit c; h q; p(a) q; h q; c = measure q; with a = 3
abbrev given : Typed
given =
    record (program 1 2 (output (kind.Bit 1) 1 ∷ [])
    (at_line 4 (h 0) ∷ at_line 5 (call [] 1 (phase.Angle (read (kind.Angle 3) 0) ∷ []) (q 0 ∷ [])) ∷ at_line 6 (h 0) ∷ at_line 7 (measure 0 1) ∷ [])) {
      start = record { slot = 0; bits = 3 } ∷ [];
    }

given_zero : probability given 20 (0 ∷ []) ≡ real (pos 2) (negsuc 0) 2
unfolding zero_state applied project flip vanishes mass plus_real standard_gates with_bit place_in number_of is_true converted_to operated operated_alone slice_of sum_below power plus times minus conj nil one imaginary the_omega hidden hidden-the_row-Angle-0 hidden-the_row-TypedExpr-0 hidden-the_row-TypedExpr-1 hidden-the_row-TypedPhase-0 hidden-the_row-TypedStatement-0
given_zero = refl

-- phase estimation of t, bit by bit, with the angle of what was measured before taken back
abbrev estimated : Typed
estimated =
    program 2 1 (output (kind.Angle 3) 0 ∷ [])
    (at_line 4 (x 1) ∷ at_line 5 (h 0) ∷ at_line 6 (call (modifier.Ctrl ∷ modifier.Pow (pos 4) ∷ []) 6 [] (q 0 ∷ q 1 ∷ []))
    ∷ at_line 7 (h 0) ∷ at_line 8 (measure_to 0 (kind.Angle 3) 0 0) ∷ at_line 9 (reset 0)
    ∷ at_line 10 (h 0) ∷ at_line 11 (call (modifier.Ctrl ∷ modifier.Pow (pos 2) ∷ []) 6 [] (q 0 ∷ q 1 ∷ []))
    ∷ at_line 12 (call [] 1 (phase.Angle (expression.Unary unary.Neg (expression.Binary op.Shl (read (kind.Angle 3) 0) (constant (kind.Int 64) 1))) ∷ []) (q 0 ∷ []))
    ∷ at_line 13 (h 0) ∷ at_line 14 (measure_to 0 (kind.Angle 3) 0 1) ∷ at_line 15 (reset 0)
    ∷ at_line 16 (h 0) ∷ at_line 17 (call (modifier.Ctrl ∷ []) 6 [] (q 0 ∷ q 1 ∷ []))
    ∷ at_line 18 (call [] 1 (phase.Angle (expression.Unary unary.Neg (read (kind.Angle 3) 0)) ∷ []) (q 0 ∷ []))
    ∷ at_line 19 (h 0) ∷ at_line 20 (measure_to 0 (kind.Angle 3) 0 2) ∷ [])

one_eighth : probability estimated 40 (1 ∷ []) ≡ real (pos 1) (pos 0) 0
unfolding zero_state applied project flip vanishes mass plus_real standard_gates with_bit place_in number_of is_true converted_to operated operated_alone slice_of sum_below power plus times minus conj nil one imaginary the_omega hidden hidden-the_row-Angle-0 hidden-the_row-TypedExpr-0 hidden-the_row-TypedExpr-1 hidden-the_row-TypedPhase-0 hidden-the_row-TypedStatement-0
one_eighth = refl
