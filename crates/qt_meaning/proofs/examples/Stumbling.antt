-- Faults: in one branch alone, two qubits that are one, and indexes and steps that don't fit.
use Rattle.std.proofs.Common.{◌≡◌, refl, [], ◌∷◌, pos, None, Some}
use denote.Hole.Carrier.{hidden}
use Rattle.qt_ring.specs.Ring.{plus, times, minus, nil, one, imaginary, the_omega}
use Rattle.qt_ring.specs.State.{zero_state, applied, project, flip, vanishes}
use Rattle.qt_root2.specs.Real.{Real, plus_real}
use Rattle.qt_mass.specs.Mass.{mass}
use Rattle.qt_value.specs.BitPlaces.{sum_below}
use Rattle.qt_value.specs.Results.{power}
use Rattle.qt_value.specs.declared.operators.Op.TheVariants as op
use Rattle.qt_value.specs.declared.operators.UnaryOp.TheVariants as unary
use Rattle.qt_value.specs.declared.types.ValueType.TheVariants as kind
use Rattle.qt_gate_calls.specs.Standard.{standard_gates}
use Rattle.qt_gate_calls.specs.declared.body.GateModifier.TheVariants as modifier
use Rattle.qt_registers.specs.declared.fixed.FixedQubit.TheVariants as fixed
use Rattle.qt_typed.specs.declared.call.TypedQubit.TheVariants as qubit
use Rattle.qt_typed.specs.declared.call.TypedQubits.TheVariants as qubits
use Rattle.qt_typed.specs.declared.expression.TypedExpr.TheBlock.{hidden-the_row-TypedExpr-0, hidden-the_row-TypedExpr-1}
use Rattle.qt_typed.specs.declared.expression.TypedExpr.TheVariants as expression
use Rattle.qt_typed.specs.declared.expression.TypedPhase.TheBlock.{hidden-the_row-TypedPhase-0}
use Rattle.qt_typed.specs.declared.expression.TypedPhase.TheVariants as phase
use Rattle.qt_typed.specs.declared.program.Typed.{Typed}
use Rattle.qt_typed.specs.declared.program.TypedParameter.TheVariants as parameter
use Rattle.qt_typed.specs.declared.statement.TypedAction.TheVariants as action
use Rattle.qt_typed.specs.declared.statement.TypedRight.TheVariants as right
use Rattle.qt_typed.specs.declared.statement.TypedSequence.TheVariants as over
use Rattle.qt_typed.specs.declared.statement.TypedStatement.TheBlock.{hidden-the_row-TypedStatement-0}
use Rattle.qt_meaning.specs.Values.{Divide, Index, Step, SameQubit, with_bit, place_in, number_of, is_true, converted_to, operated, operated_alone, slice_of, divided_exactly}
use Rattle.qt_meaning.specs.Points.{On, Ended, Faulted, Dry}
use Rattle.qt_meaning.specs.Distribution.{probability, leaves_of}
use Rattle.qt_meaning.proofs.examples.Words.{line, at_line, h, q, gate, whole, read, slot, measure, assign, each, span, output, program, signals, real}

-- qubit q; bit c; int y; h q; c = measure q; y = 6 / c;
abbrev divided : Typed
divided =
    program 1 2 (output (kind.Bit 1) 0 ∷ output (kind.Int 64) 1 ∷ [])
    (at_line 4 (h 0) ∷ at_line 5 (measure 0 0)
    ∷ at_line 6 (assign (slot (kind.Int 64) 1) (expression.Convert (kind.Int 64) (expression.Binary op.Div (whole 6) (read (kind.Bit 1) 0)))) ∷ [])

by_zero : signals (leaves_of divided 20) ≡ Faulted Divide (line 6) ∷ On ∷ []
unfolding zero_state applied project flip vanishes mass plus_real standard_gates with_bit place_in number_of is_true converted_to operated operated_alone slice_of sum_below power plus times minus nil one imaginary the_omega hidden hidden-the_row-TypedExpr-0 hidden-the_row-TypedExpr-1 hidden-the_row-TypedPhase-0 hidden-the_row-TypedStatement-0
by_zero = refl

by_one : probability divided 20 (1 ∷ 6 ∷ []) ≡ real (pos 1) (pos 0) 1
unfolding zero_state applied project flip vanishes mass plus_real standard_gates with_bit place_in number_of is_true converted_to operated operated_alone slice_of sum_below power plus times minus nil one imaginary the_omega hidden hidden-the_row-TypedExpr-0 hidden-the_row-TypedExpr-1 hidden-the_row-TypedPhase-0 hidden-the_row-TypedStatement-0
by_one = refl

-- qubit[2] q; int i; cx q[0], q[i];
abbrev twice : Typed
twice =
    program 2 1 []
    (at_line 4 (gate 18 (q 0 ∷ qubit.Indexed (fixed.Number 0 ∷ fixed.Number 1 ∷ []) (read (kind.Int 64) 0) ∷ [])) ∷ [])

same : signals (leaves_of twice 20) ≡ Faulted SameQubit (line 4) ∷ []
unfolding zero_state applied project flip vanishes mass plus_real standard_gates with_bit place_in number_of is_true converted_to operated operated_alone slice_of sum_below power plus times minus nil one imaginary the_omega hidden hidden-the_row-TypedExpr-0 hidden-the_row-TypedExpr-1 hidden-the_row-TypedPhase-0 hidden-the_row-TypedStatement-0
same = refl

-- x q[i + 2];
abbrev far : Typed
far =
    program 2 1 []
    (at_line 4 (gate 9 (qubit.Indexed (fixed.Number 0 ∷ fixed.Number 1 ∷ []) (expression.Binary op.Add (read (kind.Int 64) 0) (whole 2)) ∷ [])) ∷ [])

out_of_range : signals (leaves_of far 20) ≡ Faulted Index (line 4) ∷ []
unfolding zero_state applied project flip vanishes mass plus_real standard_gates with_bit place_in number_of is_true converted_to operated operated_alone slice_of sum_below power plus times minus nil one imaginary the_omega hidden hidden-the_row-TypedExpr-0 hidden-the_row-TypedExpr-1 hidden-the_row-TypedPhase-0 hidden-the_row-TypedStatement-0
out_of_range = refl

-- for int j in [0:i:3] { }
abbrev standing : Typed
standing = program 0 5 [] (each 4 (kind.Int 64) (over.Range (whole 0) (Some (read (kind.Int 64) 0)) (whole 3)) (span 1 4) [] (span 5 0) ∷ [])

no_step : signals (leaves_of standing 20) ≡ Faulted Step (line 4) ∷ []
unfolding zero_state applied project flip vanishes mass plus_real standard_gates with_bit place_in number_of is_true converted_to operated operated_alone slice_of sum_below power plus times minus nil one imaginary the_omega hidden hidden-the_row-TypedExpr-0 hidden-the_row-TypedExpr-1 hidden-the_row-TypedPhase-0 hidden-the_row-TypedStatement-0
no_step = refl
