-- Loops: a `for` that ends early, one that is left from two scopes, and a `while` that runs dry.
use Rattle.std.proofs.Common.{◌≡◌, refl, [], ◌∷◌, pos, None, Some}
use denote.Hole.Carrier.{hidden}
use Rattle.qt_ring.specs.Ring.{plus, times, minus, nil, one, imaginary, the_omega}
use Rattle.qt_ring.specs.State.{zero_state, applied, project, flip, vanishes}
use Rattle.qt_root2.specs.Real.{Real, plus_real}
use Rattle.qt_mass.specs.Mass.{mass}
use Rattle.qt_value.specs.BitPlaces.{sum_below}
use Rattle.qt_value.specs.Results.{power}
use Rattle.qt_value.specs.declared.operators.Op.TheVariants as op
use Rattle.qt_value.specs.declared.operators.UnaryOp.TheVariants as unary
use Rattle.qt_value.specs.declared.types.ValueType.TheVariants as kind
use Rattle.qt_gate_calls.specs.Standard.{standard_gates}
use Rattle.qt_gate_calls.specs.declared.body.GateModifier.TheVariants as modifier
use Rattle.qt_registers.specs.declared.fixed.FixedQubit.TheVariants as fixed
use Rattle.qt_typed.specs.declared.call.TypedQubit.TheVariants as qubit
use Rattle.qt_typed.specs.declared.call.TypedQubits.TheVariants as qubits
use Rattle.qt_typed.specs.declared.expression.TypedExpr.TheBlock.{hidden-the_row-TypedExpr-0, hidden-the_row-TypedExpr-1}
use Rattle.qt_typed.specs.declared.expression.TypedExpr.TheVariants as expression
use Rattle.qt_typed.specs.declared.expression.TypedPhase.TheBlock.{hidden-the_row-TypedPhase-0}
use Rattle.qt_typed.specs.declared.expression.TypedPhase.TheVariants as phase
use Rattle.qt_typed.specs.declared.program.Typed.{Typed}
use Rattle.qt_typed.specs.declared.program.TypedParameter.TheVariants as parameter
use Rattle.qt_typed.specs.declared.statement.TypedAction.TheVariants as action
use Rattle.qt_typed.specs.declared.statement.TypedRight.TheVariants as right
use Rattle.qt_typed.specs.declared.statement.TypedSequence.TheVariants as over
use Rattle.qt_typed.specs.declared.statement.TypedStatement.TheBlock.{hidden-the_row-TypedStatement-0}
use Rattle.qt_meaning.specs.Values.{Divide, Index, Step, SameQubit, with_bit, place_in, number_of, is_true, converted_to, operated, operated_alone, slice_of, divided_exactly}
use Rattle.qt_meaning.specs.Points.{On, Ended, Faulted, Dry}
use Rattle.qt_meaning.specs.Distribution.{probability, leaves_of}
use Rattle.qt_meaning.proofs.examples.Words.{line, at_line, h, x, whole, constant, read, slot, measure, assign, when, each, while, span, output, program, signals, stores, real}

-- qubit q; bit c; uint[8] n; for int i in [1:3] { h q; c = measure q; if (c) { end; } n += 1; }
abbrev tries : Typed
tries =
    program 1 6 (output (kind.Bit 1) 0 ∷ output (kind.Uint 8) 1 ∷ [])
    (each 4 (kind.Int 64) (over.Range (whole 1) None (whole 3)) (span 2 4)
    (at_line 5 (h 0) ∷ at_line 6 (measure 0 0)
    ∷ when 7 (expression.Convert kind.Bool (read (kind.Bit 1) 0)) (at_line 7 action.End ∷ []) []
    ∷ at_line 8 (action.Update (slot (kind.Uint 8) 1) op.Add (whole 1)) ∷ []) (span 6 0) ∷ [])

never : probability tries 100 (0 ∷ 3 ∷ []) ≡ real (pos 1) (pos 0) 3
unfolding zero_state applied project flip vanishes mass plus_real standard_gates with_bit place_in number_of is_true converted_to operated operated_alone slice_of sum_below power plus times minus nil one imaginary the_omega hidden hidden-the_row-TypedExpr-0 hidden-the_row-TypedExpr-1 hidden-the_row-TypedPhase-0 hidden-the_row-TypedStatement-0
never = refl

at_once : probability tries 100 (1 ∷ 0 ∷ []) ≡ real (pos 1) (pos 0) 1
unfolding zero_state applied project flip vanishes mass plus_real standard_gates with_bit place_in number_of is_true converted_to operated operated_alone slice_of sum_below power plus times minus nil one imaginary the_omega hidden hidden-the_row-TypedExpr-0 hidden-the_row-TypedExpr-1 hidden-the_row-TypedPhase-0 hidden-the_row-TypedStatement-0
at_once = refl

third : probability tries 100 (1 ∷ 2 ∷ []) ≡ real (pos 1) (pos 0) 3
unfolding zero_state applied project flip vanishes mass plus_real standard_gates with_bit place_in number_of is_true converted_to operated operated_alone slice_of sum_below power plus times minus nil one imaginary the_omega hidden hidden-the_row-TypedExpr-0 hidden-the_row-TypedExpr-1 hidden-the_row-TypedPhase-0 hidden-the_row-TypedStatement-0
third = refl

-- int n; for int i in [0:4] { if (true) { int[8] y = 5; n += y; break; } }
abbrev left : Typed
left =
    program 0 6 (output (kind.Int 64) 0 ∷ [])
    (each 1 (kind.Int 64) (over.Range (whole 0) None (whole 4)) (span 1 4)
    (when 2 (constant kind.Bool 1)
    (at_line 3 (action.Declare (kind.Int 8) 5 (Some (right.Value (constant (kind.Int 8) 5))))
    ∷ at_line 4 (action.Update (slot (kind.Int 64) 0) op.Add (read (kind.Int 8) 5)) ∷ at_line 5 action.Break ∷ []) [] ∷ []) (span 5 1) ∷ [])

cleared : stores (leaves_of left 20) ≡ (5 ∷ 0 ∷ 0 ∷ 0 ∷ 0 ∷ 0 ∷ []) ∷ []
unfolding zero_state applied project flip vanishes mass plus_real standard_gates with_bit place_in number_of is_true converted_to operated operated_alone slice_of sum_below power plus times minus nil one imaginary the_omega hidden hidden-the_row-TypedExpr-0 hidden-the_row-TypedExpr-1 hidden-the_row-TypedPhase-0 hidden-the_row-TypedStatement-0
cleared = refl

-- while (true) { }
abbrev endless : Typed
endless = program 0 0 [] (while 1 (constant kind.Bool 1) [] ∷ [])

dry : signals (leaves_of endless 5) ≡ Dry ∷ []
unfolding zero_state applied project flip vanishes mass plus_real standard_gates with_bit place_in number_of is_true converted_to operated operated_alone slice_of sum_below power plus times minus nil one imaginary the_omega hidden hidden-the_row-TypedExpr-0 hidden-the_row-TypedExpr-1 hidden-the_row-TypedPhase-0 hidden-the_row-TypedStatement-0
dry = refl

-- int[8] n; for int[8] i in {3, 0 - 1, 2} { n = n + i; }  for bit b in "101" { n = n * 2 + b; }
abbrev members : Typed
members =
    program 0 9 (output (kind.Int 8) 0 ∷ [])
    (each 2 (kind.Int 8) (over.Set (constant (kind.Int 8) 3 ∷ expression.Binary op.Sub (whole 0) (whole 1) ∷ whole 2 ∷ [])) (span 1 5)
    (at_line 2 (assign (slot (kind.Int 8) 0) (expression.Binary op.Add (read (kind.Int 8) 0) (read (kind.Int 8) 1))) ∷ []) (span 6 0)
    ∷ each 3 (kind.Bit 1) (over.Bits 3 (constant (kind.Bit 3) 5)) (span 6 3)
    (at_line 3 (assign (slot (kind.Int 8) 0) (expression.Convert (kind.Int 8)
    (expression.Binary op.Add (expression.Binary op.Mul (read (kind.Int 8) 0) (constant (kind.Int 8) 2)) (read (kind.Bit 1) 6)))) ∷ []) (span 9 0) ∷ [])

summed : stores (leaves_of members 40) ≡ (37 ∷ 0 ∷ 0 ∷ 0 ∷ 0 ∷ 0 ∷ 0 ∷ 0 ∷ 0 ∷ []) ∷ []
unfolding zero_state applied project flip vanishes mass plus_real standard_gates with_bit place_in number_of is_true converted_to operated operated_alone slice_of sum_below power plus times minus nil one imaginary the_omega hidden hidden-the_row-TypedExpr-0 hidden-the_row-TypedExpr-1 hidden-the_row-TypedPhase-0 hidden-the_row-TypedStatement-0
summed = refl
