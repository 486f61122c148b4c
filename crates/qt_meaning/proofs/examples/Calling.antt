-- Subroutines: a result, a register as a parameter, and registers in a gate call.
use Rattle.std.proofs.Common.{◌≡◌, refl, [], ◌∷◌, pos, None, Some}
use denote.Hole.Carrier.{hidden}
use Rattle.qt_ring.specs.Ring.{plus, times, minus, nil, one, imaginary, the_omega}
use Rattle.qt_ring.specs.State.{zero_state, applied, project, flip, vanishes}
use Rattle.qt_root2.specs.Real.{Real, plus_real}
use Rattle.qt_mass.specs.Mass.{mass}
use Rattle.qt_value.specs.BitPlaces.{sum_below}
use Rattle.qt_value.specs.Results.{power}
use Rattle.qt_value.specs.declared.operators.Op.TheVariants as op
use Rattle.qt_value.specs.declared.operators.UnaryOp.TheVariants as unary
use Rattle.qt_value.specs.declared.types.ValueType.TheVariants as kind
use Rattle.qt_gate_calls.specs.Standard.{standard_gates}
use Rattle.qt_gate_calls.specs.declared.body.GateModifier.TheVariants as modifier
use Rattle.qt_registers.specs.declared.fixed.FixedQubit.TheVariants as fixed
use Rattle.qt_typed.specs.declared.call.TypedQubit.TheVariants as qubit
use Rattle.qt_typed.specs.declared.call.TypedQubits.TheVariants as qubits
use Rattle.qt_typed.specs.declared.expression.TypedExpr.TheBlock.{hidden-the_row-TypedExpr-0, hidden-the_row-TypedExpr-1}
use Rattle.qt_typed.specs.declared.expression.TypedExpr.TheVariants as expression
use Rattle.qt_typed.specs.declared.expression.TypedPhase.TheBlock.{hidden-the_row-TypedPhase-0}
use Rattle.qt_typed.specs.declared.expression.TypedPhase.TheVariants as phase
use Rattle.qt_typed.specs.declared.program.Typed.{Typed}
use Rattle.qt_typed.specs.declared.program.TypedParameter.TheVariants as parameter
use Rattle.qt_typed.specs.declared.statement.TypedAction.TheVariants as action
use Rattle.qt_typed.specs.declared.statement.TypedRight.TheVariants as right
use Rattle.qt_typed.specs.declared.statement.TypedSequence.TheVariants as over
use Rattle.qt_typed.specs.declared.statement.TypedStatement.TheBlock.{hidden-the_row-TypedStatement-0}
use Rattle.qt_meaning.specs.Values.{Divide, Index, Step, SameQubit, with_bit, place_in, number_of, is_true, converted_to, operated, operated_alone, slice_of, divided_exactly}
use Rattle.qt_meaning.specs.Points.{On, Ended, Faulted, Dry}
use Rattle.qt_meaning.specs.Distribution.{probability, leaves_of}
use Rattle.qt_typed.specs.declared.program.TypedSubroutine.{TypedSubroutine}
use Rattle.qt_gate_calls.specs.Standard.{standard_bodies}
use Rattle.qt_gate_calls.specs.declared.body.Called.TheVariants as called
use Rattle.qt_meaning.proofs.examples.Words.{line, at_line, h, x, cx, q, gate, whole, read, slot, bit_in, assign, when, span, output, program, real}

-- def parity(qubit[2] p, bit b) -> bit { h p; cx p[0], p[1]; bit[2] c = measure p; if (b) { return c[0] ^ c[1]; } }
abbrev parity : TypedSubroutine
parity =
    record {
      parameters = parameter.Register 1 2 ∷ parameter.Value (kind.Bit 1) 2 ∷ [];
      result = Some (kind.Bit 1);
      slots = 4;
      body =
          at_line 2 (action.Broadcast (record {
            place = line 2;
            used = record { gates = standard_bodies; modifiers = []; gate = called.Gate 11; arguments = [] };
            operands = qubits.Register (fixed.OfParameter 0 0 ∷ fixed.OfParameter 0 1 ∷ []) ∷ [];
            size = 2;
          }))
          ∷ at_line 3 (gate 18 (qubit.Fixed (fixed.OfParameter 0 0) ∷ qubit.Fixed (fixed.OfParameter 0 1) ∷ []))
          ∷ at_line 4 (action.Declare (kind.Bit 2) 3 (Some (right.Measure (qubits.Register (fixed.OfParameter 0 0 ∷ fixed.OfParameter 0 1 ∷ [])))))
          ∷ when 5 (expression.Convert kind.Bool (read (kind.Bit 1) 2))
          (at_line 5 (action.Return (Some (right.Value
          (expression.Binary op.Xor (expression.Bit (read (kind.Bit 2) 3) (whole 0)) (expression.Bit (read (kind.Bit 2) 3) (whole 1)))))) ∷ []) []
          ∷ [];
    }

-- qubit[3] q; bit r; r = parity(q[{2, 0}], 1);
abbrev odd : Typed
odd =
    record (program 3 5 (output (kind.Bit 1) 0 ∷ [])
    (at_line 8 (action.Assign (slot (kind.Bit 1) 0) (right.Call (record {
      subroutine = 0;
      frame = span 1 4;
      values = expression.Constant (record { kind = kind.Bit 1; bits = 1 }) ∷ [];
      qubits = qubits.Register (fixed.Number 2 ∷ fixed.Number 0 ∷ []) ∷ [];
    }) (kind.Bit 1) (kind.Bit 1))) ∷ [])) {
      subroutines = parity ∷ [];
    }

even_half : probability odd 40 (0 ∷ []) ≡ real (pos 1) (pos 0) 1
unfolding zero_state applied project flip vanishes mass plus_real standard_gates with_bit place_in number_of is_true converted_to operated operated_alone slice_of sum_below power plus times minus nil one imaginary the_omega hidden hidden-the_row-TypedExpr-0 hidden-the_row-TypedExpr-1 hidden-the_row-TypedPhase-0 hidden-the_row-TypedStatement-0
even_half = refl

odd_half : probability odd 40 (1 ∷ []) ≡ real (pos 1) (pos 0) 1
unfolding zero_state applied project flip vanishes mass plus_real standard_gates with_bit place_in number_of is_true converted_to operated operated_alone slice_of sum_below power plus times minus nil one imaginary the_omega hidden hidden-the_row-TypedExpr-0 hidden-the_row-TypedExpr-1 hidden-the_row-TypedPhase-0 hidden-the_row-TypedStatement-0
odd_half = refl
