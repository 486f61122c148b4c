-- A gate call and a broadcast, computed: their code, and that it ends as the meaning says, with the same trail.
use denote.Hole.Carrier.{hidden}
use Rattle.std.proofs.Common.{◌≡◌, refl, ℕ, ◌+◌, ◌^◌, pos, true, List, [], ◌∷◌, ◌++◌}
use Rattle.std.specs.Prelude.{length, replicate}
use Rattle.qt_tree.specs.declared.place.Place.{Place}
use Rattle.qt_ring.specs.State.{zero_state}
use Rattle.qt_value.specs.declared.types.ValueType.TheVariants as kind
use Rattle.qt_gate_calls.specs.Primitives.{Turned}
use Rattle.qt_gate_calls.specs.declared.body.Called.TheVariants as called
use Rattle.qt_gate_calls.specs.declared.body.GateModifier.TheVariants as modifier
use Rattle.qt_registers.specs.declared.fixed.FixedQubit.{FixedQubit}
use Rattle.qt_registers.specs.declared.fixed.FixedQubit.TheVariants as fixed
use Rattle.qt_typed.specs.declared.call.GateUse.{GateUse}
use Rattle.qt_typed.specs.declared.call.TypedQubit.{TypedQubit}
use Rattle.qt_typed.specs.declared.call.TypedQubit.TheVariants as qubit
use Rattle.qt_typed.specs.declared.call.TypedQubits.{TypedQubits}
use Rattle.qt_typed.specs.declared.call.TypedQubits.TheVariants as qubits
use Rattle.qt_typed.specs.declared.expression.TypedExpr.TheVariants as expression
use Rattle.qt_typed.specs.declared.expression.TypedPhase.TheBlock.{hidden-the_row-TypedPhase-0}
use Rattle.qt_typed.specs.declared.expression.TypedPhase.TheVariants as phase
use Rattle.qt_meaning.specs.Applying.{calls_from, gate_call}
use Rattle.qt_meaning.specs.Places.{Site}
use Rattle.qt_meaning.specs.Points.{Event, Did, Leaf, On, Ended, Faulted, Point, Signal}
use Rattle.qt_meaning.specs.Values.{BadAngle, Index, SameQubit, number_of, place_in}
use Rattle.qt_instructions.specs.declared.angle.AngleArg.TheVariants as argument
use Rattle.qt_instructions.specs.declared.angle.AngleStep.TheVariants as step
use Rattle.qt_instructions.specs.declared.angle.AngleOperation.TheVariants as operation
use Rattle.qt_instructions.specs.declared.primitive.Primitive.TheVariants as primitive
use Rattle.qt_instructions.specs.declared.reference.AngleRef.TheVariants as angle
use Rattle.qt_instructions.specs.declared.reference.QubitRef.TheVariants as reference
use Rattle.qt_instructions.specs.declared.instruction.Instr.{Instr}
use Rattle.qt_instructions.specs.declared.instruction.Instr.TheVariants as instr
use Rattle.qt_instructions.specs.declared.parts.Parts.{Parts}
use Rattle.qt_code.specs.Tail.{leaves_from_start}
use Rattle.qt_code.specs.Validity.{is_valid}
use Rattle.qt_flat_code.specs.Expressions.{operand}
use Rattle.qt_flat_code.specs.GateCalls.{broadcast_code, broadcast_length, gate_call_code, gate_call_length}

-- ---- two qubits, two slots, five work cells

abbrev here : Place
here = record { file = 0; line = 1; column = 1 }

abbrev site : Site
site = record { choices = 0; base = 0; qubits = 2; registers = λ n. [] }

abbrev number : ℕ → FixedQubit
number n = fixed.Number n

abbrev q : List FixedQubit
q = number 0 ∷ number 1 ∷ []

abbrev parts_of : List Instr → List ℕ → Parts
parts_of code start =
    record {
      instructions = code ++ (instr.End ∷ []);
      places = replicate (length code + 1) here;
      qubits = 2;
      slots = 2;
      cells = 5;
      start = start;
      layout = [];
      end = here;
    }

abbrev ends : List Leaf → List (Signal × List Event)
ends [] = []
ends (l ∷ ls) = (l.signal, l.point.trail) ∷ ends ls

abbrev point : List ℕ → Point
point store = record { store = store; state = zero_state 2; fuel = 3; trail = [] }

-- ---- angle[4] a; uint[8] i; inv @ ctrl @ U(pi - a, 0, pi / 2) q[i], q[0];

abbrev used : GateUse
used =
    record {
      gates = [];
      modifiers = modifier.Inv ∷ modifier.Ctrl ∷ [];
      gate = called.U;
      arguments = phase.Sub (phase.Fixed (pos (2 ^ 32))) (phase.Angle (expression.Slot (kind.Angle 4) 0)) ∷ phase.Fixed (pos 0)
          ∷ phase.Fixed (pos (2 ^ 31)) ∷ [];
    }

abbrev operands : List TypedQubit
operands = qubit.Indexed q (expression.Slot (kind.Uint 8) 1) ∷ qubit.Fixed (number 0) ∷ []

-- the opposites: -(pi - a), -(pi / 2) and 0
abbrev called_code : List Instr
called_code =
    instr.Get 1 0
    ∷ instr.AngleOp 1 (operation.OfAngle (operand 1 (kind.Angle 4)))
    ∷ instr.AngleOp 0 (operation.Step (step.Sub (argument.Units (pos (2 ^ 32))) (argument.Work 1)))
    ∷ instr.Get 1 1
    ∷ instr.Qubit 1 (0 ∷ 1 ∷ []) (operand 1 (kind.Uint 8))
    ∷ instr.Distinct (reference.Work 1 ∷ reference.At 0 ∷ [])
    ∷ instr.Gate (primitive.Turn (reference.Work 1 ∷ []) [] (reference.At 0) (angle.Work 0 true) (angle.Eighth 6) (angle.Eighth 0)) ∷ []

call_is : gate_call_code site used operands 0 ≡ called_code
unfolding hidden hidden-the_row-TypedPhase-0
call_is = refl

call_has_length : gate_call_length site used operands ≡ 7
unfolding hidden hidden-the_row-TypedPhase-0
call_has_length = refl

call_is_valid : is_valid (parts_of called_code (2 ∷ 1 ∷ [])) ≡ true
call_is_valid = refl

abbrev in_code : List ℕ → List (Signal × List Event)
in_code store = ends (leaves_from_start (parts_of called_code store) 3)

abbrev in_meaning : List ℕ → List (Signal × List Event)
in_meaning store = ends (gate_call site here used operands (point store))

abbrev turned : List Event
turned = Did (Turned (1 ∷ []) [] 0 5 6 0) here ∷ []

turns_in_code : in_code (2 ∷ 1 ∷ []) ≡ (Ended, turned) ∷ []
unfolding number_of place_in
turns_in_code = refl

turns_in_meaning : in_meaning (2 ∷ 1 ∷ []) ≡ (On, turned) ∷ []
unfolding number_of place_in hidden hidden-the_row-TypedPhase-0
turns_in_meaning = refl

-- q[2] isn't there, which comes before the angle
no_qubit_in_code : in_code (1 ∷ 2 ∷ []) ≡ (Faulted Index here, []) ∷ []
unfolding number_of place_in
no_qubit_in_code = refl

no_qubit_in_meaning : in_meaning (1 ∷ 2 ∷ []) ≡ (Faulted Index here, []) ∷ []
unfolding number_of place_in hidden hidden-the_row-TypedPhase-0
no_qubit_in_meaning = refl

-- q[0] twice
one_qubit_in_code : in_code (1 ∷ 0 ∷ []) ≡ (Faulted SameQubit here, []) ∷ []
unfolding number_of place_in
one_qubit_in_code = refl

one_qubit_in_meaning : in_meaning (1 ∷ 0 ∷ []) ≡ (Faulted SameQubit here, []) ∷ []
unfolding number_of place_in hidden hidden-the_row-TypedPhase-0
one_qubit_in_meaning = refl

-- half of pi / 4
odd_angle_in_code : in_code (1 ∷ 1 ∷ []) ≡ (Faulted BadAngle here, []) ∷ []
unfolding number_of place_in
odd_angle_in_code = refl

odd_angle_in_meaning : in_meaning (1 ∷ 1 ∷ []) ≡ (Faulted BadAngle here, []) ∷ []
unfolding number_of place_in hidden hidden-the_row-TypedPhase-0
odd_angle_in_meaning = refl

-- ---- U(pi / 2, 0, pi) q;

abbrev all_turned : GateUse
all_turned =
    record {
      gates = [];
      modifiers = [];
      gate = called.U;
      arguments = phase.Fixed (pos (2 ^ 31)) ∷ phase.Fixed (pos 0) ∷ phase.Fixed (pos (2 ^ 32)) ∷ [];
    }

abbrev register : List TypedQubits
register = qubits.Register q ∷ []

abbrev u_on : ℕ → Instr
u_on n = instr.Gate (primitive.Turn [] [] (reference.At n) (angle.Eighth 2) (angle.Eighth 0) (angle.Eighth 4))

abbrev all_code : List Instr
all_code = u_on 0 ∷ u_on 1 ∷ []

broadcast_is : broadcast_code site all_turned register 0 2 0 ≡ all_code
broadcast_is = refl

broadcast_has_length : broadcast_length site all_turned register 0 2 ≡ 2
broadcast_has_length = refl

abbrev all_did : List Event
all_did = Did (Turned [] [] 0 2 0 4) here ∷ Did (Turned [] [] 1 2 0 4) here ∷ []

broadcast_in_code : ends (leaves_from_start (parts_of all_code (0 ∷ 0 ∷ [])) 3) ≡ (Ended, all_did) ∷ []
broadcast_in_code = refl

broadcast_in_meaning : ends (calls_from site here all_turned register 0 2 (point (0 ∷ 0 ∷ []))) ≡ (On, all_did) ∷ []
broadcast_in_meaning = refl
