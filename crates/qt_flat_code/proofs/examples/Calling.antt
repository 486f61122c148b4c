-- Calls of subroutines, computed: their code, and that its leaves are those of the meaning.
use denote.Hole.Carrier.{hidden}
use Rattle.std.proofs.Common.{◌≡◌, refl, ℕ, ◌+◌, true, List, [], ◌∷◌, Some, None}
use Rattle.qt_ring.specs.State.{zero_state, project, vanishes, flip}
use Rattle.qt_ring.specs.Ring.{plus, times, minus, nil, one, imaginary, the_omega}
use Rattle.qt_value.specs.BitPlaces.{sum_below}
use Rattle.qt_value.specs.Results.{power}
use Rattle.qt_value.specs.declared.operators.Op.TheVariants as op
use Rattle.qt_value.specs.declared.types.ValueType.TheVariants as kind
use Rattle.qt_registers.specs.declared.fixed.FixedQubit.TheVariants as fixed
use Rattle.qt_typed.specs.declared.call.TypedQubit.TheVariants as qubit
use Rattle.qt_typed.specs.declared.call.TypedQubits.TheVariants as qubits
use Rattle.qt_typed.specs.declared.expression.TypedExpr.{TypedExpr}
use Rattle.qt_typed.specs.declared.expression.TypedExpr.TheBlock.{hidden-the_row-TypedExpr-0, hidden-the_row-TypedExpr-1}
use Rattle.qt_typed.specs.declared.expression.TypedExpr.TheVariants as expression
use Rattle.qt_typed.specs.declared.program.Typed.{Typed}
use Rattle.qt_typed.specs.declared.program.TypedParameter.TheVariants as parameter
use Rattle.qt_typed.specs.declared.program.TypedSubroutine.{TypedSubroutine}
use Rattle.qt_typed.specs.declared.statement.TypedAction.TheVariants as action
use Rattle.qt_typed.specs.declared.statement.TypedRight.TheVariants as right
use Rattle.qt_typed.specs.declared.statement.TypedStatement.TheBlock.{hidden-the_row-TypedStatement-0}
use Rattle.qt_typed.specs.declared.statement.TypedStatement.TheVariants as statement
use Rattle.qt_meaning.specs.Values.{converted_to, is_true, number_of, operated, operated_alone, place_in, slice_of, with_bit}
use Rattle.qt_instructions.specs.declared.reference.QubitRef.TheVariants as reference
use Rattle.qt_instructions.specs.declared.instruction.Instr.{Instr}
use Rattle.qt_instructions.specs.declared.instruction.Instr.TheVariants as instr
use Rattle.qt_code.specs.Validity.{is_valid}
use Rattle.qt_flat_code.specs.Expressions.{binary, operand}
use Rattle.qt_flat_code.specs.Programs.{parts_of}
use Rattle.qt_flat_code.proofs.examples.Words.{at_line, code_of, in_code, in_meaning, program_with, q, read, small, span, spot, stores_of, to}

-- ---- def f(uint[8] a, qubit p, qubit[1] r) -> uint[8] { if (a == 3) { return 7 / (a - 2); } reset p; reset r; }
-- def g(qubit p) { f(1, p, q); end; }

abbrev test : TypedExpr
test = expression.Binary op.Eq (read 1) (small 3)

abbrev quotient : TypedExpr
quotient = expression.Binary op.Div (small 7) (expression.Binary op.Sub (read 1) (small 2))

abbrev f : TypedSubroutine
f =
    record {
      parameters = parameter.Value (kind.Uint 8) 1 ∷ parameter.Qubit 2 ∷ parameter.Register 3 1 ∷ [];
      result = Some (kind.Uint 8);
      slots = 4;
      body =
          statement.If (spot 2) test (at_line 3 (action.Return (Some (right.Value quotient))) ∷ []) (span 4 0) [] (span 4 0)
          ∷ at_line 4 (action.Reset (qubits.Single (qubit.Slot 2)))
          ∷ at_line 5 (action.Reset (qubits.Register (fixed.OfParameter 2 0 ∷ []))) ∷ [];
    }

abbrev g : TypedSubroutine
g =
    record {
      parameters = parameter.Qubit 0 ∷ [];
      result = None;
      slots = 5;
      body =
          at_line 7 (action.Call (record {
            subroutine = 0;
            frame = span 1 4;
            values = small 1 ∷ [];
            qubits = qubits.Single (qubit.Slot 0) ∷ qubits.Register (fixed.Number 0 ∷ []) ∷ [];
          }))
          ∷ at_line 8 action.End ∷ [];
    }

-- ---- uint[8] n = f(3, q, q); g(q); n = 0;

abbrev calls : Typed
calls =
    program_with 10 (f ∷ g ∷ [])
    (at_line 10 (action.Declare (kind.Uint 8) 0 (Some (right.Call (record {
      subroutine = 0;
      frame = span 1 4;
      values = small 3 ∷ [];
      qubits = q ∷ qubits.Register (fixed.Number 0 ∷ []) ∷ [];
    }) (kind.Uint 8) (kind.Uint 8))))
    ∷ at_line 11 (action.Call (record { subroutine = 1; frame = span 5 5; values = []; qubits = q ∷ [] }))
    ∷ at_line 12 (action.Assign (to 0) (right.Value (small 0))) ∷ [])

-- what f becomes behind so many instructions, with its frame, from the cells of its arguments
abbrev f_code : ℕ → ℕ → List Instr → List Instr
f_code frame at rest =
    instr.Put (frame + 1) 0
    ∷ instr.Put (frame + 2) 1
    ∷ instr.Tick
    ∷ instr.Get 0 (frame + 1)
    ∷ instr.Load 1 3
    ∷ binary 0 op.Eq (operand 0 (kind.Uint 8)) (operand 1 (kind.Uint 8))
    ∷ instr.JumpIf 0 (at + 8)
    ∷ instr.Jump (at + 17)
    ∷ instr.Tick
    ∷ instr.Load 0 7
    ∷ instr.Get 1 (frame + 1)
    ∷ instr.Load 2 2
    ∷ binary 1 op.Sub (operand 1 (kind.Uint 8)) (operand 2 (kind.Uint 8))
    ∷ binary 0 op.Div (operand 0 (kind.Uint 8)) (operand 1 (kind.Uint 8))
    ∷ instr.Put frame 0
    ∷ instr.Jump (at + 22)
    ∷ instr.Jump (at + 17)
    ∷ instr.Tick
    ∷ instr.Get 0 (frame + 2)
    ∷ instr.Reset (reference.Work 0)
    ∷ instr.Tick
    ∷ instr.Reset (reference.At 0) ∷ rest

calls_code : code_of calls
    ≡ instr.Tick
    ∷ instr.Load 0 3
    ∷ instr.Load 1 0
    ∷ f_code 1 3 (instr.Get 0 1
    ∷ instr.Load 1 0
    ∷ instr.Put 1 1
    ∷ instr.Put 2 1
    ∷ instr.Put 3 1
    ∷ instr.Put 4 1
    ∷ instr.Cast 0 (operand 0 (kind.Uint 8)) (kind.Uint 8)
    ∷ instr.Put 0 0
    ∷ instr.Tick
    ∷ instr.Load 0 0
    ∷ instr.Put 5 0
    ∷ instr.Tick
    ∷ instr.Load 0 1
    ∷ instr.Get 1 5
    ∷ instr.Distinct (reference.Work 1 ∷ [])
    ∷ f_code 6 40 (instr.Load 0 0
    ∷ instr.Put 6 0
    ∷ instr.Put 7 0
    ∷ instr.Put 8 0
    ∷ instr.Put 9 0
    ∷ instr.Tick
    ∷ instr.End
    ∷ instr.Load 0 0
    ∷ instr.Put 5 0
    ∷ instr.Put 6 0
    ∷ instr.Put 7 0
    ∷ instr.Put 8 0
    ∷ instr.Put 9 0
    ∷ instr.Tick
    ∷ instr.Load 0 0
    ∷ instr.Put 0 0
    ∷ instr.End ∷ []))
unfolding hidden hidden-the_row-TypedExpr-0 hidden-the_row-TypedExpr-1 hidden-the_row-TypedStatement-0
calls_code = refl

calls_are_valid : is_valid (parts_of calls) ≡ true
unfolding zero_state operated operated_alone converted_to is_true number_of place_in slice_of sum_below power project vanishes flip with_bit plus times minus nil one imaginary the_omega hidden hidden-the_row-TypedExpr-0 hidden-the_row-TypedExpr-1 hidden-the_row-TypedStatement-0
calls_are_valid = refl

calls_in_code : in_code calls 20 ≡ in_meaning calls 20
unfolding zero_state operated operated_alone converted_to is_true number_of place_in slice_of sum_below power project vanishes flip with_bit plus times minus nil one imaginary the_omega hidden hidden-the_row-TypedExpr-0 hidden-the_row-TypedExpr-1 hidden-the_row-TypedStatement-0
calls_in_code = refl

calls_in_meaning : stores_of (in_meaning calls 20) ≡ (7 ∷ 0 ∷ 0 ∷ 0 ∷ 0 ∷ 0 ∷ 0 ∷ 0 ∷ 0 ∷ 0 ∷ []) ∷ []
unfolding zero_state operated operated_alone converted_to is_true number_of place_in slice_of sum_below power project vanishes flip with_bit plus times minus nil one imaginary the_omega hidden hidden-the_row-TypedExpr-0 hidden-the_row-TypedExpr-1 hidden-the_row-TypedStatement-0
calls_in_meaning = refl
