-- Programs that store and measure, computed: their code, and that its leaves are those of the meaning.
use denote.Hole.Carrier.{hidden}
use Rattle.std.proofs.Common.{◌≡◌, refl, ℕ, ◌+◌, true, List, [], ◌∷◌, Some, None}
use Rattle.qt_ring.specs.State.{zero_state, project, vanishes, flip}
use Rattle.qt_ring.specs.Ring.{plus, times, minus, nil, one, imaginary, the_omega}
use Rattle.qt_value.specs.BitPlaces.{sum_below}
use Rattle.qt_value.specs.declared.operators.Op.TheVariants as op
use Rattle.qt_value.specs.declared.types.ValueType.{ValueType}
use Rattle.qt_value.specs.declared.types.ValueType.TheVariants as kind
use Rattle.qt_registers.specs.declared.fixed.FixedQubit.TheVariants as fixed
use Rattle.qt_typed.specs.declared.call.TypedQubit.TheVariants as qubit
use Rattle.qt_typed.specs.declared.call.TypedQubits.TheVariants as qubits
use Rattle.qt_typed.specs.declared.expression.Logical.TheVariants as logical
use Rattle.qt_typed.specs.declared.expression.TypedExpr.{TypedExpr}
use Rattle.qt_typed.specs.declared.expression.TypedExpr.TheBlock.{hidden-the_row-TypedExpr-0, hidden-the_row-TypedExpr-1}
use Rattle.qt_typed.specs.declared.expression.TypedExpr.TheVariants as expression
use Rattle.qt_typed.specs.declared.expression.TypedStep.{TypedStep}
use Rattle.qt_typed.specs.declared.expression.TypedStep.TheVariants as step
use Rattle.qt_typed.specs.declared.expression.TypedTarget.{TypedTarget}
use Rattle.qt_typed.specs.declared.expression.TypedVariable.TheVariants as variable
use Rattle.qt_typed.specs.declared.program.Typed.{Typed}
use Rattle.qt_typed.specs.declared.statement.TypedAction.TheVariants as action
use Rattle.qt_typed.specs.declared.statement.TypedRight.TheVariants as right
use Rattle.qt_typed.specs.declared.statement.TypedStatement.TheBlock.{hidden-the_row-TypedStatement-0}
use Rattle.qt_meaning.specs.Points.{Faulted}
use Rattle.qt_meaning.specs.Values.{Index, converted_to, is_true, number_of, operated, place_in, slice_of, with_bit}
use Rattle.qt_instructions.specs.declared.reference.QubitRef.TheVariants as reference
use Rattle.qt_instructions.specs.declared.instruction.Instr.{Instr}
use Rattle.qt_instructions.specs.declared.instruction.Instr.TheVariants as instr
use Rattle.qt_instructions.specs.declared.instruction.Store.TheVariants as store
use Rattle.qt_code.specs.Validity.{is_valid}
use Rattle.qt_flat_code.specs.Expressions.{binary, on_places, operand, place_kind}
use Rattle.qt_flat_code.specs.Programs.{parts_of}
use Rattle.qt_flat_code.proofs.examples.Words.{at_line, code_of, in_code, in_meaning, line, program, q, read, signals_of, small, stores_of, to, whole}

-- ---- uint[8] x = 3; x += 4; bool b = x != 0 && 7 / x == 1;

abbrev once : TypedExpr
once =
    expression.Logical logical.And (expression.Binary op.Ne (read 0) (small 0))
    (expression.Binary op.Eq (expression.Binary op.Div (small 7) (read 0)) (small 1))

abbrev decided : Typed
decided =
    program 3 (at_line 1 (action.Declare (kind.Uint 8) 0 (Some (right.Value (small 3))))
    ∷ at_line 2 (action.Update (to 0) op.Add (small 4))
    ∷ at_line 3 (action.Declare kind.Bool 1 (Some (right.Value once))) ∷ [])

decided_code : code_of decided
    ≡ instr.Tick
    ∷ instr.Load 0 3
    ∷ instr.Put 0 0
    ∷ instr.Tick
    ∷ instr.Load 0 4
    ∷ instr.Get 3 0
    ∷ binary 0 op.Add (operand 3 (kind.Uint 8)) (operand 0 (kind.Uint 8))
    ∷ instr.Cast 0 (operand 0 (kind.Uint 8)) (kind.Uint 8)
    ∷ instr.Put 0 0
    ∷ instr.Tick
    ∷ instr.Get 0 0
    ∷ instr.Load 1 0
    ∷ binary 0 op.Ne (operand 0 (kind.Uint 8)) (operand 1 (kind.Uint 8))
    ∷ instr.JumpIf 0 15
    ∷ instr.Jump 20
    ∷ instr.Load 0 7
    ∷ instr.Get 1 0
    ∷ binary 0 op.Div (operand 0 (kind.Uint 8)) (operand 1 (kind.Uint 8))
    ∷ instr.Load 1 1
    ∷ binary 0 op.Eq (operand 0 (kind.Uint 8)) (operand 1 (kind.Uint 8))
    ∷ instr.Put 1 0
    ∷ instr.End ∷ []
unfolding hidden hidden-the_row-TypedExpr-0 hidden-the_row-TypedExpr-1 hidden-the_row-TypedStatement-0
decided_code = refl

decided_is_valid : is_valid (parts_of decided) ≡ true
unfolding zero_state operated converted_to is_true number_of place_in slice_of sum_below project vanishes flip with_bit plus times minus nil one imaginary the_omega hidden hidden-the_row-TypedExpr-0 hidden-the_row-TypedExpr-1 hidden-the_row-TypedStatement-0
decided_is_valid = refl

decided_in_code : in_code decided 3 ≡ in_meaning decided 3
unfolding zero_state operated converted_to is_true number_of place_in slice_of sum_below project vanishes flip with_bit plus times minus nil one imaginary the_omega hidden hidden-the_row-TypedExpr-0 hidden-the_row-TypedExpr-1 hidden-the_row-TypedStatement-0
decided_in_code = refl

decided_in_meaning : stores_of (in_meaning decided 3) ≡ (7 ∷ 1 ∷ 0 ∷ []) ∷ []
unfolding zero_state operated converted_to is_true number_of place_in slice_of sum_below project vanishes flip with_bit plus times minus nil one imaginary the_omega hidden hidden-the_row-TypedExpr-0 hidden-the_row-TypedExpr-1 hidden-the_row-TypedStatement-0
decided_in_meaning = refl

-- ---- array[uint[8], 2] a = {1, 2}; a[-1] = 9 / a[0]; bit c = measure q;

abbrev of_a : TypedExpr → TypedExpr
of_a index = expression.Element (kind.Uint 8) 0 (2 ∷ []) (index ∷ [])

-- -1 in two's complement
abbrev last : TypedExpr
last = whole 18446744073709551615

abbrev elements : Typed
elements =
    program 3 (at_line 1 (action.DeclareArray (kind.Uint 8) 0 2 (Some (small 1 ∷ small 2 ∷ [])))
    ∷ at_line 2 (action.Assign
    (record { variable = variable.Element (kind.Uint 8) 0 (2 ∷ []) (last ∷ []); steps = []; kind = kind.Uint 8 })
    (right.Value (expression.Binary op.Div (small 9) (of_a (whole 0)))))
    ∷ at_line 3 (action.Declare (kind.Bit 1) 2 (Some (right.Measure (qubits.Single (qubit.Fixed (fixed.Number 0)))))) ∷ [])

-- an index in the next cell is tested, counted from the beginning, and joins the place in the cell
abbrev indexed : ℕ → List Instr → List Instr
indexed cell rest =
    instr.GetAt (cell + 2) 0 2 (operand (cell + 1) (kind.Int 64))
    ∷ instr.Load (cell + 2) 2
    ∷ instr.Cast (cell + 1) (operand (cell + 1) (kind.Int 64)) place_kind
    ∷ on_places (cell + 1) op.Add (cell + 2)
    ∷ on_places (cell + 1) op.Rem (cell + 2)
    ∷ on_places cell op.Mul (cell + 2)
    ∷ on_places cell op.Add (cell + 1) ∷ rest

elements_code : code_of elements
    ≡ instr.Tick
    ∷ instr.Load 0 1
    ∷ instr.Load 1 2
    ∷ instr.Put 0 0
    ∷ instr.Put 1 1
    ∷ instr.Tick
    ∷ instr.Load 0 9
    ∷ instr.Load 1 0
    ∷ instr.Load 2 0
    ∷ indexed 1 (instr.GetAt 1 0 2 (operand 1 place_kind)
    ∷ binary 0 op.Div (operand 0 (kind.Uint 8)) (operand 1 (kind.Uint 8))
    ∷ instr.Load 1 0
    ∷ instr.Load 2 18446744073709551615
    ∷ indexed 1 (instr.PutAt 0 2 (operand 1 place_kind) 0
    ∷ instr.Tick
    ∷ instr.Measure (reference.At 0) (store.Bit 2 0)
    ∷ instr.End ∷ []))
unfolding hidden hidden-the_row-TypedExpr-0 hidden-the_row-TypedExpr-1 hidden-the_row-TypedStatement-0
elements_code = refl

elements_is_valid : is_valid (parts_of elements) ≡ true
unfolding zero_state operated converted_to is_true number_of place_in slice_of sum_below project vanishes flip with_bit plus times minus nil one imaginary the_omega hidden hidden-the_row-TypedExpr-0 hidden-the_row-TypedExpr-1 hidden-the_row-TypedStatement-0
elements_is_valid = refl

elements_in_code : in_code elements 3 ≡ in_meaning elements 3
unfolding zero_state operated converted_to is_true number_of place_in slice_of sum_below project vanishes flip with_bit plus times minus nil one imaginary the_omega hidden hidden-the_row-TypedExpr-0 hidden-the_row-TypedExpr-1 hidden-the_row-TypedStatement-0
elements_in_code = refl

elements_in_meaning : stores_of (in_meaning elements 3) ≡ (1 ∷ 9 ∷ 0 ∷ []) ∷ []
unfolding zero_state operated converted_to is_true number_of place_in slice_of sum_below project vanishes flip with_bit plus times minus nil one imaginary the_omega hidden hidden-the_row-TypedExpr-0 hidden-the_row-TypedExpr-1 hidden-the_row-TypedStatement-0
elements_in_meaning = refl

-- ---- bit[4] b; int i = -1; b[1:3][i] = 1; b[0:2:2] ^= "11";

abbrev b_steps : List TypedStep → ValueType → TypedTarget
b_steps steps of = record { variable = variable.Slot (kind.Bit 4) 0; steps = steps; kind = of }

abbrev i : TypedExpr
i = expression.Slot (kind.Int 64) 1

abbrev bit_text : ℕ → ℕ → TypedExpr
bit_text width bits = expression.Constant (record { kind = kind.Bit width; bits = bits })

abbrev bits : Typed
bits =
    program 3 (at_line 1 (action.Declare (kind.Int 64) 1 (Some (right.Value last)))
    ∷ at_line 2 (action.Assign (b_steps (step.Slice 1 1 3 ∷ step.At i ∷ []) (kind.Bit 1)) (right.Value (bit_text 1 1)))
    ∷ at_line 3 (action.Update (b_steps (step.Slice 0 2 2 ∷ []) (kind.Bit 2)) op.Xor (bit_text 2 3)) ∷ [])

-- from a value in a cell to bits of another
abbrev moved : ℕ → ValueType → ℕ → ℕ → ValueType → ℕ → ℕ → List Instr → List Instr
moved from of read to into write used rest =
    instr.Load used read
    ∷ instr.BitGet (used + 1) (operand from of) (operand used (kind.Uint 8))
    ∷ instr.Load used write
    ∷ instr.BitPut (operand to into) (operand used (kind.Uint 8)) (used + 1) ∷ rest

bits_code : code_of bits
    ≡ instr.Tick
    ∷ instr.Load 0 18446744073709551615
    ∷ instr.Put 1 0
    ∷ instr.Tick
    ∷ instr.Load 0 1
    ∷ instr.Get 3 1
    ∷ instr.BitGet 4 (operand 4 (kind.Bit 3)) (operand 3 (kind.Int 64))
    ∷ instr.Load 4 3
    ∷ instr.Cast 2 (operand 3 (kind.Int 64)) place_kind
    ∷ on_places 2 op.Add 4
    ∷ on_places 2 op.Rem 4
    ∷ instr.Load 4 1
    ∷ on_places 2 op.Mul 4
    ∷ instr.Load 4 1
    ∷ on_places 2 op.Add 4
    ∷ instr.Get 3 0
    ∷ instr.BitPut (operand 3 (kind.Bit 4)) (operand 2 place_kind) 0
    ∷ instr.Put 0 3
    ∷ instr.Tick
    ∷ instr.Load 0 3
    ∷ instr.Get 4 0
    ∷ instr.Load 3 0
    ∷ moved 4 (kind.Bit 4) 0 3 (kind.Bit 2) 0 5 (moved 4 (kind.Bit 4) 2 3 (kind.Bit 2) 1 5 (
    binary 0 op.Xor (operand 3 (kind.Bit 2)) (operand 0 (kind.Bit 2))
    ∷ instr.Cast 0 (operand 0 (kind.Bit 2)) (kind.Bit 2)
    ∷ instr.Get 3 0
    ∷ moved 0 (kind.Bit 2) 0 3 (kind.Bit 4) 0 4 (moved 0 (kind.Bit 2) 1 3 (kind.Bit 4) 2 4 (
    instr.Put 0 3
    ∷ instr.End ∷ []))))
unfolding hidden hidden-the_row-TypedExpr-0 hidden-the_row-TypedExpr-1 hidden-the_row-TypedStatement-0
bits_code = refl

bits_are_valid : is_valid (parts_of bits) ≡ true
unfolding zero_state operated converted_to is_true number_of place_in slice_of sum_below project vanishes flip with_bit plus times minus nil one imaginary the_omega hidden hidden-the_row-TypedExpr-0 hidden-the_row-TypedExpr-1 hidden-the_row-TypedStatement-0
bits_are_valid = refl

bits_in_code : in_code bits 3 ≡ in_meaning bits 3
unfolding zero_state operated converted_to is_true number_of place_in slice_of sum_below project vanishes flip with_bit plus times minus nil one imaginary the_omega hidden hidden-the_row-TypedExpr-0 hidden-the_row-TypedExpr-1 hidden-the_row-TypedStatement-0
bits_in_code = refl

bits_in_meaning : stores_of (in_meaning bits 3) ≡ (13 ∷ 18446744073709551615 ∷ 0 ∷ []) ∷ []
unfolding zero_state operated converted_to is_true number_of place_in slice_of sum_below project vanishes flip with_bit plus times minus nil one imaginary the_omega hidden hidden-the_row-TypedExpr-0 hidden-the_row-TypedExpr-1 hidden-the_row-TypedStatement-0
bits_in_meaning = refl

-- ---- array[uint[4], 2] a; int i = -2; a[1][i] = measure q; measure r -> b[2:3]; measure q; reset q; a[2] = 1;

abbrev second : TypedTarget
second = record { variable = variable.Element (kind.Uint 4) 0 (2 ∷ []) (whole 1 ∷ []); steps = step.At (expression.Slot (kind.Int 64) 2) ∷ []; kind = kind.Bit 1 }

abbrev of_first : TypedTarget
of_first = record { variable = variable.Element (kind.Uint 4) 0 (2 ∷ []) (whole 0 ∷ []); steps = step.Slice 2 1 2 ∷ []; kind = kind.Bit 2 }

abbrev beyond : TypedTarget
beyond = record { variable = variable.Element (kind.Uint 4) 0 (2 ∷ []) (whole 2 ∷ []); steps = []; kind = kind.Uint 4 }

abbrev outcomes : Typed
outcomes =
    program 3 (at_line 1 (action.Declare (kind.Int 64) 2 (Some (right.Value (whole 18446744073709551614))))
    ∷ at_line 2 (action.Assign second (right.Measure q))
    ∷ at_line 3 (action.Measure (qubits.Register (fixed.Number 0 ∷ fixed.Number 0 ∷ [])) (Some of_first))
    ∷ at_line 4 (action.Measure q None)
    ∷ at_line 5 (action.Reset q)
    ∷ at_line 6 (action.Assign beyond (right.Value (small 1))) ∷ [])

outcomes_code : code_of outcomes
    ≡ instr.Tick
    ∷ instr.Load 0 18446744073709551614
    ∷ instr.Put 2 0
    ∷ instr.Tick
    ∷ instr.Get 2 2
    ∷ instr.BitGet 3 (operand 3 (kind.Bit 4)) (operand 2 (kind.Int 64))
    ∷ instr.Load 3 4
    ∷ instr.Cast 1 (operand 2 (kind.Int 64)) place_kind
    ∷ on_places 1 op.Add 3
    ∷ on_places 1 op.Rem 3
    ∷ instr.Load 3 1
    ∷ on_places 1 op.Mul 3
    ∷ instr.Load 3 0
    ∷ on_places 1 op.Add 3
    ∷ instr.Measure (reference.At 0) (store.BitAt 1 1)
    ∷ instr.Tick
    ∷ instr.Measure (reference.At 0) (store.Bit 0 2)
    ∷ instr.Measure (reference.At 0) (store.Bit 0 3)
    ∷ instr.Tick
    ∷ instr.Measure (reference.At 0) store.Nowhere
    ∷ instr.Tick
    ∷ instr.Reset (reference.At 0)
    ∷ instr.Tick
    ∷ instr.Load 0 1
    ∷ instr.Load 1 0
    ∷ instr.Load 2 2
    ∷ indexed 1 (instr.PutAt 0 2 (operand 1 place_kind) 0
    ∷ instr.End ∷ [])
unfolding place_in number_of hidden hidden-the_row-TypedExpr-0 hidden-the_row-TypedExpr-1 hidden-the_row-TypedStatement-0
outcomes_code = refl

outcomes_are_valid : is_valid (parts_of outcomes) ≡ true
unfolding zero_state operated converted_to is_true number_of place_in slice_of sum_below project vanishes flip with_bit plus times minus nil one imaginary the_omega hidden hidden-the_row-TypedExpr-0 hidden-the_row-TypedExpr-1 hidden-the_row-TypedStatement-0
outcomes_are_valid = refl

outcomes_in_code : in_code outcomes 6 ≡ in_meaning outcomes 6
unfolding zero_state operated converted_to is_true number_of place_in slice_of sum_below project vanishes flip with_bit plus times minus nil one imaginary the_omega hidden hidden-the_row-TypedExpr-0 hidden-the_row-TypedExpr-1 hidden-the_row-TypedStatement-0
outcomes_in_code = refl

outcomes_in_meaning : signals_of (in_meaning outcomes 6) ≡ Faulted Index (line 6) ∷ []
unfolding zero_state operated converted_to is_true number_of place_in slice_of sum_below project vanishes flip with_bit plus times minus nil one imaginary the_omega hidden hidden-the_row-TypedExpr-0 hidden-the_row-TypedExpr-1 hidden-the_row-TypedStatement-0
outcomes_in_meaning = refl
