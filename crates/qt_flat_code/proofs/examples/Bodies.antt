-- Statements with bodies, computed: their code, and that its leaves are those of the meaning.
use denote.Hole.Carrier.{hidden}
use Rattle.std.proofs.Common.{◌≡◌, refl, ℕ, true, List, [], ◌∷◌, Some}
use Rattle.qt_ring.specs.State.{zero_state, project, vanishes, flip}
use Rattle.qt_ring.specs.Ring.{plus, times, minus, nil, one, imaginary, the_omega}
use Rattle.qt_value.specs.BitPlaces.{sum_below}
use Rattle.qt_value.specs.Results.{power}
use Rattle.qt_value.specs.declared.operators.Op.TheVariants as op
use Rattle.qt_value.specs.declared.types.ValueType.TheVariants as kind
use Rattle.qt_typed.specs.declared.expression.TypedExpr.{TypedExpr}
use Rattle.qt_typed.specs.declared.expression.TypedExpr.TheBlock.{hidden-the_row-TypedExpr-0, hidden-the_row-TypedExpr-1}
use Rattle.qt_typed.specs.declared.expression.TypedExpr.TheVariants as expression
use Rattle.qt_typed.specs.declared.program.Typed.{Typed}
use Rattle.qt_typed.specs.declared.statement.TypedAction.TheVariants as action
use Rattle.qt_typed.specs.declared.statement.TypedLoop.TheVariants as loop
use Rattle.qt_typed.specs.declared.statement.TypedRight.TheVariants as right
use Rattle.qt_typed.specs.declared.statement.TypedSequence.{TypedSequence}
use Rattle.qt_typed.specs.declared.statement.TypedSequence.TheVariants as over
use Rattle.qt_typed.specs.declared.statement.TypedStatement.{TypedStatement}
use Rattle.qt_typed.specs.declared.statement.TypedStatement.TheBlock.{hidden-the_row-TypedStatement-0}
use Rattle.qt_typed.specs.declared.statement.TypedStatement.TheVariants as statement
use Rattle.qt_meaning.specs.Points.{Dry, Faulted}
use Rattle.qt_meaning.specs.Values.{Step, converted_to, is_true, number_of, operated, operated_alone, place_in, slice_of, with_bit}
use Rattle.qt_instructions.specs.declared.instruction.Instr.TheVariants as instr
use Rattle.qt_code.specs.Validity.{is_valid}
use Rattle.qt_flat_code.specs.Expressions.{binary, operand}
use Rattle.qt_flat_code.specs.Loops.{count_kind, on_counts}
use Rattle.qt_flat_code.specs.Programs.{parts_of}
use Rattle.qt_flat_code.proofs.examples.Words.{at_line, code_of, constant, in_code, in_meaning, line, program, read, signals_of, small, span, spot, stores_of, to, whole}

-- ---- uint[8] n; while (n < 4) { uint[8] k = n; n += 1; if (n == 2) { continue; } else { uint[8] m = 1; } if (k == 2) { break; } }

abbrev test : TypedExpr → ℕ → TypedExpr
test x n = expression.Binary op.Eq x (small n)

abbrev while_body : List TypedStatement
while_body =
    at_line 2 (action.Declare (kind.Uint 8) 1 (Some (right.Value (read 0))))
    ∷ at_line 3 (action.Update (to 0) op.Add (small 1))
    ∷ statement.If (spot 4) (test (read 0) 2) (at_line 4 action.Continue ∷ []) (span 2 0)
    (at_line 5 (action.Declare (kind.Uint 8) 2 (Some (right.Value (small 1)))) ∷ []) (span 2 1)
    ∷ statement.If (spot 6) (test (read 1) 2) (at_line 6 action.Break ∷ []) (span 3 0) [] (span 3 0) ∷ []

abbrev turns : Typed
turns =
    program 3 (statement.Loop (spot 1) (loop.While (expression.Binary op.Lt (read 0) (small 4))) (span 1 0) while_body (span 1 2) ∷ [])

turns_code : code_of turns
    ≡ instr.Tick
    ∷ instr.Jump 38
    ∷ instr.Tick
    ∷ instr.Tick
    ∷ instr.Get 0 0
    ∷ instr.Put 1 0
    ∷ instr.Tick
    ∷ instr.Load 0 1
    ∷ instr.Get 3 0
    ∷ binary 0 op.Add (operand 3 (kind.Uint 8)) (operand 0 (kind.Uint 8))
    ∷ instr.Cast 0 (operand 0 (kind.Uint 8)) (kind.Uint 8)
    ∷ instr.Put 0 0
    ∷ instr.Tick
    ∷ instr.Get 0 0
    ∷ instr.Load 1 2
    ∷ binary 0 op.Eq (operand 0 (kind.Uint 8)) (operand 1 (kind.Uint 8))
    ∷ instr.JumpIf 0 18
    ∷ instr.Jump 21
    ∷ instr.Tick
    ∷ instr.Jump 35
    ∷ instr.Jump 26
    ∷ instr.Tick
    ∷ instr.Load 0 1
    ∷ instr.Put 2 0
    ∷ instr.Load 0 0
    ∷ instr.Put 2 0
    ∷ instr.Tick
    ∷ instr.Get 0 1
    ∷ instr.Load 1 2
    ∷ binary 0 op.Eq (operand 0 (kind.Uint 8)) (operand 1 (kind.Uint 8))
    ∷ instr.JumpIf 0 32
    ∷ instr.Jump 35
    ∷ instr.Tick
    ∷ instr.Jump 43
    ∷ instr.Jump 35
    ∷ instr.Load 0 0
    ∷ instr.Put 1 0
    ∷ instr.Put 2 0
    ∷ instr.Get 0 0
    ∷ instr.Load 1 4
    ∷ binary 0 op.Lt (operand 0 (kind.Uint 8)) (operand 1 (kind.Uint 8))
    ∷ instr.JumpIf 0 2
    ∷ instr.Jump 46
    ∷ instr.Load 0 0
    ∷ instr.Put 1 0
    ∷ instr.Put 2 0
    ∷ instr.End ∷ []
unfolding hidden hidden-the_row-TypedExpr-0 hidden-the_row-TypedExpr-1 hidden-the_row-TypedStatement-0
turns_code = refl

turns_are_valid : is_valid (parts_of turns) ≡ true
unfolding zero_state operated operated_alone converted_to is_true number_of place_in slice_of sum_below power project vanishes flip with_bit plus times minus nil one imaginary the_omega hidden hidden-the_row-TypedExpr-0 hidden-the_row-TypedExpr-1 hidden-the_row-TypedStatement-0
turns_are_valid = refl

turns_in_code : in_code turns 40 ≡ in_meaning turns 40
unfolding zero_state operated operated_alone converted_to is_true number_of place_in slice_of sum_below power project vanishes flip with_bit plus times minus nil one imaginary the_omega hidden hidden-the_row-TypedExpr-0 hidden-the_row-TypedExpr-1 hidden-the_row-TypedStatement-0
turns_in_code = refl

turns_in_meaning : stores_of (in_meaning turns 40) ≡ (3 ∷ 0 ∷ 0 ∷ []) ∷ []
unfolding zero_state operated operated_alone converted_to is_true number_of place_in slice_of sum_below power project vanishes flip with_bit plus times minus nil one imaginary the_omega hidden hidden-the_row-TypedExpr-0 hidden-the_row-TypedExpr-1 hidden-the_row-TypedStatement-0
turns_in_meaning = refl

turns_dry : signals_of (in_code turns 12) ≡ Dry ∷ []
unfolding zero_state operated operated_alone converted_to is_true number_of place_in slice_of sum_below power project vanishes flip with_bit plus times minus nil one imaginary the_omega hidden hidden-the_row-TypedExpr-0 hidden-the_row-TypedExpr-1 hidden-the_row-TypedStatement-0
turns_dry = refl

-- ---- uint[8] n; for uint[8] i in [1:-2:-3] { n = n * 3 + i; }

abbrev sum : TypedExpr
sum = expression.Convert (kind.Uint 8) (expression.Binary op.Add (expression.Binary op.Mul (read 0) (small 3)) (read 1))

abbrev each : TypedSequence → List TypedStatement → TypedStatement
each values body = statement.Loop (spot 1) (loop.For (kind.Uint 8) values) (span 1 4) body (span 5 0)

abbrev ranges : Typed
ranges =
    program 5 (each (over.Range (whole 1) (Some (whole 18446744073709551614)) (whole 18446744073709551613))
    (at_line 2 (action.Assign (to 0) (right.Value sum)) ∷ []) ∷ [])

ranges_code : code_of ranges
    ≡ instr.Tick
    ∷ instr.Load 0 1
    ∷ instr.Load 1 18446744073709551614
    ∷ instr.Load 2 18446744073709551613
    ∷ instr.Turns 3 (operand 0 (kind.Int 64)) (operand 1 (kind.Int 64)) (operand 2 (kind.Int 64))
    ∷ instr.Cast 0 (operand 0 (kind.Int 64)) count_kind
    ∷ instr.Cast 1 (operand 1 (kind.Int 64)) count_kind
    ∷ instr.Put 2 0
    ∷ instr.Put 3 1
    ∷ instr.Put 4 3
    ∷ instr.Jump 31
    ∷ instr.Tick
    ∷ instr.Get 0 4
    ∷ instr.Load 1 1
    ∷ on_counts 0 op.Sub 1
    ∷ instr.Put 4 0
    ∷ instr.Get 0 2
    ∷ instr.Cast 0 (operand 0 count_kind) (kind.Uint 8)
    ∷ instr.Put 1 0
    ∷ instr.Get 0 2
    ∷ instr.Get 1 3
    ∷ on_counts 0 op.Add 1
    ∷ instr.Put 2 0
    ∷ instr.Tick
    ∷ instr.Get 0 0
    ∷ instr.Load 1 3
    ∷ binary 0 op.Mul (operand 0 (kind.Uint 8)) (operand 1 (kind.Uint 8))
    ∷ instr.Get 1 1
    ∷ binary 0 op.Add (operand 0 (kind.Uint 8)) (operand 1 (kind.Uint 8))
    ∷ instr.Cast 0 (operand 0 (kind.Uint 8)) (kind.Uint 8)
    ∷ instr.Put 0 0
    ∷ instr.Get 0 4
    ∷ instr.Load 1 0
    ∷ on_counts 0 op.Ne 1
    ∷ instr.JumpIf 0 11
    ∷ instr.Jump 36
    ∷ instr.Load 0 0
    ∷ instr.Put 1 0
    ∷ instr.Put 2 0
    ∷ instr.Put 3 0
    ∷ instr.Put 4 0
    ∷ instr.End ∷ []
unfolding hidden hidden-the_row-TypedExpr-0 hidden-the_row-TypedExpr-1 hidden-the_row-TypedStatement-0
ranges_code = refl

ranges_are_valid : is_valid (parts_of ranges) ≡ true
unfolding zero_state operated operated_alone converted_to is_true number_of place_in slice_of sum_below power project vanishes flip with_bit plus times minus nil one imaginary the_omega hidden hidden-the_row-TypedExpr-0 hidden-the_row-TypedExpr-1 hidden-the_row-TypedStatement-0
ranges_are_valid = refl

ranges_in_code : in_code ranges 10 ≡ in_meaning ranges 10
unfolding zero_state operated operated_alone converted_to is_true number_of place_in slice_of sum_below power project vanishes flip with_bit plus times minus nil one imaginary the_omega hidden hidden-the_row-TypedExpr-0 hidden-the_row-TypedExpr-1 hidden-the_row-TypedStatement-0
ranges_in_code = refl

ranges_in_meaning : stores_of (in_meaning ranges 10) ≡ (3 ∷ 0 ∷ 0 ∷ 0 ∷ 0 ∷ []) ∷ []
unfolding zero_state operated operated_alone converted_to is_true number_of place_in slice_of sum_below power project vanishes flip with_bit plus times minus nil one imaginary the_omega hidden hidden-the_row-TypedExpr-0 hidden-the_row-TypedExpr-1 hidden-the_row-TypedStatement-0
ranges_in_meaning = refl

-- ---- for uint[8] i in {1, int[4](-1)} { n = n * 3 + i; }

abbrev sets : Typed
sets =
    program 5 (each (over.Set (whole 1 ∷ constant (kind.Int 4) 15 ∷ []))
    (at_line 2 (action.Assign (to 0) (right.Value sum)) ∷ []) ∷ [])

sets_are_valid : is_valid (parts_of sets) ≡ true
unfolding zero_state operated operated_alone converted_to is_true number_of place_in slice_of sum_below power project vanishes flip with_bit plus times minus nil one imaginary the_omega hidden hidden-the_row-TypedExpr-0 hidden-the_row-TypedExpr-1 hidden-the_row-TypedStatement-0
sets_are_valid = refl

sets_in_code : in_code sets 10 ≡ in_meaning sets 10
unfolding zero_state operated operated_alone converted_to is_true number_of place_in slice_of sum_below power project vanishes flip with_bit plus times minus nil one imaginary the_omega hidden hidden-the_row-TypedExpr-0 hidden-the_row-TypedExpr-1 hidden-the_row-TypedStatement-0
sets_in_code = refl

sets_in_meaning : stores_of (in_meaning sets 10) ≡ (2 ∷ 0 ∷ 0 ∷ 0 ∷ 0 ∷ []) ∷ []
unfolding zero_state operated operated_alone converted_to is_true number_of place_in slice_of sum_below power project vanishes flip with_bit plus times minus nil one imaginary the_omega hidden hidden-the_row-TypedExpr-0 hidden-the_row-TypedExpr-1 hidden-the_row-TypedStatement-0
sets_in_meaning = refl

-- ---- array[int[4], 2] a = {1, -1}; for uint[8] i in a { n = n * 3 + i; }

abbrev arrays : Typed
arrays =
    program 7 (at_line 1 (action.DeclareArray (kind.Int 4) 5 2 (Some (constant (kind.Int 4) 1 ∷ constant (kind.Int 4) 15 ∷ [])))
    ∷ each (over.Array (kind.Int 4) 5 2) (at_line 2 (action.Assign (to 0) (right.Value sum)) ∷ []) ∷ [])

arrays_are_valid : is_valid (parts_of arrays) ≡ true
unfolding zero_state operated operated_alone converted_to is_true number_of place_in slice_of sum_below power project vanishes flip with_bit plus times minus nil one imaginary the_omega hidden hidden-the_row-TypedExpr-0 hidden-the_row-TypedExpr-1 hidden-the_row-TypedStatement-0
arrays_are_valid = refl

arrays_in_code : in_code arrays 10 ≡ in_meaning arrays 10
unfolding zero_state operated operated_alone converted_to is_true number_of place_in slice_of sum_below power project vanishes flip with_bit plus times minus nil one imaginary the_omega hidden hidden-the_row-TypedExpr-0 hidden-the_row-TypedExpr-1 hidden-the_row-TypedStatement-0
arrays_in_code = refl

arrays_in_meaning : stores_of (in_meaning arrays 10) ≡ (2 ∷ 0 ∷ 0 ∷ 0 ∷ 0 ∷ 1 ∷ 15 ∷ []) ∷ []
unfolding zero_state operated operated_alone converted_to is_true number_of place_in slice_of sum_below power project vanishes flip with_bit plus times minus nil one imaginary the_omega hidden hidden-the_row-TypedExpr-0 hidden-the_row-TypedExpr-1 hidden-the_row-TypedStatement-0
arrays_in_meaning = refl

-- ---- for uint[8] i in "110" { n = n * 3 + i; }

abbrev registers : Typed
registers =
    program 5 (each (over.Bits 3 (constant (kind.Bit 3) 6)) (at_line 2 (action.Assign (to 0) (right.Value sum)) ∷ []) ∷ [])

registers_are_valid : is_valid (parts_of registers) ≡ true
unfolding zero_state operated operated_alone converted_to is_true number_of place_in slice_of sum_below power project vanishes flip with_bit plus times minus nil one imaginary the_omega hidden hidden-the_row-TypedExpr-0 hidden-the_row-TypedExpr-1 hidden-the_row-TypedStatement-0
registers_are_valid = refl

registers_in_code : in_code registers 10 ≡ in_meaning registers 10
unfolding zero_state operated operated_alone converted_to is_true number_of place_in slice_of sum_below power project vanishes flip with_bit plus times minus nil one imaginary the_omega hidden hidden-the_row-TypedExpr-0 hidden-the_row-TypedExpr-1 hidden-the_row-TypedStatement-0
registers_in_code = refl

registers_in_meaning : stores_of (in_meaning registers 10) ≡ (4 ∷ 0 ∷ 0 ∷ 0 ∷ 0 ∷ []) ∷ []
unfolding zero_state operated operated_alone converted_to is_true number_of place_in slice_of sum_below power project vanishes flip with_bit plus times minus nil one imaginary the_omega hidden hidden-the_row-TypedExpr-0 hidden-the_row-TypedExpr-1 hidden-the_row-TypedStatement-0
registers_in_meaning = refl

-- ---- a `for` whose step is 0

abbrev still : Typed
still = program 5 (each (over.Range (whole 1) (Some (whole 0)) (whole 3)) [] ∷ [])

still_in_code : signals_of (in_code still 10) ≡ Faulted Step (line 1) ∷ []
unfolding zero_state operated operated_alone converted_to is_true number_of place_in slice_of sum_below power project vanishes flip with_bit plus times minus nil one imaginary the_omega hidden hidden-the_row-TypedExpr-0 hidden-the_row-TypedExpr-1 hidden-the_row-TypedStatement-0
still_in_code = refl
