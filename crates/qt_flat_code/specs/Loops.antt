-- The code of what loops go over (flat code is this profile's; OpenQASM 3.0 live specification, "Classical instructions", looping and
-- branching). A `for` keeps what it goes over in the slots behind its variable's, which has the slot x. What it keeps is reckoned into cells
-- from 0 on and goes to the slots then. Whether a turn follows comes to cell 0. A turn begins with what changes the variable and what is kept.
use Rattle.std.specs.Prelude.{ℕ, zero, suc, ◌+◌, ◌*◌, List, [], ◌∷◌, ◌++◌, length, Option, Some, None}
use Rattle.qt_value.specs.declared.operators.Op.{Op}
use Rattle.qt_value.specs.declared.operators.Op.TheVariants as op
use Rattle.qt_value.specs.declared.types.ValueType.{ValueType}
use Rattle.qt_value.specs.declared.types.ValueType.TheVariants as kind
use Rattle.qt_typed.specs.Types.{type_of}
use Rattle.qt_typed.specs.declared.expression.TypedExpr.{TypedExpr}
use Rattle.qt_typed.specs.declared.statement.TypedLoop.{TypedLoop}
use Rattle.qt_typed.specs.declared.statement.TypedLoop.TheVariants as loop
use Rattle.qt_typed.specs.declared.statement.TypedSequence.{TypedSequence}
use Rattle.qt_typed.specs.declared.statement.TypedSequence.TheVariants as over
use Rattle.qt_instructions.specs.declared.instruction.Instr.{Instr}
use Rattle.qt_instructions.specs.declared.instruction.Instr.TheVariants as instr
use Rattle.qt_flat_code.specs.Lengths.{expression_length, values_length}
use Rattle.qt_flat_code.specs.Expressions.{binary, expression_code, operand}
use Rattle.qt_flat_code.specs.Storing.{puts, values_code}

-- ---- what is counted

-- positions, turns left, and the next value and the step of a range
abbrev pub count_kind : ValueType
count_kind = kind.Uint 64

abbrev pub on_counts : ℕ → Op → ℕ → Instr
on_counts cell operator other = binary cell operator (operand cell count_kind) (operand other count_kind)

-- ---- the beginning

abbrev pub step_length : Option TypedExpr → ℕ
step_length None = 1
step_length (Some e) = expression_length e

abbrev pub kept_length : TypedSequence → ℕ
kept_length (over.Range first by last) = expression_length first + (step_length by + (expression_length last + 6))
kept_length (over.Set members) = values_length members + (2 + length members)
kept_length (over.Array of slot count) = count + (2 + count)
kept_length (over.Bits width value) = expression_length value + 3

-- a step that isn't written is 1
abbrev pub step_code : Option TypedExpr → ℕ → ℕ → ℕ → List Instr
step_code None base cell at = instr.Load cell 1 ∷ []
step_code (Some e) base cell at = expression_code e base cell at

abbrev pub step_kind : Option TypedExpr → ValueType
step_kind None = count_kind
step_kind (Some e) = type_of e

-- so many slots to cells from one on
abbrev pub gets : ℕ → ℕ → ℕ → List Instr
gets cell slot zero = []
gets cell slot (suc count) = instr.Get cell slot ∷ gets (suc cell) (suc slot) count

-- behind so many values in cells stands the position, which is 0; all go to the slots behind the variable
abbrev pub kept_from : ℕ → ℕ → List Instr
kept_from count x = instr.Load count 0 ∷ puts (x + 1) 0 (suc count)

abbrev pub kept_code : TypedSequence → ℕ → ℕ → ℕ → List Instr
kept_code (over.Range first by last) x base at =
    expression_code first base 0 at
    ++ (step_code by base 1 (at + expression_length first)
    ++ (expression_code last base 2 (at + expression_length first + step_length by)
    ++ (instr.Turns 3 (operand 0 (type_of first)) (operand 1 (step_kind by)) (operand 2 (type_of last))
    ∷ instr.Cast 0 (operand 0 (type_of first)) count_kind
    ∷ instr.Cast 1 (operand 1 (step_kind by)) count_kind
    ∷ instr.Put (x + 1) 0
    ∷ instr.Put (x + 2) 1
    ∷ instr.Put (x + 3) 3 ∷ [])))
kept_code (over.Set members) x base at = values_code members base 0 at ++ kept_from (length members) x
kept_code (over.Array of slot count) x base at = gets 0 (base + slot) count ++ kept_from count x
kept_code (over.Bits width value) x base at = expression_code value base 0 at ++ kept_from 1 x

-- ---- whether a turn follows

-- so many turns have begun as the position says
abbrev pub more_code : ℕ → ℕ → List Instr
more_code position count = instr.Get 0 position ∷ instr.Load 1 count ∷ on_counts 0 op.Lt 1 ∷ []

abbrev pub has_turn_code : TypedSequence → ℕ → List Instr
has_turn_code (over.Range first by last) x = instr.Get 0 (x + 3) ∷ instr.Load 1 0 ∷ on_counts 0 op.Ne 1 ∷ []
has_turn_code (over.Set members) x = more_code (x + 1 + length members) (length members)
has_turn_code (over.Array of slot count) x = more_code (x + 1 + count) count
has_turn_code (over.Bits width value) x = more_code (x + 2) width

-- ---- a turn

abbrev pub turn_length : TypedSequence → ℕ
turn_length (over.Range first by last) = 11
turn_length (over.Set members) = 1 + (6 * length members + 4)
turn_length (over.Array of slot count) = 8
turn_length (over.Bits width value) = 9

-- one more turn has begun
abbrev pub counted_code : ℕ → List Instr
counted_code position = instr.Get 0 position ∷ instr.Load 1 1 ∷ on_counts 0 op.Add 1 ∷ instr.Put position 0 ∷ []

-- where the position in cell 0 is that of a member, of which the first here has the number n, the variable gets its value. Each member has
-- a type of its own
abbrev pub members_code : List TypedExpr → ValueType → ℕ → ℕ → ℕ → List Instr
members_code [] to x n at = []
members_code (e ∷ es) to x n at =
    instr.Load 1 n
    ∷ on_counts 1 op.Ne 0
    ∷ instr.JumpIf 1 (at + 6)
    ∷ instr.Get 1 (x + 1 + n)
    ∷ instr.Cast 1 (operand 1 (type_of e)) to
    ∷ instr.Put x 1
    ∷ members_code es to x (suc n) (at + 6)

abbrev pub turn_code : TypedSequence → ValueType → ℕ → ℕ → List Instr
turn_code (over.Range first by last) to x at =
    instr.Get 0 (x + 3)
    ∷ instr.Load 1 1
    ∷ on_counts 0 op.Sub 1
    ∷ instr.Put (x + 3) 0
    ∷ instr.Get 0 (x + 1)
    ∷ instr.Cast 0 (operand 0 count_kind) to
    ∷ instr.Put x 0
    ∷ instr.Get 0 (x + 1)
    ∷ instr.Get 1 (x + 2)
    ∷ on_counts 0 op.Add 1
    ∷ instr.Put (x + 1) 0 ∷ []
turn_code (over.Set members) to x at =
    instr.Get 0 (x + 1 + length members) ∷ (members_code members to x 0 (suc at) ++ counted_code (x + 1 + length members))
turn_code (over.Array of slot count) to x at =
    instr.Get 0 (x + 1 + count)
    ∷ instr.GetAt 0 (x + 1) count (operand 0 count_kind)
    ∷ instr.Cast 0 (operand 0 of) to
    ∷ instr.Put x 0
    ∷ counted_code (x + 1 + count)
turn_code (over.Bits width value) to x at =
    instr.Get 1 (x + 2)
    ∷ instr.Get 0 (x + 1)
    ∷ instr.BitGet 0 (operand 0 (kind.Bit width)) (operand 1 count_kind)
    ∷ instr.Cast 0 (operand 0 (kind.Bit 1)) to
    ∷ instr.Put x 0
    ∷ counted_code (x + 2)

-- ---- loops

abbrev pub begin_length : TypedLoop → ℕ
begin_length (loop.While condition) = 0
begin_length (loop.For to values) = kept_length values

abbrev pub begin_code : TypedLoop → ℕ → ℕ → ℕ → List Instr
begin_code (loop.While condition) x base at = []
begin_code (loop.For to values) x base at = kept_code values x base at

abbrev pub goes_on_length : TypedLoop → ℕ
goes_on_length (loop.While condition) = expression_length condition
goes_on_length (loop.For to values) = 3

abbrev pub goes_on_code : TypedLoop → ℕ → ℕ → ℕ → List Instr
goes_on_code (loop.While condition) x base at = expression_code condition base 0 at
goes_on_code (loop.For to values) x base at = has_turn_code values x

abbrev pub advance_length : TypedLoop → ℕ
advance_length (loop.While condition) = 0
advance_length (loop.For to values) = turn_length values

abbrev pub advance_code : TypedLoop → ℕ → ℕ → List Instr
advance_code (loop.While condition) x at = []
advance_code (loop.For to values) x at = turn_code values to x at
