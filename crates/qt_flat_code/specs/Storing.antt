-- How values go to variables (flat code is this profile's; OpenQASM 3.0 live specification, "Classical instructions", and "Types and
-- Casting": index sets and slicing). A value stands in a cell, and the cells behind it are used on the way: the next one has the place of an
-- element, the one after it the place of a bit, and the one after that the old value of the variable, which is changed and put back.
use Rattle.std.specs.Prelude.{ℕ, zero, suc, ◌+◌, List, [], ◌∷◌, ◌++◌, length, Option, Some, None}
use Rattle.qt_value.specs.OpTypes.{result_type}
use Rattle.qt_value.specs.declared.operators.Op.{Op}
use Rattle.qt_value.specs.declared.operators.Op.TheVariants as op
use Rattle.qt_value.specs.declared.types.ValueType.{ValueType}
use Rattle.qt_value.specs.declared.types.ValueType.TheVariants as kind
use Rattle.qt_typed.specs.Types.{type_of, or_bool}
use Rattle.qt_typed.specs.declared.expression.TypedExpr.{TypedExpr}
use Rattle.qt_typed.specs.declared.expression.TypedStep.{TypedStep}
use Rattle.qt_typed.specs.declared.expression.TypedStep.TheVariants as step
use Rattle.qt_typed.specs.declared.expression.TypedTarget.{TypedTarget}
use Rattle.qt_typed.specs.declared.expression.TypedVariable.{TypedVariable}
use Rattle.qt_typed.specs.declared.expression.TypedVariable.TheVariants as variable
use Rattle.qt_meaning.specs.Distribution.{element_count}
use Rattle.qt_meaning.specs.Places.{kind_of}
use Rattle.qt_instructions.specs.declared.instruction.Instr.{Instr}
use Rattle.qt_instructions.specs.declared.instruction.Instr.TheVariants as instr
use Rattle.qt_flat_code.specs.Bits.{Bits, AllBits, EveryBit, OneBit, bits_of, first_bits, sliced}
use Rattle.qt_flat_code.specs.Lengths.{bit_length, expression_length, variable_length}
use Rattle.qt_flat_code.specs.Expressions.{binary, copied_code, every, expression_code, index_code, on_places, operand, place_kind}

-- ---- variables

abbrev pub indexes_code : List ℕ → ℕ → List TypedExpr → ℕ → ℕ → ℕ → List Instr
indexes_code (length ∷ lengths) first (index ∷ rest) base cell at =
    expression_code index base (suc cell) at
    ++ (index_code cell first (type_of index) length ++ indexes_code lengths first rest base cell (at + expression_length index + 7))
indexes_code _ first _ base cell at = []

-- the place of an element comes to the cell; a scalar variable has none
abbrev pub variable_code : TypedVariable → ℕ → ℕ → ℕ → List Instr
variable_code (variable.Slot kind slot) base cell at = []
variable_code (variable.Element kind slot lengths indexes) base cell at =
    instr.Load cell 0 ∷ indexes_code lengths (base + slot) indexes base cell (suc at)

-- with the place of an element in a cell, the variable's value to another, or from it
abbrev pub get : TypedVariable → ℕ → ℕ → ℕ → Instr
get (variable.Slot kind slot) base place cell = instr.Get cell (base + slot)
get (variable.Element kind slot lengths indexes) base place cell =
    instr.GetAt cell (base + slot) (element_count lengths) (operand place place_kind)

abbrev pub put : TypedVariable → ℕ → ℕ → ℕ → Instr
put (variable.Slot kind slot) base place cell = instr.Put (base + slot) cell
put (variable.Element kind slot lengths indexes) base place cell =
    instr.PutAt (base + slot) (element_count lengths) (operand place place_kind) cell

-- ---- bits

-- an index in the next cell is tested for so many bits, where a bit of any value of their number is got. It becomes the place of the bit
-- in the variable, in the cell; where one bit is left, its place stays
abbrev pub bit_code : ℕ → ValueType → Bits → List Instr
bit_code cell of AllBits = []
bit_code cell of (EveryBit first step count) =
    instr.BitGet (cell + 2) (operand (cell + 2) (kind.Bit count)) (operand (cell + 1) of)
    ∷ instr.Load (cell + 2) count
    ∷ instr.Cast cell (operand (cell + 1) of) place_kind
    ∷ on_places cell op.Add (cell + 2)
    ∷ on_places cell op.Rem (cell + 2)
    ∷ instr.Load (cell + 2) step
    ∷ on_places cell op.Mul (cell + 2)
    ∷ instr.Load (cell + 2) first
    ∷ on_places cell op.Add (cell + 2) ∷ []
bit_code cell of OneBit = instr.BitGet (cell + 2) (operand (cell + 2) (kind.Bit 1)) (operand (cell + 1) of) ∷ []

-- the place of a bit that is found in the run comes to the cell. Each index is tested at once
abbrev pub steps_code : List TypedStep → Bits → ℕ → ℕ → ℕ → List Instr
steps_code [] bits base cell at = []
steps_code (step.At index ∷ steps) bits base cell at =
    expression_code index base (suc cell) at
    ++ (bit_code cell (type_of index) bits ++ steps_code steps OneBit base cell (at + expression_length index + bit_length bits))
steps_code (step.Slice start by count ∷ steps) bits base cell at = steps_code steps (sliced start by count bits) base cell at

abbrev pub target_steps_code : TypedTarget → ℕ → ℕ → ℕ → List Instr
target_steps_code target base cell at = steps_code target.steps (first_bits target) base cell at

-- ---- targets

-- where a target is: the place of an element comes to the cell, that of a bit to the next one
abbrev pub location_code : TypedTarget → ℕ → ℕ → ℕ → List Instr
location_code target base cell at =
    variable_code target.variable base cell at ++ target_steps_code target base (suc cell) (at + variable_length target.variable)

-- with the place of an element in the cell and that of a bit in the next one, the target's value comes to the cell behind them
abbrev pub loading_code : Bits → TypedTarget → ℕ → ℕ → List Instr
loading_code AllBits target base cell = get target.variable base cell (cell + 2) ∷ []
loading_code (EveryBit first step count) target base cell =
    get target.variable base cell (cell + 3)
    ∷ instr.Load (cell + 2) 0
    ∷ copied_code (cell + 3) (kind_of target.variable) (every first step) (cell + 2) target.kind (λ i. i) (cell + 4) 0 count
loading_code OneBit target base cell =
    get target.variable base cell (cell + 2)
    ∷ instr.BitGet (cell + 2) (operand (cell + 2) (kind_of target.variable)) (operand (cell + 1) place_kind) ∷ []

-- and a value in another cell goes there: a whole variable is put; else the old value is got, changed and put back
abbrev pub storing_code : Bits → TypedTarget → ℕ → ℕ → ℕ → List Instr
storing_code AllBits target base cell from = put target.variable base cell from ∷ []
storing_code (EveryBit first step count) target base cell from =
    get target.variable base cell (cell + 2)
    ∷ (copied_code from target.kind (λ i. i) (cell + 2) (kind_of target.variable) (every first step) (cell + 3) 0 count
    ++ (put target.variable base cell (cell + 2) ∷ []))
storing_code OneBit target base cell from =
    get target.variable base cell (cell + 2)
    ∷ instr.BitPut (operand (cell + 2) (kind_of target.variable)) (operand (cell + 1) place_kind) from
    ∷ put target.variable base cell (cell + 2) ∷ []

-- from the instruction `at` on, the value in a cell goes to a target
abbrev pub target_code : TypedTarget → ℕ → ℕ → ℕ → List Instr
target_code target base cell at = location_code target base (suc cell) at ++ storing_code (bits_of target) target base (suc cell) cell

-- ---- several slots

-- values come to cells from one on
abbrev pub values_code : List TypedExpr → ℕ → ℕ → ℕ → List Instr
values_code [] base cell at = []
values_code (e ∷ es) base cell at = expression_code e base cell at ++ values_code es base (suc cell) (at + expression_length e)

-- so many cells from one on go to slots
abbrev pub puts : ℕ → ℕ → ℕ → List Instr
puts slot cell zero = []
puts slot cell (suc count) = instr.Put slot cell ∷ puts (suc slot) (suc cell) count

-- one cell goes to so many slots
abbrev pub copies : ℕ → ℕ → ℕ → List Instr
copies slot cell zero = []
copies slot cell (suc count) = instr.Put slot cell ∷ copies (suc slot) cell count

-- so many slots become 0, by a cell
abbrev pub zeros_code : ℕ → ℕ → ℕ → List Instr
zeros_code slot cell zero = []
zeros_code slot cell (suc count) = instr.Load cell 0 ∷ copies slot cell (suc count)

-- ---- statements that store values

-- an array's elements, or 0 for each
abbrev pub array_code : Option (List TypedExpr) → ℕ → ℕ → ℕ → ℕ → List Instr
array_code None slot count base at = zeros_code slot 0 count
array_code (Some values) slot count base at = values_code values base 0 at ++ puts slot 0 (length values)

-- a compound assignment: the right side, then the target's indexes, then the old value, the operator and the store
abbrev pub update_code : TypedTarget → Op → TypedExpr → ℕ → ℕ → List Instr
update_code target operator value base at =
    expression_code value base 0 at
    ++ (location_code target base 1 (at + expression_length value)
    ++ (loading_code (bits_of target) target base 1
    ++ (binary 0 operator (operand 3 target.kind) (operand 0 (type_of value))
    ∷ instr.Cast 0 (operand 0 (or_bool (result_type operator target.kind (type_of value)))) target.kind
    ∷ storing_code (bits_of target) target base 1 0)))
