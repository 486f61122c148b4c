-- Values in slots, and what operators do to them (OpenQASM 3.0 live specification, "Types and Casting" and "Classical instructions"; Cross et al. 2022).
-- A slot holds the bits of its value as a whole number; what reads it takes as many of the lowest bits as the type has. The tables of operators
-- and conversions are those of the types; this page only says what stands for a fault.
use Rattle.std.specs.Prelude.{ℕ, zero, suc, ◌+◌, ◌-◌, ◌*◌, ◌%◌, ◌^◌, nat_eq, Bool, true, false, if◌then◌else◌, ℤ, List, [], ◌∷◌, length, Option, Some, None, Result, Ok, Err, option_map}
use Rattle.std.specs.Int.{bit_at}
use Rattle.qt_value.specs.BitPlaces.{from_places}
use Rattle.qt_value.specs.Casts.{converted}
use Rattle.qt_value.specs.Numbers.{Datum, number}
use Rattle.qt_value.specs.OpTypes.{result_type}
use Rattle.qt_value.specs.Places.{place_of}
use Rattle.qt_value.specs.Results.{result_of, unary_result_of}
use Rattle.qt_value.specs.Types.{width_of}
use Rattle.qt_value.specs.declared.fault.ValueFault.{ValueFault}
use Rattle.qt_value.specs.declared.fault.ValueFault.TheVariants as value_fault
use Rattle.qt_value.specs.declared.operators.Op.{Op}
use Rattle.qt_value.specs.declared.operators.Op.TheVariants as op
use Rattle.qt_value.specs.declared.operators.UnaryOp.{UnaryOp}
use Rattle.qt_value.specs.declared.types.ValueType.{ValueType}
use Rattle.qt_value.specs.declared.types.ValueType.TheVariants as kind

-- what a run can stumble on
pub data Fault : Type 0 where
  Divide : Fault
  Index : Fault
  Step : Fault
  BadAngle : Fault
  SameQubit : Fault

-- a result, or the first fault on the way to it
abbrev pub Evaluated : Type 0 → Type 0
Evaluated A = Result A Fault

abbrev pub and_then : {A B : Type 0} → Evaluated A → (A → Evaluated B) → Evaluated B
and_then (Ok a) rest = rest a
and_then (Err fault) rest = Err fault

abbrev pub or_fault : {A : Type 0} → Fault → Option A → Evaluated A
or_fault fault (Some a) = Ok a
or_fault fault None = Err fault

abbrev pub as_fault : ValueFault → Fault
as_fault value_fault.Divide = Divide
as_fault value_fault.Index = Index
as_fault value_fault.Step = Step

abbrev pub evaluated : {A : Type 0} → Result A ValueFault → Evaluated A
evaluated (Ok a) = Ok a
evaluated (Err fault) = Err (as_fault fault)

-- ---- bits

-- as many of the lowest bits as the type has
abbrev pub lowest : ValueType → ℕ → ℕ
lowest kind bits = bits % 2 ^ width_of kind

abbrev pub datum : ValueType → ℕ → Datum
datum kind bits = record { kind = kind; bits = lowest kind bits }

-- the number that a value stands for
unfoldable pub number_of : ValueType → ℕ → ℤ
number_of kind bits = number kind (lowest kind bits)

unfoldable pub is_true : ℕ → Bool
is_true bits = nat_eq (lowest kind.Bool bits) 1

-- the bits at so many places, of which place i is place start + i · step
unfoldable pub slice_of : ℕ → ℕ → ℕ → ℕ → ℕ
slice_of bits start step count = from_places count (λ i. bit_at bits (start + i * step))

-- a number with the bit at a place replaced
unfoldable pub with_bit : ℕ → ℕ → ℕ → ℕ
with_bit place bit bits = bits - bit_at bits place * 2 ^ place + bit * 2 ^ place

-- ---- operators and conversions

abbrev pub bits_in : Datum → ℕ
bits_in x = x.bits

abbrev pub or_zero : Option ℕ → ℕ
or_zero (Some bits) = bits
or_zero None = 0

-- the only fault of an operator is a division, or a negative exponent
unfoldable pub operated : Op → ValueType → ValueType → ℕ → ℕ → Evaluated ℕ
operated op left right x y = or_fault Divide (option_map bits_in (result_of op (datum left x) (datum right y)))

unfoldable pub operated_alone : UnaryOp → ValueType → ℕ → ℕ
operated_alone op of x = or_zero (option_map bits_in (unary_result_of op (datum of x)))

-- a division that may leave no rest
unfoldable pub divided_exactly : ValueType → ValueType → ℕ → ℕ → Evaluated ℕ
divided_exactly left right x y = and_then (operated op.Rem left right x y) (λ rest. if nat_eq rest 0 then operated op.Div left right x y else Err BadAngle)

unfoldable pub converted_to : ValueType → ValueType → ℕ → ℕ
converted_to to from bits = or_zero (option_map bits_in (converted (datum from bits) to))

-- the place that an index of a type is written for, of so many places
unfoldable pub place_in : ℕ → ValueType → ℕ → Evaluated ℕ
place_in count of index = evaluated (place_of (number_of of index) count)

-- ---- slots

-- behind the last slot there is 0
abbrev pub slot_at : List ℕ → ℕ → ℕ
slot_at [] x = 0
slot_at (v ∷ vs) zero = v
slot_at (v ∷ vs) (suc x) = slot_at vs x

abbrev pub slots_from : List ℕ → ℕ → ℕ → List ℕ
slots_from store first zero = []
slots_from store first (suc count) = slot_at store first ∷ slots_from store (suc first) count

-- a slot as a whole number of 64 bits
abbrev pub whole_at : List ℕ → ℕ → ℕ
whole_at store x = lowest (kind.Uint 64) (slot_at store x)
