-- Where values go, and which qubits are meant (OpenQASM 3.0 live specification, "Types and Casting": index sets and slicing, quantum types,
-- and "Subroutines"; Cross et al. 2022). A target is a slot as a whole or some bits of it; a qubit is named by its number.
use Rattle.std.specs.Prelude.{ℕ, zero, suc, ◌+◌, ◌*◌, nat_lt, if◌then◌else◌, List, [], ◌∷◌, length, map, slice_set, Option, Some, None, Ok, Err}
use Rattle.std.specs.Int.{bit_at}
use Rattle.std.specs.List.{range_with_len}
use Rattle.qt_value.specs.BitPlaces.{from_places}
use Rattle.qt_value.specs.Types.{width_of}
use Rattle.qt_value.specs.declared.types.ValueType.{ValueType}
use Rattle.qt_gate_calls.specs.Primitives.{nth_or}
use Rattle.qt_registers.specs.declared.fixed.FixedQubit.{FixedQubit}
use Rattle.qt_registers.specs.declared.fixed.FixedQubit.TheVariants as fixed
use Rattle.qt_typed.specs.declared.call.TypedQubit.{TypedQubit}
use Rattle.qt_typed.specs.declared.call.TypedQubit.TheVariants as qubit
use Rattle.qt_typed.specs.declared.call.TypedQubits.{TypedQubits}
use Rattle.qt_typed.specs.declared.call.TypedQubits.TheVariants as qubits
use Rattle.qt_typed.specs.declared.expression.TypedExpr.{TypedExpr}
use Rattle.qt_typed.specs.declared.expression.TypedStep.{TypedStep}
use Rattle.qt_typed.specs.declared.expression.TypedStep.TheVariants as step
use Rattle.qt_typed.specs.declared.expression.TypedVariable.{TypedVariable}
use Rattle.qt_typed.specs.declared.expression.TypedVariable.TheVariants as variable
use Rattle.qt_typed.specs.declared.expression.TypedTarget.{TypedTarget}
use Rattle.qt_typed.specs.Types.{type_of}
use Rattle.qt_meaning.specs.Values.{Evaluated, Index, and_then, place_in, with_bit, slot_at}
use Rattle.qt_meaning.specs.Expressions.{eval}

-- ---- targets

-- a whole slot, or the bits of a slot at these places, the lowest of the value first
pub data Location : Type 0 where
  Whole : ℕ → Location
  Bits : ℕ → List ℕ → Location

-- the place of an element behind the first, as in expressions
abbrev pub element_of : List ℕ → ℕ → List TypedExpr → ℕ → List ℕ → Evaluated ℕ
element_of (length ∷ lengths) place (index ∷ rest) base store =
    and_then (eval index base store) (λ i. and_then (place_in length (type_of index) i) (λ n. element_of lengths (place * length + n) rest base store))
element_of _ place _ base store = Ok place

abbrev pub slot_of : TypedVariable → ℕ → List ℕ → Evaluated ℕ
slot_of (variable.Slot kind slot) base store = Ok (base + slot)
slot_of (variable.Element kind slot lengths indexes) base store = and_then (element_of lengths 0 indexes base store) (λ place. Ok (base + slot + place))

abbrev pub kind_of : TypedVariable → ValueType
kind_of (variable.Slot kind slot) = kind
kind_of (variable.Element kind slot lengths indexes) = kind

-- what is left of some places of a value after steps to bits of it
abbrev pub places_after : List TypedStep → List ℕ → ℕ → List ℕ → Evaluated (List ℕ)
places_after [] places base store = Ok places
places_after (step.At index ∷ steps) places base store =
    and_then (eval index base store) (λ i. and_then (place_in (length places) (type_of index) i) (λ n. places_after steps (nth_or 0 n places ∷ []) base store))
places_after (step.Slice start by count ∷ steps) places base store =
    places_after steps (map (λ i. nth_or 0 (start + i * by) places) (range_with_len 0 count)) base store

-- the places of a value of n bits, the lowest first
abbrev pub all_places : ℕ → List ℕ
all_places n = range_with_len 0 n

abbrev pub location_in : List TypedStep → ℕ → ℕ → ℕ → List ℕ → Evaluated Location
location_in [] width slot base store = Ok (Whole slot)
location_in steps width slot base store = and_then (places_after steps (all_places width) base store) (λ places. Ok (Bits slot places))

abbrev pub location_of : TypedTarget → ℕ → List ℕ → Evaluated Location
location_of target base store =
    and_then (slot_of target.variable base store) (λ slot. location_in target.steps (width_of (kind_of target.variable)) slot base store)

-- ---- storing and loading

abbrev pub with_bits : List ℕ → ℕ → ℕ → ℕ → ℕ
with_bits [] i bits old = old
with_bits (place ∷ places) i bits old = with_bits places (suc i) bits (with_bit place (bit_at bits i) old)

abbrev pub stored : Location → ℕ → List ℕ → List ℕ
stored (Whole slot) bits store = slice_set store slot bits
stored (Bits slot places) bits store = slice_set store slot (with_bits places 0 bits (slot_at store slot))

abbrev pub loaded : Location → List ℕ → ℕ
loaded (Whole slot) store = slot_at store slot
loaded (Bits slot places) store = from_places (length places) (λ i. bit_at (slot_at store slot) (nth_or 0 i places))

-- one bit of the value that is stored there, by its place in that value
abbrev pub bit_stored : Location → ℕ → ℕ → List ℕ → List ℕ
bit_stored (Whole slot) i bit store = slice_set store slot (with_bit i bit (slot_at store slot))
bit_stored (Bits slot places) i bit store = slice_set store slot (with_bit (nth_or 0 i places) bit (slot_at store slot))

-- values in the slots from the first on
abbrev pub all_stored : ℕ → List ℕ → List ℕ → List ℕ
all_stored slot [] store = store
all_stored slot (bits ∷ rest) store = all_stored (suc slot) rest (slice_set store slot bits)

-- ---- where a statement is put in

-- the number of choices before it, the first slot of its frame, how many qubits the program has, and the qubits of the registers that the
-- parameters of its subroutine stand for
pub record Site : Type 0 where
  pub choices : ℕ
  pub base : ℕ
  pub qubits : ℕ
  pub registers : ℕ → List ℕ

-- ---- qubits

abbrev pub fixed_number : Site → FixedQubit → ℕ
fixed_number at (fixed.Number qubit) = qubit
fixed_number at (fixed.OfParameter parameter place) = nth_or 0 place (at.registers parameter)

-- the qubit of a register at a place
abbrev pub register_number : Site → List FixedQubit → ℕ → ℕ
register_number at register place = nth_or 0 place (map (fixed_number at) register)

-- the number that a qubit is named by
abbrev pub number_named : Site → TypedQubit → List ℕ → Evaluated ℕ
number_named at (qubit.Fixed q) store = Ok (fixed_number at q)
number_named at (qubit.Slot slot) store = Ok (slot_at store (at.base + slot))
number_named at (qubit.Indexed register index) store =
    and_then (eval index at.base store) (λ i. and_then (place_in (length register) (type_of index) i) (λ place. Ok (register_number at register place)))

-- a parameter's slot always holds the number of a qubit; any other number would be out of range
abbrev pub qubit_tested : Site → TypedQubit → ℕ → Evaluated ℕ
qubit_tested at (qubit.Slot slot) number = if nat_lt number at.qubits then Ok number else Err Index
qubit_tested at _ number = Ok number

abbrev pub numbers_named : Site → List TypedQubit → List ℕ → Evaluated (List ℕ)
numbers_named at [] store = Ok []
numbers_named at (q ∷ qs) store = and_then (number_named at q store) (λ n. and_then (numbers_named at qs store) (λ ns. Ok (n ∷ ns)))

abbrev pub all_tested : Site → List TypedQubit → List ℕ → Evaluated (List ℕ)
all_tested at (q ∷ qs) (n ∷ ns) = and_then (qubit_tested at q n) (λ m. and_then (all_tested at qs ns) (λ ms. Ok (m ∷ ms)))
all_tested at _ _ = Ok []

-- a single qubit, or those of a register in order
abbrev pub register_named : Site → TypedQubits → List ℕ → Evaluated (List ℕ)
register_named at (qubits.Single q) store = and_then (number_named at q store) (λ n. Ok (n ∷ []))
register_named at (qubits.Register register) store = Ok (map (fixed_number at) register)

abbrev pub register_tested : Site → TypedQubits → List ℕ → Evaluated (List ℕ)
register_tested at (qubits.Single q) numbers = all_tested at (q ∷ []) numbers
register_tested at (qubits.Register register) numbers = Ok numbers

abbrev pub registers_named : Site → List TypedQubits → List ℕ → Evaluated (List (List ℕ))
registers_named at [] store = Ok []
registers_named at (q ∷ qs) store = and_then (register_named at q store) (λ n. and_then (registers_named at qs store) (λ ns. Ok (n ∷ ns)))

abbrev pub registers_tested : Site → List TypedQubits → List (List ℕ) → Evaluated (List (List ℕ))
registers_tested at (q ∷ qs) (n ∷ ns) = and_then (register_tested at q n) (λ m. and_then (registers_tested at qs ns) (λ ms. Ok (m ∷ ms)))
registers_tested at _ _ = Ok []
