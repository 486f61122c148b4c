-- Small codes, computed: that they are valid, and what follows from their beginnings.
use Rattle.std.proofs.Common.{◌≡◌, refl, ℕ, ◌+◌, pos, true, false, List, [], ◌∷◌}
use Rattle.qt_tree.specs.declared.place.Place.{Place}
use Rattle.qt_ring.specs.Ring.{plus, times, minus, nil, one, imaginary, the_omega}
use Rattle.qt_ring.specs.State.{zero_state, applied, project, flip, vanishes}
use Rattle.qt_value.specs.declared.operators.Op.TheVariants as op
use Rattle.qt_value.specs.declared.types.ValueType.TheVariants as kind
use Rattle.qt_meaning.specs.Points.{Signal, Faulted, Dry, Leaf}
use Rattle.qt_meaning.specs.Values.{Divide, Index, SameQubit, with_bit, operated, number_of, place_in, is_true}
use Rattle.qt_instructions.specs.declared.reference.QubitRef.TheVariants as qubit
use Rattle.qt_instructions.specs.declared.reference.AngleRef.TheVariants as angle
use Rattle.qt_instructions.specs.declared.primitive.Primitive.TheVariants as primitive
use Rattle.qt_instructions.specs.declared.angle.AngleArg.TheVariants as argument
use Rattle.qt_instructions.specs.declared.angle.AngleStep.TheVariants as step
use Rattle.qt_instructions.specs.declared.angle.AngleOperation.TheVariants as phase
use Rattle.qt_instructions.specs.declared.instruction.Operand.{Operand}
use Rattle.qt_instructions.specs.declared.instruction.Operation.TheVariants as operation
use Rattle.qt_instructions.specs.declared.instruction.Store.TheVariants as store
use Rattle.qt_instructions.specs.declared.instruction.Instr.{Instr}
use Rattle.qt_instructions.specs.declared.instruction.Instr.TheVariants as instr
use Rattle.qt_instructions.specs.declared.parts.Parts.{Parts}
use Rattle.qt_code.specs.Validity.{is_valid}
use Rattle.qt_code.specs.Tail.{leaves_from_start}

abbrev line : ℕ → Place
line n = record { file = 0; line = n; column = 1 }

abbrev places : ℕ → List Instr → List Place
places n [] = []
places n (i ∷ is) = line n ∷ places (n + 1) is

-- code with so many qubits, and one slot and three work cells
abbrev code : ℕ → List Instr → Parts
code qubits instructions =
    record {
      instructions = instructions;
      places = places 1 instructions;
      qubits = qubits;
      slots = 1;
      cells = 3;
      start = 0 ∷ [];
      layout = [];
      end = line 100;
    }

abbrev signals : List Leaf → List Signal
signals [] = []
signals (l ∷ ls) = l.signal ∷ signals ls

abbrev stores : List Leaf → List (List ℕ)
stores [] = []
stores (l ∷ ls) = l.point.store ∷ stores ls

abbrev whole : ℕ → Operand
whole cell = record { cell = cell; kind = kind.Uint 8 }

-- ---- a coin

abbrev coin : Parts
coin =
    code 1 (instr.Tick
    ∷ instr.Gate (primitive.Turn [] [] (qubit.At 0) (angle.Eighth 2) (angle.Eighth 0) (angle.Eighth 4))
    ∷ instr.Gate (primitive.Phase [] [] (angle.Eighth 7))
    ∷ instr.Tick
    ∷ instr.Measure (qubit.At 0) (store.Bit 0 0)
    ∷ instr.End ∷ [])

coin_is_valid : is_valid coin ≡ true
coin_is_valid = refl

both_sides : stores (leaves_from_start coin 2) ≡ (0 ∷ []) ∷ (1 ∷ []) ∷ []
unfolding zero_state applied project vanishes with_bit plus times minus nil one imaginary the_omega
both_sides = refl

too_little_fuel : signals (leaves_from_start coin 1) ≡ Dry ∷ []
unfolding zero_state applied plus times minus nil one imaginary the_omega
too_little_fuel = refl

-- ---- a loop: from 3 down to 0

abbrev countdown : Parts
countdown =
    code 0 (instr.Load 0 3
    ∷ instr.Load 1 1
    ∷ instr.Tick
    ∷ instr.Apply 0 (operation.Binary op.Sub (whole 0) (whole 1))
    ∷ instr.Put 0 0
    ∷ instr.Apply 2 (operation.Binary op.Ne (whole 0) (whole 2))
    ∷ instr.JumpIf 2 8
    ∷ instr.End
    ∷ instr.Load 2 0
    ∷ instr.Jump 2 ∷ [])

countdown_is_valid : is_valid countdown ≡ true
countdown_is_valid = refl

counted_down : stores (leaves_from_start countdown 3) ≡ (0 ∷ []) ∷ []
unfolding zero_state operated is_true
counted_down = refl

two_turns : signals (leaves_from_start countdown 2) ≡ Dry ∷ []
unfolding zero_state operated is_true
two_turns = refl

-- ---- a division by 0, and a place behind the last

abbrev divided : Parts
divided = code 0 (instr.Tick ∷ instr.Apply 0 (operation.Binary op.Div (whole 0) (whole 1)) ∷ instr.End ∷ [])

division_faults : signals (leaves_from_start divided 1) ≡ Faulted Divide (line 2) ∷ []
unfolding zero_state operated
division_faults = refl

abbrev far : Parts
far = code 0 (instr.Load 0 1 ∷ instr.GetAt 1 0 1 (whole 0) ∷ instr.End ∷ [])

index_faults : signals (leaves_from_start far 0) ≡ Faulted Index (line 2) ∷ []
unfolding zero_state place_in number_of
index_faults = refl

-- ---- a qubit by an index of the run, and an angle that is reckoned there: q[1] is turned by π about x

abbrev half : ℕ
half = 2147483648

abbrev turned : Parts
turned =
    code 2 (instr.Tick
    ∷ instr.Load 0 1
    ∷ instr.Qubit 0 (0 ∷ 1 ∷ []) (whole 0)
    ∷ instr.Distinct (qubit.Work 0 ∷ [])
    ∷ instr.AngleOp 1 (phase.Step (step.Add (argument.Units (pos half)) (argument.Units (pos half))))
    ∷ instr.Gate (primitive.Turn [] [] (qubit.Work 0) (angle.Work 1 false) (angle.Eighth 0) (angle.Work 1 true))
    ∷ instr.Measure (qubit.At 1) (store.Bit 0 0)
    ∷ instr.Reset (qubit.At 0)
    ∷ instr.End ∷ [])

turned_is_valid : is_valid turned ≡ true
turned_is_valid = refl

surely_one : stores (leaves_from_start turned 1) ≡ (1 ∷ []) ∷ []
unfolding zero_state applied project flip vanishes with_bit number_of place_in plus times minus nil one imaginary the_omega
surely_one = refl

-- the same qubit twice, once by its number and once by a cell
abbrev twice : Parts
twice = code 2 (instr.Load 0 1 ∷ instr.Distinct (qubit.Work 0 ∷ qubit.At 1 ∷ []) ∷ instr.End ∷ [])

same_qubit_faults : signals (leaves_from_start twice 0) ≡ Faulted SameQubit (line 2) ∷ []
unfolding zero_state
same_qubit_faults = refl

-- ---- code that isn't valid: a jump back to no Tick

jump_to_no_tick : is_valid (code 0 (instr.Load 0 1 ∷ instr.Jump 0 ∷ [])) ≡ false
jump_to_no_tick = refl
