-- Work cells, and what instructions reckon in them (flat code is this profile's; OpenQASM 3.0 live specification, "Classical instructions",
-- "Types and Casting" and "Gates"; Cross et al. 2022). A cell holds a whole number. A value in it has a type, and is read as as many of the
-- lowest bits as the type has; a phase is read as the signed number of all 64 bits. Operators, conversions, indexes and phases are those of
-- expressions.
use Rattle.std.specs.Prelude.{ℕ, ◌*◌, ◌^◌, true, false, nat_eq, nat_lt, if◌then◌else◌, ℤ, pos, neg_ℤ, List, [], ◌∷◌, length, map, Some, None, Ok, Err}
use Rattle.qt_value.specs.Numbers.{residue}
use Rattle.qt_value.specs.Places.{range_turns}
use Rattle.qt_value.specs.declared.types.ValueType.TheVariants as kind
use Rattle.qt_gate_calls.specs.Faults.{EighthPrimitive, with_eighths}
use Rattle.qt_gate_calls.specs.Primitives.{PrimitiveOf, Turned, Phased, nth_or}
use Rattle.qt_gate_calls.specs.Units.{KnownUnits, sum_of, difference_of, negative_of, product_of, quotient_of}
use Rattle.qt_meaning.specs.Applying.{different}
use Rattle.qt_meaning.specs.Expressions.{angle_units}
use Rattle.qt_meaning.specs.Values.{Evaluated, Index, BadAngle, and_then, or_fault, evaluated, lowest, number_of, operated, operated_alone, place_in}
use Rattle.qt_instructions.specs.declared.reference.QubitRef.{QubitRef}
use Rattle.qt_instructions.specs.declared.reference.QubitRef.TheVariants as qubit
use Rattle.qt_instructions.specs.declared.reference.AngleRef.{AngleRef}
use Rattle.qt_instructions.specs.declared.reference.AngleRef.TheVariants as angle
use Rattle.qt_instructions.specs.declared.primitive.Primitive.{Primitive}
use Rattle.qt_instructions.specs.declared.primitive.Primitive.TheVariants as primitive
use Rattle.qt_instructions.specs.declared.angle.AngleArg.{AngleArg}
use Rattle.qt_instructions.specs.declared.angle.AngleArg.TheVariants as argument
use Rattle.qt_instructions.specs.declared.angle.AngleStep.{AngleStep}
use Rattle.qt_instructions.specs.declared.angle.AngleStep.TheVariants as step
use Rattle.qt_instructions.specs.declared.angle.AngleOperation.{AngleOperation}
use Rattle.qt_instructions.specs.declared.angle.AngleOperation.TheVariants as phase
use Rattle.qt_instructions.specs.declared.instruction.Operand.{Operand}
use Rattle.qt_instructions.specs.declared.instruction.Operation.{Operation}
use Rattle.qt_instructions.specs.declared.instruction.Operation.TheVariants as operation
use Rattle.qt_instructions.specs.declared.instruction.Store.{Store}
use Rattle.qt_instructions.specs.declared.instruction.Store.TheVariants as store
use Rattle.qt_code.specs.Different.{references_of}

-- ---- cells

-- what the cells hold, by their numbers
abbrev pub Cells : Type 0
Cells = ℕ → ℕ

abbrev pub no_cells : Cells
no_cells cell = 0

-- the cells with one of them written
abbrev pub with_cell : ℕ → ℕ → Cells → Cells
with_cell cell bits cells other = if nat_eq cell other then bits else cells other

-- ---- values

abbrev pub number_in : Operand → Cells → ℤ
number_in operand cells = number_of operand.kind (cells operand.cell)

-- the place that an index is written for, of so many places
abbrev pub place_by : ℕ → Operand → Cells → Evaluated ℕ
place_by count index cells = place_in count index.kind (cells index.cell)

abbrev pub result_by : Operation → Cells → Evaluated ℕ
result_by (operation.Unary operator of) cells = Ok (operated_alone operator of.kind (cells of.cell))
result_by (operation.Binary operator left right) cells = operated operator left.kind right.kind (cells left.cell) (cells right.cell)

abbrev pub turns_by : Operand → Operand → Operand → Cells → Evaluated ℕ
turns_by first step last cells = evaluated (range_turns (number_in first cells) (number_in step cells) (number_in last cells))

-- ---- phases

-- the signed number of all 64 bits, and the bits of a phase
abbrev pub units_in : ℕ → Cells → ℤ
units_in cell cells = number_of (kind.Int 64) (cells cell)

abbrev pub bits_of_units : ℤ → ℕ
bits_of_units units = residue 64 units

abbrev pub units_by : AngleArg → Cells → ℤ
units_by (argument.Units units) cells = units
units_by (argument.Work cell) cells = units_in cell cells

-- nothing where an operand or the result is no phase, or a division leaves a rest
abbrev pub step_result : AngleStep → Cells → KnownUnits
step_result (step.Add left right) cells = sum_of (units_by left cells) (units_by right cells)
step_result (step.Sub left right) cells = difference_of (units_by left cells) (units_by right cells)
step_result (step.Neg of) cells = negative_of (units_by of cells)
step_result (step.Times of k) cells = product_of k (units_by of cells)
step_result (step.Over of k) cells = quotient_of k (units_by of cells)

abbrev pub phase_result : AngleOperation → Cells → KnownUnits
phase_result (phase.Step step) cells = step_result step cells
phase_result (phase.OfAngle value) cells = Some (angle_units value.kind (cells value.cell))
phase_result (phase.Product of factor) cells = product_of (number_in factor cells) (units_by of cells)
phase_result (phase.Quotient of divisor) cells = quotient_of (number_in divisor cells) (units_by of cells)
phase_result (phase.NoRest value) cells = if nat_eq (lowest value.kind (cells value.cell)) 0 then Some (pos 0) else None

abbrev pub phase_by : AngleOperation → Cells → Evaluated ℕ
phase_by operation cells = and_then (or_fault BadAngle (phase_result operation cells)) (λ units. Ok (bits_of_units units))

-- ---- qubits

abbrev pub qubit_by : List ℕ → Operand → Cells → Evaluated ℕ
qubit_by qubits index cells = and_then (place_by (length qubits) index cells) (λ place. Ok (nth_or 0 place qubits))

-- the number that a reference names, which is to be that of one of n qubits
abbrev pub named_by : QubitRef → Cells → ℕ
named_by (qubit.At q) cells = q
named_by (qubit.Work cell) cells = cells cell

abbrev pub qubit_of : ℕ → QubitRef → Cells → Evaluated ℕ
qubit_of n (qubit.At q) cells = Ok q
qubit_of n (qubit.Work cell) cells = if nat_lt (cells cell) n then Ok (cells cell) else Err Index

abbrev pub qubits_of : ℕ → List QubitRef → Cells → Evaluated (List ℕ)
qubits_of n [] cells = Ok []
qubits_of n (r ∷ rs) cells = and_then (qubit_of n r cells) (λ q. and_then (qubits_of n rs cells) (λ qs. Ok (q ∷ qs)))

-- all of them are qubits, and different ones
abbrev pub different_by : ℕ → List QubitRef → Cells → Evaluated (List ℕ)
different_by n references cells = and_then (qubits_of n references cells) different

-- ---- primitives

abbrev pub angle_by : AngleRef → Cells → KnownUnits
angle_by (angle.Eighth eighths) cells = Some (pos (eighths * 2 ^ 30))
angle_by (angle.Work cell false) cells = Some (units_in cell cells)
angle_by (angle.Work cell true) cells = Some (neg_ℤ (units_in cell cells))

-- the primitive on the qubits and with the angles that it refers to
abbrev pub referred_by : Primitive → Cells → PrimitiveOf ℕ KnownUnits
referred_by (primitive.Turn ones zeros q theta phi lambda) cells =
    Turned (map (λ r. named_by r cells) ones) (map (λ r. named_by r cells) zeros) (named_by q cells)
    (angle_by theta cells) (angle_by phi cells) (angle_by lambda cells)
referred_by (primitive.Phase ones zeros gamma) cells =
    Phased (map (λ r. named_by r cells) ones) (map (λ r. named_by r cells) zeros) (angle_by gamma cells)

-- the tests of the qubits come first, then the angles: each is to be a multiple of π/4
abbrev pub primitive_by : ℕ → Primitive → Cells → Evaluated EighthPrimitive
primitive_by n p cells = and_then (different_by n (references_of p) cells) (λ qs. or_fault BadAngle (with_eighths (referred_by p cells)))

-- ---- where an outcome goes

-- the place of a bit of 64
abbrev pub bit_place : ℕ → Evaluated ℕ
bit_place place = if nat_lt place 64 then Ok place else Err Index

abbrev pub place_of_store : Store → Cells → Evaluated ℕ
place_of_store store.Nowhere cells = Ok 0
place_of_store (store.Bit slot place) cells = bit_place place
place_of_store (store.BitAt slot cell) cells = bit_place (cells cell)
