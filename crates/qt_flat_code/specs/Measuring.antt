-- The code of measurements and resets (flat code is this profile's; OpenQASM 3.0 live specification, "Built-in quantum instructions",
-- measurement and reset). The number of a single qubit that is known in the run comes to cell 0, then the place of a target's bit that is found
-- in the run to cell 1. A register has one choice for each qubit, in order. The slot of a target is known before the run, as all indexes of
-- arrays in it are constants.
use Rattle.std.specs.Prelude.{ℕ, suc, ◌+◌, ◌*◌, List, [], ◌∷◌, ◌++◌, map, Option, Some, None, Ok, Err}
use Rattle.qt_typed.specs.Types.{type_of}
use Rattle.qt_typed.specs.declared.call.TypedQubit.{TypedQubit}
use Rattle.qt_typed.specs.declared.call.TypedQubit.TheVariants as qubit
use Rattle.qt_typed.specs.declared.call.TypedQubits.{TypedQubits}
use Rattle.qt_typed.specs.declared.call.TypedQubits.TheVariants as qubits
use Rattle.qt_typed.specs.declared.expression.TypedExpr.{TypedExpr}
use Rattle.qt_typed.specs.declared.expression.TypedExpr.TheVariants.{Constant}
use Rattle.qt_typed.specs.declared.expression.TypedTarget.{TypedTarget}
use Rattle.qt_typed.specs.declared.expression.TypedVariable.{TypedVariable}
use Rattle.qt_typed.specs.declared.expression.TypedVariable.TheVariants as variable
use Rattle.qt_meaning.specs.Places.{Site, fixed_number}
use Rattle.qt_meaning.specs.Values.{Evaluated, place_in}
use Rattle.qt_instructions.specs.declared.reference.QubitRef.{QubitRef}
use Rattle.qt_instructions.specs.declared.reference.QubitRef.TheVariants as reference
use Rattle.qt_instructions.specs.declared.instruction.Instr.{Instr}
use Rattle.qt_instructions.specs.declared.instruction.Instr.TheVariants as instr
use Rattle.qt_instructions.specs.declared.instruction.Store.{Store}
use Rattle.qt_instructions.specs.declared.instruction.Store.TheVariants as store
use Rattle.qt_flat_code.specs.Bits.{Bits, AllBits, EveryBit, OneBit, bits_of}
use Rattle.qt_flat_code.specs.Lengths.{qubits_length}
use Rattle.qt_flat_code.specs.Expressions.{expression_code, operand}
use Rattle.qt_flat_code.specs.Storing.{target_steps_code}

-- ---- qubits

-- the number of a single qubit that is known in the run comes to a cell; an index is tested at once
abbrev pub qubit_code : TypedQubit → Site → ℕ → ℕ → List Instr
qubit_code (qubit.Fixed q) site cell at = []
qubit_code (qubit.Slot slot) site cell at = instr.Get cell (site.base + slot) ∷ []
qubit_code (qubit.Indexed register index) site cell at =
    expression_code index site.base cell at ++ (instr.Qubit cell (map (fixed_number site) register) (operand cell (type_of index)) ∷ [])

-- what it is named by then
abbrev pub qubit_named : TypedQubit → Site → ℕ → QubitRef
qubit_named (qubit.Fixed q) site cell = reference.At (fixed_number site q)
qubit_named (qubit.Slot slot) site cell = reference.Work cell
qubit_named (qubit.Indexed register index) site cell = reference.Work cell

abbrev pub qubits_code : TypedQubits → Site → ℕ → ℕ → List Instr
qubits_code (qubits.Single q) site cell at = qubit_code q site cell at
qubits_code (qubits.Register register) site cell at = []

abbrev pub qubits_named : TypedQubits → Site → ℕ → List QubitRef
qubits_named (qubits.Single q) site cell = qubit_named q site cell ∷ []
qubits_named (qubits.Register register) site cell = map (λ q. reference.At (fixed_number site q)) register

-- ---- targets of measurements

abbrev pub or_first : Evaluated ℕ → ℕ
or_first (Ok n) = n
or_first (Err fault) = 0

-- the place that a constant index is written for, of so many places
abbrev pub constant_place : TypedExpr → ℕ → ℕ
constant_place (Constant value) count = or_first (place_in count value.kind value.bits)
constant_place _ count = 0

-- the place of an element behind the first, by a constant index for each dimension: the last index is fastest
abbrev pub constant_element : List ℕ → ℕ → List TypedExpr → ℕ
constant_element (length ∷ lengths) place (index ∷ rest) = constant_element lengths (place * length + constant_place index length) rest
constant_element _ place _ = place

abbrev pub constant_slot : TypedVariable → ℕ → ℕ
constant_slot (variable.Slot kind slot) base = base + slot
constant_slot (variable.Element kind slot lengths indexes) base = base + slot + constant_element lengths 0 indexes

-- where the outcome of the qubit at place i goes: to bit i of the slot, or of some bits of it; a bit that is found in the run has its place
-- in cell 1
abbrev pub outcome_in : Bits → ℕ → ℕ → Store
outcome_in AllBits slot i = store.Bit slot i
outcome_in (EveryBit first step count) slot i = store.Bit slot (first + i * step)
outcome_in OneBit slot i = store.BitAt slot 1

abbrev pub outcome_of : Option TypedTarget → ℕ → ℕ → Store
outcome_of None base i = store.Nowhere
outcome_of (Some target) base i = outcome_in (bits_of target) (constant_slot target.variable base) i

abbrev pub optional_steps_code : Option TypedTarget → ℕ → ℕ → List Instr
optional_steps_code None base at = []
optional_steps_code (Some target) base at = target_steps_code target base 1 at

-- ---- choices

abbrev pub measures : (ℕ → Store) → List QubitRef → ℕ → List Instr
measures kept [] i = []
measures kept (q ∷ qs) i = instr.Measure q (kept i) ∷ measures kept qs (suc i)

-- where there is no target, the outcomes are dropped
abbrev pub measure_code : TypedQubits → Option TypedTarget → Site → ℕ → List Instr
measure_code qs target site at =
    qubits_code qs site 0 at
    ++ (optional_steps_code target site.base (at + qubits_length qs) ++ measures (outcome_of target site.base) (qubits_named qs site 0) 0)

-- into a whole slot
abbrev pub measure_slot_code : TypedQubits → ℕ → Site → ℕ → List Instr
measure_slot_code qs slot site at = qubits_code qs site 0 at ++ measures (store.Bit slot) (qubits_named qs site 0) 0

abbrev pub reset_code : TypedQubits → Site → ℕ → List Instr
reset_code qs site at = qubits_code qs site 0 at ++ map instr.Reset (qubits_named qs site 0)
