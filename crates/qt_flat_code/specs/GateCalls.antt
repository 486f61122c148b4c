-- The code of gate calls and broadcasts (flat code is this profile's; OpenQASM 3.0 live specification, "Gates", applying gates; Cross et al.
-- 2022). All arguments come to work cells, then all qubits whose numbers are known in the run only; then these are tested to be qubits and to
-- differ, where there are any; then the steps reckon the angles of the primitives, each into a cell of its own; and then stand the
-- primitives. A broadcast is one call for each place, in ascending order. The Tick of the statement stands before.
use Rattle.std.specs.Prelude.{ℕ, zero, suc, ◌+◌, Bool, true, false, ℤ, List, [], ◌∷◌, ◌++◌, length, map, Option}
use Rattle.std.specs.List.{list_any}
use Rattle.qt_typed.specs.Types.{type_of}
use Rattle.qt_typed.specs.declared.call.GateUse.{GateUse}
use Rattle.qt_typed.specs.declared.call.TypedQubit.{TypedQubit}
use Rattle.qt_typed.specs.declared.call.TypedQubit.TheVariants as qubit
use Rattle.qt_typed.specs.declared.call.TypedQubits.{TypedQubits}
use Rattle.qt_typed.specs.declared.expression.TypedPhase.{TypedPhase}
use Rattle.qt_meaning.specs.Applying.{operands_at}
use Rattle.qt_meaning.specs.Places.{Site, fixed_number}
use Rattle.qt_instructions.specs.declared.angle.AngleStep.{AngleStep}
use Rattle.qt_instructions.specs.declared.reference.QubitRef.{QubitRef}
use Rattle.qt_instructions.specs.declared.reference.QubitRef.TheVariants as reference
use Rattle.qt_instructions.specs.declared.instruction.Instr.{Instr}
use Rattle.qt_instructions.specs.declared.instruction.Instr.TheVariants as instr
use Rattle.qt_code.specs.Tested.{is_work}
use Rattle.qt_primitives.specs.declared.unit.UnitPrimitive.{UnitPrimitive}
use Rattle.qt_modify.specs.Calls.{arguments_from, behind_arguments, cell_behind, fixed_phase, use_expansion}
use Rattle.qt_modify.specs.Eighths.{first_wrong, with_eighths}
use Rattle.qt_modify.specs.Expansions.{Expanded}
use Rattle.qt_flat_code.specs.Lengths.{expression_length}
use Rattle.qt_flat_code.specs.Expressions.{expression_code, operand}
use Rattle.qt_flat_code.specs.Phases.{phase_code, phase_length, step_to}

-- ---- arguments, each that isn't fixed in the next cell

abbrev pub arguments_length : List TypedPhase → ℕ
arguments_length [] = 0
arguments_length (p ∷ ps) = phase_length p + arguments_length ps

abbrev pub arguments_code : List TypedPhase → ℕ → ℕ → ℕ → List Instr
arguments_code [] base cell at = []
arguments_code (p ∷ ps) base cell at =
    phase_code p base cell at ++ arguments_code ps base (cell_behind (fixed_phase p) cell) (at + phase_length p)

-- ---- qubits, each whose number isn't known before the run in the next cell

abbrev pub qubit_length : TypedQubit → ℕ
qubit_length (qubit.Fixed q) = 0
qubit_length (qubit.Slot slot) = 1
qubit_length (qubit.Indexed register index) = expression_length index + 1

-- the number of a qubit comes to a cell
abbrev pub qubit_code : TypedQubit → Site → ℕ → ℕ → List Instr
qubit_code (qubit.Fixed q) site cell at = []
qubit_code (qubit.Slot slot) site cell at = instr.Get cell (site.base + slot) ∷ []
qubit_code (qubit.Indexed register index) site cell at =
    expression_code index site.base cell at ++ (instr.Qubit cell (map (fixed_number site) register) (operand cell (type_of index)) ∷ [])

abbrev pub reference_in : TypedQubit → Site → ℕ → QubitRef
reference_in (qubit.Fixed q) site cell = reference.At (fixed_number site q)
reference_in _ site cell = reference.Work cell

abbrev pub behind_qubit : TypedQubit → ℕ → ℕ
behind_qubit (qubit.Fixed q) cell = cell
behind_qubit _ cell = suc cell

abbrev pub qubits_length : List TypedQubit → ℕ
qubits_length [] = 0
qubits_length (q ∷ qs) = qubit_length q + qubits_length qs

abbrev pub qubits_code : List TypedQubit → Site → ℕ → ℕ → List Instr
qubits_code [] site cell at = []
qubits_code (q ∷ qs) site cell at = qubit_code q site cell at ++ qubits_code qs site (behind_qubit q cell) (at + qubit_length q)

abbrev pub references_in : List TypedQubit → Site → ℕ → List QubitRef
references_in [] site cell = []
references_in (q ∷ qs) site cell = reference_in q site cell ∷ references_in qs site (behind_qubit q cell)

abbrev pub behind_qubits : List TypedQubit → ℕ → ℕ
behind_qubits [] cell = cell
behind_qubits (q ∷ qs) cell = behind_qubits qs (behind_qubit q cell)

-- ---- the test that qubits differ: where all are fixed, they are told apart before the run

abbrev pub test_if : Bool → List QubitRef → List Instr
test_if true references = instr.Distinct references ∷ []
test_if false references = []

abbrev pub test_code : List QubitRef → List Instr
test_code references = test_if (list_any is_work references) references

-- ---- steps and primitives

-- each step to the next cell
abbrev pub steps_code : ℕ → List AngleStep → List Instr
steps_code cell [] = []
steps_code cell (s ∷ steps) = step_to cell s ∷ steps_code (suc cell) steps

abbrev pub primitives_code : List UnitPrimitive → List Instr
primitives_code [] = []
primitives_code (p ∷ ps) = instr.Gate (with_eighths p) ∷ primitives_code ps

-- ---- a call

-- the references of a call: the cells of its qubits stand behind those of its arguments
abbrev pub call_references : Site → GateUse → List TypedQubit → List QubitRef
call_references site used operands = references_in operands site (behind_arguments 0 used.arguments)

-- the steps, the first of which writes the cell behind those of the qubits, and the primitives
abbrev pub call_expanded : Site → GateUse → List TypedQubit → Expanded
call_expanded site used operands =
    use_expansion used (arguments_from 0 used.arguments) (call_references site used operands)
    (behind_qubits operands (behind_arguments 0 used.arguments))

-- the units of the first fixed angle of a primitive that is no multiple of π/4: a call with such an angle has no code
abbrev pub call_refusal : Site → GateUse → List TypedQubit → Option ℤ
call_refusal site used operands = first_wrong (call_expanded site used operands).primitives

abbrev pub gate_call_length : Site → GateUse → List TypedQubit → ℕ
gate_call_length site used operands =
    let made = call_expanded site used operands in
    arguments_length used.arguments
    + (qubits_length operands
    + (length (test_code (call_references site used operands)) + (length made.steps.steps + length made.primitives)))

abbrev pub gate_call_code : Site → GateUse → List TypedQubit → ℕ → List Instr
gate_call_code site used operands at =
    let cell = behind_arguments 0 used.arguments in
    let made = call_expanded site used operands in
    arguments_code used.arguments site.base 0 at
    ++ (qubits_code operands site cell (at + arguments_length used.arguments)
    ++ (test_code (call_references site used operands)
    ++ (steps_code (behind_qubits operands cell) made.steps.steps ++ primitives_code made.primitives)))

-- ---- a broadcast: the calls at so many places, from one on

abbrev pub broadcast_length : Site → GateUse → List TypedQubits → ℕ → ℕ → ℕ
broadcast_length site used operands i zero = 0
broadcast_length site used operands i (suc count) =
    gate_call_length site used (operands_at i operands) + broadcast_length site used operands (suc i) count

abbrev pub broadcast_code : Site → GateUse → List TypedQubits → ℕ → ℕ → ℕ → List Instr
broadcast_code site used operands i zero at = []
broadcast_code site used operands i (suc count) at =
    gate_call_code site used (operands_at i operands) at
    ++ broadcast_code site used operands (suc i) count (at + gate_call_length site used (operands_at i operands))
