-- Gate calls as they are typed (OpenQASM 3.0 live specification, "Gates", applying gates; Cross et al. 2022; work cells are this
-- profile's). An argument that isn't fixed and an operand whose number isn't known have a work cell each: the arguments first, then the
-- operands, in order. The steps write the cells behind.
use Rattle.std.specs.Prelude.{ℕ, suc, ℤ, ◌^◌, nat_lt, if◌then◌else◌, List, [], ◌∷◌, take, Option, Some, None}
use Rattle.qt_gate_calls.specs.declared.body.Called.{Called}
use Rattle.qt_gate_calls.specs.declared.body.Called.TheVariants as called
use Rattle.qt_gate_calls.specs.declared.body.GateBody.{GateBody}
use Rattle.qt_registers.specs.declared.fixed.FixedQubit.{FixedQubit}
use Rattle.qt_registers.specs.declared.fixed.FixedQubit.TheVariants as fixed
use Rattle.qt_typed.specs.declared.expression.TypedPhase.{TypedPhase}
use Rattle.qt_typed.specs.declared.expression.TypedPhase.TheVariants as phase
use Rattle.qt_typed.specs.declared.call.TypedQubit.{TypedQubit}
use Rattle.qt_typed.specs.declared.call.TypedQubit.TheVariants as qubit
use Rattle.qt_typed.specs.declared.call.GateUse.{GateUse}
use Rattle.qt_typed.specs.declared.call.TypedCall.{TypedCall}
use Rattle.qt_instructions.specs.declared.reference.QubitRef.{QubitRef}
use Rattle.qt_instructions.specs.declared.reference.QubitRef.TheVariants as reference
use Rattle.qt_primitives.specs.declared.unit.Argument.{Argument}
use Rattle.qt_primitives.specs.declared.unit.Argument.TheVariants.{Fixed, Cell}
use Rattle.qt_primitives.specs.declared.unit.Controls.{Controls}
use Rattle.qt_modify.specs.Expansions.{Expanded, call_expansion, expansions_of}

-- ---- what is known before the run

abbrev pub fixed_phase : TypedPhase → Option ℤ
fixed_phase (phase.Fixed units) = Some units
fixed_phase _ = None

-- a number of eight bits, as the qubits of programs have; one above has a cell too
abbrev pub as_byte : ℕ → Option ℕ
as_byte q = if nat_lt q (2 ^ 8) then Some q else None

abbrev pub number_of : FixedQubit → Option ℕ
number_of (fixed.Number q) = as_byte q
number_of (fixed.OfParameter parameter place) = None

abbrev pub fixed_qubit : TypedQubit → Option ℕ
fixed_qubit (qubit.Fixed q) = number_of q
fixed_qubit _ = None

-- ---- cells, the next of which has that number

abbrev pub cell_behind : {A : Type 0} → Option A → ℕ → ℕ
cell_behind None cell = suc cell
cell_behind (Some a) cell = cell

abbrev pub argument_of : Option ℤ → ℕ → Argument
argument_of None cell = Cell cell
argument_of (Some units) cell = Fixed units

abbrev pub arguments_from : ℕ → List TypedPhase → List Argument
arguments_from cell [] = []
arguments_from cell (p ∷ ps) = argument_of (fixed_phase p) cell ∷ arguments_from (cell_behind (fixed_phase p) cell) ps

abbrev pub behind_arguments : ℕ → List TypedPhase → ℕ
behind_arguments cell [] = cell
behind_arguments cell (p ∷ ps) = behind_arguments (cell_behind (fixed_phase p) cell) ps

abbrev pub reference_of : Option ℕ → ℕ → QubitRef
reference_of None cell = reference.Work cell
reference_of (Some q) cell = reference.At q

abbrev pub references_from : ℕ → List TypedQubit → List QubitRef
references_from cell [] = []
references_from cell (q ∷ qs) = reference_of (fixed_qubit q) cell ∷ references_from (cell_behind (fixed_qubit q) cell) qs

abbrev pub behind_operands : ℕ → List TypedQubit → ℕ
behind_operands cell [] = cell
behind_operands cell (q ∷ qs) = behind_operands (cell_behind (fixed_qubit q) cell) qs

-- ---- the gates that a call may put in: the one that it calls, and those before it

abbrev pub reached : List GateBody → Called → List GateBody
reached gates called.U = []
reached gates called.GlobalPhase = []
reached gates (called.Gate number) = take (suc number) gates

-- ---- the steps and primitives

abbrev pub no_controls : Controls
no_controls = record { ones = []; zeros = [] }

-- of a gate with its modifiers, for its arguments and on qubits, where the first step writes that cell
abbrev pub use_expansion : GateUse → List Argument → List QubitRef → ℕ → Expanded
use_expansion used given qs first =
    call_expansion (expansions_of used.gates) used.modifiers used.gate given no_controls qs (record { first = first; steps = [] })

abbrev pub expansion_of : TypedCall → Expanded
expansion_of call =
    let operands = behind_arguments 0 call.used.arguments in
    use_expansion call.used (arguments_from 0 call.used.arguments) (references_from operands call.operands)
    (behind_operands operands call.operands)
