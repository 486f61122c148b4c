-- Which gate calls and broadcasts fit the site that they stand at, and a frame of so many slots (OpenQASM 3.0 live specification, "Gates", applying gates,
-- and "Types and Casting"; Cross et al. 2022). A call has as many qubits as its gate and its controls, each of them one of the program's;
-- its arguments are phases, and its indexes fit the frame; no fixed angle of its primitives is anything but a multiple of π/4; and where all
-- of its qubits are known before the run, they differ. The check of a program lets no other through.
use Rattle.std.specs.Prelude.{◌≡◌, ℕ, ◌<◌, false, IsTrue, List, [], ◌∷◌, length, map, None}
use Rattle.std.specs.List.{All, list_any}
use Rattle.qt_typed.specs.Types.{type_of}
use Rattle.qt_typed.specs.declared.call.GateUse.{GateUse}
use Rattle.qt_typed.specs.declared.call.TypedQubit.{TypedQubit}
use Rattle.qt_typed.specs.declared.call.TypedQubit.TheVariants as qubit
use Rattle.qt_typed.specs.declared.call.TypedQubits.{TypedQubits}
use Rattle.qt_typed.specs.declared.call.TypedQubits.TheVariants as qubits
use Rattle.qt_typed.specs.declared.expression.TypedPhase.{TypedPhase, end_of-TypedPhase, more_of-TypedPhase}
use Rattle.qt_typed.specs.declared.expression.TypedPhase.TheVariants.{Fixed, Angle, Neg', Add', Sub', Times', Scaled', Over'}
use Rattle.qt_meaning.specs.Applying.{operands_at, some_twice}
use Rattle.qt_meaning.specs.Places.{Site}
use Rattle.qt_meaning.specs.WellFormed.{GatesFit, OperandFits, QubitFits, Scope, UseFits}
use Rattle.qt_instructions.specs.declared.reference.QubitRef.{QubitRef}
use Rattle.qt_code.specs.Cells.{named_by, no_cells}
use Rattle.qt_code.specs.Ranges.{is_angle}
use Rattle.qt_code.specs.Tested.{is_work}
use Rattle.qt_flat_code.specs.GateCalls.{call_references, call_refusal}
use Rattle.qt_flat_expressions.specs.Fits.{ExpressionFits}

-- ---- arguments

abbrev pub PhaseFits : ℕ → TypedPhase → Type 0
PhaseFits slots (Fixed units) = Unit {0}
PhaseFits slots (Angle of) = ExpressionFits slots of × IsTrue (is_angle (type_of of))
PhaseFits slots (Neg' k (more_of-TypedPhase of end_of-TypedPhase)) = PhaseFits slots of
PhaseFits slots (Add' k (more_of-TypedPhase left end_of-TypedPhase) m (more_of-TypedPhase right end_of-TypedPhase)) =
    PhaseFits slots left × PhaseFits slots right
PhaseFits slots (Sub' k (more_of-TypedPhase left end_of-TypedPhase) m (more_of-TypedPhase right end_of-TypedPhase)) =
    PhaseFits slots left × PhaseFits slots right
PhaseFits slots (Times' k (more_of-TypedPhase of end_of-TypedPhase) number) = PhaseFits slots of × ExpressionFits slots number
PhaseFits slots (Scaled' number k (more_of-TypedPhase of end_of-TypedPhase)) = PhaseFits slots of × ExpressionFits slots number
PhaseFits slots (Over' k (more_of-TypedPhase of end_of-TypedPhase) number) = PhaseFits slots of × ExpressionFits slots number

abbrev pub PhasesFit : ℕ → List TypedPhase → Type 0
PhasesFit slots [] = Unit {0}
PhasesFit slots (p ∷ ps) = PhaseFits slots p × PhasesFit slots ps

-- ---- qubits

abbrev pub IndexFits : ℕ → TypedQubit → Type 0
IndexFits slots (qubit.Fixed q) = Unit {0}
IndexFits slots (qubit.Slot slot) = Unit {0}
IndexFits slots (qubit.Indexed register index) = ExpressionFits slots index

abbrev pub IndexesFit : ℕ → List TypedQubit → Type 0
IndexesFit slots [] = Unit {0}
IndexesFit slots (q ∷ qs) = IndexFits slots q × IndexesFit slots qs

-- where all qubits are known before the run, none stands twice
abbrev pub FixedDiffer : List QubitRef → Type 0
FixedDiffer references = list_any is_work references ≡ false → some_twice (map (λ r. named_by r no_cells) references) ≡ false

-- ---- where a call stands

abbrev pub IsQubitOf : Scope → ℕ → Type 0
IsQubitOf scope q = q < scope.qubits

-- the site has the program's number of qubits, and for each parameter that takes a register one of its size, of the program's qubits
pub record SiteFits (scope : Scope) (site : Site) : Type 0 where
  pub qubits : site.qubits ≡ scope.qubits
  pub sizes : (parameter : ℕ) → length (site.registers parameter) ≡ scope.own parameter
  pub members : (parameter : ℕ) → All (IsQubitOf scope) (site.registers parameter)

-- ---- calls

pub record GateCallFits (scope : Scope) (site : Site) (slots : ℕ) (used : GateUse) (operands : List TypedQubit) : Type 0 where
  pub gates : GatesFit scope.gates
  pub called : UseFits scope (length operands) used
  pub qubits : All (QubitFits scope) operands
  pub arguments : PhasesFit slots used.arguments
  pub indexes : IndexesFit slots operands
  pub accepted : call_refusal site used operands ≡ None
  pub differ : FixedDiffer (call_references site used operands)

-- ---- broadcasts, at so many places

abbrev pub OperandIndexFits : ℕ → TypedQubits → Type 0
OperandIndexFits slots (qubits.Single q) = IndexFits slots q
OperandIndexFits slots (qubits.Register register) = Unit {0}

abbrev pub OperandIndexesFit : ℕ → List TypedQubits → Type 0
OperandIndexesFit slots [] = Unit {0}
OperandIndexesFit slots (qs ∷ rest) = OperandIndexFits slots qs × OperandIndexesFit slots rest

pub record BroadcastFits (scope : Scope) (site : Site) (slots : ℕ) (used : GateUse) (operands : List TypedQubits) (size : ℕ) : Type 0 where
  pub gates : GatesFit scope.gates
  pub called : UseFits scope (length operands) used
  pub qubits : All (OperandFits scope size) operands
  pub arguments : PhasesFit slots used.arguments
  pub indexes : OperandIndexesFit slots operands
  pub accepted : (place : ℕ) → place < size → call_refusal site used (operands_at place operands) ≡ None
  pub differ : (place : ℕ) → place < size → FixedDiffer (call_references site used (operands_at place operands))
