-- What the steps and primitives of an expansion stand for (OpenQASM 3.0 live specification, "Gates"; Cross et al. 2022; steps and work
-- cells are this profile's): where the work cells hold what the steps give, its primitives are those of the call.
use Rattle.std.specs.Prelude.{◌≡◌, ℕ, suc, Bool, if◌then◌else◌, List, [], ◌∷◌, length, map, Some, None}
use Rattle.qt_gate_calls.specs.Units.{KnownUnits, opposite}
use Rattle.qt_gate_calls.specs.Primitives.{Turned, Phased, Primitive, no_controls, call_primitives, primitives_of}
use Rattle.qt_gate_calls.specs.Counts.{call_count, primitive_counts}
use Rattle.qt_gate_calls.specs.Faults as faults
use Rattle.qt_gate_calls.specs.Stopped.{stopped}
use Rattle.qt_instructions.specs.declared.angle.AngleStep.{AngleStep}
use Rattle.qt_instructions.specs.declared.reference.QubitRef.{QubitRef}
use Rattle.qt_typed.specs.declared.call.GateUse.{GateUse}
use Rattle.qt_primitives.specs.declared.unit.Argument.{Argument}
use Rattle.qt_primitives.specs.declared.unit.UnitAngle.{UnitAngle}
use Rattle.qt_primitives.specs.declared.unit.UnitAngle.TheVariants as angle
use Rattle.qt_primitives.specs.declared.unit.Action.{Action}
use Rattle.qt_primitives.specs.declared.unit.Action.TheVariants.{Turn, Phase}
use Rattle.qt_primitives.specs.declared.unit.UnitPrimitive.{UnitPrimitive}
use Rattle.qt_modify.specs.declared.unit.Steps.{Steps}
use Rattle.qt_modify.specs.Reckoning.{Cells, held, none_known, result_of, arg_of}
use Rattle.qt_modify.specs.Expansions.{no_qubit}
use Rattle.qt_modify.specs.Eighths.{first_wrong}
use Rattle.qt_modify.specs.Calls.{use_expansion}

-- ---- what cells hold

abbrev pub held_in : Cells → Argument → KnownUnits
held_in cells argument = held cells (arg_of argument)

-- the cells hold what the steps give, of which the first writes the cell with that number
abbrev pub Hold : Cells → ℕ → List AngleStep → Type 0
Hold cells next [] = Unit {0}
Hold cells next (step ∷ steps) = (cells next ≡ result_of cells step) × Hold cells (suc next) steps

abbrev pub Holds : Cells → Steps → Type 0
Holds cells steps = Hold cells steps.first steps.steps

abbrev pub IsKnown : KnownUnits → Type 0
IsKnown None = ⊥
IsKnown (Some units) = Unit {0}

-- no step faults
abbrev pub StepsKnown : Cells → ℕ → List AngleStep → Type 0
StepsKnown cells next [] = Unit {0}
StepsKnown cells next (step ∷ steps) = IsKnown (cells next) × StepsKnown cells (suc next) steps

abbrev pub AreKnown : Cells → Steps → Type 0
AreKnown cells steps = StepsKnown cells steps.first steps.steps

-- ---- what references stand for

abbrev pub negated_if : Bool → KnownUnits → KnownUnits
negated_if negated units = if negated then opposite units else units

abbrev pub angle_at : Cells → UnitAngle → KnownUnits
angle_at cells (angle.Fixed units) = Some units
angle_at cells (angle.Cell cell negated) = negated_if negated (cells cell)

abbrev pub action_at : (QubitRef → ℕ) → Cells → List ℕ → List ℕ → Action → Primitive
action_at place cells ones zeros (Turn q theta phi lambda) =
    Turned ones zeros (place q) (angle_at cells theta) (angle_at cells phi) (angle_at cells lambda)
action_at place cells ones zeros (Phase gamma) = Phased ones zeros (angle_at cells gamma)

abbrev pub primitive_at : (QubitRef → ℕ) → Cells → UnitPrimitive → Primitive
primitive_at place cells p = action_at place cells (map place p.controls.ones) (map place p.controls.zeros) p.action

-- ---- the angles of primitives are known

abbrev pub HasKnown : Primitive → Type 0
HasKnown (Turned ones zeros q theta phi lambda) = IsKnown theta × IsKnown phi × IsKnown lambda
HasKnown (Phased ones zeros gamma) = IsKnown gamma

abbrev pub HaveKnown : List Primitive → Type 0
HaveKnown [] = Unit {0}
HaveKnown (p ∷ ps) = HasKnown p × HaveKnown ps

-- ---- the laws

-- the primitives of the call, for what the cells hold
abbrev pub primitives_at : Cells → (QubitRef → ℕ) → GateUse → List Argument → List QubitRef → List Primitive
primitives_at cells place used given qs =
    call_primitives (primitives_of used.gates) used.modifiers used.gate (map (held_in cells) given) no_controls (map place qs)

-- an expansion gives the primitives of the call
abbrev pub ExpansionsArePrimitives : Type 0
ExpansionsArePrimitives =
    (cells : Cells) (place : QubitRef → ℕ) → place no_qubit ≡ 0 → (used : GateUse) (given : List Argument) (qs : List QubitRef) (first : ℕ)
    → Holds cells (use_expansion used given qs first).steps
    → map (primitive_at place cells) (use_expansion used given qs first).primitives ≡ primitives_at cells place used given qs

-- where each angle of a primitive is known, no step faults: each step is needed
abbrev pub StepsAreNeeded : Type 0
StepsAreNeeded =
    (cells : Cells) (place : QubitRef → ℕ) → place no_qubit ≡ 0 → (used : GateUse) (given : List Argument) (qs : List QubitRef) (first : ℕ)
    → Holds cells (use_expansion used given qs first).steps → HaveKnown (primitives_at cells place used given qs)
    → AreKnown cells (use_expansion used given qs first).steps

-- what is fixed in an expansion is what is known where no cell is
abbrev pub FixedAnglesAreKnown : Type 0
FixedAnglesAreKnown =
    (place : QubitRef → ℕ) → place no_qubit ≡ 0 → (used : GateUse) (given : List Argument) (qs : List QubitRef) (first : ℕ)
    → map (primitive_at place none_known) (use_expansion used given qs first).primitives ≡ primitives_at none_known place used given qs

-- the refusal is the first angle of the call's primitives that is known before the run and no multiple of π/4
abbrev pub RefusalIsFirstWrong : Type 0
RefusalIsFirstWrong =
    (place : QubitRef → ℕ) → place no_qubit ≡ 0 → (used : GateUse) (given : List Argument) (qs : List QubitRef) (first : ℕ)
    → first_wrong (use_expansion used given qs first).primitives ≡ faults.first_wrong (primitives_at none_known place used given qs)

-- an expansion has as many primitives as are counted for it, up to the stop
abbrev pub ExpansionsHaveTheirCount : Type 0
ExpansionsHaveTheirCount =
    (used : GateUse) (given : List Argument) (qs : List QubitRef) (first : ℕ)
    → stopped (length (use_expansion used given qs first).primitives) ≡ stopped
    (call_count (primitive_counts used.gates) used.modifiers used.gate)
