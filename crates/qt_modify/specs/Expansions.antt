-- The steps and primitives that a gate call comes to, where some of its arguments and qubits stand in work cells (OpenQASM 3.0 live
-- specification, "Gates": built-in gates, quantum gate modifiers, hierarchically defined unitary gates; Cross et al. 2022; steps and work
-- cells are this profile's). Of the arguments in a body those are reckoned on which an angle of a primitive depends.
use Rattle.std.specs.Prelude.{ℕ, suc, pos, Bool, true, false, if◌then◌else◌, List, [], ◌∷◌, ◌++◌}
use Rattle.qt_gate_calls.specs.declared.angle.Angle.{Angle}
use Rattle.qt_gate_calls.specs.declared.body.GateModifier.{GateModifier}
use Rattle.qt_gate_calls.specs.declared.body.Called.{Called}
use Rattle.qt_gate_calls.specs.declared.body.Called.TheVariants as called
use Rattle.qt_gate_calls.specs.declared.body.BodyCall.{BodyCall}
use Rattle.qt_gate_calls.specs.declared.body.GateBody.{GateBody}
use Rattle.qt_gate_calls.specs.Numbered.{numbered}
use Rattle.qt_gate_calls.specs.Primitives.{picked}
use Rattle.qt_instructions.specs.declared.reference.QubitRef.{QubitRef}
use Rattle.qt_primitives.specs.declared.unit.Argument.{Argument}
use Rattle.qt_primitives.specs.declared.unit.Argument.TheVariants as argument
use Rattle.qt_primitives.specs.declared.unit.Action.{Action}
use Rattle.qt_primitives.specs.declared.unit.Controls.{Controls}
use Rattle.qt_primitives.specs.declared.unit.UnitPrimitive.{UnitPrimitive}
pub use Rattle.qt_primitives.specs.Primitives.{angle_of, minus, inverse_action, inverse_of, no_qubit, turn_of, phase_of, with_one, with_zero}
pub use Rattle.qt_primitives.specs.Primitives.{one_control, behind_control, inner_controls, inner_qubits, modified_by, modified}
use Rattle.qt_modify.specs.declared.unit.Steps.{Steps}
use Rattle.qt_modify.specs.Reckoning.{Reckoned, reckoned}
use Rattle.qt_modify.specs.Needs.{Needs, are_idle, wanted, calls_need}

-- ---- calls, under controls, on qubits and after the steps so far

pub record Expanded : Type 0 where
  pub steps : Steps
  pub primitives : List UnitPrimitive

abbrev pub Expander : Type 0
Expander = Controls → List QubitRef → Steps → Expanded

-- of a gate: which of its parameters are needed, and what it comes to for its arguments
pub record GateExpansion : Type 0 where
  pub needs : ℕ → Bool
  pub expander : List Argument → Expander

-- the gates by number
abbrev pub GateExpansions : Type 0
GateExpansions = ℕ → GateExpansion

abbrev pub needs_in : GateExpansions → Needs
needs_in gates number = (gates number).needs

abbrev pub nothing_after : Steps → Expanded
nothing_after steps = record { steps = steps; primitives = [] }

abbrev pub one_primitive : Action → Controls → Steps → Expanded
one_primitive action cs steps = record { steps = steps; primitives = record { controls = cs; action = action } ∷ [] }

abbrev pub called_expansion : GateExpansions → Called → List Argument → Expander
called_expansion gates called.U angles cs qs steps = one_primitive (turn_of angles qs) cs steps
called_expansion gates called.GlobalPhase angles cs qs steps = one_primitive (phase_of angles) cs steps
called_expansion gates (called.Gate number) angles cs qs steps = (gates number).expander angles cs qs steps

abbrev pub with_primitives : (List UnitPrimitive → List UnitPrimitive) → Expanded → Expanded
with_primitives f x = record { steps = x.steps; primitives = f x.primitives }

-- a call under a power 0 comes to nothing
abbrev pub call_expansion : GateExpansions → List GateModifier → Called → List Argument → Expander
call_expansion gates ms gate angles cs qs steps =
    if are_idle ms
    then nothing_after steps
    else with_primitives (modified ms) (called_expansion gates gate angles (inner_controls ms qs cs) (inner_qubits ms qs) steps)

-- ---- the arguments of a call in a body, from left to right: those that are wanted are reckoned, the others are no angle

pub record AllReckoned : Type 0 where
  pub steps : Steps
  pub angles : List Argument

abbrev pub reckoned_if : Bool → List Argument → Angle → Steps → Reckoned
reckoned_if false given a steps = record { steps = steps; angle = argument.Fixed (pos 0) }
reckoned_if true given a steps = reckoned given a steps

abbrev pub before_rest : Reckoned → (Steps → AllReckoned) → AllReckoned
before_rest one rest =
    let later = rest one.steps in
    record { steps = later.steps; angles = one.angle ∷ later.angles }

abbrev pub all_reckoned : (ℕ → Bool) → List Argument → ℕ → List Angle → Steps → AllReckoned
all_reckoned want given n [] steps = record { steps = steps; angles = [] }
all_reckoned want given n (a ∷ rest) steps = before_rest (reckoned_if (want n) given a steps) (all_reckoned want given (suc n) rest)

-- ---- bodies

abbrev pub body_call_expansion : GateExpansions → BodyCall → List Argument → Expander
body_call_expansion gates c given cs qs steps =
    let arguments = all_reckoned (wanted (needs_in gates) c.modifiers c.gate) given 0 c.angles steps in
    call_expansion gates c.modifiers c.gate arguments.angles cs (picked no_qubit qs c.qubits) arguments.steps

abbrev pub then_rest : Expanded → (Steps → Expanded) → Expanded
then_rest one rest =
    let later = rest one.steps in
    record { steps = later.steps; primitives = one.primitives ++ later.primitives }

abbrev pub calls_expansion : GateExpansions → List BodyCall → List Argument → Expander
calls_expansion gates [] given cs qs steps = nothing_after steps
calls_expansion gates (c ∷ calls) given cs qs steps =
    then_rest (body_call_expansion gates c given cs qs steps) (calls_expansion gates calls given cs qs)

abbrev pub body_expansion : GateExpansions → GateBody → GateExpansion
body_expansion gates body = record { needs = calls_need (needs_in gates) body.calls; expander = calls_expansion gates body.calls }

abbrev pub no_expansion : GateExpansion
no_expansion = record { needs = λ i. false; expander = λ given cs qs steps. nothing_after steps }

abbrev pub expansions_of : List GateBody → GateExpansions
expansions_of = numbered body_expansion no_expansion
