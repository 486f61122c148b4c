-- The primitives of gate calls, where some arguments and qubits stand in work cells: U and gphase for their arguments and on their qubits,
-- and what modifiers make of them (OpenQASM 3.0 live specification, "Gates": built-in gates, quantum gate modifiers; Cross et al. 2022; work
-- cells are this profile's).
use Rattle.std.specs.Prelude.{ℕ, pos, neg_ℤ, false, not, List, [], ◌∷◌, ◌++◌, get_or}
use Rattle.qt_gate_calls.specs.declared.body.GateModifier.{GateModifier}
use Rattle.qt_gate_calls.specs.declared.body.GateModifier.TheVariants.{Inv, Pow, Ctrl, NegCtrl}
use Rattle.qt_gate_calls.specs.Primitives.{undo, powered, first, others}
use Rattle.qt_instructions.specs.declared.reference.QubitRef.{QubitRef}
use Rattle.qt_instructions.specs.declared.reference.QubitRef.TheVariants as qubit
use Rattle.qt_primitives.specs.declared.unit.Argument.{Argument}
use Rattle.qt_primitives.specs.declared.unit.Argument.TheVariants as argument
use Rattle.qt_primitives.specs.declared.unit.UnitAngle.{UnitAngle}
use Rattle.qt_primitives.specs.declared.unit.UnitAngle.TheVariants as angle
use Rattle.qt_primitives.specs.declared.unit.Action.{Action}
use Rattle.qt_primitives.specs.declared.unit.Action.TheVariants.{Turn, Phase}
use Rattle.qt_primitives.specs.declared.unit.Controls.{Controls}
use Rattle.qt_primitives.specs.declared.unit.UnitPrimitive.{UnitPrimitive}

-- ---- primitives

-- the argument with that number, and no angle behind the end of the list
abbrev pub argument_at : ℕ → List Argument → Argument
argument_at number given = get_or given number (argument.Fixed (pos 0))

abbrev pub angle_of : Argument → UnitAngle
angle_of (argument.Fixed units) = angle.Fixed units
angle_of (argument.Cell cell) = angle.Cell cell false

abbrev pub minus : UnitAngle → UnitAngle
minus (angle.Fixed units) = angle.Fixed (neg_ℤ units)
minus (angle.Cell cell negated) = angle.Cell cell (not negated)

-- U(θ, φ, λ) becomes U(−θ, −λ, −φ), and gphase(γ) becomes gphase(−γ)
abbrev pub inverse_action : Action → Action
inverse_action (Turn q theta phi lambda) = Turn q (minus theta) (minus lambda) (minus phi)
inverse_action (Phase gamma) = Phase (minus gamma)

abbrev pub inverse_of : UnitPrimitive → UnitPrimitive
inverse_of p = record { controls = p.controls; action = inverse_action p.action }

-- what stands where a call names a qubit that it hasn't
abbrev pub no_qubit : QubitRef
no_qubit = qubit.At 0

-- U on the first of the qubits, with the first three arguments
abbrev pub turn_of : List Argument → List QubitRef → Action
turn_of angles qs =
    Turn (first no_qubit qs) (angle_of (argument_at 0 angles)) (angle_of (argument_at 1 angles)) (angle_of (argument_at 2 angles))

abbrev pub phase_of : List Argument → Action
phase_of angles = Phase (angle_of (argument_at 0 angles))

-- ---- modifiers: each control takes the first of the qubits, and inverses and powers change the list of primitives

abbrev pub with_one : QubitRef → Controls → Controls
with_one q cs = record { ones = cs.ones ++ (q ∷ []); zeros = cs.zeros }

abbrev pub with_zero : QubitRef → Controls → Controls
with_zero q cs = record { ones = cs.ones; zeros = cs.zeros ++ (q ∷ []) }

-- the control that a modifier is, with that qubit
abbrev pub one_control : GateModifier → QubitRef → Controls → Controls
one_control Inv q cs = cs
one_control (Pow k) q cs = cs
one_control Ctrl q cs = with_one q cs
one_control NegCtrl q cs = with_zero q cs

abbrev pub behind_control : GateModifier → List QubitRef → List QubitRef
behind_control Inv qs = qs
behind_control (Pow k) qs = qs
behind_control Ctrl qs = others qs
behind_control NegCtrl qs = others qs

-- the controls under which the gate stands, and the qubits that are left to it
abbrev pub inner_controls : List GateModifier → List QubitRef → Controls → Controls
inner_controls [] qs cs = cs
inner_controls (m ∷ ms) qs cs = inner_controls ms (behind_control m qs) (one_control m (first no_qubit qs) cs)

abbrev pub inner_qubits : List GateModifier → List QubitRef → List QubitRef
inner_qubits [] qs = qs
inner_qubits (m ∷ ms) qs = inner_qubits ms (behind_control m qs)

abbrev pub modified_by : GateModifier → List UnitPrimitive → List UnitPrimitive
modified_by Inv ps = undo inverse_of ps
modified_by (Pow k) ps = powered inverse_of k ps
modified_by Ctrl ps = ps
modified_by NegCtrl ps = ps

-- the first modifier is outermost
abbrev pub modified : List GateModifier → List UnitPrimitive → List UnitPrimitive
modified [] ps = ps
modified (m ∷ ms) ps = modified_by m (modified ms ps)
