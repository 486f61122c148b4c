-- The standard gates, one row a gate, each with its name and its body (OpenQASM 3.0 live specification, "Standard library"; Cross et al. 2022).
-- The bodies fix each gate's global phase. A row calls U, gphase and rows above it, by their numbers from 0 on.
use Rattle.std.specs.Prelude.{ℕ, pos, neg_ℤ, ◌^◌, List, [], ◌∷◌, map, codes}
use Rattle.qt_gate_calls.specs.declared.angle.Angle.{Angle}
use Rattle.qt_gate_calls.specs.declared.angle.Angle.TheVariants as angle
use Rattle.qt_gate_calls.specs.declared.body.GateModifier.TheVariants.{Ctrl}
use Rattle.qt_gate_calls.specs.declared.body.Called.{Called}
use Rattle.qt_gate_calls.specs.declared.body.Called.TheVariants as called
use Rattle.qt_gate_calls.specs.declared.body.BodyCall.{BodyCall}
use Rattle.qt_gate_calls.specs.declared.body.GateBody.{GateBody}

-- ---- angles

abbrev pub no_angle : Angle
no_angle = angle.Units (pos 0)

-- π, π/2, π/4 and their opposites
abbrev pub half_turn : Angle
half_turn = angle.Units (pos (2 ^ 32))

abbrev pub quarter_turn : Angle
quarter_turn = angle.Units (pos (2 ^ 31))

abbrev pub eighth_turn : Angle
eighth_turn = angle.Units (pos (2 ^ 30))

abbrev pub quarter_back : Angle
quarter_back = angle.Units (neg_ℤ (pos (2 ^ 31)))

abbrev pub eighth_back : Angle
eighth_back = angle.Units (neg_ℤ (pos (2 ^ 30)))

-- the parameter with that number
abbrev pub given : ℕ → Angle
given number = angle.Parameter number

-- −a / 2
abbrev pub half_back : Angle → Angle
half_back a = angle.Quotient (angle.Opposite a) (pos 2)

-- ---- calls

abbrev pub call : Called → List Angle → List ℕ → BodyCall
call gate angles qubits = record { modifiers = []; gate = gate; angles = angles; qubits = qubits; operators = 0 }

abbrev pub under_control : BodyCall → BodyCall
under_control c = record c { modifiers = Ctrl ∷ c.modifiers }

abbrev pub u : Angle → Angle → Angle → List ℕ → BodyCall
u theta phi lambda qubits = call called.U (theta ∷ phi ∷ lambda ∷ []) qubits

abbrev pub gphase : Angle → List ℕ → BodyCall
gphase gamma qubits = call called.GlobalPhase (gamma ∷ []) qubits

-- the row with that number
abbrev pub row : ℕ → List Angle → List ℕ → BodyCall
row number angles qubits = call (called.Gate number) angles qubits

abbrev pub gate : ℕ → ℕ → List BodyCall → GateBody
gate parameters qubits calls = record { parameters = parameters; qubits = qubits; calls = calls }

-- a row under one control, with its own parameters
abbrev pub controlled_row : ℕ → List Angle → GateBody → GateBody
controlled_row number angles body = gate body.parameters 2 (under_control (row number angles (0 ∷ 1 ∷ [])) ∷ [])

-- ---- the rows

abbrev pub id_gate : GateBody
id_gate = gate 0 1 (u no_angle no_angle no_angle (0 ∷ []) ∷ [])

abbrev pub p_gate : GateBody
p_gate = gate 1 1 (under_control (gphase (given 0) (0 ∷ [])) ∷ [])

-- p at an angle
abbrev pub p_at : Angle → GateBody
p_at a = gate 0 1 (row 1 (a ∷ []) (0 ∷ []) ∷ [])

abbrev pub x_gate : GateBody
x_gate = gate 0 1 (u half_turn no_angle half_turn (0 ∷ []) ∷ gphase quarter_back [] ∷ [])

abbrev pub y_gate : GateBody
y_gate = gate 0 1 (u half_turn quarter_turn quarter_turn (0 ∷ []) ∷ gphase quarter_back [] ∷ [])

abbrev pub h_gate : GateBody
h_gate = gate 0 1 (u quarter_turn no_angle half_turn (0 ∷ []) ∷ gphase eighth_back [] ∷ [])

abbrev pub sx_gate : GateBody
sx_gate = gate 0 1 (u quarter_turn quarter_back quarter_turn (0 ∷ []) ∷ [])

abbrev pub rx_gate : GateBody
rx_gate = gate 1 1 (u (given 0) quarter_back quarter_turn (0 ∷ []) ∷ gphase (half_back (given 0)) [] ∷ [])

abbrev pub ry_gate : GateBody
ry_gate = gate 1 1 (u (given 0) no_angle no_angle (0 ∷ []) ∷ gphase (half_back (given 0)) [] ∷ [])

abbrev pub rz_gate : GateBody
rz_gate = gate 1 1 (gphase (half_back (given 0)) [] ∷ u no_angle no_angle (given 0) (0 ∷ []) ∷ [])

abbrev pub u2_gate : GateBody
u2_gate = gate 2 1 (gphase (half_back (angle.Sum (angle.Sum (given 0) (given 1)) quarter_turn)) [] ∷ u quarter_turn (given 0) (given 1) (0 ∷ []) ∷ [])

abbrev pub u3_gate : GateBody
u3_gate = gate 3 1 (gphase (half_back (angle.Sum (angle.Sum (given 0) (given 1)) (given 2))) [] ∷ u (given 0) (given 1) (given 2) (0 ∷ []) ∷ [])

abbrev pub swap_gate : GateBody
swap_gate = gate 0 2 (row 18 [] (0 ∷ 1 ∷ []) ∷ row 18 [] (1 ∷ 0 ∷ []) ∷ row 18 [] (0 ∷ 1 ∷ []) ∷ [])

abbrev pub ccx_gate : GateBody
ccx_gate = gate 0 3 (under_control (under_control (row 9 [] (0 ∷ 1 ∷ 2 ∷ []))) ∷ [])

abbrev pub cswap_gate : GateBody
cswap_gate = gate 0 3 (under_control (row 28 [] (0 ∷ 1 ∷ 2 ∷ [])) ∷ [])

abbrev pub cu_gate : GateBody
cu_gate =
    gate 4 2 (row 1 (angle.Difference (given 3) (angle.Quotient (given 0) (pos 2)) ∷ []) (0 ∷ []) ∷
    under_control (u (given 0) (given 1) (given 2) (0 ∷ 1 ∷ [])) ∷ [])

-- ---- the table

pub record StandardGate : Type 0 where
  pub name : List ℕ
  pub body : GateBody

abbrev pub named : List ℕ → GateBody → StandardGate
named name body = record { name = name; body = body }

unfoldable pub standard_gates : List StandardGate
standard_gates =
    named (codes "id") id_gate ∷
    named (codes "p") p_gate ∷
    named (codes "phase") p_gate ∷
    named (codes "u1") p_gate ∷
    named (codes "z") (p_at half_turn) ∷
    named (codes "s") (p_at quarter_turn) ∷
    named (codes "t") (p_at eighth_turn) ∷
    named (codes "sdg") (p_at quarter_back) ∷
    named (codes "tdg") (p_at eighth_back) ∷
    named (codes "x") x_gate ∷
    named (codes "y") y_gate ∷
    named (codes "h") h_gate ∷
    named (codes "sx") sx_gate ∷
    named (codes "rx") rx_gate ∷
    named (codes "ry") ry_gate ∷
    named (codes "rz") rz_gate ∷
    named (codes "u2") u2_gate ∷
    named (codes "u3") u3_gate ∷
    named (codes "cx") (controlled_row 9 [] x_gate) ∷
    named (codes "CX") (controlled_row 9 [] x_gate) ∷
    named (codes "cy") (controlled_row 10 [] y_gate) ∷
    named (codes "cz") (controlled_row 4 [] (p_at half_turn)) ∷
    named (codes "cp") (controlled_row 1 (given 0 ∷ []) p_gate) ∷
    named (codes "cphase") (controlled_row 1 (given 0 ∷ []) p_gate) ∷
    named (codes "crx") (controlled_row 13 (given 0 ∷ []) rx_gate) ∷
    named (codes "cry") (controlled_row 14 (given 0 ∷ []) ry_gate) ∷
    named (codes "crz") (controlled_row 15 (given 0 ∷ []) rz_gate) ∷
    named (codes "ch") (controlled_row 11 [] h_gate) ∷
    named (codes "swap") swap_gate ∷
    named (codes "ccx") ccx_gate ∷
    named (codes "cswap") cswap_gate ∷
    named (codes "cu") cu_gate ∷ []

-- the bodies of the standard gates, by number
abbrev pub standard_bodies : List GateBody
standard_bodies = map (λ (g : StandardGate). g.body) standard_gates
