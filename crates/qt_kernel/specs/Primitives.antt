-- The primitives to which gates come: U and a global phase with fixed angles, under the controls of two masks
-- (OpenQASM 3.0 live specification, "Gates", the built-in gates U and gphase, control modifiers; Cross et al. 2022).
use Rattle.std.specs.Prelude.{ℕ, ◌<◌, List, [], ◌∷◌}
use Rattle.qt_ring.specs.Matrix.{Operator, u_gate, phase_gate}
use Rattle.qt_ring.specs.State.{State, applied}
use Rattle.qt_embedding.specs.Controls.{under_all, qubits_under, controls_from, AreMasks, IsTarget}
use Rattle.qt_kernel.specs.declared.primitive.FixedPrim.{FixedPrim}
use Rattle.qt_kernel.specs.declared.primitive.FixedPrim.TheVariants.{Turn, Phase}

-- on n qubits the operator of a primitive, its controls in front, ascending
abbrev pub operator_of : ℕ → FixedPrim → Operator
operator_of n (Turn ones clear target theta phi lambda) = under_all (controls_from 0 n ones clear) (u_gate theta phi lambda)
operator_of n (Phase ones clear angle) = under_all (controls_from 0 n ones clear) (phase_gate angle)

-- and the qubits that it acts on
abbrev pub qubits_of : ℕ → FixedPrim → List ℕ
qubits_of n (Turn ones clear target theta phi lambda) = qubits_under (controls_from 0 n ones clear) (target ∷ [])
qubits_of n (Phase ones clear angle) = qubits_under (controls_from 0 n ones clear) []

-- the full product of the embedded operator with a state
abbrev pub product_of : FixedPrim → State → State
product_of g s = applied (operator_of s.qubits g) (qubits_of s.qubits g) s

-- a primitive on n qubits: its masks and its target are apart and below n, and its angles below a whole turn
abbrev pub IsPrim : ℕ → FixedPrim → Type 0
IsPrim n (Turn ones clear target theta phi lambda) =
    AreMasks n ones clear × IsTarget n ones clear target × (theta < 8) × (phi < 8) × (lambda < 8)
IsPrim n (Phase ones clear angle) = AreMasks n ones clear × (angle < 8)
