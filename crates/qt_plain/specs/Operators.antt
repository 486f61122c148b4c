-- The gates of the small program as operators on chosen qubits: h, x, t and cx
-- (OpenQASM 3.0 live specification, "Standard library", the file stdgates.inc).
use Rattle.std.specs.Prelude.{◌≡◌, ℕ, ◌^◌, ◌≤◌, List, [], ◌∷◌, length, pos, ◌≤ℤ◌}
use Rattle.qt_ring.specs.declared.omega.Omega.{Omega}
use Rattle.qt_ring.specs.Places.{AreQubits}
use Rattle.qt_ring.specs.Matrix.{Operator, embedded}
use Rattle.qt_ring.specs.State.{multiplied, total_a}
use Rattle.qt_ring.specs.Gates.{h_gate, x_gate, t_gate, cx_gate}
use Rattle.qt_plain.specs.declared.gates.Gate.{Gate}
use Rattle.qt_plain.specs.declared.gates.Gate.TheVariants.{Hadamard, X, T, ControlledX}

abbrev pub operator_of : Gate → Operator
operator_of (Hadamard q) = h_gate
operator_of (X q) = x_gate
operator_of (T q) = t_gate
operator_of (ControlledX c t) = cx_gate

-- the qubits that the gate acts on, a control before its target
abbrev pub qubits_of : Gate → List ℕ
qubits_of (Hadamard q) = q ∷ []
qubits_of (X q) = q ∷ []
qubits_of (T q) = q ∷ []
qubits_of (ControlledX c t) = c ∷ t ∷ []

-- the full product of the gate's matrix on n qubits with the entries
unfoldable pub product_with : Gate → ℕ → List Omega → List Omega
product_with g n es = multiplied n (embedded (operator_of g).entries (qubits_of g)) es

-- all entries of a few qubits, the gate's own among them, and none so large that a sum would not fit
pub record Suits (g : Gate) (n : ℕ) (es : List Omega) : Type 0 where
  pub few : n ≤ 4
  pub full : length es ≡ 2 ^ n
  pub bounded : total_a es ≤ℤ pos (4 ^ 32)
  pub qubits_in : AreQubits n (qubits_of g)
