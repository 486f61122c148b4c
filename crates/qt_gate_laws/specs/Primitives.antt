-- Primitives as matrices on all qubits of a program (OpenQASM 3.0 live specification, "Gates": built-in gates, quantum gate modifiers; Cross et
-- al. 2022). A primitive is U or gphase under its controls, with what is known of its angles; it is embedded on its qubits, and primitives
-- one after another are the product of their matrices.
use Rattle.std.specs.Prelude.{◌≡◌, ℕ, List, [], ◌∷◌, ◌++◌, length}
use Rattle.std.specs.List.{All}
use Rattle.qt_ring.specs.Places.{Bits, AreQubits}
use Rattle.qt_ring.specs.Matrix.{Operator}
use Rattle.qt_ring.specs.State.{State, applied}
use Rattle.qt_gate_calls.specs.Matrices.{nothing_on, after, on, u_matrix, phase_matrix}
use Rattle.qt_gate_calls.specs.Primitives.{Turned, Phased, Primitive}
use Rattle.qt_code.specs.Tail.{under_ones, under_zeros}

-- first the controls that are to be 1, then those that are to be 0, then the qubit of U
abbrev pub operator_of : Primitive → Operator
operator_of (Turned ones zeros q theta phi lambda) = under_ones ones (under_zeros zeros (u_matrix theta phi lambda))
operator_of (Phased ones zeros gamma) = under_ones ones (under_zeros zeros (phase_matrix gamma))

abbrev pub qubits_of : Primitive → List ℕ
qubits_of (Turned ones zeros q theta phi lambda) = ones ++ (zeros ++ (q ∷ []))
qubits_of (Phased ones zeros gamma) = ones ++ zeros

-- the product of the primitives' matrices on n qubits, each embedded on its own qubits: the first acts first
abbrev pub product_of : ℕ → List Primitive → Operator
product_of n [] = nothing_on n
product_of n (p ∷ ps) = after n (product_of n ps) (on n (qubits_of p) (operator_of p))

-- one after another on a state, each by the full product of its embedded matrix
abbrev pub all_applied : List Primitive → State → State
all_applied [] s = s
all_applied (p ∷ ps) s = all_applied ps (applied (operator_of p) (qubits_of p) s)

-- the same matrix on as many qubits, to be halved as often
pub record IsSameOperator (g h : Operator) : Type 0 where
  pub size : g.size ≡ h.size
  pub halvings : g.halvings ≡ h.halvings
  pub entries : (x y : Bits) → length x ≡ g.size → length y ≡ g.size → g.entries x y ≡ h.entries x y

-- each primitive is on different qubits of n
abbrev pub HaveQubits : ℕ → List Primitive → Type 0
HaveQubits n [] = Unit {0}
HaveQubits n (p ∷ ps) = AreQubits n (qubits_of p) × HaveQubits n ps

-- all its qubits are of some kind
abbrev pub AreOn : (ℕ → Type 0) → List Primitive → Type 0
AreOn Q [] = Unit {0}
AreOn Q (p ∷ ps) = All Q (qubits_of p) × AreOn Q ps
