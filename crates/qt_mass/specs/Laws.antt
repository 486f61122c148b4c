-- Laws of the mass of a state, by which all probabilities of a program are together 1: what a gate is on the vector keeps |v|², and
-- the two outcomes of a measurement share it (OpenQASM 3.0 live specification, "Gates", "Quantum measurement and reset";
-- Cross et al. 2022).
use Rattle.std.specs.Prelude.{◌≡◌, ◌≢◌, ◌↔◌, ℕ, ◌<◌, Bool, true, false, [], ◌∷◌}
use Rattle.qt_ring.specs.Gates.{h_gate, x_gate, t_gate, cx_gate}
use Rattle.qt_ring.specs.Matrix.{Operator}
use Rattle.qt_ring.specs.State.{State, HasAllEntries, zero_state, applied, project, vanishes}
use Rattle.qt_root2.specs.Real.{zero_real, one_real, plus_real}
use Rattle.qt_mass.specs.Mass.{mass}

-- a gate on one qubit keeps the mass of each state that has the qubit
abbrev pub KeepsMass : Operator → Type 0
KeepsMass gate = (s : State) (q : ℕ) → q < s.qubits → HasAllEntries s → mass (applied gate (q ∷ []) s) ≡ mass s

-- and so does cx on two different qubits
abbrev pub CxKeepsMass : Type 0
CxKeepsMass = (s : State) (c t : ℕ) → c < s.qubits → t < s.qubits → c ≢ t → HasAllEntries s → mass (applied cx_gate (c ∷ t ∷ []) s) ≡ mass s

-- what the outcomes 0 and 1 of a qubit leave has the mass of the state, together
abbrev pub OutcomesShareMass : Type 0
OutcomesShareMass = (s : State) (q : ℕ)
    → q < s.qubits → HasAllEntries s → plus_real (mass (project q false s)) (mass (project q true s)) ≡ mass s

-- the mass is 0 where all amplitudes are, and nowhere else
abbrev pub OnlyZeroIsMassless : Type 0
OnlyZeroIsMassless = (s : State) → (vanishes s ≡ true) ↔ (mass s ≡ zero_real)

-- the state that a program begins with
abbrev pub ZerosHaveMassOne : Type 0
ZerosHaveMassOne = (n : ℕ) → mass (zero_state n) ≡ one_real
