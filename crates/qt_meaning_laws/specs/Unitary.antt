-- Gates are unitary (OpenQASM 3.0 live specification, "Gates": built-in gates, quantum gate modifiers, hierarchically defined unitary
-- gates; Cross et al. 2022). Where the gates are well formed, the matrix of a call is unitary, whatever its modifiers and its angles are;
-- and unitary matrices on different qubits keep the mass of a state, as flips do.
use Rattle.std.specs.Prelude.{◌≡◌, ℕ, List, length}
use Rattle.qt_ring.specs.Matrix.{Operator, IsUnitary}
use Rattle.qt_ring.specs.Places.{AreQubits}
use Rattle.qt_ring.specs.State.{State, HasAllEntries, applied, flip}
use Rattle.qt_mass.specs.Mass.{mass}
use Rattle.qt_gate_calls.specs.declared.body.GateModifier.{GateModifier}
use Rattle.qt_gate_calls.specs.declared.body.Called.{Called}
use Rattle.qt_gate_calls.specs.declared.body.GateBody.{GateBody}
use Rattle.qt_gate_calls.specs.Units.{KnownUnits}
use Rattle.qt_gate_calls.specs.Matrices.{call_matrix, matrices_of}
use Rattle.qt_meaning.specs.WellFormed.{GatesFit, call_size, gate_sizes}

abbrev pub CallsAreUnitary : Type 0
CallsAreUnitary =
    (gates : List GateBody) → GatesFit gates → (modifiers : List GateModifier) (gate : Called) (angles : List KnownUnits) →
    IsUnitary (call_matrix (matrices_of gates) modifiers gate angles)

-- it is a matrix on as many qubits as the call has
abbrev pub CallsHaveTheirSize : Type 0
CallsHaveTheirSize =
    (gates : List GateBody) → GatesFit gates → (modifiers : List GateModifier) (gate : Called) (angles : List KnownUnits) →
    (call_matrix (matrices_of gates) modifiers gate angles).size ≡ call_size (gate_sizes gates) modifiers gate

abbrev pub UnitariesKeepMass : Type 0
UnitariesKeepMass =
    (g : Operator) (qs : List ℕ) (s : State) → IsUnitary g → length qs ≡ g.size → AreQubits s.qubits qs → HasAllEntries s →
    mass (applied g qs s) ≡ mass s

abbrev pub FlipsKeepMass : Type 0
FlipsKeepMass = (q : ℕ) (s : State) → HasAllEntries s → mass (flip q s) ≡ mass s
