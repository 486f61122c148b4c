-- What the primitives of a gate call are, taken together (OpenQASM 3.0 live specification, "Gates": built-in gates, quantum gate modifiers,
-- hierarchically defined unitary gates; Cross et al. 2022). Gates are well formed here, and a call names as many different qubits as its gate
-- and its controls have.
use Rattle.std.specs.Prelude.{◌≡◌, ℕ, true, List, length}
use Rattle.qt_ring.specs.Ring.{conj}
use Rattle.qt_ring.specs.Places.{AreQubits}
use Rattle.qt_ring.specs.State.{State, HasAllEntries, applied}
use Rattle.qt_gate_calls.specs.declared.body.GateModifier.{GateModifier}
use Rattle.qt_gate_calls.specs.declared.body.Called.{Called}
use Rattle.qt_gate_calls.specs.declared.body.GateBody.{GateBody}
use Rattle.qt_gate_calls.specs.Units.{KnownUnits, opposite, circle}
use Rattle.qt_gate_calls.specs.Matrices.{inverted, on, call_matrix, matrices_of}
use Rattle.qt_gate_calls.specs.Primitives.{Primitive, inverse_of, no_controls, call_primitives, primitives_of}
use Rattle.qt_meaning.specs.Applying.{is_among}
use Rattle.qt_meaning.specs.WellFormed.{GatesFit, call_size, gate_sizes}
use Rattle.qt_gate_laws.specs.Primitives.{operator_of, product_of, all_applied, IsSameOperator, HaveQubits, AreOn}

-- a call on different qubits of n, as many as it has
pub record IsCall (gates : List GateBody) (modifiers : List GateModifier) (gate : Called) (n : ℕ) (qs : List ℕ) : Type 0 where
  pub gates_fit : GatesFit gates
  pub count : length qs ≡ call_size (gate_sizes gates) modifiers gate
  pub different : AreQubits n qs

-- the product of the primitives' matrices is the matrix of the call, embedded on its qubits
abbrev pub PrimitivesAreMatrix : Type 0
PrimitivesAreMatrix =
    (gates : List GateBody) (modifiers : List GateModifier) (gate : Called) (angles : List KnownUnits) (n : ℕ) (qs : List ℕ)
    → IsCall gates modifiers gate n qs
    → IsSameOperator (product_of n (call_primitives (primitives_of gates) modifiers gate angles no_controls qs))
    (on n qs (call_matrix (matrices_of gates) modifiers gate angles))

-- the primitives, one after another, make of a state what the matrix of the call makes of it
abbrev pub PrimitivesMultiply : Type 0
PrimitivesMultiply =
    (gates : List GateBody) (modifiers : List GateModifier) (gate : Called) (angles : List KnownUnits) (qs : List ℕ) (s : State)
    → IsCall gates modifiers gate s.qubits qs → HasAllEntries s
    → all_applied (call_primitives (primitives_of gates) modifiers gate angles no_controls qs) s
    ≡ applied (call_matrix (matrices_of gates) modifiers gate angles) qs s

-- each primitive is on different qubits, all of which are the call's
abbrev pub PrimitivesHaveTheirQubits : Type 0
PrimitivesHaveTheirQubits =
    (gates : List GateBody) (modifiers : List GateModifier) (gate : Called) (angles : List KnownUnits) (n : ℕ) (qs : List ℕ)
    → IsCall gates modifiers gate n qs
    → HaveQubits n (call_primitives (primitives_of gates) modifiers gate angles no_controls qs)
    × AreOn (λ q. is_among q qs ≡ true) (call_primitives (primitives_of gates) modifiers gate angles no_controls qs)

-- e^{−iu} is the conjugate of e^{iu}, whatever is known of the angle u
abbrev pub OppositesAreConjugate : Type 0
OppositesAreConjugate = (angle : KnownUnits) → circle (opposite angle) ≡ conj (circle angle)

-- the matrix of the inverse of a primitive is the conjugate transpose
abbrev pub InversesAreAdjoint : Type 0
InversesAreAdjoint = (p : Primitive) → IsSameOperator (operator_of (inverse_of p)) (inverted (operator_of p))
