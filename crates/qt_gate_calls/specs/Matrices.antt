-- The matrix of a gate call, on the call's own qubits (OpenQASM 3.0 live specification, "Gates": built-in gates, quantum gate modifiers,
-- hierarchically defined unitary gates; Cross et al. 2022). U and gphase have their matrices; a body is the product of its calls' matrices;
-- `ctrl` and `negctrl` put a qubit in front, `inv` is the conjugate transpose, and `pow(k)` the power.
use Rattle.std.specs.Prelude.{ℕ, zero, suc, ◌+◌, ℤ, pos, negsuc, List, [], ◌∷◌, map}
use Rattle.qt_ring.specs.Matrix.{Operator, twice_u, identity, product, adjoint, embedded, controlled, negctrl}
use Rattle.qt_gate_calls.specs.declared.body.GateModifier.{GateModifier}
use Rattle.qt_gate_calls.specs.declared.body.GateModifier.TheVariants.{Inv, Pow, Ctrl, NegCtrl}
use Rattle.qt_gate_calls.specs.declared.body.Called.{Called}
use Rattle.qt_gate_calls.specs.declared.body.Called.TheVariants as called
use Rattle.qt_gate_calls.specs.declared.body.BodyCall.{BodyCall}
use Rattle.qt_gate_calls.specs.declared.body.GateBody.{GateBody}
use Rattle.qt_gate_calls.specs.Units.{KnownUnits, circle, nth_known}
use Rattle.qt_gate_calls.specs.Angles.{value}
use Rattle.qt_gate_calls.specs.Numbered.{numbered}

-- ---- modifiers

abbrev pub controlled_on_zero : Operator → Operator
controlled_on_zero g = record { size = suc g.size; halvings = g.halvings; entries = negctrl g.halvings g.entries }

abbrev pub inverted : Operator → Operator
inverted g = record { size = g.size; halvings = g.halvings; entries = adjoint g.entries }

abbrev pub nothing_on : ℕ → Operator
nothing_on k = record { size = k; halvings = 0; entries = identity 0 }

-- on k qubits, first b, then a
abbrev pub after : ℕ → Operator → Operator → Operator
after k a b = record { size = k; halvings = a.halvings + b.halvings; entries = product k a.entries b.entries }

abbrev pub power : ℕ → Operator → Operator
power zero g = nothing_on g.size
power (suc k) g = after g.size g (power k g)

-- for a negative exponent that of the inverse
abbrev pub raised : ℤ → Operator → Operator
raised (pos k) g = power k g
raised (negsuc k) g = power (suc k) (inverted g)

abbrev pub modified : GateModifier → Operator → Operator
modified Inv g = inverted g
modified (Pow k) g = raised k g
modified Ctrl g = controlled g
modified NegCtrl g = controlled_on_zero g

-- the first modifier is outermost, and its qubit comes first
abbrev pub all_modified : List GateModifier → Operator → Operator
all_modified [] g = g
all_modified (m ∷ ms) g = modified m (all_modified ms g)

-- ---- calls

-- the matrices of the gates by number, for what is known of their parameters
abbrev pub Matrices : Type 0
Matrices = ℕ → List KnownUnits → Operator

abbrev pub u_matrix : KnownUnits → KnownUnits → KnownUnits → Operator
u_matrix theta phi lambda = record { size = 1; halvings = 1; entries = twice_u (circle theta) (circle phi) (circle lambda) }

abbrev pub phase_matrix : KnownUnits → Operator
phase_matrix gamma = record { size = 0; halvings = 0; entries = λ x y. circle gamma }

abbrev pub called_matrix : Matrices → Called → List KnownUnits → Operator
called_matrix gates called.U angles = u_matrix (nth_known 0 angles) (nth_known 1 angles) (nth_known 2 angles)
called_matrix gates called.GlobalPhase angles = phase_matrix (nth_known 0 angles)
called_matrix gates (called.Gate i) angles = gates i angles

abbrev pub call_matrix : Matrices → List GateModifier → Called → List KnownUnits → Operator
call_matrix gates ms gate angles = all_modified ms (called_matrix gates gate angles)

-- ---- bodies

-- an operator on chosen qubits of k
abbrev pub on : ℕ → List ℕ → Operator → Operator
on k qs g = record { size = k; halvings = g.halvings; entries = embedded g.entries qs }

-- the product of the calls' matrices: the first call acts first
abbrev pub calls_matrix : Matrices → ℕ → List BodyCall → List KnownUnits → Operator
calls_matrix gates k [] given = nothing_on k
calls_matrix gates k (c ∷ calls) given =
    after k (calls_matrix gates k calls given) (on k c.qubits (call_matrix gates c.modifiers c.gate (map (value given) c.angles)))

abbrev pub body_matrix : Matrices → GateBody → List KnownUnits → Operator
body_matrix gates body = calls_matrix gates body.qubits body.calls

abbrev pub matrices_of : List GateBody → Matrices
matrices_of = numbered body_matrix (λ given. nothing_on 0)
