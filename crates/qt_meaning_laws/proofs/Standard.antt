-- The standard gates are well formed, by a test that computes.
use Rattle.std.proofs.Common.{◌≡◌, ℕ, suc, nat_eq, nat_lt, Bool, true, false, not, ◌&&◌, List, [], ◌∷◌, length, refl}
use Rattle.std.specs.List.{All}
use borrow.Author.Tests.{ltb-true, eqb-true}
use Rattle.qt_ring.specs.Places.{AreQubits}
use Rattle.qt_ring.proofs.RingLaws.{and_left, and_right}
use Rattle.qt_gate_calls.specs.declared.body.BodyCall.{BodyCall}
use Rattle.qt_gate_calls.specs.declared.body.GateBody.{GateBody}
use Rattle.qt_gate_calls.specs.Numbered.{if_number}
use Rattle.qt_gate_calls.specs.Standard.{standard_gates, standard_bodies}
use Rattle.qt_meaning.specs.Applying.{is_among}
use Rattle.qt_meaning.specs.WellFormed.{call_size, BodyCallFits, GatesFitFrom, GatesFit}
use Rattle.qt_meaning_laws.proofs.Named.{all_none, all_more, free_of}

abbrev are_qubits : ℕ → List ℕ → Bool
are_qubits k [] = true
are_qubits k (q ∷ qs) = nat_lt q k && (not (is_among q qs) && are_qubits k qs)

abbrev call_fits : (ℕ → ℕ) → ℕ → BodyCall → Bool
call_fits sizes k c = nat_eq (length c.qubits) (call_size sizes c.modifiers c.gate) && are_qubits k c.qubits

abbrev calls_fit : (ℕ → ℕ) → ℕ → List BodyCall → Bool
calls_fit sizes k [] = true
calls_fit sizes k (c ∷ calls) = call_fits sizes k c && calls_fit sizes k calls

abbrev gates_fit : ℕ → (ℕ → ℕ) → List GateBody → Bool
gates_fit n sizes [] = true
gates_fit n sizes (body ∷ bodies) = calls_fit sizes body.qubits body.calls && gates_fit (suc n) (λ i. if_number n i body.qubits (sizes i)) bodies

-- ---- what the tests say

false_of : (b : Bool) → not b ≡ true → b ≡ false
false_of true e = absurd (cc)
false_of false e = refl

qubits_by : (k : ℕ) (qs : List ℕ) → are_qubits k qs ≡ true → AreQubits k qs
qubits_by k [] e = tt
qubits_by k (q ∷ qs) e =
    let rest = and_right (nat_lt q k) (not (is_among q qs) && are_qubits k qs) e in
    (ltb-true q k (and_left (nat_lt q k) _ e), free_of q qs (false_of (is_among q qs) (and_left _ (are_qubits k qs) rest)), qubits_by k qs (and_right (not (is_among q qs)) (are_qubits k qs) rest))

calls_by : (sizes : ℕ → ℕ) (k : ℕ) (calls : List BodyCall) → calls_fit sizes k calls ≡ true → All (BodyCallFits sizes k) calls
calls_by sizes k [] e = all_none (BodyCallFits sizes k)
calls_by sizes k (c ∷ calls) e =
    let here = and_left (call_fits sizes k c) (calls_fit sizes k calls) e in
    let size = nat_eq (length c.qubits) (call_size sizes c.modifiers c.gate) in
    all_more (BodyCallFits sizes k) c calls
    (eqb-true (length c.qubits) (call_size sizes c.modifiers c.gate) (and_left size (are_qubits k c.qubits) here), qubits_by k c.qubits (and_right size (are_qubits k c.qubits) here))
    (calls_by sizes k calls (and_right (call_fits sizes k c) (calls_fit sizes k calls) e))

gates_by : (n : ℕ) (sizes : ℕ → ℕ) (bodies : List GateBody) → gates_fit n sizes bodies ≡ true → GatesFitFrom n sizes bodies
gates_by n sizes [] e = tt
gates_by n sizes (body ∷ bodies) e = (
  calls_by sizes body.qubits body.calls (and_left _ (gates_fit (suc n) (λ i. if_number n i body.qubits (sizes i)) bodies) e),
  gates_by (suc n) (λ i. if_number n i body.qubits (sizes i)) bodies (and_right (calls_fit sizes body.qubits body.calls) _ e),
)

pub standard_gates_fit : GatesFit standard_bodies
unfolding standard_gates
standard_gates_fit = gates_by 0 (λ i. 0) standard_bodies refl
