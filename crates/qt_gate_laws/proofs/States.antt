-- Primitives one after another on a state are the matrix of the call on it.
use Rattle.std.proofs.Common.{◌≡◌, ℕ, ◌+◌, List, [], ◌∷◌, length, refl, sym, ap, subst, ◌∙◌, arith}
use Rattle.qt_ring.specs.declared.omega.Omega.{Omega}
use Rattle.qt_ring.specs.Places.{AreQubits}
use Rattle.qt_ring.specs.Matrix.{Operator}
use Rattle.qt_ring.specs.State.{State, HasAllEntries, applied, entries_by}
use Rattle.qt_ring.proofs.Entries.{entry, entry-entries_by, entries_by_ext, entries_by-entry}
use Rattle.qt_ring.proofs.Gates.{applied_acts, qubits-applied, halvings-applied, applied_has_all}
use Rattle.qt_gate_calls.specs.Primitives.{Primitives, Primitive, no_controls}
use Rattle.qt_gate_laws.specs.Primitives.{operator_of, qubits_of, all_applied, HaveQubits}
use Rattle.qt_gate_laws.specs.Laws.{PrimitivesMultiply}
use Rattle.qt_gate_laws.proofs.Doing.{step, run, run_ext}
use Rattle.qt_gate_laws.proofs.Counting.{count_one, count}
use Rattle.qt_gate_laws.proofs.Modifying.{Follows}
use Rattle.qt_gate_laws.proofs.Following.{call_follows_matrix}
use Rattle.qt_gate_laws.proofs.Acting.{primitive_acts, primitive_halvings}

-- what primitives make of a state
pub record Made (ps : List Primitive) (s t : State) : Type 0 where
  pub qubits : t.qubits ≡ s.qubits
  pub entries : t.entries ≡ entries_by s.qubits (run ps (entry s.entries))
  pub halvings : t.halvings ≡ s.halvings + count ps

one_entries : (p : Primitive) (s : State) → AreQubits s.qubits (qubits_of p) → HasAllEntries s → (applied (operator_of p) (qubits_of p) s).entries ≡ entries_by s.qubits (step p (entry s.entries))
one_entries p s f h = applied_acts (operator_of p) (qubits_of p) s f h ∙ entries_by_ext s.qubits _ _ (λ x l. primitive_acts p (entry s.entries) x)

all_made : (ps : List Primitive) (s : State) → HaveQubits s.qubits ps → HasAllEntries s → Made ps s (all_applied ps s)
all_made [] s f h = record { qubits = refl; entries = entries_by-entry s.qubits s.entries h; halvings = omega arith }
all_made (p ∷ ps) s f h =
    let t : State = applied (operator_of p) (qubits_of p) s in
    let same : t.qubits ≡ s.qubits = qubits-applied (operator_of p) (qubits_of p) s in
    let rest : Made ps t (all_applied ps t) = all_made ps t (subst (λ (n : ℕ). HaveQubits n ps) (sym same) f.1) (applied_has_all (operator_of p) (qubits_of p) s) in
    let first : t.halvings ≡ s.halvings + (operator_of p).halvings = halvings-applied (operator_of p) (qubits_of p) s in
    let here : (operator_of p).halvings ≡ count_one p = primitive_halvings p in
    let after : (all_applied ps t).halvings ≡ t.halvings + count ps = rest.halvings in
    record {
      qubits = rest.qubits ∙ same;
      entries = rest.entries ∙ ap (λ n. entries_by n (run ps (entry t.entries))) same
          ∙ entries_by_ext s.qubits _ _ (λ x l. run_ext s.qubits ps (entry t.entries) (step p (entry s.entries)) x l
          (λ y k. ap (λ es. entry es y) (one_entries p s f.0 h) ∙ entry-entries_by s.qubits (step p (entry s.entries)) y k));
      halvings = omega arith;
    }

state_same : (s t : State) → s.qubits ≡ t.qubits → s.entries ≡ t.entries → s.halvings ≡ t.halvings → s ≡ t
state_same s t q e h = ap (λ (n : ℕ). record { qubits = n; entries = s.entries; halvings = s.halvings }) q ∙ ap (λ (es : List Omega). record { qubits = t.qubits; entries = es; halvings = s.halvings }) e ∙ ap (λ (n : ℕ). record { qubits = t.qubits; entries = t.entries; halvings = n }) h

-- primitives that follow an operator are that operator on a state
follows_applied : (g : Operator) (ps : Primitives) (k : ℕ) (qs : List ℕ) (s : State) → Follows g ps k → length qs ≡ k → AreQubits s.qubits qs → HasAllEntries s → all_applied (ps no_controls qs) s ≡ applied g qs s
follows_applied g ps k qs s f l q h =
    let made : Made (ps no_controls qs) s (all_applied (ps no_controls qs) s) = all_made (ps no_controls qs) s (f.fit s.qubits no_controls qs l (record { controls = tt; apart = (tt, tt); own = q })) h in
    let c : count (ps no_controls qs) ≡ g.halvings = f.counted no_controls qs in
    let m : (all_applied (ps no_controls qs) s).halvings ≡ s.halvings + count (ps no_controls qs) = made.halvings in
    let a : (applied g qs s).halvings ≡ s.halvings + g.halvings = halvings-applied g qs s in
    state_same _ _ (made.qubits ∙ sym (qubits-applied g qs s))
    (made.entries ∙ entries_by_ext s.qubits _ _ (λ x j. (f.does s.qubits no_controls qs l q (tt, tt)).forth.by (entry s.entries) x j) ∙ sym (applied_acts g qs s q h))
    (omega arith)

pub primitives_multiply : PrimitivesMultiply
primitives_multiply gates ms gate angles qs s call h =
    follows_applied _ _ _ qs s (call_follows_matrix gates call.gates_fit ms gate angles) call.count call.different h
