-- The state of all zeros is plain, and gates and projections keep states plain: no gate makes a vector longer than 1.
use Rattle.std.proofs.Common.{◌≡◌, ℕ, suc, ◌+◌, ◌*◌, ◌^◌, ◌<◌, ◌≤◌, Bool, true, false, List, [], ◌∷◌, refl, ap, ◌∙◌, arith, pos, ◌≤ℤ◌}
use Rattle.std.proofs.lemmas.Int.{ints}
use Rattle.std.proofs.Math.Nat.{pow-suc, pow-le-pow_right}
use Rattle.qt_ring.specs.declared.omega.Omega.{Omega}
use Rattle.qt_ring.specs.Places.{AreQubits}
use Rattle.qt_ring.specs.Matrix.{Operator}
use Rattle.qt_ring.specs.State.{State, HasAllEntries, zero_state, applied, project, total_a}
use Rattle.qt_ring.specs.Gates.{h_gate, x_gate, t_gate, cx_gate}
use Rattle.qt_ring.proofs.Norms.{total_a-nonneg}
use Rattle.qt_ring.proofs.Gates.{applied_has_all}
use Rattle.qt_ring.proofs.Totals.{Scales, h_scales, x_scales, t_scales, cx_scales, project_totals, project_has_all}
use Rattle.qt_mass.proofs.Masses.{total_a-zero_state, all_entries_zero_state}
use Rattle.qt_plain.specs.Plain.{IsPlain}
use Rattle.qt_plain.specs.declared.gates.Gate.{Gate}
use Rattle.qt_plain.specs.declared.gates.Gate.TheVariants.{Hadamard, X, T, ControlledX}
use Rattle.qt_plain.specs.Operators.{operator_of, qubits_of, product_with, Suits}

-- ---- powers of 4

four_more : (h : ℕ) → 4 ^ (h + 1) ≡ 4 ^ h * 4
four_more h = let e : h + 1 ≡ suc h = omega arith in ap (λ k. 4 ^ k) e ∙ pow-suc 4 h

four_below : (h : ℕ) → h ≤ 32 → 4 ^ h ≤ 4 ^ 32
four_below h l = let p : 0 < 4 = omega arith in pow-le-pow_right p l

-- ---- all zeros

pub zero_plain : (n : ℕ) → n ≤ 4 → IsPlain (zero_state n)
unfolding zero_state
zero_plain n l = record {
  few_qubits = l;
  few_halvings = omega arith;
  all_entries = all_entries_zero_state n;
  bounded = let t = total_a-zero_state n in omega (arith, ints, t);
}

-- ---- gates

pub plain_bounded : (s : State) → IsPlain s → total_a s.entries ≤ℤ pos (4 ^ 32)
plain_bounded s p = let f : 4 ^ s.halvings ≤ 4 ^ 32 = four_below s.halvings p.few_halvings in let b = p.bounded in omega (arith, ints, b)

pub suits : (g : Gate) (s : State) → IsPlain s → AreQubits s.qubits (qubits_of g) → Suits g s.qubits s.entries
suits g s p q = record {
  few = p.few_qubits;
  full = p.all_entries;
  bounded = plain_bounded s p;
  qubits_in = q;
}

-- a gate with one halving multiplies the total by 4
once : (g : Operator) (qs : List ℕ) (s : State) → g.halvings ≡ 1 → IsPlain s → s.halvings + g.halvings ≤ 32 → Scales (pos 4) s.entries (applied g qs s).entries → IsPlain (applied g qs s)
unfolding applied
once g qs s e p l t = record {
  few_qubits = p.few_qubits;
  few_halvings = l;
  all_entries = applied_has_all g qs s;
  bounded =
      let f : 4 ^ (s.halvings + g.halvings) ≡ 4 ^ s.halvings * 4 = ap (λ k. 4 ^ (s.halvings + k)) e ∙ four_more s.halvings in
      let b = p.bounded in
      omega (arith, ints, b, t.0);
}

-- and one with none keeps it
never : (g : Operator) (qs : List ℕ) (s : State) → g.halvings ≡ 0 → IsPlain s → s.halvings + g.halvings ≤ 32 → Scales (pos 1) s.entries (applied g qs s).entries → IsPlain (applied g qs s)
unfolding applied
never g qs s e p l t = record {
  few_qubits = p.few_qubits;
  few_halvings = l;
  all_entries = applied_has_all g qs s;
  bounded =
      let h : s.halvings + g.halvings ≡ s.halvings = omega arith in
      let f : 4 ^ (s.halvings + g.halvings) ≡ 4 ^ s.halvings = ap (λ k. 4 ^ k) h in
      let b = p.bounded in
      omega (arith, ints, b, t.0);
}

more : (s : State) → s.halvings < 32 → s.halvings + 1 ≤ 32
more s l = omega arith

none_more : (s : State) → IsPlain s → s.halvings + 0 ≤ 32
none_more s p = let l = p.few_halvings in omega (arith, l)

pub after_plain : (g : Gate) (s : State) → IsPlain s → AreQubits s.qubits (qubits_of g) → ((operator_of g).halvings ≡ 1 → s.halvings < 32) → IsPlain (applied (operator_of g) (qubits_of g) s)
after_plain (Hadamard q) s p f l = once h_gate (q ∷ []) s refl p (more s (l refl)) (h_scales s q f.0 p.all_entries)
after_plain (X q) s p f l = once x_gate (q ∷ []) s refl p (more s (l refl)) (x_scales s q f.0 p.all_entries)
after_plain (T q) s p f l = never t_gate (q ∷ []) s refl p (none_more s p) (t_scales s q f.0 p.all_entries)
after_plain (ControlledX c q) s p f l = once cx_gate (c ∷ q ∷ []) s refl p (more s (l refl)) (cx_scales s c q f.0 f.2.0 f.1.0 p.all_entries)

-- the vector that the code makes of the product
pub after_is : (g : Gate) (s : State) (new : List Omega) (h : ℕ) → new ≡ product_with g s.qubits s.entries → h ≡ (operator_of g).halvings → (let t : State = record { qubits = s.qubits; entries = new; halvings = s.halvings + h } in t ≡ applied (operator_of g) (qubits_of g) s)
unfolding product_with applied
after_is g s new h e f =
    ap (λ (es : List Omega). record { qubits = s.qubits; entries = es; halvings = s.halvings + h }) e
    ∙ ap (λ (k : ℕ). record { qubits = s.qubits; entries = product_with g s.qubits s.entries; halvings = s.halvings + k }) f

-- ---- projections

pub projected_is : (q : ℕ) (b : Bool) (s : State) (new : List Omega) → (let r : State = record { qubits = s.qubits; entries = s.entries; halvings = 0 } in new ≡ (project q b r).entries) → (let t : State = record { qubits = s.qubits; entries = new; halvings = s.halvings } in t ≡ project q b s)
unfolding project
projected_is q b s new e = ap (λ (es : List Omega). record { qubits = s.qubits; entries = es; halvings = s.halvings }) e

project_below : (q : ℕ) (b : Bool) (s : State) → q < s.qubits → HasAllEntries s → total_a (project q b s).entries ≤ℤ total_a s.entries
project_below q true s h e = let t = (project_totals s q h e).0 in let z = total_a-nonneg (project q false s).entries in omega (arith, ints, t, z)
project_below q false s h e = let t = (project_totals s q h e).0 in let z = total_a-nonneg (project q true s).entries in omega (arith, ints, t, z)

project_fields : (q : ℕ) (b : Bool) (s : State) → IsPlain s → total_a (project q b s).entries ≤ℤ total_a s.entries → IsPlain (project q b s)
unfolding project
project_fields q b s p l = record {
  few_qubits = p.few_qubits;
  few_halvings = p.few_halvings;
  all_entries = project_has_all q b s;
  bounded = let t = p.bounded in omega (arith, ints, t, l);
}

pub project_plain : (q : ℕ) (b : Bool) (s : State) → q < s.qubits → IsPlain s → IsPlain (project q b s)
project_plain q b s h p = project_fields q b s p (project_below q b s h p.all_entries)
