-- From the entries that the code writes to the reduced product of a primitive with a state.
use Rattle.std.proofs.Common.{Result, Ok, Err, OnErr, ◌≡◌, ℕ, ◌+◌, ◌-◌, ◌^◌, ◌<◌, ◌≤◌, Bool, true, false, cond, List, length, get_or, sym, ap, subst, ◌∙◌, arith}
use mathlib.Core.Logic.{◌⊎◌, inl, inr}
use Rattle.std.proofs.lemmas.List.{length-map, get_or-map, get_or_default}
use Rattle.qt_ring.specs.declared.omega.Omega.{Omega}
use Rattle.qt_ring.specs.Ring.{nil, times, two_to, root}
use Rattle.qt_ring.specs.Division.{Divides}
use Rattle.qt_ring.specs.Matrix.{Operator, u_gate, phase_gate}
use Rattle.qt_ring.specs.State.{State, HasAllEntries}
use Rattle.qt_ring.specs.Multiples.{scaled, IsReduced}
use Rattle.qt_ring.proofs.RingLaws.{one-times}
use Rattle.qt_ring.proofs.Gates.{entries_follow, length-applied, qubits-applied, halvings-applied}
use Rattle.qt_ring.proofs.Units.{cancelled, units_keep, root_unit}
use Rattle.qt_vector.specs.declared.TheConstants.{HALVINGS}
use Rattle.qt_vector.specs.States.{IsSmall, AreSmall, IsBounded, IsVector}
use Rattle.qt_vector.proofs.Reduced.{two_to_not_nil, scaled-one, divides_each, divides_all, IsGreatest, reduced_by, reduced_of}
use Rattle.qt_embedding.specs.Controls.{controls_from, AreMasks}
use Rattle.qt_embedding.specs.Entries.{masks_hold}
use Rattle.qt_embedding.proofs.Controls.{halvings-under_all}
use Rattle.qt_embedding.proofs.Products.{one_qubit_multiplies, no_qubit_multiplies}
use Rattle.qt_kernel.specs.declared.gate.Controls.{Controls}
use Rattle.qt_kernel.specs.declared.gate.ControlledU.{ControlledU}
use Rattle.qt_kernel.specs.Primitives.{operator_of, qubits_of, product_of, IsPrim}
use Rattle.qt_kernel.specs.Gates.{entry_after, entry_after_phase, Suits, AllDivide, AreSmallOver}
use Rattle.qt_kernel.specs.Products.{state_with, u_prim, phase_prim, u_product}
use Rattle.qt_kernel.proofs.Phases.{turned_small}

-- ---- the product with U
u_entries : (g : ControlledU) (s : State) (i : ℕ) → Suits g s.qubits s.entries → i < 2 ^ s.qubits → get_or (u_product g s).entries i nil ≡ entry_after g s.entries i
u_entries g s i f l = one_qubit_multiplies s (u_gate g.angles.theta g.angles.phi g.angles.lambda) g.controls.ones g.controls.zeros g.target i f.masks f.target f.all l

pub u_qubits : (g : ControlledU) (s : State) → (u_product g s).qubits ≡ s.qubits
u_qubits g s = qubits-applied (operator_of s.qubits (u_prim g)) (qubits_of s.qubits (u_prim g)) s

u_halvings : (g : ControlledU) (s : State) → (u_product g s).halvings ≡ s.halvings + 1
u_halvings g s =
    halvings-applied (operator_of s.qubits (u_prim g)) (qubits_of s.qubits (u_prim g)) s
    ∙ ap (λ h. s.halvings + h) (halvings-under_all (controls_from 0 s.qubits g.controls.ones g.controls.zeros) (u_gate g.angles.theta g.angles.phi g.angles.lambda))

u_length : (g : ControlledU) (s : State) → length (u_product g s).entries ≡ 2 ^ s.qubits
u_length g s = length-applied (operator_of s.qubits (u_prim g)) (qubits_of s.qubits (u_prim g)) s

-- the power of two that the tests find is the greatest
pub u_greatest : (g : ControlledU) (s : State) (by : ℕ) → Suits g s.qubits s.entries → by ≤ s.halvings + 1 → AllDivide g by s.entries → ((by ≡ s.halvings + 1) ⊎ (AllDivide g (by + 1) s.entries → ⊥)) → IsGreatest (u_product g s) by
u_greatest g s by f room h n =
    let p : State = u_product g s in
    let k : p.halvings ≡ s.halvings + 1 = u_halvings g s in
    let l : length p.entries ≡ 2 ^ s.qubits = u_length g s in
    let a : length s.entries ≡ 2 ^ s.qubits = f.all in
    record {
      room = omega arith;
      divides = divides_all (two_to by) p.entries (λ i j. subst (Divides (two_to by)) (sym (u_entries g s i f (omega arith))) (h i (omega arith)));
      greatest = elim n [
        | inl e ↦ inl (e ∙ sym k)
        | inr m ↦ inr (λ d. m (λ i j. subst (Divides (two_to (by + 1))) (u_entries g s i f (omega arith)) (divides_each (two_to (by + 1)) p.entries d i (omega arith))))
      ];
    }

-- the entries that are written are those of the reduced product
pub u_reduced : (g : ControlledU) (s : State) (by k : ℕ) (new : List Omega) → Suits g s.qubits s.entries → IsGreatest (u_product g s) by → k + by ≡ s.halvings + 1 → length new ≡ length s.entries → ((i : ℕ) → i < length new → times (two_to by) (get_or new i nil) ≡ entry_after g s.entries i) → IsReduced (u_product g s) (state_with s.qubits new k)
u_reduced g s by k new f m e l h =
    let a : length s.entries ≡ 2 ^ s.qubits = f.all in
    reduced_of (u_product g s) (state_with s.qubits new k) by m
    (sym (qubits-applied (operator_of s.qubits (u_prim g)) (qubits_of s.qubits (u_prim g)) s))
    (e ∙ sym (u_halvings g s))
    (entries_follow (operator_of s.qubits (u_prim g)) (qubits_of s.qubits (u_prim g)) s (scaled (two_to by) new) (length-map new (times (two_to by)) ∙ l ∙ a)
    (λ i j. get_or-map (times (two_to by)) new i nil nil (omega arith) ∙ h i (omega arith) ∙ sym (u_entries g s i f j)))

u_written : (g : ControlledU) (s t : State) (by : ℕ) → Suits g s.qubits s.entries → (r : IsReduced (u_product g s) t) → r.by ≡ by → (i : ℕ) → i < length t.entries → times (two_to by) (get_or t.entries i nil) ≡ entry_after g s.entries i
u_written g s t by f r e i l =
    let n : length t.entries ≡ 2 ^ s.qubits = sym (length-map t.entries (times (two_to r.by))) ∙ ap length r.same_entries ∙ u_length g s in
    ap (λ k. times (two_to k) (get_or t.entries i nil)) (sym e)
    ∙ sym (get_or-map (times (two_to r.by)) t.entries i nil nil l)
    ∙ ap (λ es. get_or es i nil) r.same_entries
    ∙ u_entries g s i f (omega arith)

-- a reduced product that is too large is out of bounds
pub u_refused : (g : ControlledU) (s : State) (by : ℕ) → Suits g s.qubits s.entries → IsGreatest (u_product g s) by → ((HALVINGS < s.halvings + 1 - by) ⊎ (AreSmallOver g by s.entries → ⊥)) → (t : State) → IsReduced (u_product g s) t → IsBounded t → ⊥
u_refused g s by f m large t r b =
    let e : r.by ≡ by = reduced_by (u_product g s) t by m r in
    let k : (u_product g s).halvings ≡ s.halvings + 1 = u_halvings g s in
    let x : t.halvings + r.by ≡ (u_product g s).halvings = r.exponent in
    let n : length t.entries ≡ 2 ^ s.qubits = sym (length-map t.entries (times (two_to r.by))) ∙ ap length r.same_entries ∙ u_length g s in
    let a : length s.entries ≡ 2 ^ s.qubits = f.all in
    elim large [
      | inl l ↦ (let c = b.few_halvings in absurd (omega arith))
      | inr h ↦ h (λ i l y q. subst IsSmall
          (cancelled (two_to by) (get_or t.entries i nil) y (two_to_not_nil by) (u_written g s t by f r e i (omega arith) ∙ sym q))
          (b.small_entries i nil (omega arith)))
    ]

-- by index at one default, and at any
pub small_at_any : (es : List Omega) → ((i : ℕ) → i < length es → IsSmall (get_or es i nil)) → AreSmall es
small_at_any es h i d l = subst IsSmall (get_or_default es i nil d l) (h i l)

-- what is written is within the bounds
pub u_bounded : (g : ControlledU) (s : State) (by k : ℕ) (new : List Omega) → k ≤ HALVINGS → AreSmallOver g by s.entries → length new ≡ length s.entries → ((i : ℕ) → i < length new → times (two_to by) (get_or new i nil) ≡ entry_after g s.entries i) → IsBounded (state_with s.qubits new k)
u_bounded g s by k new f small l h = record { few_halvings = f; small_entries = small_at_any new (λ i j. small i (omega arith) (get_or new i nil) (h i j)) }

-- ---- the product with a phase
phase_entries : (c : Controls) (angle : ℕ) (s : State) (i : ℕ) → AreMasks s.qubits c.ones c.zeros → HasAllEntries s → i < 2 ^ s.qubits → get_or (product_of (phase_prim c angle) s).entries i nil ≡ entry_after_phase c angle s.entries i
phase_entries c angle s i m f l = no_qubit_multiplies s (phase_gate angle) c.ones c.zeros i m f l

phase_halvings : (c : Controls) (angle : ℕ) (s : State) → (product_of (phase_prim c angle) s).halvings ≡ s.halvings
phase_halvings c angle s =
    let z : s.halvings + 0 ≡ s.halvings = omega arith in
    halvings-applied (operator_of s.qubits (phase_prim c angle)) (qubits_of s.qubits (phase_prim c angle)) s
    ∙ ap (λ h. s.halvings + h) (halvings-under_all (controls_from 0 s.qubits c.ones c.zeros) (phase_gate angle))
    ∙ z

phase_qubits : (c : Controls) (angle : ℕ) (s : State) → (product_of (phase_prim c angle) s).qubits ≡ s.qubits
phase_qubits c angle s = qubits-applied (operator_of s.qubits (phase_prim c angle)) (qubits_of s.qubits (phase_prim c angle)) s

phase_small : (b : Bool) (angle : ℕ) (e : Omega) → IsSmall e → IsSmall (cond b (times (root angle) e) (times (two_to 0) e))
phase_small true angle e w = turned_small angle e w
phase_small false angle e w = subst IsSmall (sym (one-times e)) w

-- what a power of ω leaves even was even
two_before : (b : Bool) (angle : ℕ) (e x : Omega) → x ≡ cond b (times (root angle) e) (times (two_to 0) e) → Divides (two_to 1) x → Divides (two_to 1) e
two_before true angle e x h d = (units_keep (root angle) (two_to 1) e (root_unit angle)).0 (d.0, d.1 ∙ h)
two_before false angle e x h d = (d.0, d.1 ∙ h ∙ one-times e)

pub phase_reduced : (c : Controls) (angle : ℕ) (s : State) (new : List Omega) → IsVector s → AreMasks s.qubits c.ones c.zeros → length new ≡ length s.entries → ((i : ℕ) → i < length new → get_or new i nil ≡ entry_after_phase c angle s.entries i) → IsReduced (product_of (phase_prim c angle) s) (state_with s.qubits new s.halvings)
phase_reduced c angle s new v m l h =
    let a : length s.entries ≡ 2 ^ s.qubits = v.all_entries in
    let g : Operator = operator_of s.qubits (phase_prim c angle) in
    let qs : List ℕ = qubits_of s.qubits (phase_prim c angle) in
    record {
      same_qubits = sym (phase_qubits c angle s);
      by = 0;
      exponent = let z : s.halvings + 0 ≡ s.halvings = omega arith in z ∙ sym (phase_halvings c angle s);
      same_entries = scaled-one new ∙ entries_follow g qs s new (l ∙ a) (λ i j. h i (omega arith) ∙ sym (phase_entries c angle s i m v.all_entries j));
      least = elim v.least [
        | inl z ↦ inl z
        | inr f ↦ inr (λ d. f (divides_all (two_to 1) s.entries (λ i j.
            two_before (masks_hold c.ones c.zeros i) angle (get_or s.entries i nil) (get_or new i nil) (h i (omega arith)) (divides_each (two_to 1) new d i (omega arith)))))
      ];
    }

-- ---- what is written is a vector again
pub vector_again : (s p t : State) → IsVector s → p.qubits ≡ s.qubits → length t.entries ≡ length s.entries → IsReduced p t → IsBounded t → IsVector t
vector_again s p t v q l r b =
    let e : t.qubits ≡ s.qubits = r.same_qubits ∙ q in
    record {
      few_qubits = let f = v.few_qubits in omega arith;
      all_entries = l ∙ v.all_entries ∙ ap (λ (n : ℕ). 2 ^ n) (sym e);
      bounded = b;
      least = r.least;
    }

-- the phase as a vector's entries are read and written
pub phase_written : (c : Controls) (angle : ℕ) (s : State) (es new : List Omega) → IsVector s → IsPrim s.qubits (phase_prim c angle) → es ≡ s.entries → length new ≡ length es → ((i : ℕ) → i < length new → get_or new i nil ≡ entry_after_phase c angle es i) → IsReduced (product_of (phase_prim c angle) s) (state_with s.qubits new s.halvings) × IsVector (state_with s.qubits new s.halvings)
phase_written c angle s es new v p e l h =
    let n : length new ≡ length s.entries = l ∙ ap (length {A = Omega}) e in
    let now : (i : ℕ) → i < length new → get_or new i nil ≡ entry_after_phase c angle s.entries i = λ i j. h i j ∙ ap (λ us. entry_after_phase c angle us i) e in
    let r : IsReduced (product_of (phase_prim c angle) s) (state_with s.qubits new s.halvings) = phase_reduced c angle s new v p.0 n now in (
      r,
      vector_again s (product_of (phase_prim c angle) s) (state_with s.qubits new s.halvings) v (phase_qubits c angle s) n r
          (record { few_halvings = v.bounded.few_halvings; small_entries = small_at_any new (λ i j. subst IsSmall (sym (now i j)) (phase_small (masks_hold c.ones c.zeros i) angle (get_or s.entries i nil) (v.bounded.small_entries i nil (omega arith)))) }),
    )

-- the same of a vector's parts, as they are read and written
pub of_parts : (f : State → State) (n k : ℕ) (es fs : List Omega) (s t : State) → es ≡ fs → state_with n fs k ≡ s → IsReduced (f (state_with n es k)) t → IsReduced (f s) t
of_parts f n k es fs s t e v r = subst (λ (x : State). IsReduced (f x) t) (ap (λ (us : List Omega). state_with n us k) e ∙ v) r

pub refused_of_parts : (f : State → State) (n k : ℕ) (es fs : List Omega) (s : State) → es ≡ fs → state_with n fs k ≡ s → ((t : State) → IsReduced (f (state_with n es k)) t → IsBounded t → ⊥) → (t : State) → IsReduced (f s) t → IsBounded t → ⊥
refused_of_parts f n k es fs s e v h = subst (λ (x : State). (t : State) → IsReduced (f x) t → IsBounded t → ⊥) (ap (λ (us : List Omega). state_with n us k) e ∙ v) h

pub on_err : {T E P : Type 0} (r : Result T E) → P → OnErr r P
on_err (Ok x) p = tt
on_err (Err e) p = p
