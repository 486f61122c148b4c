-- Laws of the mass of a state: gates keep it, the two projections of a qubit share it, it is 0 at the zero vector alone, and 1 at
-- the state of all zeros.
use Rattle.std.proofs.Common.{◌≡◌, ◌≢◌, ℕ, zero, suc, ◌+◌, ◌-◌, ◌^◌, ◌<◌, Bool, true, false, List, [], ◌∷◌, length, replicate, refl, sym, ap, ◌∙◌, arith, ℤ, pos, ◌+ℤ◌, ◌*ℤ◌}
use Rattle.std.proofs.lemmas.Int.{ints}
use Rattle.std.proofs.lemmas.List.{length-replicate}
use Rattle.std.proofs.lemmas.Nat.{pow_pos}
use Rattle.qt_ring.specs.Matrix.{Operator}
use Rattle.qt_ring.specs.Ring.{nil, one}
use Rattle.qt_ring.specs.State.{State, HasAllEntries, zero_state, applied, project, vanishes, total_a, total_b}
use Rattle.qt_ring.specs.Gates.{h_gate, x_gate, t_gate, cx_gate}
use Rattle.qt_ring.proofs.Gates.{applied_has_all}
use Rattle.qt_ring.proofs.Norms.{norm-nil, total_zero, zero_total}
use Rattle.qt_ring.proofs.Totals.{Scales, h_scales, x_scales, t_scales, cx_scales, project_totals, project_has_all}
use Rattle.qt_root2.specs.Real.{least, lifted, zero_real, one_real, plus_real}
use Rattle.qt_root2.proofs.Reals.{IsLeast, least_is_least, least_lifted, least-zero, least_zero_only, plus_real-least}
use Rattle.qt_mass.specs.Mass.{mass}

least_both : (k m : ℕ) (a b c d : ℤ) → k ≡ m → a ≡ c → b ≡ d → least k a b ≡ least m c d
least_both k m a b c d e f g = ap (λ n. least n a b) e ∙ ap (λ z. least m z b) f ∙ ap (least m c) g

-- four times as much over four times as many
four_fold : (h : ℕ) (a b c d : ℤ) → c ≡ pos 4 *ℤ a → d ≡ pos 4 *ℤ b → least ((h + 1) + (h + 1)) c d ≡ least (h + h) a b
four_fold h a b c d e f =
    least_both ((h + 1) + (h + 1)) (2 + (h + h)) c d (lifted a 2) (lifted b 2) (omega arith) (e ∙ omega (arith, ints)) (f ∙ omega (arith, ints))
    ∙ least_lifted 2 (h + h) a b

pub mass_is_least : (s : State) → IsLeast (mass s)
unfolding mass
mass_is_least s = least_is_least (s.halvings + s.halvings) (total_a s.entries) (total_b s.entries)

-- ---- states that have all their entries

pub all_entries_applied : (g : Operator) (qs : List ℕ) (s : State) → HasAllEntries (applied g qs s)
all_entries_applied g qs s = applied_has_all g qs s

pub all_entries_project : (q : ℕ) (b : Bool) (s : State) → HasAllEntries (project q b s)
all_entries_project q b s = project_has_all q b s

-- ---- gates

pub mass_applied_h : (s : State) (q : ℕ) → q < s.qubits → HasAllEntries s → mass (applied h_gate (q ∷ []) s) ≡ mass s
unfolding mass applied
mass_applied_h s q h e = let t : Scales (pos 4) s.entries (applied h_gate (q ∷ []) s).entries = h_scales s q h e in four_fold s.halvings (total_a s.entries) (total_b s.entries) _ _ t.0 t.1

pub mass_applied_x : (s : State) (q : ℕ) → q < s.qubits → HasAllEntries s → mass (applied x_gate (q ∷ []) s) ≡ mass s
unfolding mass applied
mass_applied_x s q h e = let t : Scales (pos 4) s.entries (applied x_gate (q ∷ []) s).entries = x_scales s q h e in four_fold s.halvings (total_a s.entries) (total_b s.entries) _ _ t.0 t.1

pub mass_applied_cx : (s : State) (c t : ℕ) → c < s.qubits → t < s.qubits → c ≢ t → HasAllEntries s → mass (applied cx_gate (c ∷ t ∷ []) s) ≡ mass s
unfolding mass applied
mass_applied_cx s c t g h d e = let u : Scales (pos 4) s.entries (applied cx_gate (c ∷ t ∷ []) s).entries = cx_scales s c t g h d e in four_fold s.halvings (total_a s.entries) (total_b s.entries) _ _ u.0 u.1

pub mass_applied_t : (s : State) (q : ℕ) → q < s.qubits → HasAllEntries s → mass (applied t_gate (q ∷ []) s) ≡ mass s
unfolding mass applied
mass_applied_t s q h e =
    let t : Scales (pos 1) s.entries (applied t_gate (q ∷ []) s).entries = t_scales s q h e in
    least_both ((s.halvings + 0) + (s.halvings + 0)) (s.halvings + s.halvings) _ _ (total_a s.entries) (total_b s.entries) (omega arith) (t.0 ∙ omega (arith, ints)) (t.1 ∙ omega (arith, ints))

-- ---- projections

joined : (s : State) (q : ℕ) → total_a (project q false s).entries +ℤ total_a (project q true s).entries ≡ total_a s.entries → total_b (project q false s).entries +ℤ total_b (project q true s).entries ≡ total_b s.entries → plus_real (mass (project q false s)) (mass (project q true s)) ≡ mass s
unfolding mass project
joined s q f g =
    plus_real-least (s.halvings + s.halvings) _ _ _ _
    ∙ least_both (s.halvings + s.halvings) (s.halvings + s.halvings) _ _ (total_a s.entries) (total_b s.entries) refl f g

pub project_masses : (s : State) (q : ℕ) → q < s.qubits → HasAllEntries s → plus_real (mass (project q false s)) (mass (project q true s)) ≡ mass s
project_masses s q h e = let t = project_totals s q h e in joined s q t.0 t.1

-- ---- the zero vector

pub vanishing_mass : (s : State) → vanishes s ≡ true → mass s ≡ zero_real
unfolding mass vanishes
vanishing_mass s v =
    let t = total_zero s.entries v in
    least_both (s.halvings + s.halvings) (s.halvings + s.halvings) (total_a s.entries) (total_b s.entries) (pos 0) (pos 0) refl t.0 t.1
    ∙ least-zero (s.halvings + s.halvings)

pub mass_zero_only : (s : State) → mass s ≡ zero_real → vanishes s ≡ true
unfolding mass vanishes
mass_zero_only s m = zero_total s.entries (least_zero_only (s.halvings + s.halvings) (total_a s.entries) (total_b s.entries) m).0

pub mass_vanishing : (s : State) → vanishes s ≡ false → mass s ≢ zero_real
mass_vanishing s v m =
    let z : vanishes s ≡ true = mass_zero_only s m in
    let d : true ≡ false = sym z ∙ v in
    absurd (cc)

-- ---- all zeros

total_a_replicate : (k : ℕ) → total_a (replicate k nil) ≡ pos 0
total_a_replicate zero = refl
total_a_replicate (suc k) = let e = norm-nil.0 in let t : total_a (replicate k nil) ≡ pos 0 = total_a_replicate k in omega (arith, ints, e)

total_b_replicate : (k : ℕ) → total_b (replicate k nil) ≡ pos 0
total_b_replicate zero = refl
total_b_replicate (suc k) = let e = norm-nil.1 in let t : total_b (replicate k nil) ≡ pos 0 = total_b_replicate k in omega (arith, ints, e)

pub total_a-zero_state : (n : ℕ) → total_a (zero_state n).entries ≡ pos 1
unfolding zero_state one
total_a-zero_state n = ap (λ z. pos 1 +ℤ z) (total_a_replicate (2 ^ n - 1))

pub total_b-zero_state : (n : ℕ) → total_b (zero_state n).entries ≡ pos 0
unfolding zero_state one
total_b-zero_state n = ap (λ z. pos 0 +ℤ z) (total_b_replicate (2 ^ n - 1))

pub all_entries_zero_state : (n : ℕ) → HasAllEntries (zero_state n)
unfolding zero_state
all_entries_zero_state n = let p : 0 < 2 ^ n = pow_pos n in let l : length (replicate (2 ^ n - 1) nil) ≡ 2 ^ n - 1 = length-replicate (2 ^ n - 1) nil in omega arith

zero_state_at : (n : ℕ) → total_a (zero_state n).entries ≡ pos 1 → total_b (zero_state n).entries ≡ pos 0 → mass (zero_state n) ≡ one_real
unfolding mass zero_state
zero_state_at n f g = least_both 0 0 _ _ (pos 1) (pos 0) refl f g

pub mass_zero_state : (n : ℕ) → mass (zero_state n) ≡ one_real
mass_zero_state n = zero_state_at n (total_a-zero_state n) (total_b-zero_state n)
