-- The totals of a list of entries, the two parts of the sum of |.|²: what gates and projections do to them.
use Rattle.std.proofs.Common.{◌≡◌, ◌≢◌, ℕ, suc, ◌+◌, ◌^◌, ◌<◌, Bool, true, false, List, [], ◌∷◌, length, map, get_or, refl, sym, ap, ◌∙◌, arith, ℤ, pos, ◌+ℤ◌, ◌*ℤ◌}
use lib.IntN.{zero-*ℤ}
use Rattle.std.proofs.lemmas.Int.{ints}
use Rattle.std.proofs.lemmas.List.FromFn.{get_or-map-range_with_len, length-map-range_with_len}
use Rattle.std.specs.List.{range_with_len}
use Rattle.qt_ring.specs.declared.omega.Omega.{Omega}
pub use Rattle.qt_ring.specs.Ring.{whole}
use Rattle.qt_ring.specs.Ring.{nil, one, the_omega, imaginary, plus, times, minus, conj, two_to, root}
use Rattle.qt_ring.specs.Places.{Bits, at, equal_bits, bits_of, AreQubits}
use Rattle.qt_ring.specs.Matrix.{Operator, kept, sum}
use Rattle.qt_ring.specs.State.{State, HasAllEntries, entries_by, applied, project, total_a, total_b}
use Rattle.qt_ring.specs.Gates.{h_gate, x_gate, t_gate, cx_gate}
use Rattle.qt_ring.proofs.RingLaws.{one-times, norm_is, plus_both}
use Rattle.qt_ring.proofs.Sums.{Vector, sum_ext, act}
use Rattle.qt_ring.proofs.Acts.{choose, act_ctrl}
use Rattle.qt_ring.proofs.Entries.{entry, number_bits_of, entries_of, entry-entries_by, sum_from, sum_numbers}
use Rattle.qt_ring.proofs.Gates.{applied_acts}
use Rattle.qt_ring.proofs.Mass.{norm, mass, norm-times, Weighs, one_keeps, control_keeps, project_splits}

-- ---- the sum of |.|² over a list
abbrev pub squares : List Omega → Omega
squares [] = nil
squares (e ∷ es) = plus (norm e) (squares es)

total_a_is : (es : List Omega) → total_a es ≡ (squares es).c0
unfolding plus nil
total_a_is [] = refl
total_a_is (e ∷ es) = ap (λ t. t +ℤ total_a es) (sym (ap (λ (t : Omega). t.c0) (norm_is e))) ∙ ap (λ t. (norm e).c0 +ℤ t) (total_a_is es)

total_b_is : (es : List Omega) → total_b es ≡ (squares es).c1
unfolding plus nil
total_b_is [] = refl
total_b_is (e ∷ es) = ap (λ t. t +ℤ total_b es) (sym (ap (λ (t : Omega). t.c1) (norm_is e))) ∙ ap (λ t. (norm e).c1 +ℤ t) (total_b_is es)

squares_from : (es : List Omega) (j : ℕ) (f : ℕ → Omega) → ((k : ℕ) → k < length es → f (j + k) ≡ norm (get_or es k nil)) → squares es ≡ sum_from j (length es) f
squares_from [] j f h = refl
squares_from (e ∷ es) j f h =
    let z : j + 0 ≡ j = omega arith in
    plus_both _ _ _ _ (sym (ap f (sym z) ∙ h 0 (omega arith))) (squares_from es (suc j) f (λ k l.
    let s : suc j + k ≡ j + suc k = omega arith in
    ap f s ∙ h (suc k) (omega arith)))

-- it is the sum over the basis states
pub squares_are : (n : ℕ) (es : List Omega) → length es ≡ 2 ^ n → squares es ≡ mass n (entry es)
squares_are n es e =
    squares_from es 0 (λ j. norm (entry es (bits_of n j))) (λ k l.
    let z : 0 + k ≡ k = omega arith in
    let b : k < 2 ^ n = omega arith in
    ap (λ t. norm (entry es (bits_of n t))) z ∙ ap (λ t. norm (get_or es t nil)) (number_bits_of n k b))
    ∙ ap (λ s. sum_from 0 s (λ j. norm (entry es (bits_of n j)))) e
    ∙ sum_numbers n (λ y. norm (entry es y))

pub total_mass : (n : ℕ) (es : List Omega) → length es ≡ 2 ^ n → (total_a es ≡ (mass n (entry es)).c0) × (total_b es ≡ (mass n (entry es)).c1)
total_mass n es e =
    (total_a_is es ∙ ap (λ (t : Omega). t.c0) (squares_are n es e), total_b_is es ∙ ap (λ (t : Omega). t.c1) (squares_are n es e))

-- the totals of a list by basis states are the parts of a sum over them
pub total_sum : (n : ℕ) (f : Bits → Omega) → (total_a (entries_by n f) ≡ (sum n (λ x. times (f x) (conj (f x)))).c0) × (total_b (entries_by n f) ≡ (sum n (λ x. times (f x) (conj (f x)))).c1)
total_sum n f =
    let l : length (entries_by n f) ≡ 2 ^ n = length-map-range_with_len (λ i. f (bits_of n i)) 0 (2 ^ n) in
    let m : mass n (entry (entries_by n f)) ≡ mass n f = sum_ext n _ _ (λ x j. ap norm (entry-entries_by n f x j)) in
    let t = total_mass n (entries_by n f) l in
    (t.0 ∙ ap (λ (t : Omega). t.c0) m, t.1 ∙ ap (λ (t : Omega). t.c1) m)

-- ---- a factor on the sum
whole_times : (k : ℤ) (z : Omega) → ((times (whole k) z).c0 ≡ k *ℤ z.c0) × ((times (whole k) z).c1 ≡ k *ℤ z.c1)
unfolding times
whole_times k z = (simp zero-*ℤ (omega (arith, ints)), simp zero-*ℤ (omega (arith, ints)))

-- an action that weighs k times as much on all basis states does so on the lists
pub totals_scale : (n : ℕ) (k : ℤ) (v : Vector) (es : List Omega) → length es ≡ 2 ^ n → mass n v ≡ times (whole k) (mass n (entry es)) → (total_a (entries_by n v) ≡ k *ℤ total_a es) × (total_b (entries_by n v) ≡ k *ℤ total_b es)
totals_scale n k v es e m =
    let t = total_sum n v in
    let u = total_mass n es e in
    let w = whole_times k (mass n (entry es)) in
    (t.0 ∙ ap (λ (t : Omega). t.c0) m ∙ w.0 ∙ ap (λ t. k *ℤ t) (sym u.0), t.1 ∙ ap (λ (t : Omega). t.c1) m ∙ w.1 ∙ ap (λ t. k *ℤ t) (sym u.1))

abbrev pub Scales : ℤ → List Omega → List Omega → Type 0
Scales k es new = (total_a new ≡ k *ℤ total_a es) × (total_b new ≡ k *ℤ total_b es)

pub applied_scales : (g : Operator) (qs : List ℕ) (s : State) (k : ℤ) → AreQubits s.qubits qs → HasAllEntries s → mass s.qubits (act g.entries qs (entry s.entries)) ≡ times (whole k) (mass s.qubits (entry s.entries)) → Scales k s.entries (applied g qs s).entries
applied_scales g qs s k f e m =
    let t = totals_scale s.qubits k (act g.entries qs (entry s.entries)) s.entries e m in
    (ap total_a (applied_acts g qs s f e) ∙ t.0, ap total_b (applied_acts g qs s f e) ∙ t.1)

-- ---- the four gates
h_weighs : Weighs (whole (pos 4)) h_gate.entries
unfolding plus times minus conj nil one imaginary the_omega
h_weighs = record { left = refl; right = refl; across = refl; back = refl }

x_weighs : Weighs (whole (pos 4)) x_gate.entries
unfolding plus times minus conj nil one imaginary the_omega
x_weighs = record { left = refl; right = refl; across = refl; back = refl }

two_weighs : norm (two_to 1) ≡ whole (pos 4)
unfolding plus times conj one
two_weighs = refl

root_weighs : norm (root 1) ≡ one
unfolding times conj one the_omega
root_weighs = refl

whole_one : whole (pos 1) ≡ one
unfolding one
whole_one = refl

pub h_scales : (s : State) (q : ℕ) → q < s.qubits → HasAllEntries s → Scales (pos 4) s.entries (applied h_gate (q ∷ []) s).entries
h_scales s q h e = applied_scales h_gate (q ∷ []) s (pos 4) (h, tt, tt) e (one_keeps s.qubits q (whole (pos 4)) h_gate.entries (entry s.entries) h_weighs h)

pub x_scales : (s : State) (q : ℕ) → q < s.qubits → HasAllEntries s → Scales (pos 4) s.entries (applied x_gate (q ∷ []) s).entries
x_scales s q h e = applied_scales x_gate (q ∷ []) s (pos 4) (h, tt, tt) e (one_keeps s.qubits q (whole (pos 4)) x_gate.entries (entry s.entries) x_weighs h)

pub cx_scales : (s : State) (c q : ℕ) → c < s.qubits → q < s.qubits → c ≢ q → HasAllEntries s → Scales (pos 4) s.entries (applied cx_gate (c ∷ q ∷ []) s).entries
cx_scales s c q g h d e = applied_scales cx_gate (c ∷ q ∷ []) s (pos 4) (g, (d, tt), (h, tt, tt)) e (
    sum_ext s.qubits _ _ (λ x l. ap norm (act_ctrl s.qubits 1 c x_gate.entries (q ∷ []) (entry s.entries) x))
    ∙ control_keeps s.qubits c q (whole (pos 4)) (two_to 1) x_gate.entries (entry s.entries) x_weighs two_weighs h d)

phased_by : (t : Bool) (x : Omega) → norm (choose t (times (root 1) x) (times one x)) ≡ norm x
phased_by true x = norm-times (root 1) x ∙ ap (λ t. times t (norm x)) root_weighs ∙ one-times (norm x)
phased_by false x = ap norm (one-times x)

pub t_scales : (s : State) (q : ℕ) → q < s.qubits → HasAllEntries s → Scales (pos 1) s.entries (applied t_gate (q ∷ []) s).entries
t_scales s q h e = applied_scales t_gate (q ∷ []) s (pos 1) (h, tt, tt) e (
    sum_ext s.qubits _ _ (λ x l. ap norm (act_ctrl s.qubits 0 q (λ x y. root 1) [] (entry s.entries) x) ∙ phased_by (at q x) (entry s.entries x))
    ∙ sym (ap (λ t. times t (mass s.qubits (entry s.entries))) whole_one ∙ one-times (mass s.qubits (entry s.entries))))

-- ---- projections
equal_bits_sym : (a b : Bool) → equal_bits a b ≡ equal_bits b a
equal_bits_sym true true = refl
equal_bits_sym false false = refl
equal_bits_sym true false = refl
equal_bits_sym false true = refl

pub project_is : (q : ℕ) (b : Bool) (s : State) → HasAllEntries s → (project q b s).entries ≡ entries_by s.qubits (λ x. kept (equal_bits b (at q x)) (entry s.entries x))
unfolding project
project_is q b s e =
    let f : ℕ → Omega = λ i. kept (equal_bits (at q (bits_of s.qubits i)) b) (get_or s.entries i nil) in
    entries_of s.qubits (λ x. kept (equal_bits b (at q x)) (entry s.entries x)) (map f (range_with_len 0 (2 ^ s.qubits))) (length-map-range_with_len f 0 (2 ^ s.qubits)) (λ i l.
    get_or-map-range_with_len f 0 (2 ^ s.qubits) i i nil l (omega arith)
    ∙ ap (λ t. kept t (get_or s.entries i nil)) (equal_bits_sym (at q (bits_of s.qubits i)) b)
    ∙ ap (λ k. kept (equal_bits b (at q (bits_of s.qubits i))) (get_or s.entries k nil)) (sym (number_bits_of s.qubits i l)))

plus_c0 : (x y z : Omega) → plus x y ≡ z → x.c0 +ℤ y.c0 ≡ z.c0
unfolding plus
plus_c0 x y z e = ap (λ (t : Omega). t.c0) e

plus_c1 : (x y z : Omega) → plus x y ≡ z → x.c1 +ℤ y.c1 ≡ z.c1
unfolding plus
plus_c1 x y z e = ap (λ (t : Omega). t.c1) e

abbrev part : ℕ → Bool → State → Vector
part q b s x = kept (equal_bits b (at q x)) (entry s.entries x)

part_totals : (q : ℕ) (b : Bool) (s : State) → HasAllEntries s → (total_a (project q b s).entries ≡ (mass s.qubits (part q b s)).c0) × (total_b (project q b s).entries ≡ (mass s.qubits (part q b s)).c1)
part_totals q b s e =
    let t = total_sum s.qubits (part q b s) in
    (ap total_a (project_is q b s e) ∙ t.0, ap total_b (project_is q b s e) ∙ t.1)

-- the two projections of a qubit share the totals between them
pub project_totals : (s : State) (q : ℕ) → q < s.qubits → HasAllEntries s → (total_a (project q false s).entries +ℤ total_a (project q true s).entries ≡ total_a s.entries) × (total_b (project q false s).entries +ℤ total_b (project q true s).entries ≡ total_b s.entries)
project_totals s q h e =
    let f = part_totals q false s e in
    let t = part_totals q true s e in
    let u = total_mass s.qubits s.entries e in
    let m = project_splits s.qubits q (entry s.entries) in (
      ap (λ k. k +ℤ total_a (project q true s).entries) f.0 ∙ ap (λ k. (mass s.qubits (part q false s)).c0 +ℤ k) t.0 ∙ plus_c0 _ _ _ m ∙ sym u.0,
      ap (λ k. k +ℤ total_b (project q true s).entries) f.1 ∙ ap (λ k. (mass s.qubits (part q false s)).c1 +ℤ k) t.1 ∙ plus_c1 _ _ _ m ∙ sym u.1,
    )

-- ---- lengths
pub length-project : (q : ℕ) (b : Bool) (s : State) → length (project q b s).entries ≡ 2 ^ s.qubits
unfolding project
length-project q b s = length-map-range_with_len _ 0 (2 ^ s.qubits)

pub project_has_all : (q : ℕ) (b : Bool) (s : State) → HasAllEntries (project q b s)
unfolding project
project_has_all q b s = length-map-range_with_len _ 0 (2 ^ s.qubits)
