-- What the four gates do to each entry: the entry at number i by the entries at i and at its twin, i with the bit of the
-- target turned.
use Rattle.std.proofs.Common.{◌≡◌, ◌≢◌, ℕ, zero, suc, ◌+◌, ◌-◌, ◌^◌, ◌<◌, Bool, true, false, List, [], ◌∷◌, length, get_or, refl, sym, ap, ◌∙◌, arith}
use Rattle.std.specs.Int.{bit_at}
use Rattle.std.proofs.lemmas.List.FromFn.{get_or-map-range_with_len, length-map-range_with_len, fill_by_all}
use Rattle.std.proofs.lemmas.Nat.Bits.{bit_at-lt}
use Rattle.qt_ring.specs.declared.omega.Omega.{Omega}
pub use Rattle.qt_ring.specs.Ring.{root_two}
use Rattle.qt_ring.specs.Ring.{nil, one, the_omega, imaginary, plus, times, minus, two_to, root}
use Rattle.qt_ring.specs.Places.{Bits, at, is_one, bits_of, AreQubits}
use Rattle.qt_ring.specs.Matrix.{Matrix, Operator}
use Rattle.qt_ring.specs.State.{State, HasAllEntries, entries_by, applied}
use Rattle.qt_ring.specs.Gates.{h_gate, x_gate, t_gate, cx_gate}
use Rattle.qt_ring.proofs.RingLaws.{plus-nil, nil-plus, nil-times, one-times, times-plus, plus-times, times-minus, minus-times, plus_both}
use Rattle.qt_ring.proofs.Bits.{put}
use Rattle.qt_ring.proofs.Dividing.{times_two}
use Rattle.qt_ring.proofs.Sums.{Vector, act}
use Rattle.qt_ring.proofs.Acts.{choose, act_ctrl}
use Rattle.qt_ring.proofs.Entries.{entry, at_bits_of, at_one, at_zero, number_bits_of, number_set, number_clear, number_same}
use Rattle.qt_ring.proofs.Products.{embedded_acts}

abbrev pub twice : Omega → Omega
twice z = plus z z

-- ---- the entries of the gates
pub h_entries : (h_gate.halvings ≡ 1) × (h_gate.entries (false ∷ []) (false ∷ []) ≡ root_two) × (h_gate.entries (false ∷ []) (true ∷ []) ≡ root_two) × (h_gate.entries (true ∷ []) (false ∷ []) ≡ root_two) × (h_gate.entries (true ∷ []) (true ∷ []) ≡ minus root_two)
unfolding plus times minus nil one imaginary the_omega
h_entries = (refl, refl, refl, refl, refl)

pub x_entries : (x_gate.halvings ≡ 1) × (x_gate.entries (false ∷ []) (false ∷ []) ≡ nil) × (x_gate.entries (false ∷ []) (true ∷ []) ≡ two_to 1) × (x_gate.entries (true ∷ []) (false ∷ []) ≡ two_to 1) × (x_gate.entries (true ∷ []) (true ∷ []) ≡ nil)
unfolding plus times minus nil one imaginary the_omega
x_entries = (refl, refl, refl, refl, refl)

pub t_halvings : t_gate.halvings ≡ 0
t_halvings = refl

pub cx_halvings : cx_gate.halvings ≡ 1
cx_halvings = refl

-- ---- lists of entries
pub applied_acts : (g : Operator) (qs : List ℕ) (s : State) → AreQubits s.qubits qs → HasAllEntries s → (applied g qs s).entries ≡ entries_by s.qubits (act g.entries qs (entry s.entries))
unfolding applied
applied_acts g qs s f e = embedded_acts s.qubits g.entries qs s.entries f e

pub length-applied : (g : Operator) (qs : List ℕ) (s : State) → length (applied g qs s).entries ≡ 2 ^ s.qubits
unfolding applied
length-applied g qs s = length-map-range_with_len _ 0 (2 ^ s.qubits)

pub qubits-applied : (g : Operator) (qs : List ℕ) (s : State) → (applied g qs s).qubits ≡ s.qubits
unfolding applied
qubits-applied g qs s = refl

pub halvings-applied : (g : Operator) (qs : List ℕ) (s : State) → (applied g qs s).halvings ≡ s.halvings + g.halvings
unfolding applied
halvings-applied g qs s = refl

pub applied_has_all : (g : Operator) (qs : List ℕ) (s : State) → HasAllEntries (applied g qs s)
unfolding applied
applied_has_all g qs s = length-map-range_with_len _ 0 (2 ^ s.qubits)

-- the entry at a number
pub entries_by_at : (n : ℕ) (f : Bits → Omega) (i : ℕ) → i < 2 ^ n → get_or (entries_by n f) i nil ≡ f (bits_of n i)
entries_by_at n f i l = get_or-map-range_with_len (λ i. f (bits_of n i)) 0 (2 ^ n) i i nil l (omega arith)

pub applied_at : (g : Operator) (qs : List ℕ) (s : State) (i : ℕ) → AreQubits s.qubits qs → HasAllEntries s → i < 2 ^ s.qubits → get_or (applied g qs s).entries i nil ≡ act g.entries qs (entry s.entries) (bits_of s.qubits i)
applied_at g qs s i f e l = ap (λ es. get_or es i nil) (applied_acts g qs s f e) ∙ entries_by_at s.qubits (act g.entries qs (entry s.entries)) i l

-- ---- a matrix on one qubit, by number
one_by : (m : Matrix) (q : ℕ) (v : Vector) (x : Bits) (b : Bool) → at q x ≡ b → act m (q ∷ []) v x ≡ plus (times (m (b ∷ []) (false ∷ [])) (v (put q false x))) (times (m (b ∷ []) (true ∷ [])) (v (put q true x)))
one_by m q v x b e = ap (λ t. plus (times (m (t ∷ []) (false ∷ [])) (v (put q false x))) (times (m (t ∷ []) (true ∷ [])) (v (put q true x)))) e

pub act_zero : (n q i : ℕ) (m : Matrix) (es : List Omega) → i < 2 ^ n → q < n → bit_at i q ≡ 0 → act m (q ∷ []) (entry es) (bits_of n i) ≡ plus (times (m (false ∷ []) (false ∷ [])) (get_or es i nil)) (times (m (false ∷ []) (true ∷ [])) (get_or es (i + 2 ^ q) nil))
act_zero n q i m es l h e =
    one_by m q (entry es) (bits_of n i) false (at_zero n q i h e)
    ∙ plus_both _ _ _ _
    (ap (λ k. times (m (false ∷ []) (false ∷ [])) (get_or es k nil)) (number_same n q i false l (at_zero n q i h e)))
    (ap (λ k. times (m (false ∷ []) (true ∷ [])) (get_or es k nil)) (number_set n q i l h e))

pub act_one : (n q i : ℕ) (m : Matrix) (es : List Omega) → i < 2 ^ n → q < n → bit_at i q ≡ 1 → act m (q ∷ []) (entry es) (bits_of n i) ≡ plus (times (m (true ∷ []) (false ∷ [])) (get_or es (i - 2 ^ q) nil)) (times (m (true ∷ []) (true ∷ [])) (get_or es i nil))
act_one n q i m es l h e =
    one_by m q (entry es) (bits_of n i) true (at_one n q i h e)
    ∙ plus_both _ _ _ _
    (ap (λ k. times (m (true ∷ []) (false ∷ [])) (get_or es k nil)) (number_clear n q i l h e))
    (ap (λ k. times (m (true ∷ []) (true ∷ [])) (get_or es k nil)) (number_same n q i true l (at_one n q i h e)))

-- ---- the rows, by the entries e
abbrev pub h_row : ℕ → (ℕ → Omega) → ℕ → Omega
h_row q e i = choose (is_one (bit_at i q)) (times root_two (plus (e (i - 2 ^ q)) (minus (e i)))) (times root_two (plus (e i) (e (i + 2 ^ q))))

abbrev pub x_row : ℕ → (ℕ → Omega) → ℕ → Omega
x_row q e i = choose (is_one (bit_at i q)) (twice (e (i - 2 ^ q))) (twice (e (i + 2 ^ q)))

abbrev pub t_row : ℕ → (ℕ → Omega) → ℕ → Omega
t_row q e i = choose (is_one (bit_at i q)) (times (root 1) (e i)) (e i)

abbrev pub cx_row : ℕ → ℕ → (ℕ → Omega) → ℕ → Omega
cx_row c q e i = choose (is_one (bit_at i c)) (x_row q e i) (twice (e i))

-- a number's bit is 0 or 1
pub by_bit : {P : Type 0} (k : ℕ) → k < 2 → (k ≡ 0 → P) → (k ≡ 1 → P) → P
by_bit zero h f g = f refl
by_bit (suc zero) h f g = g refl
by_bit (suc (suc k)) h f g = absurd (omega arith)

pub choose_zero : (i q : ℕ) (a b : Omega) → bit_at i q ≡ 0 → choose (is_one (bit_at i q)) a b ≡ b
choose_zero i q a b e = ap (λ k. choose (is_one k) a b) e

pub choose_one : (i q : ℕ) (a b : Omega) → bit_at i q ≡ 1 → choose (is_one (bit_at i q)) a b ≡ a
choose_one i q a b e = ap (λ k. choose (is_one k) a b) e

-- ---- h
h_by : (n q i : ℕ) (es : List Omega) → i < 2 ^ n → q < n → act h_gate.entries (q ∷ []) (entry es) (bits_of n i) ≡ h_row q (λ j. get_or es j nil) i
h_by n q i es l h = by_bit (bit_at i q) (bit_at-lt i q)
    (λ e.
    act_zero n q i h_gate.entries es l h e
    ∙ plus_both _ _ _ _ (ap (λ t. times t (get_or es i nil)) h_entries.1) (ap (λ t. times t (get_or es (i + 2 ^ q) nil)) h_entries.2)
    ∙ sym (times-plus root_two (get_or es i nil) (get_or es (i + 2 ^ q) nil))
    ∙ sym (choose_zero i q _ _ e))
    (λ e.
    act_one n q i h_gate.entries es l h e
    ∙ plus_both _ _ _ _ (ap (λ t. times t (get_or es (i - 2 ^ q) nil)) h_entries.3) (ap (λ t. times t (get_or es i nil)) h_entries.4 ∙ minus-times root_two (get_or es i nil) ∙ sym (times-minus root_two (get_or es i nil)))
    ∙ sym (times-plus root_two (get_or es (i - 2 ^ q) nil) (minus (get_or es i nil)))
    ∙ sym (choose_one i q _ _ e))

pub h_multiplies : (s : State) (q i : ℕ) → q < s.qubits → HasAllEntries s → i < 2 ^ s.qubits → get_or (applied h_gate (q ∷ []) s).entries i nil ≡ h_row q (λ j. get_or s.entries j nil) i
h_multiplies s q i h e l = applied_at h_gate (q ∷ []) s i (h, tt, tt) e l ∙ h_by s.qubits q i s.entries l h

-- ---- x
x_by : (n q i : ℕ) (es : List Omega) → i < 2 ^ n → q < n → act x_gate.entries (q ∷ []) (entry es) (bits_of n i) ≡ x_row q (λ j. get_or es j nil) i
x_by n q i es l h = by_bit (bit_at i q) (bit_at-lt i q)
    (λ e.
    act_zero n q i x_gate.entries es l h e
    ∙ plus_both _ _ _ _ (ap (λ t. times t (get_or es i nil)) x_entries.1 ∙ nil-times (get_or es i nil)) (ap (λ t. times t (get_or es (i + 2 ^ q) nil)) x_entries.2)
    ∙ nil-plus (times (two_to 1) (get_or es (i + 2 ^ q) nil))
    ∙ times_two (get_or es (i + 2 ^ q) nil)
    ∙ sym (choose_zero i q _ _ e))
    (λ e.
    act_one n q i x_gate.entries es l h e
    ∙ plus_both _ _ _ _ (ap (λ t. times t (get_or es (i - 2 ^ q) nil)) x_entries.3) (ap (λ t. times t (get_or es i nil)) x_entries.4 ∙ nil-times (get_or es i nil))
    ∙ plus-nil (times (two_to 1) (get_or es (i - 2 ^ q) nil))
    ∙ times_two (get_or es (i - 2 ^ q) nil)
    ∙ sym (choose_one i q _ _ e))

pub x_multiplies : (s : State) (q i : ℕ) → q < s.qubits → HasAllEntries s → i < 2 ^ s.qubits → get_or (applied x_gate (q ∷ []) s).entries i nil ≡ x_row q (λ j. get_or s.entries j nil) i
x_multiplies s q i h e l = applied_at x_gate (q ∷ []) s i (h, tt, tt) e l ∙ x_by s.qubits q i s.entries l h

-- ---- t
pub t_multiplies : (s : State) (q i : ℕ) → q < s.qubits → HasAllEntries s → i < 2 ^ s.qubits → get_or (applied t_gate (q ∷ []) s).entries i nil ≡ t_row q (λ j. get_or s.entries j nil) i
t_multiplies s q i h e l =
    applied_at t_gate (q ∷ []) s i (h, tt, tt) e l
    ∙ act_ctrl s.qubits 0 q (λ x y. root 1) [] (entry s.entries) (bits_of s.qubits i)
    ∙ ap (λ t. choose t (times (root 1) (entry s.entries (bits_of s.qubits i))) (times one (entry s.entries (bits_of s.qubits i)))) (at_bits_of s.qubits q i h)
    ∙ ap (λ k. choose (is_one (bit_at i q)) (times (root 1) (get_or s.entries k nil)) (times one (get_or s.entries k nil))) (number_bits_of s.qubits i l)
    ∙ ap (choose (is_one (bit_at i q)) (times (root 1) (get_or s.entries i nil))) (one-times (get_or s.entries i nil))

-- ---- cx
pub cx_multiplies : (s : State) (c q i : ℕ) → c < s.qubits → q < s.qubits → c ≢ q → HasAllEntries s → i < 2 ^ s.qubits → get_or (applied cx_gate (c ∷ q ∷ []) s).entries i nil ≡ cx_row c q (λ j. get_or s.entries j nil) i
cx_multiplies s c q i k h d e l =
    applied_at cx_gate (c ∷ q ∷ []) s i (k, (d, tt), (h, tt, tt)) e l
    ∙ act_ctrl s.qubits 1 c x_gate.entries (q ∷ []) (entry s.entries) (bits_of s.qubits i)
    ∙ ap (λ t. choose t (act x_gate.entries (q ∷ []) (entry s.entries) (bits_of s.qubits i)) (times (two_to 1) (entry s.entries (bits_of s.qubits i)))) (at_bits_of s.qubits c i k)
    ∙ ap (λ a. choose (is_one (bit_at i c)) a (times (two_to 1) (entry s.entries (bits_of s.qubits i)))) (x_by s.qubits q i s.entries l h)
    ∙ ap (λ j. choose (is_one (bit_at i c)) (x_row q (λ j. get_or s.entries j nil) i) (times (two_to 1) (get_or s.entries j nil))) (number_bits_of s.qubits i l)
    ∙ ap (choose (is_one (bit_at i c)) (x_row q (λ j. get_or s.entries j nil) i)) (times_two (get_or s.entries i nil))

-- ---- lists that have these rows are what the gates make
pub entries_follow : (g : Operator) (qs : List ℕ) (s : State) (new : List Omega) → length new ≡ 2 ^ s.qubits → ((i : ℕ) → i < 2 ^ s.qubits → get_or new i nil ≡ get_or (applied g qs s).entries i nil) → new ≡ (applied g qs s).entries
unfolding applied
entries_follow g qs s new k h =
    fill_by_all _ new (2 ^ s.qubits) nil k (λ i l. h i l ∙ get_or-map-range_with_len _ 0 (2 ^ s.qubits) i i nil l (omega arith))

pub h_follows : (s : State) (q : ℕ) (new : List Omega) → q < s.qubits → HasAllEntries s → length new ≡ 2 ^ s.qubits → ((i : ℕ) → i < 2 ^ s.qubits → get_or new i nil ≡ h_row q (λ j. get_or s.entries j nil) i) → new ≡ (applied h_gate (q ∷ []) s).entries
h_follows s q new h e k f = entries_follow h_gate (q ∷ []) s new k (λ i l. f i l ∙ sym (h_multiplies s q i h e l))

pub x_follows : (s : State) (q : ℕ) (new : List Omega) → q < s.qubits → HasAllEntries s → length new ≡ 2 ^ s.qubits → ((i : ℕ) → i < 2 ^ s.qubits → get_or new i nil ≡ x_row q (λ j. get_or s.entries j nil) i) → new ≡ (applied x_gate (q ∷ []) s).entries
x_follows s q new h e k f = entries_follow x_gate (q ∷ []) s new k (λ i l. f i l ∙ sym (x_multiplies s q i h e l))

pub t_follows : (s : State) (q : ℕ) (new : List Omega) → q < s.qubits → HasAllEntries s → length new ≡ 2 ^ s.qubits → ((i : ℕ) → i < 2 ^ s.qubits → get_or new i nil ≡ t_row q (λ j. get_or s.entries j nil) i) → new ≡ (applied t_gate (q ∷ []) s).entries
t_follows s q new h e k f = entries_follow t_gate (q ∷ []) s new k (λ i l. f i l ∙ sym (t_multiplies s q i h e l))

pub cx_follows : (s : State) (c q : ℕ) (new : List Omega) → c < s.qubits → q < s.qubits → c ≢ q → HasAllEntries s → length new ≡ 2 ^ s.qubits → ((i : ℕ) → i < 2 ^ s.qubits → get_or new i nil ≡ cx_row c q (λ j. get_or s.entries j nil) i) → new ≡ (applied cx_gate (c ∷ q ∷ []) s).entries
cx_follows s c q new g h d e k f = entries_follow cx_gate (c ∷ q ∷ []) s new k (λ i l. f i l ∙ sym (cx_multiplies s c q i g h d e l))

-- ---- √2 times a number, by turns
root_two_is : root_two ≡ plus (root 1) (minus (root 3))
unfolding plus minus times one the_omega
root_two_is = refl

pub root_two_turns : (z : Omega) → times root_two z ≡ plus (times (root 1) z) (minus (times (root 3) z))
root_two_turns z = ap (λ t. times t z) root_two_is ∙ plus-times (root 1) (minus (root 3)) z ∙ ap (plus (times (root 1) z)) (minus-times (root 3) z)
