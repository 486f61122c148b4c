-- States by their entries: the zero state, projections and flips at each number, and what a flip does to the totals.
use Rattle.std.proofs.Common.{◌≡◌, ℕ, zero, suc, ◌+◌, ◌-◌, ◌^◌, ◌<◌, Bool, true, false, not, [], ◌∷◌, length, replicate, get_or, refl, sym, ap, ◌∙◌, arith, ℤ, pos, ◌+ℤ◌}
use Rattle.std.proofs.lemmas.Int.{ints}
use Rattle.std.proofs.lemmas.List.FromFn.{get_or-map-range_with_len, length-map-range_with_len}
use Rattle.std.proofs.lemmas.Nat.Bits.{bit_at-lt}
use Rattle.std.specs.Int.{bit_at}
use Rattle.qt_ring.specs.declared.omega.Omega.{Omega}
use Rattle.qt_ring.specs.Ring.{nil, one, norm_a, norm_b}
use Rattle.qt_ring.specs.Places.{Bits, at, is_one, equal_bits, bits_of, number}
use Rattle.qt_ring.specs.Matrix.{kept, sum}
use Rattle.qt_ring.specs.State.{State, HasAllEntries, zero_state, project, turned, flip, total_a, total_b}
use Rattle.qt_ring.proofs.RingLaws.{plus_comm, plus_both}
use Rattle.qt_ring.proofs.Bits.{put}
use Rattle.qt_ring.proofs.Acts.{choose}
use Rattle.qt_ring.proofs.Entries.{entry, at_bits_of, at_one, at_zero, number_set, number_clear}
use Rattle.qt_ring.proofs.Gates.{by_bit, choose_zero, choose_one}
use Rattle.qt_ring.proofs.Mass.{norm}
use Rattle.qt_ring.proofs.Totals.{total_mass, total_sum}
use Rattle.qt_ring.proofs.Norms.{norm-nil}

-- ---- the zero state
two_pow_pos : (n : ℕ) → 0 < 2 ^ n
two_pow_pos zero = omega arith
two_pow_pos (suc n) = let h : 0 < 2 ^ n = two_pow_pos n in omega arith

length-replicate : (k : ℕ) (a : Omega) → length (replicate k a) ≡ k
length-replicate zero a = refl
length-replicate (suc k) a = ap suc (length-replicate k a)

pub zero_state_has_all : (n : ℕ) → HasAllEntries (zero_state n)
unfolding zero_state
zero_state_has_all n =
    let h : 0 < 2 ^ n = two_pow_pos n in
    let e : length (replicate (2 ^ n - 1) nil) ≡ 2 ^ n - 1 = length-replicate (2 ^ n - 1) nil in
    omega arith

get_or-replicate : (k i : ℕ) (a : Omega) → get_or (replicate k a) i a ≡ a
get_or-replicate zero i a = refl
get_or-replicate (suc k) zero a = refl
get_or-replicate (suc k) (suc i) a = get_or-replicate k i a

pub zero_state_first : (n : ℕ) → get_or (zero_state n).entries 0 nil ≡ one
unfolding zero_state
zero_state_first n = refl

pub zero_state_later : (n i : ℕ) → get_or (zero_state n).entries (suc i) nil ≡ nil
unfolding zero_state
zero_state_later n i = get_or-replicate (2 ^ n - 1) i nil

add_nothing : (a b : ℤ) → a ≡ pos 0 → b ≡ pos 0 → a +ℤ b ≡ pos 0
add_nothing a b e f = omega (arith, ints)

no_totals : (k : ℕ) → (total_a (replicate k nil) ≡ pos 0) × (total_b (replicate k nil) ≡ pos 0)
no_totals zero = (refl, refl)
no_totals (suc k) =
    let t = no_totals k in
    (add_nothing (norm_a nil) (total_a (replicate k nil)) norm-nil.0 t.0, add_nothing (norm_b nil) (total_b (replicate k nil)) norm-nil.1 t.1)

pub zero_state_totals : (n : ℕ) → (total_a (zero_state n).entries ≡ pos 1) × (total_b (zero_state n).entries ≡ pos 0)
unfolding zero_state one
zero_state_totals n =
    let t = no_totals (2 ^ n - 1) in
    (ap (λ k. pos 1 +ℤ k) t.0, ap (λ k. pos 0 +ℤ k) t.1)

-- ---- projections
pub project_at : (q : ℕ) (b : Bool) (s : State) (i : ℕ) → q < s.qubits → i < 2 ^ s.qubits → get_or (project q b s).entries i nil ≡ kept (equal_bits (is_one (bit_at i q)) b) (get_or s.entries i nil)
unfolding project
project_at q b s i h l =
    get_or-map-range_with_len (λ i. kept (equal_bits (at q (bits_of s.qubits i)) b) (get_or s.entries i nil)) 0 (2 ^ s.qubits) i i nil l (omega arith)
    ∙ ap (λ t. kept (equal_bits t b) (get_or s.entries i nil)) (at_bits_of s.qubits q i h)

pub qubits-project : (q : ℕ) (b : Bool) (s : State) → (project q b s).qubits ≡ s.qubits
unfolding project
qubits-project q b s = refl

pub halvings-project : (q : ℕ) (b : Bool) (s : State) → (project q b s).halvings ≡ s.halvings
unfolding project
halvings-project q b s = refl

-- ---- flips
turned_is : (q : ℕ) (x : Bits) → turned q x ≡ put q (not (at q x)) x
turned_is q [] = refl
turned_is zero (b ∷ x) = refl
turned_is (suc q) (b ∷ x) = ap (λ y. b ∷ y) (turned_is q x)

turned_number : (n q i : ℕ) (b : Bool) → at q (bits_of n i) ≡ b → number (turned q (bits_of n i)) ≡ number (put q (not b) (bits_of n i))
turned_number n q i b e = ap number (turned_is q (bits_of n i) ∙ ap (λ t. put q (not t) (bits_of n i)) e)

-- each entry comes from its twin
pub flip_at : (q : ℕ) (s : State) (i : ℕ) → q < s.qubits → i < 2 ^ s.qubits → get_or (flip q s).entries i nil ≡ choose (is_one (bit_at i q)) (get_or s.entries (i - 2 ^ q) nil) (get_or s.entries (i + 2 ^ q) nil)
unfolding flip
flip_at q s i h l =
    get_or-map-range_with_len (λ i. get_or s.entries (number (turned q (bits_of s.qubits i))) nil) 0 (2 ^ s.qubits) i i nil l (omega arith)
    ∙ by_bit (bit_at i q) (bit_at-lt i q)
    (λ e. ap (λ k. get_or s.entries k nil) (turned_number s.qubits q i false (at_zero s.qubits q i h e) ∙ number_set s.qubits q i l h e) ∙ sym (choose_zero i q _ _ e))
    (λ e. ap (λ k. get_or s.entries k nil) (turned_number s.qubits q i true (at_one s.qubits q i h e) ∙ number_clear s.qubits q i l h e) ∙ sym (choose_one i q _ _ e))

pub flip_has_all : (q : ℕ) (s : State) → HasAllEntries (flip q s)
unfolding flip
flip_has_all q s = length-map-range_with_len _ 0 (2 ^ s.qubits)

pub qubits-flip : (q : ℕ) (s : State) → (flip q s).qubits ≡ s.qubits
unfolding flip
qubits-flip q s = refl

pub halvings-flip : (q : ℕ) (s : State) → (flip q s).halvings ≡ s.halvings
unfolding flip
halvings-flip q s = refl

sum_flip : (n q : ℕ) (f : Bits → Omega) → sum n (λ x. f (turned q x)) ≡ sum n f
sum_flip zero q f = refl
sum_flip (suc n) zero f = plus_comm _ _
sum_flip (suc n) (suc q) f = plus_both _ _ _ _ (sum_flip n q (λ x. f (false ∷ x))) (sum_flip n q (λ x. f (true ∷ x)))

pub flip_totals : (q : ℕ) (s : State) → HasAllEntries s → (total_a (flip q s).entries ≡ total_a s.entries) × (total_b (flip q s).entries ≡ total_b s.entries)
unfolding flip
flip_totals q s e =
    let t = total_sum s.qubits (λ x. entry s.entries (turned q x)) in
    let u = total_mass s.qubits s.entries e in
    let m = sum_flip s.qubits q (λ x. norm (entry s.entries x)) in
    (t.0 ∙ ap (λ (z : Omega). z.c0) m ∙ sym u.0, t.1 ∙ ap (λ (z : Omega). z.c1) m ∙ sym u.1)
