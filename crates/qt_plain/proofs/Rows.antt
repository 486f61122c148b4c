-- What each gate's function computes is the entry of the full product at its index.
use Rattle.std.proofs.Common.{◌≡◌, ℕ, zero, suc, ◌+◌, ◌-◌, ◌^◌, ◌<◌, ◌≤◌, Bool, true, false, List, length, get_or, refl, sym, ap, ◌∙◌, arith}
use Rattle.std.specs.Prelude.{if◌then◌else◌, cond}
use Rattle.std.specs.Int.{bit_at}
use Rattle.std.proofs.lemmas.Nat.Bits.{bit_at-lt, bit_at_above}
use Rattle.std.proofs.lemmas.List.FromFn.{length-map-range_with_len}
use Rattle.std.proofs.lemmas.Bool.{cases_lt}
use mathlib.Core.Bool.{beq}
use mathlib.Core.Logic.{inl, inr}
use Rattle.qt_ring.specs.declared.omega.Omega.{Omega}
use Rattle.qt_ring.specs.Ring.{nil, plus, times, minus, root, Within}
use Rattle.qt_ring.specs.Places.{is_one, at, equal_bits, bits_of, number}
use Rattle.qt_ring.specs.Matrix.{kept}
use Rattle.qt_ring.specs.State.{applied}
use Rattle.qt_ring.proofs.RingLaws.{within_plus, within_minus, within_more, plus_both}
use Rattle.qt_ring.proofs.Bits.{put, put_long}
use Rattle.qt_ring.proofs.Acts.{choose}
use Rattle.qt_ring.proofs.Entries.{bits_of_long, at_bits_of, number_lt, number_set}
use Rattle.qt_ring.proofs.Gates.{root_two, twice, root_two_turns, h_row, x_row, t_row, cx_row, h_multiplies, x_multiplies, t_multiplies, cx_multiplies}
use Rattle.qt_plain.specs.declared.gates.Gate.{Gate}
use Rattle.qt_plain.specs.declared.gates.Gate.TheVariants.{Hadamard, X, T, ControlledX}
use Rattle.qt_plain.specs.Operators.{product_with, Suits}

-- ---- the twin of an index

is_one_true : (k : ℕ) → k < 2 → is_one k ≡ true → k ≡ 1
is_one_true zero h e = absurd (cc)
is_one_true (suc zero) h e = refl
is_one_true (suc (suc k)) h e = absurd (omega arith)

is_one_false : (k : ℕ) → is_one k ≡ false → k ≡ 0
is_one_false zero e = refl
is_one_false (suc k) e = absurd (cc)

-- a number with a bit that is 1 is not below that bit's weight
pub twin_below : (i q : ℕ) → is_one (bit_at i q) ≡ true → 2 ^ q ≤ i
twin_below i q e = elim (cases_lt i (2 ^ q)) [
  | inl l ↦ (let z : bit_at i q ≡ 0 = bit_at_above i q q l (omega arith) in let o : bit_at i q ≡ 1 = is_one_true (bit_at i q) (bit_at-lt i q) e in absurd (omega arith))
  | inr l ↦ l
]

pub twin_within : (n i q : ℕ) → i < 2 ^ n → q < n → is_one (bit_at i q) ≡ false → i + 2 ^ q < 2 ^ n
twin_within n i q l h e =
    let s : number (put q true (bits_of n i)) ≡ i + 2 ^ q = number_set n q i l h (is_one_false (bit_at i q) e) in
    let t : number (put q true (bits_of n i)) < 2 ^ n = number_lt n (put q true (bits_of n i)) (put_long n q true (bits_of n i) (bits_of_long n i)) in
    omega arith

-- ---- rows

h_at : (n q i : ℕ) (es : List Omega) → Suits (Hadamard q) n es → i < 2 ^ n → get_or (product_with (Hadamard q) n es) i nil ≡ h_row q (λ j. get_or es j nil) i
unfolding product_with applied
h_at n q i es s l = h_multiplies (record { qubits = n; entries = es; halvings = 0 }) q i s.qubits_in.0 s.full l

x_at : (n q i : ℕ) (es : List Omega) → Suits (X q) n es → i < 2 ^ n → get_or (product_with (X q) n es) i nil ≡ x_row q (λ j. get_or es j nil) i
unfolding product_with applied
x_at n q i es s l = x_multiplies (record { qubits = n; entries = es; halvings = 0 }) q i s.qubits_in.0 s.full l

t_at : (n q i : ℕ) (es : List Omega) → Suits (T q) n es → i < 2 ^ n → get_or (product_with (T q) n es) i nil ≡ t_row q (λ j. get_or es j nil) i
unfolding product_with applied
t_at n q i es s l = t_multiplies (record { qubits = n; entries = es; halvings = 0 }) q i s.qubits_in.0 s.full l

cx_at : (n c q i : ℕ) (es : List Omega) → Suits (ControlledX c q) n es → i < 2 ^ n → get_or (product_with (ControlledX c q) n es) i nil ≡ cx_row c q (λ j. get_or es j nil) i
unfolding product_with applied
cx_at n c q i es s l = cx_multiplies (record { qubits = n; entries = es; halvings = 0 }) c q i s.qubits_in.0 s.qubits_in.2.0 s.qubits_in.1.0 s.full l

abbrev twin_of : ℕ → ℕ → ℕ
twin_of i q = if is_one (bit_at i q) then i - 2 ^ q else i + 2 ^ q

from_one : (i q j : ℕ) → is_one (bit_at i q) ≡ true → j ≡ twin_of i q → j ≡ i - 2 ^ q
from_one i q j b e = e ∙ ap (λ t. cond t (i - 2 ^ q) (i + 2 ^ q)) b

from_zero : (i q j : ℕ) → is_one (bit_at i q) ≡ false → j ≡ twin_of i q → j ≡ i + 2 ^ q
from_zero i q j b e = e ∙ ap (λ t. cond t (i - 2 ^ q) (i + 2 ^ q)) b

pub h_one : (n q i j : ℕ) (es : List Omega) (here there d r : Omega) → Suits (Hadamard q) n es → i < 2 ^ n → is_one (bit_at i q) ≡ true → j ≡ twin_of i q → here ≡ get_or es i nil → there ≡ get_or es j nil → d ≡ plus there (minus here) → r ≡ plus (times (root 1) d) (minus (times (root 3) d)) → r ≡ get_or (product_with (Hadamard q) n es) i nil
h_one n q i j es here there d r s l b e h t f g =
    g ∙ sym (root_two_turns d)
    ∙ ap (times root_two) (f ∙ plus_both _ _ _ _ (t ∙ ap (λ k. get_or es k nil) (from_one i q j b e)) (ap minus h))
    ∙ sym (h_at n q i es s l ∙ ap (λ t. choose t (times root_two (plus (get_or es (i - 2 ^ q) nil) (minus (get_or es i nil)))) (times root_two (plus (get_or es i nil) (get_or es (i + 2 ^ q) nil)))) b)

pub h_zero : (n q i j : ℕ) (es : List Omega) (here there d r : Omega) → Suits (Hadamard q) n es → i < 2 ^ n → is_one (bit_at i q) ≡ false → j ≡ twin_of i q → here ≡ get_or es i nil → there ≡ get_or es j nil → d ≡ plus here there → r ≡ plus (times (root 1) d) (minus (times (root 3) d)) → r ≡ get_or (product_with (Hadamard q) n es) i nil
h_zero n q i j es here there d r s l b e h t f g =
    g ∙ sym (root_two_turns d)
    ∙ ap (times root_two) (f ∙ plus_both _ _ _ _ h (t ∙ ap (λ k. get_or es k nil) (from_zero i q j b e)))
    ∙ sym (h_at n q i es s l ∙ ap (λ t. choose t (times root_two (plus (get_or es (i - 2 ^ q) nil) (minus (get_or es i nil)))) (times root_two (plus (get_or es i nil) (get_or es (i + 2 ^ q) nil)))) b)

twice_at : (es : List Omega) (j k : ℕ) → j ≡ k → twice (get_or es j nil) ≡ twice (get_or es k nil)
twice_at es j k e = ap (λ k. twice (get_or es k nil)) e

-- the entry at the twin, doubled, is the row of x
x_twin : (i q j : ℕ) (es : List Omega) (b : Bool) → is_one (bit_at i q) ≡ b → j ≡ cond b (i - 2 ^ q) (i + 2 ^ q) → twice (get_or es j nil) ≡ choose b (twice (get_or es (i - 2 ^ q) nil)) (twice (get_or es (i + 2 ^ q) nil))
x_twin i q j es true b e = twice_at es j (i - 2 ^ q) e
x_twin i q j es false b e = twice_at es j (i + 2 ^ q) e

pub x_any : (n q i j : ℕ) (es : List Omega) (there r : Omega) → Suits (X q) n es → i < 2 ^ n → j ≡ twin_of i q → there ≡ get_or es j nil → r ≡ twice there → r ≡ get_or (product_with (X q) n es) i nil
x_any n q i j es there r s l e t g = g ∙ ap twice t ∙ x_twin i q j es (is_one (bit_at i q)) refl e ∙ sym (x_at n q i es s l)

pub t_one : (n q i : ℕ) (es : List Omega) (here r : Omega) → Suits (T q) n es → i < 2 ^ n → is_one (bit_at i q) ≡ true → here ≡ get_or es i nil → r ≡ times (root 1) here → r ≡ get_or (product_with (T q) n es) i nil
t_one n q i es here r s l b h g = g ∙ ap (times (root 1)) h ∙ sym (t_at n q i es s l ∙ ap (λ t. choose t (times (root 1) (get_or es i nil)) (get_or es i nil)) b)

pub t_zero : (n q i : ℕ) (es : List Omega) (here : Omega) → Suits (T q) n es → i < 2 ^ n → is_one (bit_at i q) ≡ false → here ≡ get_or es i nil → here ≡ get_or (product_with (T q) n es) i nil
t_zero n q i es here s l b h = h ∙ sym (t_at n q i es s l ∙ ap (λ t. choose t (times (root 1) (get_or es i nil)) (get_or es i nil)) b)

pub cx_one : (n c q i j : ℕ) (es : List Omega) (there r : Omega) → Suits (ControlledX c q) n es → i < 2 ^ n → is_one (bit_at i c) ≡ true → j ≡ twin_of i q → there ≡ get_or es j nil → r ≡ twice there → r ≡ get_or (product_with (ControlledX c q) n es) i nil
cx_one n c q i j es there r s l b e t g =
    g ∙ ap twice t ∙ x_twin i q j es (is_one (bit_at i q)) refl e
    ∙ sym (cx_at n c q i es s l ∙ ap (λ t. choose t (x_row q (λ j. get_or es j nil) i) (twice (get_or es i nil))) b)

pub cx_zero : (n c q i j : ℕ) (es : List Omega) (there r : Omega) → Suits (ControlledX c q) n es → i < 2 ^ n → is_one (bit_at i c) ≡ false → j ≡ i → there ≡ get_or es j nil → r ≡ twice there → r ≡ get_or (product_with (ControlledX c q) n es) i nil
cx_zero n c q i j es there r s l b e t g =
    g ∙ ap twice t ∙ twice_at es j i e
    ∙ sym (cx_at n c q i es s l ∙ ap (λ t. choose t (x_row q (λ j. get_or es j nil) i) (twice (get_or es i nil))) b)

-- ---- sizes on the way

pub sum_size : (x y z : Omega) → Within (2 ^ 32) x → Within (2 ^ 32) y → z ≡ plus x y → Within (2 ^ 53) z
sum_size x y z a b e = rw e (within_more (2 ^ 32 + 2 ^ 32) (2 ^ 53) (plus x y) (omega arith) (within_plus (2 ^ 32) (2 ^ 32) x y a b))

pub difference_size : (x y z : Omega) → Within (2 ^ 32) x → Within (2 ^ 32) y → z ≡ plus x (minus y) → Within (2 ^ 53) z
difference_size x y z a b e = sum_size x (minus y) z a (within_minus (2 ^ 32) y b) e

pub length-product_with : (g : Gate) (n : ℕ) (es : List Omega) → length (product_with g n es) ≡ 2 ^ n
unfolding product_with
length-product_with g n es = length-map-range_with_len _ 0 (2 ^ n)

-- ---- an entry that a projection keeps or drops

same_bits : (b o : Bool) → beq b o ≡ true → equal_bits b o ≡ true
same_bits true true e = refl
same_bits false false e = refl
same_bits true false e = absurd (cc)
same_bits false true e = absurd (cc)

other_bits : (b o : Bool) → beq b o ≡ false → equal_bits b o ≡ false
other_bits true true e = absurd (cc)
other_bits false false e = absurd (cc)
other_bits true false e = refl
other_bits false true e = refl

pub kept_entry : (n q i : ℕ) (t o : Bool) (a : Omega) → q < n → t ≡ is_one (bit_at i q) → beq t o ≡ true → a ≡ kept (equal_bits (at q (bits_of n i)) o) a
kept_entry n q i t o a h e f = ap (λ b. kept b a) (sym (same_bits t o f) ∙ ap (λ b. equal_bits b o) (e ∙ sym (at_bits_of n q i h)))

pub dropped_entry : (n q i : ℕ) (t o : Bool) (a : Omega) → q < n → t ≡ is_one (bit_at i q) → beq t o ≡ false → nil ≡ kept (equal_bits (at q (bits_of n i)) o) a
dropped_entry n q i t o a h e f = ap (λ b. kept b a) (sym (other_bits t o f) ∙ ap (λ b. equal_bits b o) (e ∙ sym (at_bits_of n q i h)))
