-- The twin of a number: the same number with one bit turned, i + 2^q or i − 2^q. It is below 2^n too, its other bits are those
-- of the number, and its own twin is the number.
use Rattle.std.proofs.Common.{◌≡◌, ◌≢◌, ℕ, zero, suc, ◌+◌, ◌-◌, ◌^◌, ◌<◌, ◌≤◌, true, false, refl, sym, ap, subst, ◌∙◌, arith}
use Rattle.std.specs.Int.{bit_at}
use Rattle.std.proofs.lemmas.Nat.Bits.{bit_at-lt}
use Rattle.qt_ring.specs.Places.{at, is_one, bits_of, number}
use Rattle.qt_ring.proofs.Bits.{put, put_put_same, put_long, at_put_same, at_put_other}
use Rattle.qt_ring.proofs.Entries.{bits_of_long, at_bits_of, bits_of_number, number_lt, number_set, number_clear, number_bits_of, number_put, bits_put_same, at_one}

one_of : (k : ℕ) → k < 2 → is_one k ≡ true → k ≡ 1
one_of zero h e = absurd (cc)
one_of (suc zero) h e = refl
one_of (suc (suc k)) h e = absurd (omega arith)

zero_of : (k : ℕ) → is_one k ≡ false → k ≡ 0
zero_of zero e = refl
zero_of (suc k) e = absurd (cc)

alike : (k m : ℕ) → k < 2 → m < 2 → is_one k ≡ is_one m → k ≡ m
alike zero m h g e = sym (zero_of m (sym e))
alike (suc zero) m h g e = sym (one_of m g (sym e))
alike (suc (suc k)) m h g e = absurd (omega arith)

-- ---- up: a bit that is 0
pub up_lt : (n q i : ℕ) → i < 2 ^ n → q < n → bit_at i q ≡ 0 → i + 2 ^ q < 2 ^ n
up_lt n q i l h e = subst (λ (k : ℕ). k < 2 ^ n) (number_set n q i l h e) (number_lt n (put q true (bits_of n i)) (put_long n q true (bits_of n i) (bits_of_long n i)))

pub bits_of_up : (n q i : ℕ) → i < 2 ^ n → q < n → bit_at i q ≡ 0 → bits_of n (i + 2 ^ q) ≡ put q true (bits_of n i)
bits_of_up n q i l h e = ap (bits_of n) (sym (number_set n q i l h e)) ∙ bits_of_number n (put q true (bits_of n i)) (put_long n q true (bits_of n i) (bits_of_long n i))

pub bit_up : (n q i : ℕ) → i < 2 ^ n → q < n → bit_at i q ≡ 0 → bit_at (i + 2 ^ q) q ≡ 1
bit_up n q i l h e = one_of (bit_at (i + 2 ^ q) q) (bit_at-lt (i + 2 ^ q) q) (sym (at_bits_of n q (i + 2 ^ q) h) ∙ ap (at q) (bits_of_up n q i l h e) ∙ at_put_same n q true (bits_of n i) h (bits_of_long n i))

pub bit_up_other : (n q r i : ℕ) → i < 2 ^ n → q < n → r < n → r ≢ q → bit_at i q ≡ 0 → bit_at (i + 2 ^ q) r ≡ bit_at i r
bit_up_other n q r i l h g d e =
    alike (bit_at (i + 2 ^ q) r) (bit_at i r) (bit_at-lt (i + 2 ^ q) r) (bit_at-lt i r)
    (sym (at_bits_of n r (i + 2 ^ q) g) ∙ ap (at r) (bits_of_up n q i l h e) ∙ at_put_other r q true (bits_of n i) d ∙ at_bits_of n r i g)

-- ---- down: a bit that is 1
pub bits_of_down : (n q i : ℕ) → i < 2 ^ n → q < n → bit_at i q ≡ 1 → bits_of n (i - 2 ^ q) ≡ put q false (bits_of n i)
bits_of_down n q i l h e = ap (bits_of n) (sym (number_clear n q i l h e)) ∙ bits_of_number n (put q false (bits_of n i)) (put_long n q false (bits_of n i) (bits_of_long n i))

pub down_lt : (n q i : ℕ) → i < 2 ^ n → i - 2 ^ q < 2 ^ n
down_lt n q i l = omega arith

-- nothing is cut off
pub down_le : (n q i : ℕ) → i < 2 ^ n → q < n → bit_at i q ≡ 1 → 2 ^ q ≤ i
down_le n q i l h e =
    let p : number (put q true (bits_of n i)) ≡ i = ap number (bits_put_same n q i true (at_one n q i h e)) ∙ number_bits_of n i l in
    let c : number (put q false (bits_of n i)) ≡ i - 2 ^ q = number_clear n q i l h e in
    let s : number (put q true (put q false (bits_of n i))) ≡ number (put q false (bits_of n i)) + 2 ^ q = number_put n q (put q false (bits_of n i)) h (put_long n q false (bits_of n i) (bits_of_long n i)) (at_put_same n q false (bits_of n i) h (bits_of_long n i)) in
    let t : number (put q true (put q false (bits_of n i))) ≡ number (put q true (bits_of n i)) = ap number (put_put_same q true false (bits_of n i)) in
    omega arith

pub bit_down : (n q i : ℕ) → i < 2 ^ n → q < n → bit_at i q ≡ 1 → bit_at (i - 2 ^ q) q ≡ 0
bit_down n q i l h e = zero_of (bit_at (i - 2 ^ q) q) (sym (at_bits_of n q (i - 2 ^ q) h) ∙ ap (at q) (bits_of_down n q i l h e) ∙ at_put_same n q false (bits_of n i) h (bits_of_long n i))

pub bit_down_other : (n q r i : ℕ) → i < 2 ^ n → q < n → r < n → r ≢ q → bit_at i q ≡ 1 → bit_at (i - 2 ^ q) r ≡ bit_at i r
bit_down_other n q r i l h g d e =
    alike (bit_at (i - 2 ^ q) r) (bit_at i r) (bit_at-lt (i - 2 ^ q) r) (bit_at-lt i r)
    (sym (at_bits_of n r (i - 2 ^ q) g) ∙ ap (at r) (bits_of_down n q i l h e) ∙ at_put_other r q false (bits_of n i) d ∙ at_bits_of n r i g)
