-- Entries by number: the bits of a number, the number of a basis state, and sums over all numbers below 2^n.
use Rattle.std.proofs.Common.{◌≡◌, ℕ, zero, suc, ◌+◌, ◌-◌, ◌*◌, ◌/◌, ◌%◌, ◌^◌, ◌<◌, Bool, true, false, List, [], ◌∷◌, length, get_or, refl, sym, ap, ◌∙◌, arith}
use Rattle.std.specs.Int.{bit_at}
use Rattle.std.proofs.lemmas.Nat.Bits.{bit_at_lowest, bit_at-suc}
use Rattle.std.proofs.lemmas.Nat.{div-mul-add, mod-mul-add, div_below, mod_below, div-add-mod'}
use Rattle.std.proofs.lemmas.List.FromFn.{get_or-map-range_with_len, length-map-range_with_len, fill_by_all}
use Rattle.qt_ring.specs.declared.omega.Omega.{Omega}
use Rattle.qt_ring.specs.Ring.{nil, plus}
use Rattle.qt_ring.specs.Places.{Bits, at, is_one, digit, bits_of, number}
use Rattle.qt_ring.specs.Matrix.{sum}
use Rattle.qt_ring.specs.State.{entries_by}
use Rattle.qt_ring.proofs.RingLaws.{plus_assoc, plus-nil, plus_both, plus_cross}
use Rattle.qt_ring.proofs.Bits.{Long, put, put_at, put_put_same, put_long, at_put_same}
use Rattle.qt_ring.proofs.Sums.{Vector}

-- the entry of a basis state
abbrev pub entry : List Omega → Vector
entry es x = get_or es (number x) nil

pow-suc : (n : ℕ) → 2 ^ suc n ≡ 2 ^ n * 2
pow-suc n = omega arith

digit_lt : (b : Bool) → digit b < 2
digit_lt true = omega arith
digit_lt false = omega arith

is_one_digit : (b : Bool) → is_one (digit b) ≡ b
is_one_digit true = refl
is_one_digit false = refl

digit_is_one : (k : ℕ) → k < 2 → digit (is_one k) ≡ k
digit_is_one zero h = refl
digit_is_one (suc zero) h = refl
digit_is_one (suc (suc k)) h = absurd (omega arith)

pub bits_of_long : (n i : ℕ) → Long n (bits_of n i)
bits_of_long zero i = tt
bits_of_long (suc n) i = bits_of_long n (i / 2)

pub at_bits_of : (n q i : ℕ) → q < n → at q (bits_of n i) ≡ is_one (bit_at i q)
at_bits_of zero q i h = absurd (omega arith)
at_bits_of (suc n) zero i h = ap is_one (sym (bit_at_lowest i))
at_bits_of (suc n) (suc q) i h = at_bits_of n q (i / 2) (omega arith) ∙ ap is_one (sym (bit_at-suc i q))

pub number_bits_of : (n i : ℕ) → i < 2 ^ n → number (bits_of n i) ≡ i
number_bits_of zero i h = omega arith
number_bits_of (suc n) i h =
    let low : i / 2 < 2 ^ n = div_below i 2 (2 ^ n) (omega arith) (omega arith) in
    ap (λ k. k * 2 + digit (is_one (i % 2))) (number_bits_of n (i / 2) low)
    ∙ ap (λ k. i / 2 * 2 + k) (digit_is_one (i % 2) (mod_below i 2 (omega arith)))
    ∙ div-add-mod' i 2

pub bits_of_number : (n : ℕ) (x : Bits) → Long n x → bits_of n (number x) ≡ x
bits_of_number zero [] l = refl
bits_of_number zero (b ∷ x) l = absurd l
bits_of_number (suc n) [] l = absurd l
bits_of_number (suc n) (b ∷ x) l =
    ap (λ k. is_one k ∷ bits_of n ((number x * 2 + digit b) / 2)) (mod-mul-add (number x) 2 (digit b) (digit_lt b))
    ∙ ap (λ c. c ∷ bits_of n ((number x * 2 + digit b) / 2)) (is_one_digit b)
    ∙ ap (λ k. b ∷ bits_of n k) (div-mul-add (number x) 2 (digit b) (digit_lt b))
    ∙ ap (λ y. b ∷ y) (bits_of_number n x l)

pub number_lt : (n : ℕ) (x : Bits) → Long n x → number x < 2 ^ n
number_lt zero [] l = omega arith
number_lt zero (b ∷ x) l = absurd l
number_lt (suc n) [] l = absurd l
number_lt (suc n) (b ∷ x) l =
    let h : number x < 2 ^ n = number_lt n x l in
    let d : digit b < 2 = digit_lt b in
    omega arith

number_zero : (m : ℕ) (b : Bool) → b ≡ false → m * 2 + 1 ≡ m * 2 + digit b + 2 ^ 0
number_zero m true e = absurd (cc)
number_zero m false e = omega arith

-- the twin of a place whose bit is 0
pub number_put : (n q : ℕ) (x : Bits) → q < n → Long n x → at q x ≡ false → number (put q true x) ≡ number x + 2 ^ q
number_put zero q x h l e = absurd (omega arith)
number_put (suc n) q [] h l e = absurd l
number_put (suc n) zero (b ∷ x) h l e = number_zero (number x) b e
number_put (suc n) (suc q) (b ∷ x) h l e =
    let i : number (put q true x) ≡ number x + 2 ^ q = number_put n q x (omega arith) l e in
    omega arith

pub entry-entries_by : (n : ℕ) (v : Vector) (x : Bits) → Long n x → entry (entries_by n v) x ≡ v x
entry-entries_by n v x l =
    get_or-map-range_with_len (λ i. v (bits_of n i)) 0 (2 ^ n) (number x) (number x) nil (number_lt n x l) (omega arith)
    ∙ ap v (bits_of_number n x l)

pub entries_of : (n : ℕ) (v : Vector) (es : List Omega) → length es ≡ 2 ^ n → ((i : ℕ) → i < 2 ^ n → get_or es i nil ≡ v (bits_of n i)) → es ≡ entries_by n v
entries_of n v es e h = fill_by_all (λ i. v (bits_of n i)) es (2 ^ n) nil e h

pub entries_by_ext : (n : ℕ) (v w : Vector) → ((x : Bits) → Long n x → v x ≡ w x) → entries_by n v ≡ entries_by n w
entries_by_ext n v w h =
    entries_of n w (entries_by n v) (length-map-range_with_len (λ i. v (bits_of n i)) 0 (2 ^ n))
    (λ i k. get_or-map-range_with_len (λ i. v (bits_of n i)) 0 (2 ^ n) i i nil k (omega arith) ∙ h (bits_of n i) (bits_of_long n i))

pub entries_by-entry : (n : ℕ) (es : List Omega) → length es ≡ 2 ^ n → es ≡ entries_by n (entry es)
entries_by-entry n es e = entries_of n (entry es) es e (λ i k. ap (λ j. get_or es j nil) (sym (number_bits_of n i k)))

-- ---- the number with one bit changed
is_one_true : (k : ℕ) → k ≡ 1 → is_one k ≡ true
is_one_true k e = ap is_one e

is_one_false : (k : ℕ) → k ≡ 0 → is_one k ≡ false
is_one_false k e = ap is_one e

pub at_one : (n q i : ℕ) → q < n → bit_at i q ≡ 1 → at q (bits_of n i) ≡ true
at_one n q i h e = at_bits_of n q i h ∙ is_one_true (bit_at i q) e

pub at_zero : (n q i : ℕ) → q < n → bit_at i q ≡ 0 → at q (bits_of n i) ≡ false
at_zero n q i h e = at_bits_of n q i h ∙ is_one_false (bit_at i q) e

pub bits_put_same : (n q i : ℕ) (b : Bool) → at q (bits_of n i) ≡ b → put q b (bits_of n i) ≡ bits_of n i
bits_put_same n q i b e = ap (λ s. put q s (bits_of n i)) (sym e) ∙ put_at q (bits_of n i)

-- a bit that is 0 is put to 1
pub number_set : (n q i : ℕ) → i < 2 ^ n → q < n → bit_at i q ≡ 0 → number (put q true (bits_of n i)) ≡ i + 2 ^ q
number_set n q i l h e =
    number_put n q (bits_of n i) h (bits_of_long n i) (at_zero n q i h e) ∙ ap (λ k. k + 2 ^ q) (number_bits_of n i l)

less : (i k p : ℕ) → i ≡ k + p → k ≡ i - p
less i k p e = omega arith

-- a bit that is 1 is put to 0
pub number_clear : (n q i : ℕ) → i < 2 ^ n → q < n → bit_at i q ≡ 1 → number (put q false (bits_of n i)) ≡ i - 2 ^ q
number_clear n q i l h e =
    let x : Bits = bits_of n i in
    less i (number (put q false x)) (2 ^ q) (
    sym (number_bits_of n i l) ∙ ap number (sym (bits_put_same n q i true (at_one n q i h e)) ∙ sym (put_put_same q true false x))
    ∙ number_put n q (put q false x) h (put_long n q false x (bits_of_long n i)) (at_put_same n q false x h (bits_of_long n i)))

-- a bit that is put to what it was
pub number_same : (n q i : ℕ) (b : Bool) → i < 2 ^ n → at q (bits_of n i) ≡ b → number (put q b (bits_of n i)) ≡ i
number_same n q i b l e = ap number (bits_put_same n q i b e) ∙ number_bits_of n i l

-- sums over numbers
abbrev pub sum_from : ℕ → ℕ → (ℕ → Omega) → Omega
sum_from a zero g = nil
sum_from a (suc m) g = plus (g a) (sum_from (suc a) m g)

abbrev pub twice : ℕ → ℕ
twice zero = zero
twice (suc m) = suc (suc (twice m))

twice_is : (m : ℕ) → twice m ≡ m * 2
twice_is zero = omega arith
twice_is (suc m) = let h : twice m ≡ m * 2 = twice_is m in omega arith

sum_twice : (m a : ℕ) (g : ℕ → Omega) → sum_from (twice a) (twice m) g ≡ plus (sum_from a m (λ i. g (twice i))) (sum_from a m (λ i. g (suc (twice i))))
sum_twice zero a g = sym (plus-nil nil)
sum_twice (suc m) a g =
    ap (λ t. plus (g (twice a)) (plus (g (suc (twice a))) t)) (sum_twice m (suc a) g)
    ∙ sym (plus_assoc _ _ _) ∙ plus_cross _ _ _ _

sum_from_ext : (m a : ℕ) (f g : ℕ → Omega) → ((i : ℕ) → f i ≡ g i) → sum_from a m f ≡ sum_from a m g
sum_from_ext zero a f g h = refl
sum_from_ext (suc m) a f g h = plus_both _ _ _ _ (h a) (sum_from_ext m (suc a) f g h)

even_head : (n i : ℕ) → bits_of (suc n) (twice i) ≡ false ∷ bits_of n i
even_head n i =
    let e : twice i % 2 ≡ 0 = omega (arith, twice_is i) in
    let f : twice i / 2 ≡ i = omega (arith, twice_is i) in
    ap (λ k. is_one k ∷ bits_of n (twice i / 2)) e ∙ ap (λ k. false ∷ bits_of n k) f

odd_head : (n i : ℕ) → bits_of (suc n) (suc (twice i)) ≡ true ∷ bits_of n i
odd_head n i =
    let e : suc (twice i) % 2 ≡ 1 = omega (arith, twice_is i) in
    let f : suc (twice i) / 2 ≡ i = omega (arith, twice_is i) in
    ap (λ k. is_one k ∷ bits_of n (suc (twice i) / 2)) e ∙ ap (λ k. true ∷ bits_of n k) f

-- the sum over the places is that over the numbers below 2^n
pub sum_numbers : (n : ℕ) (f : Bits → Omega) → sum_from 0 (2 ^ n) (λ i. f (bits_of n i)) ≡ sum n f
sum_numbers zero f = plus-nil (f [])
sum_numbers (suc n) f =
    let e : 2 ^ suc n ≡ twice (2 ^ n) = omega (arith, twice_is (2 ^ n)) in
    ap (λ m. sum_from 0 m (λ i. f (bits_of (suc n) i))) e
    ∙ sum_twice (2 ^ n) 0 (λ i. f (bits_of (suc n) i))
    ∙ plus_both _ _ _ _
    (sum_from_ext (2 ^ n) 0 _ _ (λ i. ap f (even_head n i)) ∙ sum_numbers n (λ x. f (false ∷ x)))
    (sum_from_ext (2 ^ n) 0 _ _ (λ i. ap f (odd_head n i)) ∙ sum_numbers n (λ x. f (true ∷ x)))
