-- The numbers of literals: modulo 2^64, and bit strings below their width.
use Rattle.std.proofs.Common.{◌≡◌, ℕ, zero, suc, ◌+◌, ◌-◌, ◌*◌, ◌^◌, ◌%◌, ◌≤◌, ◌<◌, inl, inr, Bool, true, false, not, ◌&&◌, eqb, leb, cond, List, length, refl, sym, ◌∙◌, ap, arith}
use Rattle.std.proofs.Math.Nat.{mod-add-mod}
use Rattle.std.proofs.lemmas.Nat.{mul-mod_first}
use Rattle.std.proofs.lemmas.Bool.{leb-true, le-leb}
use Rattle.std.proofs.lemmas.Grind.{pow_more}
use Rattle.std.proofs.Math.Pow.{pow_mono}
use Rattle.qt_lex.specs.declared.number.Radix.TheVariants.{Binary}
use Rattle.qt_lex.specs.Bytes.{byte}
use Rattle.qt_lex.specs.Numbers.{is_digit_of, digit_value, goes_on, number_of}
use Rattle.qt_lex.specs.Bits.{each_goes_on, are_bits, digit_count}
use Rattle.qt_lex.proofs.Tables.{and_left, and_right, or_cases}
use Rattle.qt_lex.proofs.Counts.{number_step}
use Rattle.qt_terminals.specs.Literals.{is_bit_text, bits_of, bit_count}

pub wrapped_sum : (a d m : ℕ) → (a % m + d) % m ≡ (a + d) % m
wrapped_sum a d m = mod-add-mod a m d

wrapped : (n base d m : ℕ) → (n % m * base + d) % m ≡ (n * base + d) % m
wrapped n base d m = sym (mod-add-mod (n % m * base) m d) ∙ ap (λ t. (t + d) % m) (mul-mod_first n base m) ∙ mod-add-mod (n * base) m d

pub few_digits : (s : List ℕ) → is_bit_text s ≡ true → digit_count (byte s) 1 (length s - 2) ≤ 64
unfolding is_bit_text
few_digits s h = leb-true _ 64 (and_right (are_bits (byte s) 1 (length s - 2)) (leb (digit_count (byte s) 1 (length s - 2)) 64) h)

-- one byte more of a number, modulo m
pub counted_more : (b : ℕ → ℕ) (base s p n m x : ℕ) → s ≤ p → n ≡ number_of b base s (p - s) % m → x ≡ b p
    → cond (eqb x 95) n ((n * base + digit_value x) % m) ≡ number_of b base s (p + 1 - s) % m
counted_more b base s p n m x le so_far here =
    ap (λ t. cond (eqb t 95) n ((n * base + digit_value t) % m)) here
    ∙ ap (λ t. cond (eqb (b p) 95) t ((t * base + digit_value (b p)) % m)) so_far
    ∙ at_test (eqb (b p) 95)
    ∙ sym (ap (λ t. t % m) (number_step b base s p le))
  where
    before : ℕ
    before = number_of b base s (p - s)

    at_test : (v : Bool) → cond v (before % m) ((before % m * base + digit_value (b p)) % m) ≡ cond v before (before * base + digit_value (b p)) % m
    at_test true = refl
    at_test false = wrapped before base (digit_value (b p)) m

bit_small : (c : ℕ) → is_digit_of Binary c ≡ true → digit_value c ≤ 1
bit_small c h =
    let low : 48 ≤ c = leb-true 48 c (and_left (leb 48 c) (leb c 49) h) in
    let high : c ≤ 49 = leb-true c 49 (and_right (leb 48 c) (leb c 49) h) in
    let small : leb c 57 ≡ true = le-leb c 57 (omega (arith, high)) in
    rw small (omega (arith, high))

module _ (b : ℕ → ℕ) where
  -- a run of binary digits counts less than two to the number of its digits
  pub bits_below : (s n : ℕ) → each_goes_on b s n ≡ true → number_of b 2 s n < 2 ^ digit_count b s n
  bits_below s zero h = omega arith
  bits_below s (suc n) h = at_test (bits_below s n (and_left (each_goes_on b s n) (goes_on b Binary (s + n)) h)) (eqb (b (s + n)) 95) refl
    where
      digit : eqb (b (s + n)) 95 ≡ false → digit_value (b (s + n)) ≤ 1
      digit ne = elim (or_cases (is_digit_of Binary (b (s + n))) (eqb (b (s + n)) 95 && is_digit_of Binary (b (s + n + 1))) (and_right (each_goes_on b s n) (goes_on b Binary (s + n)) h)) [
        | inl is ↦ bit_small (b (s + n)) is
        | inr space ↦ absurd (let x : eqb (b (s + n)) 95 ≡ true = and_left _ (is_digit_of Binary (b (s + n + 1))) space in cc (x, ne))
      ]

      at_test : number_of b 2 s n < 2 ^ digit_count b s n → (v : Bool) → eqb (b (s + n)) 95 ≡ v
          → cond v (number_of b 2 s n) (number_of b 2 s n * 2 + digit_value (b (s + n))) < 2 ^ cond v (digit_count b s n) (digit_count b s n + 1)
      at_test before true e = before
      at_test before false e =
          let small : digit_value (b (s + n)) ≤ 1 = digit e in
          rw pow_more (omega (arith, small, before))

each_digit : (s : List ℕ) → is_bit_text s ≡ true → each_goes_on (byte s) 1 (length s - 2) ≡ true
unfolding is_bit_text
each_digit s h =
    let bits : are_bits (byte s) 1 (length s - 2) ≡ true = and_left _ (leb (digit_count (byte s) 1 (length s - 2)) 64) h in
    let more : (is_digit_of Binary (byte s 1) && (each_goes_on (byte s) 1 (length s - 2) && is_digit_of Binary (byte s (1 + (length s - 2) - 1)))) ≡ true =
    and_right (not (eqb (length s - 2) 0)) _ bits in
    and_left _ (is_digit_of Binary (byte s (1 + (length s - 2) - 1))) (and_right (is_digit_of Binary (byte s 1)) _ more)

pub bits_fit : (s : List ℕ) → is_bit_text s ≡ true → number_of (byte s) 2 1 (length s - 2) < 2 ^ 64
bits_fit s h =
    let few : digit_count (byte s) 1 (length s - 2) ≤ 64 = few_digits s h in
    let below : number_of (byte s) 2 1 (length s - 2) < 2 ^ digit_count (byte s) 1 (length s - 2) = bits_below (byte s) 1 (length s - 2) (each_digit s h) in
    let top : 2 ^ digit_count (byte s) 1 (length s - 2) ≤ 2 ^ 64 = pow_mono few in
    omega (arith, below, top)

pub bits_small : (s : List ℕ) → bits_of s < 2 ^ bit_count s
unfolding bits_of bit_count
bits_small s = at_test (is_bit_text s) refl
  where
    at_test : (v : Bool) → is_bit_text s ≡ v → cond v (number_of (byte s) 2 1 (length s - 2)) 0 < 2 ^ cond v (digit_count (byte s) 1 (length s - 2)) 0
    at_test true e = bits_below (byte s) 1 (length s - 2) (each_digit s e)
    at_test false e = omega arith
