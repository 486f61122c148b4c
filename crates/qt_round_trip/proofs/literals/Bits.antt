-- The binary digits of a number, in quotes, are a bit string of that number.
use Rattle.std.proofs.Common.{◌≡◌, ℕ, zero, suc, ◌+◌, ◌-◌, ◌*◌, ◌/◌, ◌^◌, ◌≤◌, ◌<◌, Bool, true, false, ◌||◌, eqb, leb, cond, List, length, refl, sym, ◌∙◌, ap, subst, arith}
use Rattle.std.specs.Int.{bit_at}
use Rattle.std.proofs.Math.Nat.{div-eq_of_lt, div-div-eq-div-mul, pow-suc}
use Rattle.std.proofs.lemmas.Nat.Bits.{bit_at-lt}
use Rattle.std.proofs.lemmas.Bool.{le-leb, lt-leb, and_from, and_right as and_false}
use Rattle.qt_lex.specs.declared.number.Radix.TheVariants.{Binary}
use Rattle.qt_lex.specs.declared.tokens.Kind.TheVariants.{Text}
use Rattle.qt_lex.specs.Bytes.{byte}
use Rattle.qt_lex.specs.Numbers.{is_digit_of, digit_value, number_of, IsDigits}
use Rattle.qt_lex.specs.Bits.{are_bits, digit_count, is_bit_string, is_long_bit_string}
use Rattle.qt_lex.specs.Tokens.{IsToken, is_wide_text}
use Rattle.qt_lex.proofs.Tables.{or_left}
use Rattle.qt_lex.proofs.BitRuns.{bits_from_digits}
use Rattle.qt_terminals.specs.Literals.{is_bit_text, bits_of, bit_count}
use Rattle.qt_terminals.specs.Terminals.{PlacedTerminal}
use Rattle.qt_terminals.proofs.Numbers.{few_digits, bits_small}
use Rattle.qt_lexemes.specs.Literals.{binary_digits, bit_text}
use Rattle.qt_round_trip.proofs.literals.Kept.{IsBitsAgain}
use Rattle.qt_round_trip.proofs.literals.Quotes.{length_quoted, inner, is_text}

length_digits : (n v : ℕ) → length (binary_digits n v) ≡ n
length_digits zero v = refl
length_digits (suc n) v = omega (arith, length_digits n v)

-- the digit before so many others
digit_is : (n v k m : ℕ) → n ≡ k + suc m → byte (binary_digits n v) k ≡ 48 + bit_at v m
digit_is zero v k m e = absurd (omega (arith, e))
digit_is (suc n) v zero m e = let f : n ≡ m = omega (arith, e) in ap (λ t. 48 + bit_at v t) f
digit_is (suc n) v (suc k) m e = digit_is n v k m (omega (arith, e))

glyph_digit : (d : ℕ) → d < 2 → is_digit_of Binary (48 + d) ≡ true
glyph_digit d lt = grind arith

glyph_value : (d before : ℕ) → d < 2 → cond (eqb (48 + d) 95) before (before * 2 + digit_value (48 + d)) ≡ before * 2 + d
glyph_value d before lt = grind arith

glyph_counts : (d before : ℕ) → d < 2 → cond (eqb (48 + d) 95) before (before + 1) ≡ before + 1
glyph_counts d before lt = grind arith

glyph_plain : (d : ℕ) → d < 2 → (eqb (48 + d) 34 || eqb (48 + d) 10) ≡ false
glyph_plain d lt = grind arith

halves : (v m : ℕ) → v / 2 ^ suc m * 2 + bit_at v m ≡ v / 2 ^ m
halves v m =
    let e : v / 2 ^ suc m ≡ v / 2 ^ m / 2 = ap (λ t. v / t) (pow-suc 2 m) ∙ sym (div-div-eq-div-mul v (2 ^ m) 2) in
    let f : v / 2 ^ m / 2 * 2 + bit_at v m ≡ v / 2 ^ m = omega arith in
    ap (λ t. t * 2 + bit_at v m) e ∙ f

-- the text of n digits of v
module _ (v n : ℕ) where
  byte_is : (k m : ℕ) → n ≡ k + suc m → byte (bit_text v n) (1 + k) ≡ 48 + bit_at v m
  byte_is k m e =
      ap (byte (bit_text v n)) (omega arith) ∙ inner 34 (binary_digits n v) k (omega (arith, e, length_digits n v)) ∙ digit_is n v k m e

  digit_there : (k : ℕ) → k < n → is_digit_of Binary (byte (bit_text v n) (1 + k)) ≡ true
  digit_there k lt = ap (is_digit_of Binary) (byte_is k (n - suc k) (omega arith)) ∙ glyph_digit (bit_at v (n - suc k)) (bit_at-lt v (n - suc k))

  length_text : length (bit_text v n) ≡ n + 2
  length_text = omega (arith, length_quoted 34 (binary_digits n v), length_digits n v)

  counts : (k : ℕ) → k ≤ n → digit_count (byte (bit_text v n)) 1 k ≡ k
  counts zero le = refl
  counts (suc k) le =
      let before : digit_count (byte (bit_text v n)) 1 k ≡ k = counts k (omega arith) in
      let all : digit_count (byte (bit_text v n)) 1 (suc k) ≡ digit_count (byte (bit_text v n)) 1 k + 1 =
      ap (λ t. cond (eqb t 95) (digit_count (byte (bit_text v n)) 1 k) (digit_count (byte (bit_text v n)) 1 k + 1)) (byte_is k (n - suc k) (omega arith))
      ∙ glyph_counts (bit_at v (n - suc k)) (digit_count (byte (bit_text v n)) 1 k) (bit_at-lt v (n - suc k)) in
      omega arith

  values : v < 2 ^ n → (k m : ℕ) → n ≡ k + m → number_of (byte (bit_text v n)) 2 1 k ≡ v / 2 ^ m
  values small zero m e = let f : n ≡ m = omega arith in sym (div-eq_of_lt (subst (λ t. v < 2 ^ t) f small))
  values small (suc k) m e =
      let f : n ≡ k + suc m = omega arith in
      ap (λ t. cond (eqb t 95) (number_of (byte (bit_text v n)) 2 1 k) (number_of (byte (bit_text v n)) 2 1 k * 2 + digit_value t)) (byte_is k m f)
      ∙ glyph_value (bit_at v m) (number_of (byte (bit_text v n)) 2 1 k) (bit_at-lt v m)
      ∙ ap (λ t. t * 2 + bit_at v m) (values small k (suc m) f)
      ∙ halves v m

  are_digits : 0 < n → are_bits (byte (bit_text v n)) 1 n ≡ true
  are_digits some =
      let digits : IsDigits (byte (bit_text v n)) Binary 1 (1 + n) = record {
        some = omega arith;
        first = ap (λ k. is_digit_of Binary (byte (bit_text v n) k)) first ∙ digit_there 0 some;
        each = λ k from below. or_left (is_digit_of Binary (byte (bit_text v n) k)) _ (at k from below);
        last = at (1 + n - 1) (omega arith) (omega arith);
      } in
      ap (are_bits (byte (bit_text v n)) 1) width ∙ bits_from_digits (byte (bit_text v n)) 1 (1 + n) digits
    where
      first : 1 ≡ 1 + 0
      first = omega arith

      width : n ≡ 1 + n - 1
      width = omega arith

      at : (k : ℕ) → 1 ≤ k → k < 1 + n → is_digit_of Binary (byte (bit_text v n) k) ≡ true
      at k from below = let e : k ≡ 1 + (k - 1) = omega arith in ap (λ k. is_digit_of Binary (byte (bit_text v n) k)) e ∙ digit_there (k - 1) (omega arith)

  spelled : n ≤ 64 → IsToken (byte (bit_text v n)) Text 0 (length (bit_text v n))
  spelled le = (is_text 34 (binary_digits n v) refl plain, not_wide)
    where
      plain : (k : ℕ) → k < length (binary_digits n v) → (eqb (byte (binary_digits n v) k) 34 || eqb (byte (binary_digits n v) k) 10) ≡ false
      plain k lt =
          ap (λ t. eqb t 34 || eqb t 10) (digit_is n v k (n - suc k) (omega (arith, length_digits n v, lt)))
          ∙ glyph_plain (bit_at v (n - suc k)) (bit_at-lt v (n - suc k))

      width : length (bit_text v n) - 1 - 1 ≡ n
      width = omega (arith, length_text)

      not_wide : is_wide_text (byte (bit_text v n)) 0 (length (bit_text v n)) ≡ false
      not_wide =
          ap (is_long_bit_string (byte (bit_text v n)) 1) width
          ∙ and_false (are_bits (byte (bit_text v n)) 1 n) _ (ap (leb 65) (counts n (omega arith)) ∙ lt-leb 65 n (omega arith))

  are_bit_text : 0 < n → n ≤ 64 → is_bit_text (bit_text v n) ≡ true
  unfolding is_bit_text
  are_bit_text some le =
      ap (is_bit_string (byte (bit_text v n)) 1) width
      ∙ and_from (are_bits (byte (bit_text v n)) 1 n) _ (are_digits some) (ap (λ t. leb t 64) (counts n (omega arith)) ∙ le-leb n 64 le)
    where
      width : length (bit_text v n) - 2 ≡ n
      width = omega (arith, length_text)

value_again : (v n : ℕ) → v < 2 ^ n → n ≤ 64 → bits_of (bit_text v n) ≡ v
unfolding bits_of is_bit_text
value_again v zero small le = omega arith
value_again v (suc n) small le =
    let width : length (bit_text v (suc n)) - 2 ≡ suc n = omega (arith, length_text v (suc n)) in
    ap (λ t. cond t (number_of (byte (bit_text v (suc n))) 2 1 (length (bit_text v (suc n)) - 2)) 0) (are_bit_text v (suc n) (omega arith) le)
    ∙ ap (number_of (byte (bit_text v (suc n))) 2 1) width ∙ values v (suc n) small (suc n) 0 (omega arith) ∙ omega arith

count_again : (v n : ℕ) → n ≤ 64 → bit_count (bit_text v n) ≡ n
unfolding bit_count is_bit_text
count_again v zero le = refl
count_again v (suc n) le =
    let width : length (bit_text v (suc n)) - 2 ≡ suc n = omega (arith, length_text v (suc n)) in
    ap (λ t. cond t (digit_count (byte (bit_text v (suc n))) 1 (length (bit_text v (suc n)) - 2)) 0) (are_bit_text v (suc n) (omega arith) le)
    ∙ ap (digit_count (byte (bit_text v (suc n))) 1) width ∙ counts v (suc n) (suc n) (omega arith)

count_within : (b : ℕ → ℕ) (i n : ℕ) → digit_count b i n ≤ n
count_within b i zero = omega arith
count_within b i (suc n) = at_test (digit_count b i n) (count_within b i n) (eqb (b (i + n)) 95)
  where
    at_test : (before : ℕ) → before ≤ n → (v : Bool) → cond v before (before + 1) ≤ suc n
    at_test before le true = omega arith
    at_test before le false = omega arith

few_bits : (s : List ℕ) → (bit_count s ≤ 64) × (bit_count s ≤ length s - 2)
unfolding bit_count
few_bits s = at_test (is_bit_text s) refl
  where
    at_test : (v : Bool) → is_bit_text s ≡ v → (cond v (digit_count (byte s) 1 (length s - 2)) 0 ≤ 64) × (cond v (digit_count (byte s) 1 (length s - 2)) 0 ≤ length s - 2)
    at_test true e = (few_digits s e, count_within (byte s) 1 (length s - 2))
    at_test false e = (omega arith, omega arith)

-- a bit string keeps its number and its count
pub bits_again : (t : PlacedTerminal) → IsToken (byte t.spelling) Text 0 (length t.spelling) → IsBitsAgain t
bits_again t h =
    let s = t.spelling in
    let (few, fewer) = few_bits s in
    record {
      spelled = spelled (bits_of s) (bit_count s) few;
      value = value_again (bits_of s) (bit_count s) (bits_small s) few;
      count = count_again (bits_of s) (bit_count s) few;
      short = omega (arith, length_text (bits_of s) (bit_count s), fewer, h.0.some);
    }
