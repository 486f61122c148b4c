-- How bit strings are spelled: binary digits with single `_` between them. OpenQASM 3.0 live specification, "Bit string
-- literals". Here `b i` is the byte at place i, and the quotes are left out.
use Rattle.std.specs.Prelude.{ℕ, zero, suc, ◌+◌, ◌-◌, Bool, true, not, ◌&&◌, eqb, leb, if◌then◌else◌}
use Rattle.qt_lex.specs.declared.number.Radix.TheVariants.{Binary}
use Rattle.qt_lex.specs.Numbers.{is_digit_of, goes_on}

module _ (b : ℕ → ℕ) where
  -- each of n places from i on holds a binary digit, or a `_` with a digit behind it
  abbrev pub each_goes_on : ℕ → ℕ → Bool
  each_goes_on i zero = true
  each_goes_on i (suc n) = each_goes_on i n && goes_on b Binary (i + n)

  -- the n places from i on hold `0` and `1` with single `_` between them
  abbrev pub are_bits : ℕ → ℕ → Bool
  are_bits i n = not (eqb n 0) && (is_digit_of Binary (b i) && (each_goes_on i n && is_digit_of Binary (b (i + n - 1))))

  -- how many of n places from i on hold no `_`
  abbrev pub digit_count : ℕ → ℕ → ℕ
  digit_count i zero = 0
  digit_count i (suc n) = if eqb (b (i + n)) 95 then digit_count i n else digit_count i n + 1

  -- the n places from i on are a bit string of 1 to 64 digits
  abbrev pub is_bit_string : ℕ → ℕ → Bool
  is_bit_string i n = are_bits i n && leb (digit_count i n) 64

  -- the n places from i on are a bit string of more than 64 digits
  abbrev pub is_long_bit_string : ℕ → ℕ → Bool
  is_long_bit_string i n = are_bits i n && leb 65 (digit_count i n)
