-- What the lexer's own functions answer about one place of a text. These words serve the contracts inside this crate.
use Rattle.std.specs.Prelude.{◌≡◌, ℕ, ◌≤◌, ◌<◌, ◌⊎◌, Bool, true, ◌||◌, eqb, if◌then◌else◌, List, length, Option, Some, None}
use Rattle.qt_lex.specs.declared.tokens.Kind.{Kind}
use Rattle.qt_lex.specs.declared.tokens.Kind.TheVariants as kind
use Rattle.qt_lex.specs.declared.number.Radix.{Radix}
use Rattle.qt_lex.specs.declared.number.Radix.TheVariants as radix
use Rattle.qt_lex.specs.declared.lexer.Gap.{Gap}
use Rattle.qt_lex.specs.declared.lexer.Gap.TheVariants as gap
use Rattle.qt_lex.specs.Bytes.{byte, is_digit, IsOneOf, time_units, imaginary_units}
use Rattle.qt_lex.specs.Numbers.{is_digit_of, prefixes, is_exponent_sign, IsExponent, IsDecimal}
use Rattle.qt_lex.specs.Tokens.{LongestToken, NoToken, IsSolid, IsGap, IsUnclosed}

-- the base that two bytes name as a prefix
abbrev pub prefix_of : ℕ → ℕ → Option Radix
prefix_of c d =
    if eqb c 48 then (if eqb d 120 || eqb d 88 then Some radix.Hexadecimal else (if eqb d 98 || eqb d 66 then Some radix.Binary else (if eqb d 111 then Some radix.Octal else None)))
    else None

-- a byte of a decimal number that another may end before
abbrev pub is_decimal_byte : ℕ → Bool
is_decimal_byte c = is_digit c || (eqb c 46 || is_exponent_sign c)

module _ (b : ℕ → ℕ) where
  -- a whole number that begins at i in another base is decimal
  abbrev pub IsPreferred : ℕ → Radix → Type 0
  IsPreferred i r = (q : Radix) (s : ℕ) → IsOneOf b (prefixes q) i s → is_digit_of q (b s) ≡ true → (q ≡ r) ⊎ (q ≡ radix.Decimal)

  abbrev pub IsLongestExponent : ℕ → ℕ → Type 0
  IsLongestExponent i j = (s k : ℕ) → IsExponent b s i k → (k ≤ j) × (k < j → is_digit (b k) ≡ true)

  abbrev pub IsLongestDecimal : ℕ → ℕ → Type 0
  IsLongestDecimal i j = (k : ℕ) → IsDecimal b i k → (k ≤ j) × (k < j → is_decimal_byte (b k) ≡ true)

  -- a number of kind k that ends at m, with the unit behind it if there is one, is of kind k' and ends at j
  abbrev pub IsWithUnit : Kind → ℕ → Kind → ℕ → Type 0
  IsWithUnit k m k' j = ((k' ≡ kind.Timing) × IsOneOf b time_units m j)
      ⊎ (((k' ≡ kind.Imaginary) × IsOneOf b imaginary_units m j)
      ⊎ ((k' ≡ k) × (j ≡ m)))

-- a blank, a comment or the longest token begins at i and ends at j
abbrev pub GoesOnAt : List ℕ → ℕ → ℕ → Type 0
GoesOnAt text i j = IsGap (byte text) (length text) i j ⊎ (IsSolid (byte text) i × ((k : Kind) × LongestToken (byte text) k i j))

-- a comment begins here that isn't closed, or no token begins
abbrev pub IsToBlame : (ℕ → ℕ) → ℕ → Type 0
IsToBlame b i = IsUnclosed b i ⊎ (IsSolid b i × NoToken b i)

abbrev pub GapIs : List ℕ → ℕ → Gap → Type 0
GapIs text i gap.Solid = IsSolid (byte text) i
GapIs text i (gap.Ends j) = IsGap (byte text) (length text) i j × (i < j) × (j ≤ length text)
GapIs text i gap.Open = IsUnclosed (byte text) i
