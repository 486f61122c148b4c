-- How numbers are spelled: whole numbers in four bases with single `_` between digits, decimal numbers, and numbers with a
-- unit. OpenQASM 3.0 live specification, "Integer literals", "Floating point literals", "Timing literals", "Complex numbers".
use Rattle.std.specs.Prelude.{◌≡◌, ℕ, zero, suc, ◌+◌, ◌-◌, ◌*◌, ◌^◌, ◌≤◌, ◌<◌, ◌⊎◌, Bool, true, ◌&&◌, ◌||◌, eqb, leb, if◌then◌else◌, List, [], ◌∷◌, codes}
use Rattle.qt_lex.specs.declared.number.Radix.{Radix}
use Rattle.qt_lex.specs.declared.number.Radix.TheVariants.{Binary, Octal, Decimal, Hexadecimal}
use Rattle.qt_lex.specs.Bytes.{is_digit, IsOneOf, EachFrom, time_units, imaginary_units}

abbrev pub base_of : Radix → ℕ
base_of Binary = 2
base_of Octal = 8
base_of Decimal = 10
base_of Hexadecimal = 16

abbrev pub prefixes : Radix → List (List ℕ)
prefixes Binary = codes "0b" ∷ codes "0B" ∷ []
prefixes Octal = codes "0o" ∷ []
prefixes Decimal = [] ∷ []
prefixes Hexadecimal = codes "0x" ∷ codes "0X" ∷ []

abbrev pub is_digit_of : Radix → ℕ → Bool
is_digit_of Binary c = leb 48 c && leb c 49
is_digit_of Octal c = leb 48 c && leb c 55
is_digit_of Decimal c = leb 48 c && leb c 57
is_digit_of Hexadecimal c = (leb 48 c && leb c 57) || ((leb 65 c && leb c 70) || (leb 97 c && leb c 102))

abbrev pub digit_value : ℕ → ℕ
digit_value c = if leb c 57 then c - 48 else (if leb c 70 then c - 55 else c - 87)

-- `e` and `E`
abbrev pub is_exponent_sign : ℕ → Bool
is_exponent_sign c = eqb c 101 || eqb c 69

-- `+` and `-`
abbrev pub is_sign : ℕ → Bool
is_sign c = eqb c 43 || eqb c 45

module _ (b : ℕ → ℕ) where
  -- a digit stands at i, or a `_` with a digit behind it
  abbrev pub goes_on : Radix → ℕ → Bool
  goes_on r i = is_digit_of r (b i) || (eqb (b i) 95 && is_digit_of r (b (i + 1)))

  -- from i up to j stand digits, with single `_` between them
  pub record IsDigits (r : Radix) (i j : ℕ) : Type 0 where
    pub some : i < j
    pub first : is_digit_of r (b i) ≡ true
    pub each : (k : ℕ) → i ≤ k → k < j → goes_on r k ≡ true
    pub last : is_digit_of r (b (j - 1)) ≡ true

  -- the number of the first n places from i on
  abbrev pub number_of : ℕ → ℕ → ℕ → ℕ
  number_of base i zero = 0
  number_of base i (suc n) = if eqb (b (i + n)) 95 then number_of base i n else number_of base i n * base + digit_value (b (i + n))

  -- a whole number in this base from i up to j, whose digits begin at s
  pub record IsWhole (r : Radix) (s i j : ℕ) : Type 0 where
    pub prefix : IsOneOf b (prefixes r) i s
    pub digits : IsDigits r s j

  abbrev pub IsInteger : ℕ → ℕ → Type 0
  IsInteger i j = (r : Radix) × (s : ℕ) × IsWhole r s i j × (number_of (base_of r) s (j - s) < 2 ^ 64)

  abbrev pub IsWide : ℕ → ℕ → Type 0
  IsWide i j = (r : Radix) × (s : ℕ) × IsWhole r s i j × (2 ^ 64 ≤ number_of (base_of r) s (j - s))

  -- digits with a point, and a digit before or after it
  pub record IsPointed (p i j : ℕ) : Type 0 where
    pub before : EachFrom b is_digit i p
    pub ahead : i ≤ p
    pub point : b p ≡ 46
    pub behind : EachFrom b is_digit (p + 1) j
    pub within : p < j
    pub some : i + 1 < j

  -- `e` or `E`, a sign or none, and digits that begin at s
  pub record IsExponent (s i j : ℕ) : Type 0 where
    pub head : is_exponent_sign (b i) ≡ true
    pub start : (s ≡ i + 1) ⊎ ((is_sign (b (i + 1)) ≡ true) × (s ≡ i + 2))
    pub some : s < j
    pub digits : EachFrom b is_digit s j

  -- a point, an exponent, or both
  abbrev pub IsDecimal : ℕ → ℕ → Type 0
  IsDecimal i j = ((p : ℕ) × IsPointed p i j)
      ⊎ (((p : ℕ) × (m : ℕ) × (s : ℕ) × IsPointed p i m × IsExponent s m j)
      ⊎ ((m : ℕ) × (s : ℕ) × (i < m) × EachFrom b is_digit i m × IsExponent s m j))

  -- a number without a unit
  abbrev pub IsPlain : ℕ → ℕ → Type 0
  IsPlain i j = ((r : Radix) × (s : ℕ) × IsWhole r s i j) ⊎ IsDecimal i j

  abbrev pub IsTiming : ℕ → ℕ → Type 0
  IsTiming i j = (m : ℕ) × IsPlain i m × IsOneOf b time_units m j

  abbrev pub IsImaginary : ℕ → ℕ → Type 0
  IsImaginary i j = (m : ℕ) × IsPlain i m × IsOneOf b imaginary_units m j
