-- The values of literals, by their spelling: whole numbers in four bases, and bit strings. OpenQASM 3.0 live specification,
-- "Integer literals" and "Bit string literals".
use Rattle.std.specs.Prelude.{ℕ, ◌-◌, Bool, not, ◌&&◌, ◌||◌, leb, if◌then◌else◌, List, [], length, slice_range, Option, Some, None}
use Rattle.qt_lex.specs.declared.number.Radix.{Radix}
use Rattle.qt_lex.specs.declared.number.Radix.TheVariants.{Decimal}
use Rattle.qt_lex.specs.Bytes.{byte}
use Rattle.qt_lex.specs.Numbers.{base_of, number_of}
use Rattle.qt_lex.specs.Bits.{is_bit_string, digit_count}
use Rattle.qt_lex.specs.Answers.{prefix_of}

-- a character begins at this place, or the text ends there
abbrev pub is_boundary : List ℕ → ℕ → Bool
is_boundary text i = leb i (length text) && (not (leb 128 (byte text i)) || leb 192 (byte text i))

-- the bytes from one place up to another; none where a character is cut, or where the places are out of order or outside
unfoldable pub cut : List ℕ → ℕ → ℕ → List ℕ
cut text i j = if leb i j && (is_boundary text i && is_boundary text j) then slice_range text i j else []

-- what stands between the quotes of a text
unfoldable pub inside_quotes : List ℕ → List ℕ
inside_quotes s = cut s 1 (length s - 1)

-- the number that digits name behind a prefix of so many bytes
abbrev pub number_behind : ℕ → Radix → List ℕ → ℕ
number_behind n r s = number_of (byte s) (base_of r) n (length s - n)

-- the number that digits name behind a prefix, or without one
abbrev pub integer_in : Option Radix → List ℕ → ℕ
integer_in None s = number_behind 0 Decimal s
integer_in (Some r) s = number_behind 2 r s

-- the number of a whole number's spelling: `0x`, `0X`, `0b`, `0B` or `0o` and digits, or decimal digits; `_` counts nothing
unfoldable pub integer_of : List ℕ → ℕ
integer_of s = integer_in (prefix_of (byte s 0) (byte s 1)) s

-- between the quotes stand 1 to 64 digits `0` and `1`, with single `_` between them
unfoldable pub is_bit_text : List ℕ → Bool
is_bit_text s = is_bit_string (byte s) 1 (length s - 2)

-- the number of digits of a bit string, and 0 of any other text
unfoldable pub bit_count : List ℕ → ℕ
bit_count s = if is_bit_text s then digit_count (byte s) 1 (length s - 2) else 0

-- the number that the digits of a bit string name, the leftmost being the highest, and 0 of any other text
unfoldable pub bits_of : List ℕ → ℕ
bits_of s = if is_bit_text s then number_of (byte s) 2 1 (length s - 2) else 0
