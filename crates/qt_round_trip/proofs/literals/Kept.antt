-- What printing keeps of a token: what is printed of it is spelled as such a token, means the same, and is no longer but by
-- what a number may grow. OpenQASM 3.0 live specification, "Identifiers", "Literals", "Version string" and "Included files".
use Rattle.std.specs.Prelude.{◌≡◌, ℕ, zero, suc, ◌+◌, ◌≤◌, ◌<◌, ◌^◌, ◌⊎◌, length}
use Rattle.std.specs.Fmt.{decimal}
use Rattle.qt_terminals.specs.declared.terminal.Terminal.TheVariants as w
use Rattle.qt_terminals.specs.Terminals.{PlacedTerminal}
use Rattle.qt_terminals.specs.Literals.{integer_of, bits_of, bit_count, inside_quotes}
use Rattle.qt_lexemes.specs.declared.role.Role.TheVariants as r
use Rattle.qt_lexemes.specs.Lexemes.{lexeme, name, integer, bits, quotation}
use Rattle.qt_lexemes.specs.Literals.{bit_text, quoted}
use Rattle.qt_round_trip.proofs.lexemes.Spelling.{IsSpelled}

-- a bit string, by the digits that are printed of it
pub record IsBitsAgain (t : PlacedTerminal) : Type 0 where
  pub spelled : IsSpelled (bits (bits_of t.spelling) (bit_count t.spelling))
  pub value : bits_of (bit_text (bits_of t.spelling) (bit_count t.spelling)) ≡ bits_of t.spelling
  pub count : bit_count (bit_text (bits_of t.spelling) (bit_count t.spelling)) ≡ bit_count t.spelling
  pub short : length (bit_text (bits_of t.spelling) (bit_count t.spelling)) ≤ length t.spelling

-- a text in quotes, by what stands between them
pub record IsQuotedAgain (t : PlacedTerminal) : Type 0 where
  pub spelled : IsSpelled (quotation (inside_quotes t.spelling))
  pub inside : inside_quotes (quoted (inside_quotes t.spelling)) ≡ inside_quotes t.spelling
  pub short : length (quoted (inside_quotes t.spelling)) ≤ length t.spelling

-- what printing keeps of a token
pub record IsFaithful (t : PlacedTerminal) : Type 0 where
  -- each token but the end of the text has a byte
  pub some : (t.terminal ≡ w.End → ⊥) → 1 ≤ length t.spelling
  pub name : t.terminal ≡ w.Name → IsSpelled (name t.spelling)
  pub decimal : t.terminal ≡ w.Decimal → IsSpelled (lexeme r.Decimal t.spelling)
  pub bits : t.terminal ≡ w.BitText → IsBitsAgain t
  pub quotation : (t.terminal ≡ w.Text) ⊎ (t.terminal ≡ w.BitText) → IsQuotedAgain t

-- a whole number, by its decimal digits
pub record IsNumberAgain (n : ℕ) : Type 0 where
  pub spelled : IsSpelled (integer n)
  pub value : integer_of (decimal n) ≡ n
  pub short : length (decimal n) ≤ 20

abbrev pub AreNumbersAgain : Type 0
AreNumbersAgain = (n : ℕ) → n < 2 ^ 64 → IsNumberAgain n

-- the bytes of the first n tokens of a stream
abbrev pub total_length : (ℕ → PlacedTerminal) → ℕ → ℕ
total_length ts zero = 0
total_length ts (suc n) = total_length ts n + length ((ts n).spelling)
