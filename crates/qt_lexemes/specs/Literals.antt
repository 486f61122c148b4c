-- How the texts in quotes are printed: bit strings by their digits, and the name of an include. OpenQASM 3.0 live
-- specification, "Bit string literals" and "Included files".
use Rattle.std.specs.Prelude.{ℕ, zero, suc, ◌+◌, ◌==◌, Bool, if◌then◌else◌, List, [], ◌∷◌, ◌++◌}
use Rattle.std.specs.Int.{bit_at}
use Rattle.std.specs.List.{list_any}

-- the lowest places of a number as binary digits, the highest of them on the left
abbrev pub binary_digits : ℕ → ℕ → List ℕ
binary_digits zero value = []
binary_digits (suc length) value = (48 + bit_at value length) ∷ binary_digits length value

abbrev pub in_quotes : ℕ → List ℕ → List ℕ
in_quotes quote text = quote ∷ (text ++ quote ∷ [])

-- a bit string of so many digits, in double quotes
abbrev pub bit_text : ℕ → ℕ → List ℕ
bit_text value length = in_quotes 34 (binary_digits length value)

abbrev pub holds_double_quote : List ℕ → Bool
holds_double_quote text = list_any (λ byte. byte == 34) text

-- a text in double quotes, or in single ones where it holds a double one
abbrev pub quoted : List ℕ → List ℕ
quoted text = in_quotes (if holds_double_quote text then 39 else 34) text
