-- Bytes of a text by their places: kinds of bytes, and texts that stand at a place. OpenQASM 3.0 live specification, "Comments" and
-- "Identifiers", and the lexical grammar in its appendix. Characters outside ASCII stand as their bytes in UTF-8.
use Rattle.std.specs.Prelude.{◌≡◌, ℕ, ◌+◌, ◌≤◌, ◌<◌, ◌⊎◌, max, Bool, true, not, ◌&&◌, ◌||◌, if◌then◌else◌}
use Rattle.std.specs.Prelude.{eqb, leb, List, [], ◌∷◌, length, slice_index_or}

-- the byte at a place; behind the end stands 0, which is in no token
abbrev pub byte : List ℕ → ℕ → ℕ
byte text i = slice_index_or text i 0

abbrev pub is_digit : ℕ → Bool
is_digit c = leb 48 c && leb c 57

abbrev pub is_letter : ℕ → Bool
is_letter c = (leb 65 c && leb c 90) || (leb 97 c && leb c 122)

-- a name begins with a letter or `_`
abbrev pub is_name_start : ℕ → Bool
is_name_start c = is_letter c || eqb c 95

abbrev pub is_name_byte : ℕ → Bool
is_name_byte c = is_name_start c || is_digit c

-- space, tab, line feed, carriage return
abbrev pub is_blank : ℕ → Bool
is_blank c = eqb c 32 || (eqb c 9 || (eqb c 10 || eqb c 13))

-- `"` and `'`
abbrev pub is_quote : ℕ → Bool
is_quote c = eqb c 34 || eqb c 39

abbrev pub has_no_nul : List ℕ → Bool
has_no_nul [] = true
has_no_nul (x ∷ xs) = not (eqb x 0) && has_no_nul xs

abbrev pub have_no_nul : List (List ℕ) → Bool
have_no_nul [] = true
have_no_nul (x ∷ xs) = has_no_nul x && have_no_nul xs

-- `b i` is the byte at place i
module _ (b : ℕ → ℕ) where
  -- these bytes stand from place i on
  abbrev pub stands : List ℕ → ℕ → Bool
  stands [] i = true
  stands (x ∷ xs) i = eqb (b i) x && stands xs (i + 1)

  -- one of these texts stands from i up to j
  abbrev pub IsOneOf : List (List ℕ) → ℕ → ℕ → Type 0
  IsOneOf [] i j = ⊥
  IsOneOf (x ∷ xs) i j = ((stands x i ≡ true) × (j ≡ i + length x)) ⊎ IsOneOf xs i j

  -- the length of the longest of these texts that stands at i, 0 where none does
  abbrev pub longest_in : List (List ℕ) → ℕ → ℕ
  longest_in [] i = 0
  longest_in (x ∷ xs) i = max (if stands x i then length x else 0) (longest_in xs i)

  -- the places from i up to j have a byte of this kind
  abbrev pub EachFrom : (ℕ → Bool) → ℕ → ℕ → Type 0
  EachFrom p i j = (k : ℕ) → i ≤ k → k < j → p (b k) ≡ true
