-- Which tokens a text has: how each kind is spelled, what stands between tokens, and that the longest token is taken. OpenQASM
-- 3.0 live specification, "Comments", "Identifiers" and "Literals". A token is a span of places, and `b i` is the byte at place i.
use Rattle.std.specs.Prelude.{◌≡◌, ℕ, zero, suc, ◌+◌, ◌-◌, ◌≤◌, ◌<◌, ◌⊎◌, Bool, true, false, ◌&&◌, ◌||◌, eqb, leb, if◌then◌else◌, List, [], ◌∷◌, length, codes}
use Rattle.qt_tree.specs.declared.place.Place.{Place}
use Rattle.qt_lex.specs.declared.tokens.Kind.{Kind}
use Rattle.qt_lex.specs.declared.tokens.Kind.TheVariants.{Name, Reserved, Integer, Wide, Decimal, Timing, Imaginary, Text, Hardware, Hash, Symbol, Constant, Euler, End}
use Rattle.qt_lex.specs.declared.tokens.Token.{Token}
use Rattle.qt_lex.specs.Bytes.{byte, is_digit, is_letter, is_name_start, is_name_byte, is_blank, is_quote, reserved_words, constants, euler_signs, symbols, stands, IsOneOf, EachFrom}
use Rattle.qt_lex.specs.Numbers.{IsInteger, IsWide, IsDecimal, IsTiming, IsImaginary}
use Rattle.qt_lex.specs.Bits.{is_long_bit_string}

module _ (b : ℕ → ℕ) where
  -- a letter or `_`, then letters, digits and `_`
  pub record IsWord (i j : ℕ) : Type 0 where
    pub some : i < j
    pub first : is_name_start (b i) ≡ true
    pub others : EachFrom b is_name_byte (i + 1) j

  -- a quote, then neither that quote nor a line feed, then that quote
  pub record IsText (i j : ℕ) : Type 0 where
    pub some : i + 1 < j
    pub quote : is_quote (b i) ≡ true
    pub inside : (k : ℕ) → i < k → k + 1 < j → (eqb (b k) (b i) || eqb (b k) 10) ≡ false
    pub closed : b (j - 1) ≡ b i

  -- between the quotes of this text stands a bit string of more than 64 digits
  abbrev pub is_wide_text : ℕ → ℕ → Bool
  is_wide_text i j = is_long_bit_string b (i + 1) (j - 1 - (i + 1))

  -- a sign, and one or more bytes of a kind behind it
  pub record IsMarked (sign : ℕ) (p : ℕ → Bool) (i j : ℕ) : Type 0 where
    pub some : i + 1 < j
    pub first : b i ≡ sign
    pub others : EachFrom b p (i + 1) j

  -- the bytes from i up to j are spelled as a token of this kind
  abbrev pub IsToken : Kind → ℕ → ℕ → Type 0
  IsToken Name i j = IsWord i j × (IsOneOf b reserved_words i j → ⊥) × (IsOneOf b constants i j → ⊥)
  IsToken Reserved i j = IsOneOf b reserved_words i j
  IsToken Integer i j = IsInteger b i j
  IsToken Wide i j = IsWide b i j ⊎ (IsText i j × (is_wide_text i j ≡ true))
  IsToken Decimal i j = IsDecimal b i j
  IsToken Timing i j = IsTiming b i j
  IsToken Imaginary i j = IsImaginary b i j
  IsToken Text i j = IsText i j × (is_wide_text i j ≡ false)
  IsToken Hardware i j = IsMarked 36 is_digit i j
  IsToken Hash i j = IsMarked 35 is_letter i j
  IsToken Symbol i j = IsOneOf b symbols i j
  IsToken Constant i j = IsOneOf b constants i j
  IsToken Euler i j = IsOneOf b euler_signs i j
  IsToken End i j = ⊥

  -- it is a token, and none of any kind that begins there is longer
  pub record LongestToken (k : Kind) (i j : ℕ) : Type 0 where
    pub token : IsToken k i j
    pub longest : (k' : Kind) (j' : ℕ) → IsToken k' i j' → j' ≤ j

  -- no token begins here; a text that isn't closed is no token
  abbrev pub NoToken : ℕ → Type 0
  NoToken i = (k : Kind) (j : ℕ) → IsToken k i j → ⊥

  -- j is the first place from i on where these bytes stand
  pub record FirstAt (xs : List ℕ) (i j : ℕ) : Type 0 where
    pub ahead : i ≤ j
    pub here : stands b xs j ≡ true
    pub none : (k : ℕ) → i ≤ k → k < j → stands b xs k ≡ false

  -- j is the end of the line of i, or of the text
  pub record IsLineEnd (end i j : ℕ) : Type 0 where
    pub ahead : i ≤ j
    pub within : j ≤ end
    pub none : (k : ℕ) → i ≤ k → k < j → eqb (b k) 10 ≡ false
    pub stop : (b j ≡ 10) ⊎ (j ≡ end)

  -- a blank, or a comment, from i up to j
  abbrev pub IsGap : ℕ → ℕ → ℕ → Type 0
  IsGap end i j = ((is_blank (b i) ≡ true) × (j ≡ i + 1))
      ⊎ (((stands b (codes "//") i ≡ true) × IsLineEnd end (i + 2) j)
      ⊎ ((stands b (codes "/*") i ≡ true) × ((m : ℕ) × FirstAt (codes "*/") (i + 2) m × (j ≡ m + 2))))

  -- no blank and no comment begins here
  pub record IsSolid (i : ℕ) : Type 0 where
    pub no_blank : is_blank (b i) ≡ false
    pub no_line : stands b (codes "//") i ≡ false
    pub no_comment : stands b (codes "/*") i ≡ false

  -- a comment begins here that isn't closed
  pub record IsUnclosed (i : ℕ) : Type 0 where
    pub opening : stands b (codes "/*") i ≡ true
    pub never : (k : ℕ) → i + 2 ≤ k → stands b (codes "*/") k ≡ false

  -- lines count from 1, and a line feed ends its line
  abbrev pub line_of : ℕ → ℕ
  line_of zero = 1
  line_of (suc i) = if eqb (b i) 10 then line_of i + 1 else line_of i

  -- columns count characters from 1; the bytes 128 to 191 go on with a character
  abbrev pub column_of : ℕ → ℕ
  column_of zero = 1
  column_of (suc i) = if eqb (b i) 10 then 1 else (if leb 128 (b i) && leb (b i) 191 then column_of i else column_of i + 1)

  abbrev pub place_of : ℕ → ℕ → Place
  place_of file i = record { file = file; line = line_of i; column = column_of i }

  abbrev pub token_of : ℕ → Kind → ℕ → ℕ → Token
  token_of file k i j = record { kind = k; start = i; end = j; place = place_of file i }

  -- the text from i up to its end gives these tokens
  pub data Lexes (file end : ℕ) : ℕ → List Token → Type 0 where
    stop : {i : ℕ} → end ≤ i → Lexes file end i (token_of file End i i ∷ [])
    gap : {i : ℕ} {rest : List Token} (j : ℕ) → i < end → IsGap end i j → Lexes file end j rest → Lexes file end i rest
    token : {i : ℕ} {rest : List Token} (k : Kind) (j : ℕ) → i < end → IsSolid i → LongestToken k i j → Lexes file end j rest → Lexes file end i (token_of file k i j ∷ rest)

  -- from i on, p is the first place where a comment begins that isn't closed, or where no token begins
  pub data Fails (end : ℕ) : ℕ → ℕ → Type 0 where
    open_comment : {i : ℕ} → i < end → IsUnclosed i → Fails end i i
    no_token : {i : ℕ} → i < end → IsSolid i → NoToken i → Fails end i i
    behind_gap : {i p : ℕ} (j : ℕ) → i < end → IsGap end i j → Fails end j p → Fails end i p
    behind_token : {i p : ℕ} (k : Kind) (j : ℕ) → i < end → IsSolid i → LongestToken k i j → Fails end j p → Fails end i p

-- the text gives these tokens
abbrev pub GivesTokens : List ℕ → ℕ → List Token → Type 0
GivesTokens text file tokens = Lexes (byte text) file (length text) 0 tokens

-- the text gives no tokens, and this is the place of the first character that is to blame
abbrev pub FailsAt : List ℕ → ℕ → Place → Type 0
FailsAt text file place = (p : ℕ) × Fails (byte text) (length text) 0 p × (place ≡ place_of (byte text) file p)

-- the span of each token is in order and within so many bytes
abbrev pub AreWithin : ℕ → List Token → Type 0
AreWithin end [] = Unit {0}
AreWithin end (t ∷ ts) = (t.start ≤ t.end) × (t.end ≤ end) × AreWithin end ts

-- the last token is of kind End and empty at this place, and no other is of kind End
abbrev pub EndsAt : ℕ → List Token → Type 0
EndsAt end [] = ⊥
EndsAt end (t ∷ []) = (t.kind ≡ End) × (t.start ≡ end) × (t.end ≡ end)
EndsAt end (t ∷ u ∷ ts) = (t.kind ≡ End → ⊥) × EndsAt end (u ∷ ts)
