-- The tokens of a text begin and end between characters.
use Rattle.std.proofs.Common.{◌≡◌, ℕ, ◌+◌, ◌≤◌, ◌<◌, ◌⊎◌, inl, inr, Bool, true, not, ◌&&◌, ◌||◌, eqb, leb, cond, List, [], ◌∷◌, length, refl, ap, arith}
use Rattle.std.specs.List.{All, slice_range}
use Rattle.std.proofs.lemmas.List.Elements.{All-nil, All-cons}
use Rattle.std.proofs.lemmas.Bool.{le-leb}
use Rattle.qt_lex.specs.declared.tokens.Kind.{Kind}
use Rattle.qt_lex.specs.declared.tokens.Kind.TheVariants.{Name, Reserved, Integer, Wide, Decimal, Timing, Imaginary, Text, Hardware, Hash, Symbol, Constant, Euler, End}
use Rattle.qt_lex.specs.declared.tokens.Token.{Token}
use Rattle.qt_lex.specs.Bytes.{byte, is_digit, is_blank, is_quote, is_name_start, reserved_words, constants, euler_signs, symbols, stands}
use Rattle.qt_lex.specs.Tokens.{IsToken, IsGap, Lexes, stop, gap, token, token_of, GivesTokens}
use Rattle.qt_lex.proofs.Tables.{and_left, eqb_same, head_of_one}
use Rattle.qt_lex.proofs.Heads.{may_begin_number, whole_head, decimal_head, plain_head}
use Rattle.qt_lex.proofs.Spans.{gap_within, token_within, token_some, nothing_behind}
use Rattle.qt_terminals.specs.Literals.{is_boundary, cut}
use Rattle.qt_terminals.specs.Terminals.{spelling_of}

-- a character begins with this byte
abbrev starts : ℕ → Bool
starts c = not (leb 128 c) || leb 192 c

name_starts : (c : ℕ) → is_name_start c ≡ true → starts c ≡ true
name_starts c h = grind arith

number_starts : (c : ℕ) → may_begin_number c ≡ true → starts c ≡ true
number_starts c h = grind arith

digit_starts : (c : ℕ) → is_digit c ≡ true → starts c ≡ true
digit_starts c h = grind arith

quote_starts : (c : ℕ) → is_quote c ≡ true → starts c ≡ true
quote_starts c h = grind arith

blank_starts : (c : ℕ) → is_blank c ≡ true → starts c ≡ true
blank_starts c h = grind arith

both : (a b : Bool) → a ≡ true → b ≡ true → (a && b) ≡ true
both a b e f = cc

module _ (b : ℕ → ℕ) where
  token_first : (k : Kind) (i j : ℕ) → IsToken b k i j → starts (b i) ≡ true
  token_first Name i j h = name_starts (b i) h.0.first
  token_first Reserved i j h = (head_of_one b starts reserved_words i j refl h).0
  token_first Integer i j (r, s, w, lt) = digit_starts (b i) (whole_head b r s i j w)
  token_first Wide i j (inl (r, s, w, le)) = digit_starts (b i) (whole_head b r s i j w)
  token_first Wide i j (inr h) = quote_starts (b i) h.0.quote
  token_first Decimal i j h = number_starts (b i) (decimal_head b i j h)
  token_first Timing i j (m, p, u) = number_starts (b i) (plain_head b i m p)
  token_first Imaginary i j (m, p, u) = number_starts (b i) (plain_head b i m p)
  token_first Text i j h = quote_starts (b i) h.0.quote
  token_first Hardware i j h = ap starts h.first
  token_first Hash i j h = ap starts h.first
  token_first Symbol i j h = (head_of_one b starts symbols i j refl h).0
  token_first Constant i j h = (head_of_one b starts constants i j refl h).0
  token_first Euler i j h = (head_of_one b starts euler_signs i j refl h).0
  token_first End i j h = absurd h

  slash_starts : (i : ℕ) (xs : List ℕ) → stands b (47 ∷ xs) i ≡ true → starts (b i) ≡ true
  slash_starts i xs h = ap starts (eqb_same (b i) 47 (and_left (eqb (b i) 47) (stands b xs (i + 1)) h))

  gap_first : (end i j : ℕ) → IsGap b end i j → starts (b i) ≡ true
  gap_first end i j (inl h) = blank_starts (b i) h.0
  gap_first end i j (inr (inl h)) = slash_starts i (47 ∷ []) h.0
  gap_first end i j (inr (inr h)) = slash_starts i (42 ∷ []) h.0

  begins : (file end i : ℕ) (ts : List Token) → Lexes b file end i ts → (end ≤ i) ⊎ (starts (b i) ≡ true)
  begins file end i ts (stop ge) = inl ge
  begins file end i ts (gap j lt g h) = inr (gap_first end i j g)
  begins file end i ts (token k j lt s l h) = inr (token_first k i j l.token)

boundary : (text : List ℕ) (file i : ℕ) (ts : List Token) → i ≤ length text → Lexes (byte text) file (length text) i ts → is_boundary text i ≡ true
boundary text file i ts le h = elim (begins (byte text) file (length text) i ts h) [
  | inl ge ↦ both (leb i (length text)) (starts (byte text i)) (le-leb i (length text) le) (ap starts (nothing_behind text i ge))
  | inr first ↦ both (leb i (length text)) (starts (byte text i)) (le-leb i (length text) le) first
]

is_cut : (text : List ℕ) (i j : ℕ) → i ≤ j → is_boundary text i ≡ true → is_boundary text j ≡ true → cut text i j ≡ slice_range text i j
unfolding cut
is_cut text i j le f g = ap (λ t. cond t (slice_range text i j) []) (both (leb i j) (is_boundary text i && is_boundary text j) (le-leb i j le) (both (is_boundary text i) (is_boundary text j) f g))

pub spelling_is : (text : List ℕ) (file i j : ℕ) (k : Kind) (ts us : List Token) → i ≤ j → j ≤ length text
    → Lexes (byte text) file (length text) i ts → Lexes (byte text) file (length text) j us → spelling_of text (token_of (byte text) file k i j) ≡ slice_range text i j
unfolding spelling_of
spelling_is text file i j k ts us le within h g = is_cut text i j le (boundary text file i ts (omega arith) h) (boundary text file j us within g)

-- the spelling of a token is its slice
abbrev IsSlice : List ℕ → Token → Type 0
IsSlice text t = spelling_of text t ≡ slice_range text t.start t.end

all_slices : (text : List ℕ) (file i : ℕ) (ts : List Token) → i ≤ length text → Lexes (byte text) file (length text) i ts
    → All (IsSlice text) ts
all_slices text file i ts le (stop ge) =
    All-cons (IsSlice text) (token_of (byte text) file End i i) [] (spelling_is text file i i End ts ts (omega arith) le (stop ge) (stop ge)) (All-nil (IsSlice text))
all_slices text file i ts le (gap j lt g h) = all_slices text file j ts (gap_within (byte text) (length text) i j (nothing_behind text) lt g) h
all_slices text file i ts le (token {rest = rest} k j lt s l h) =
    let x : i < j = token_some (byte text) k i j l.token in
    let y : j ≤ length text = token_within (byte text) k (length text) i j (nothing_behind text) lt l.token in
    All-cons (IsSlice text) (token_of (byte text) file k i j) rest (spelling_is text file i j k ts rest (omega (arith, x)) y (token k j lt s l h) h) (all_slices text file j rest y h)

pub slices : (text : List ℕ) (file : ℕ) (tokens : List Token) → GivesTokens text file tokens → All (λ t. spelling_of text t ≡ slice_range text t.start t.end) tokens
slices text file tokens h = all_slices text file 0 tokens (omega arith) h
