-- Which kind of token has which terminal: names, decimal numbers and texts have a terminal of their own, and no table has one of these.
use Rattle.std.proofs.Common.{◌≡◌, ℕ, suc, ◌+◌, ◌<◌, Bool, true, false, ◌&&◌, eqb, cond, List, [], ◌∷◌, length, map, codes, Option, Some, None, is_none, inl, inr, refl, sym, ◌∙◌, ap, arith}
use Rattle.std.specs.Str.{bytes_eq}
use Rattle.std.specs.Bool.{Decides}
use Rattle.std.proofs.lemmas.Slice.Eq.{bytes_eq-Decides}
use Rattle.qt_lex.specs.declared.tokens.Kind.{Kind}
use Rattle.qt_lex.specs.declared.tokens.Kind.TheVariants as kind
use Rattle.qt_lex.specs.Bytes as bytes
use Rattle.qt_lex.specs.Bytes.{byte, stands, IsOneOf}
use Rattle.qt_lex.specs.Tokens.{IsToken}
use Rattle.qt_lex.proofs.Tables.{and_left, and_right, eqb_same}
use Rattle.qt_terminals.specs.declared.terminal.Terminal.{Terminal}
use Rattle.qt_terminals.specs.declared.terminal.Terminal.TheVariants as w
use Rattle.qt_terminals.specs.Literals.{is_bit_text}
use Rattle.qt_terminals.specs.Alphabet.{terminal_in, terminal_of, reserved_words, symbols, constants, hashes}
use Rattle.qt_round_trip.proofs.literals.Shifts.{one_of_moved}

-- the kind of token that alone has this terminal
abbrev pub kind_by : Terminal → Option Kind
kind_by w.Name = Some kind.Name
kind_by w.Decimal = Some kind.Decimal
kind_by w.Text = Some kind.Text
kind_by w.BitText = Some kind.Text
kind_by _ = None

abbrev is_fixed : Terminal → Bool
is_fixed terminal = is_none (kind_by terminal)

-- each terminal of a table is fixed
abbrev all_fixed : List (List ℕ × Terminal) → Bool
all_fixed [] = true
all_fixed (row ∷ rows) = is_fixed row.1 && all_fixed rows

-- where these bytes stand up to the end of a text, and no others, the rest of the text is these bytes
same_bytes : (b : ℕ → ℕ) (i : ℕ) (s t : List ℕ) → ((k : ℕ) → k < length s → b (i + k) ≡ byte s k) → stands b t i ≡ true → length s ≡ length t → s ≡ t
same_bytes b i [] [] same h e = refl
same_bytes b i [] (y ∷ ys) same h e = absurd (omega (arith, e))
same_bytes b i (x ∷ xs) [] same h e = absurd (omega (arith, e))
same_bytes b i (x ∷ xs) (y ∷ ys) same h e =
    let here : i + 0 ≡ i = omega arith in
    let head : x ≡ y = sym (same 0 (omega arith)) ∙ ap b here ∙ eqb_same (b i) y (and_left _ (stands b ys (i + 1)) h) in
    let tail : xs ≡ ys = same_bytes b (i + 1) xs ys (λ k lt. let there : i + 1 + k ≡ i + suc k = omega arith in ap b there ∙ same (suc k) (omega arith)) (and_right (eqb (b i) y) _ h) (omega (arith, e)) in
    ap (λ t. t ∷ xs) head ∙ ap (λ t. y ∷ t) tail

-- a text that stands in a table has a fixed terminal, whatever the others have
fixed_in : (table : List (List ℕ × Terminal)) (other : Terminal) (s : List ℕ) → all_fixed table ≡ true → IsOneOf (byte s) (map (λ row. row.0) table) 0 (length s) → is_fixed (terminal_in table other s) ≡ true
fixed_in [] other s f h = absurd h
fixed_in ((t, terminal) ∷ rest) other s f h = at_test (bytes_eq s t) (bytes_eq-Decides s t) (fixed_in rest other s (and_right (is_fixed terminal) _ f))
  where
    at_test : (v : Bool) → Decides v (s ≡ t) → (IsOneOf (byte s) (map (λ row. row.0) rest) 0 (length s) → is_fixed (terminal_in rest other s) ≡ true) → is_fixed (cond v terminal (terminal_in rest other s)) ≡ true
    at_test true same later = and_left (is_fixed terminal) (all_fixed rest) f
    at_test false differs later = elim h [
      | inl here ↦ (let no : false ≡ true = differs.1 (same_bytes (byte s) 0 s t (λ k lt. let e : 0 + k ≡ k = omega arith in ap (byte s) e) here.0 (omega (arith, here.1))) in cc no)
      | inr behind ↦ later behind
    ]

reserved_fixed : (s : List ℕ) → IsOneOf (byte s) bytes.reserved_words 0 (length s) → is_fixed (terminal_in reserved_words w.Name s) ≡ true
unfolding reserved_words
reserved_fixed s h = fixed_in reserved_words w.Name s refl h

symbol_fixed : (s : List ℕ) → IsOneOf (byte s) bytes.symbols 0 (length s) → is_fixed (terminal_in symbols w.Name s) ≡ true
unfolding symbols
symbol_fixed s h = fixed_in symbols w.Name s refl h

constant_fixed : (s : List ℕ) → IsOneOf (byte s) bytes.constants 0 (length s) → is_fixed (terminal_in constants w.Name s) ≡ true
unfolding constants
constant_fixed s h = fixed_in constants w.Name s refl h

hash_fixed : (s : List ℕ) → is_fixed (terminal_in hashes w.Hash s) ≡ true
unfolding hashes
hash_fixed s = at_test (bytes_eq s (codes "#pragma")) (bytes_eq s (codes "#dim"))
  where
    at_test : (a b : Bool) → is_fixed (cond a w.HashPragma (cond b w.HashDim w.Hash)) ≡ true
    at_test true b = refl
    at_test false true = refl
    at_test false false = refl

none_fixed : (terminal : Terminal) (q : Kind) → is_fixed terminal ≡ true → kind_by terminal ≡ Some q → ⊥
none_fixed terminal q f e = let g : is_none (kind_by terminal) ≡ false = ap is_none e in cc (f, g)

-- the kind of a token of this spelling, by its terminal
module _ (b : ℕ → ℕ) (i : ℕ) (s : List ℕ) (same : (k : ℕ) → k < length s → byte s k ≡ b (i + k)) where
  pub kind_told : (k : Kind) (q : Kind) → IsToken b k i (i + length s) → kind_by (terminal_of k s) ≡ Some q → k ≡ q
  unfolding terminal_of
  kind_told kind.Name q h e = cc e
  kind_told kind.Decimal q h e = cc e
  kind_told kind.Text q h e = at_test (is_bit_text s) e
    where
      at_test : (v : Bool) → kind_by (cond v w.BitText w.Text) ≡ Some q → kind.Text ≡ q
      at_test true e = cc e
      at_test false e = cc e
  kind_told kind.Reserved q h e = absurd (none_fixed (terminal_in reserved_words w.Name s) q (reserved_fixed s (one_of_moved b (byte s) i (length s) same bytes.reserved_words h)) e)
  kind_told kind.Symbol q h e = absurd (none_fixed (terminal_in symbols w.Name s) q (symbol_fixed s (one_of_moved b (byte s) i (length s) same bytes.symbols h)) e)
  kind_told kind.Constant q h e = absurd (none_fixed (terminal_in constants w.Name s) q (constant_fixed s (one_of_moved b (byte s) i (length s) same bytes.constants h)) e)
  kind_told kind.Hash q h e = absurd (none_fixed (terminal_in hashes w.Hash s) q (hash_fixed s) e)
  kind_told kind.Integer q h e = cc e
  kind_told kind.Wide q h e = cc e
  kind_told kind.Timing q h e = cc e
  kind_told kind.Imaginary q h e = cc e
  kind_told kind.Hardware q h e = cc e
  kind_told kind.Euler q h e = cc e
  kind_told kind.End q h e = absurd h
