-- A text in quotes is printed as a text of the same inside.
use Rattle.std.proofs.Common.{◌≡◌, ℕ, suc, ◌+◌, ◌-◌, ◌≤◌, ◌<◌, ◌⊎◌, inl, inr, Bool, true, false, not, ◌&&◌, ◌||◌, eqb, leb, cond, List, [], ◌∷◌, ◌++◌, length, take, drop, refl, sym, ◌∙◌, ap, arith}
use Rattle.std.specs.List.{slice_range}
use Rattle.std.proofs.lemmas.List.{get_or_append_left, get_or-take, get_or-drop, get_or_past, length-append}
use Rattle.std.proofs.lemmas.List.Folds.{list_any_at, list_any_none}
use Rattle.std.proofs.lemmas.List.Elements.{All-from_get_or}
use Rattle.std.proofs.Math.ListN.{length-take, length-drop}
use Rattle.std.proofs.Math.Seq.{get_or-append_seam, take-append_seam}
use Rattle.std.proofs.lemmas.Bool.{le-leb, and_from, or_from}
use Rattle.qt_lex.specs.declared.number.Radix.TheVariants.{Binary}
use Rattle.qt_lex.specs.declared.tokens.Kind.TheVariants.{Text}
use Rattle.qt_lex.specs.Bytes.{byte, is_quote}
use Rattle.qt_lex.specs.Numbers.{is_digit_of}
use Rattle.qt_lex.specs.Bits.{is_long_bit_string}
use Rattle.qt_lex.specs.Tokens.{IsText, IsToken, is_wide_text}
use Rattle.qt_lex.proofs.Tables.{and_left, and_right, compare2, or_cases, or_no_left, or_no_right, eqb_same, not_true}
use Rattle.qt_terminals.specs.Literals.{is_boundary, cut, inside_quotes}
use Rattle.qt_terminals.specs.Terminals.{PlacedTerminal}
use Rattle.qt_lexemes.specs.Lexemes.{quotation}
use Rattle.qt_lexemes.specs.Literals.{in_quotes, holds_double_quote, quoted}
use Rattle.qt_round_trip.proofs.lexemes.Spelling.{IsSpelled}
use Rattle.qt_round_trip.proofs.literals.Kept.{IsQuotedAgain}
use Rattle.qt_round_trip.proofs.literals.Shifts.{quote_is_no_bit, long_same}

-- a character begins with this byte
abbrev starts : ℕ → Bool
starts c = not (leb 128 c) || leb 192 c

pub length_quoted : (q : ℕ) (xs : List ℕ) → length (in_quotes q xs) ≡ length xs + 2
length_quoted q xs = omega (arith, length-append xs (q ∷ []))

-- the bytes of a text in quotes
pub inner : (q : ℕ) (xs : List ℕ) (k : ℕ) → k < length xs → byte (in_quotes q xs) (k + 1) ≡ byte xs k
inner q xs k lt = let e : k + 1 ≡ suc k = omega arith in ap (byte (in_quotes q xs)) e ∙ get_or_append_left xs (q ∷ []) 0 k lt

pub closing : (q : ℕ) (xs : List ℕ) → byte (in_quotes q xs) (length xs + 1) ≡ q
closing q xs = let e : length xs + 1 ≡ suc (length xs) = omega arith in ap (byte (in_quotes q xs)) e ∙ get_or-append_seam xs q [] 0

-- a text without its quote and without a line feed is a text in quotes
pub is_text : (q : ℕ) (xs : List ℕ) → is_quote q ≡ true → ((k : ℕ) → k < length xs → (eqb (byte xs k) q || eqb (byte xs k) 10) ≡ false)
    → IsText (byte (in_quotes q xs)) 0 (length (in_quotes q xs))
is_text q xs quote plain =
    let t = in_quotes q xs in
    let size : length t ≡ length xs + 2 = length_quoted q xs in
    let last : length t - 1 ≡ length xs + 1 = omega arith in
    record {
      some = omega (arith, size);
      quote = quote;
      inside = λ k from below.
          let e : k ≡ (k - 1) + 1 = omega arith in
          let lt : k - 1 < length xs = omega (arith, size) in
          ap (λ z. eqb z q || eqb z 10) (ap (byte t) e ∙ inner q xs (k - 1) lt) ∙ plain (k - 1) lt;
      closed = ap (byte t) last ∙ closing q xs;
    }

-- x is the inside of the text s, or nothing
record IsInside (s x : List ℕ) : Type 0 where
  short : length x + 2 ≤ length s
  same : (k : ℕ) → k < length x → byte x k ≡ byte s (k + 1)
  start : starts (byte x 0) ≡ true
  whole : (length x ≡ 0) ⊎ (length x ≡ length s - 2)

is_inside : (s : List ℕ) → 2 ≤ length s → IsInside s (inside_quotes s)
unfolding inside_quotes cut
is_inside s some = at_test (leb 1 (length s - 1) && (is_boundary s 1 && is_boundary s (length s - 1))) refl
  where
    at_test : (v : Bool) → (leb 1 (length s - 1) && (is_boundary s 1 && is_boundary s (length s - 1))) ≡ v → IsInside s (cond v (slice_range s 1 (length s - 1)) [])
    at_test false e = record { short = some; same = λ k lt. absurd (omega (arith, lt)); start = refl; whole = inl refl }
    at_test true e =
        let x = slice_range s 1 (length s - 1) in
        let size : length x ≡ length s - 2 = omega (arith, length-take (length s - 1 - 1) (drop 1 s), length-drop 1 s) in
        let same : (k : ℕ) → k < length x → byte x k ≡ byte s (k + 1) = λ k lt.
        get_or-take (length s - 1 - 1) (drop 1 s) k 0 (omega (arith, lt, size)) ∙ get_or-drop 1 s k 0 ∙ ap (byte s) (omega arith) in
        let boundary : is_boundary s 1 ≡ true = and_left (is_boundary s 1) (is_boundary s (length s - 1)) (and_right (leb 1 (length s - 1)) _ e) in
        record {
          short = omega (arith, size);
          same = same;
          start = elim (compare2 (length x) 0) [
            | inl none ↦ ap starts (get_or_past x 0 0 none)
            | inr more ↦ ap starts (same 0 more) ∙ and_right (leb 1 (length s)) (starts (byte s 1)) boundary
          ];
          whole = inr size;
        }

-- what is printed between this quote is a text
abbrev FitsBetween : ℕ → List ℕ → Type 0
FitsBetween q x = (is_quote q ≡ true) × ((k : ℕ) → k < length x → (eqb (byte x k) q || eqb (byte x k) 10) ≡ false)

module _ (s x : List ℕ) (text : IsText (byte s) 0 (length s)) (h : IsInside s x) where
  plain : (k : ℕ) → k < length x → (eqb (byte x k) (byte s 0) || eqb (byte x k) 10) ≡ false
  plain k lt = ap (λ z. eqb z (byte s 0) || eqb z 10) (h.same k lt) ∙ text.inside (k + 1) (omega arith) (omega (arith, h.short))

  no_line : (k : ℕ) → k < length x → eqb (byte x k) 10 ≡ false
  no_line k lt = or_no_right (eqb (byte x k) (byte s 0)) _ (plain k lt)

  no_quote : (q k : ℕ) → byte s 0 ≡ q → k < length x → eqb (byte x k) q ≡ false
  no_quote q k e lt = ap (eqb (byte x k)) (sym e) ∙ or_no_left _ (eqb (byte x k) 10) (plain k lt)

  fits_between : (v : Bool) → holds_double_quote x ≡ v → FitsBetween (cond v 39 34) x
  fits_between false e = (refl, λ k lt. or_from (eqb (byte x k) 34) _ (not_true _ (λ here. let holds : holds_double_quote x ≡ true = list_any_at (λ c. eqb c 34) x k 0 lt here in cc (holds, e))) (no_line k lt))
  fits_between true e = elim (or_cases (eqb (byte s 0) 34) (eqb (byte s 0) 39) text.quote) [
    | inl double ↦
        let none : holds_double_quote x ≡ false = list_any_none (λ c. eqb c 34) x (All-from_get_or (λ c. eqb c 34 ≡ false) x 0 (λ k lt. no_quote 34 k (eqb_same (byte s 0) 34 double) lt)) in
        absurd (cc (none, e))
    | inr single ↦ (refl, λ k lt. or_from (eqb (byte x k) 39) _ (no_quote 39 k (eqb_same (byte s 0) 39 single) lt) (no_line k lt))
  ]

quote_starts : (q : ℕ) → is_quote q ≡ true → starts q ≡ true
quote_starts q h = grind arith

inside_again : (q : ℕ) (x : List ℕ) → is_quote q ≡ true → starts (byte x 0) ≡ true → inside_quotes (in_quotes q x) ≡ x
unfolding inside_quotes cut
inside_again q x quote start =
    let t = in_quotes q x in
    let size : length t ≡ length x + 2 = length_quoted q x in
    let behind : starts (byte t (length x + 1)) ≡ true = ap starts (closing q x) ∙ quote_starts q quote in
    let first : starts (byte t 1) ≡ true = elim (compare2 (length x) 0) [
      | inl none ↦ (let e : 1 ≡ length x + 1 = omega arith in ap (λ k. starts (byte t k)) e ∙ behind)
      | inr some ↦ ap starts (inner q x 0 some) ∙ start
    ] in
    let last : starts (byte t (length t - 1)) ≡ true = let e : length t - 1 ≡ length x + 1 = omega arith in ap (λ k. starts (byte t k)) e ∙ behind in
    let from : is_boundary t 1 ≡ true = and_from (leb 1 (length t)) (starts (byte t 1)) (le-leb 1 (length t) (omega arith)) first in
    let to : is_boundary t (length t - 1) ≡ true = and_from (leb (length t - 1) (length t)) (starts (byte t (length t - 1))) (le-leb (length t - 1) (length t) (omega arith)) last in
    let test : (leb 1 (length t - 1) && (is_boundary t 1 && is_boundary t (length t - 1))) ≡ true =
    and_from (leb 1 (length t - 1)) _ (le-leb 1 (length t - 1) (omega arith)) (and_from (is_boundary t 1) (is_boundary t (length t - 1)) from to) in
    let width : length t - 1 - 1 ≡ length x = omega arith in
    ap (λ v. cond v (slice_range t 1 (length t - 1)) []) test ∙ ap (λ n. take n (x ++ q ∷ [])) width ∙ take-append_seam x (q ∷ [])

-- no wide text becomes of another text
not_wide : (s x : List ℕ) (q : ℕ) → IsText (byte s) 0 (length s) → IsInside s x → is_quote q ≡ true → is_wide_text (byte s) 0 (length s) ≡ false
    → is_wide_text (byte (in_quotes q x)) 0 (length (in_quotes q x)) ≡ false
not_wide s x q text h quote short = elim h.whole [
  | inl none ↦ (let e : length t - 1 - 1 ≡ 0 = omega (arith, size) in ap (is_long_bit_string (byte t) 1) e)
  | inr all ↦
      let e : length t - 1 - 1 ≡ length x = omega (arith, size) in
      let f : length x ≡ length s - 1 - 1 = omega arith in
      let last : 1 + length x ≡ length x + 1 = omega arith in
      let end : 1 + length x ≡ length s - 1 = omega (arith, h.short) in
      let old : is_digit_of Binary (byte s (1 + length x)) ≡ false =
      ap (λ k. is_digit_of Binary (byte s k)) end ∙ ap (is_digit_of Binary) text.closed ∙ quote_is_no_bit (byte s 0) text.quote in
      let new : is_digit_of Binary (byte t (1 + length x)) ≡ false = ap (λ k. is_digit_of Binary (byte t k)) last ∙ ap (is_digit_of Binary) (closing q x) ∙ quote_is_no_bit q quote in
      let same : (k : ℕ) → k < length x → byte t (1 + k) ≡ byte s (1 + k) = λ k lt. ap (byte t) (omega arith) ∙ inner q x k lt ∙ h.same k lt ∙ ap (byte s) (omega arith) in
      ap (is_long_bit_string (byte t) 1) e ∙ long_same (byte s) (byte t) 1 1 (length x) same old new ∙ ap (is_long_bit_string (byte s) 1) f ∙ short
]
  where
    t : List ℕ
    t = in_quotes q x

    size : length t ≡ length x + 2
    size = length_quoted q x

-- what is printed of x is a text, with x inside, and no longer than s
quoted_as : (s x : List ℕ) → IsText (byte s) 0 (length s) → IsInside s x → is_wide_text (byte s) 0 (length s) ≡ false
    → IsSpelled (quotation x) × (inside_quotes (quoted x) ≡ x) × (length (quoted x) ≤ length s)
quoted_as s x text h short =
    let q = cond (holds_double_quote x) 39 34 in
    let fits : FitsBetween q x = fits_between s x text h (holds_double_quote x) refl in
    ((is_text q x fits.0 fits.1, not_wide s x q text h fits.0 short), inside_again q x fits.0 h.start, omega (arith, length_quoted q x, h.short))

-- a text in quotes keeps its inside
pub quoted_again : (t : PlacedTerminal) → IsToken (byte t.spelling) Text 0 (length t.spelling) → IsQuotedAgain t
quoted_again t h =
    let s = t.spelling in
    let (spelled, inside, short) = quoted_as s (inside_quotes s) h.0 (is_inside s (omega (arith, h.0.some))) h.1 in
    record { spelled = spelled; inside = inside; short = short }
