-- Where a lexeme stands by itself and a byte follows that doesn't go on with it, it is the longest token.
use Rattle.std.proofs.Common.{◌≡◌, ℕ, ◌+◌, ◌≤◌, ◌<◌, inl, inr, true, false, not, ◌&&◌, eqb, List, [], ◌∷◌, Some, length, codes, refl, sym, ◌∙◌, subst, arith}
use Rattle.qt_lex.specs.declared.tokens.Kind.{Kind}
use Rattle.qt_lex.specs.declared.tokens.Kind.TheVariants.{Name, Reserved, Integer, Decimal, Text, Symbol, Constant}
use Rattle.qt_lex.specs.declared.number.Radix.{Radix}
use Rattle.qt_lex.specs.declared.number.Radix.TheVariants as radix
use Rattle.qt_lex.specs.Bytes.{byte, is_digit, is_name_byte, is_name_start, is_blank, symbols, reserved_words, constants, stands, IsOneOf, EachFrom}
use Rattle.qt_lex.specs.Numbers.{is_exponent_sign, is_sign, goes_on, IsWhole, IsInteger, IsExponent, IsDecimal}
use Rattle.qt_lex.specs.Tokens.{IsToken, LongestToken, IsSolid}
use Rattle.qt_lex.specs.Answers.{IsPreferred, IsLongestExponent, IsLongestDecimal}
use Rattle.qt_lex.proofs.Tables.{and_left, and_right, or_left, not_false, eqb_same, compare, head_of_one, word_of_one, run_ends}
use Rattle.qt_lex.proofs.Heads.{head, head_word, whole_head, decimal_head, other}
use Rattle.qt_lex.proofs.Words.{text_is}
use Rattle.qt_lex.proofs.Numbers.{is_mark, prefix_is, mark_stops, whole_decimal}
use Rattle.qt_lex.proofs.Decimals.{unpointed_longest, pointed_longest, fraction_longest}
use Rattle.qt_lex.proofs.LongestToken.{decimal_is, whole_is}
use Rattle.qt_lex.proofs.Spans.{token_some}
use Rattle.qt_round_trip.proofs.relexing.Agreeing.{exponent_some, one_back, test_there, each_there, integer_there, decimal_there, text_there, wide_there, stands_byte}
use Rattle.qt_round_trip.proofs.lexemes.Tables.{among}
use Rattle.qt_round_trip.proofs.relexing.Following.{continues, no_name_byte, no_digit, no_decimal_byte, no_mark, no_exponent, no_t, stops, no_time_unit, no_imaginary_unit, name_is_solid, number_is_solid, quote_is_solid, solid_by_byte, none_of, nexts, next, ends_symbol, begins, one_of, none_longer, no_opening}

sign_no_digit : (c : ℕ) → is_exponent_sign c ≡ true → is_digit c ≡ false
sign_no_digit c h = grind arith

plus_no_digit : (c : ℕ) → is_sign c ≡ true → is_digit c ≡ true → ⊥
plus_no_digit c h g = grind arith

sign_no_point : (c : ℕ) → is_exponent_sign c ≡ true → c ≡ 46 → ⊥
sign_no_point c h g = grind arith

module _ (b : ℕ → ℕ) where
  -- no token that begins with a lexeme is longer than the lexeme
  word_bounds : (i e : ℕ) → i < e → is_name_start (b i) ≡ true → is_name_byte (b e) ≡ false → (k : Kind) (j : ℕ) → IsToken b k i j → j ≤ e
  word_bounds i e lt s stop Name j h = run_ends b is_name_byte (i + 1) e j (omega (arith, lt)) stop h.0.others
  word_bounds i e lt s stop Reserved j h = run_ends b is_name_byte (i + 1) e j (omega (arith, lt)) stop (word_of_one b reserved_words i j refl s h)
  word_bounds i e lt s stop Constant j h = run_ends b is_name_byte (i + 1) e j (omega (arith, lt)) stop (word_of_one b constants i j refl s h)
  word_bounds i e lt s stop k j h = absurd (other b k 0 i j refl (head_word (b i) s) h)

  -- ---- whole numbers

  preferred : (r : Radix) (s i e : ℕ) → IsWhole b r s i e → continues (b e) ≡ false → IsPreferred b i r
  preferred r s i e w stop q t p d = elim (prefix_is b q i t p) [
    | inl f ↦ inr f.0
    | inr x ↦ elim (prefix_is b r i s w.prefix) [
      | inl g ↦ absurd (behind_zero g.0 g.1 x.mark)
      | inr y ↦ inl (let f : Some q ≡ Some r = sym x.says ∙ y.says in cc f)
    ]
  ]
    where
      behind_zero : r ≡ radix.Decimal → s ≡ i → is_mark (b (i + 1)) ≡ true → ⊥
      behind_zero f g m =
          let lt : s < e = w.digits.some in
          elim (compare (i + 1) e) [
            | inl more ↦ mark_stops b (i + 1) m (subst (λ t. goes_on b t (i + 1) ≡ true) f (w.digits.each (i + 1) (omega (arith, g)) more))
            | inr t ↦ elim t [
              | inl z ↦ no_mark (b e) stop (subst (λ t. is_mark (b t) ≡ true) z m)
              | inr more ↦ omega (arith, more, lt, g)
            ]
          ]

  pub integer_longest : (i e : ℕ) → IsInteger b i e → continues (b e) ≡ false → LongestToken b Integer i e
  integer_longest i e (r, s, w, small) stop =
      whole_is b r s i e Integer Integer e (or_left _ _ (whole_head b r s i e w)) (λ t d. no_decimal_byte (b e) stop (whole_decimal b r s i e t w d).1)
      w (stops b r e stop) (preferred r s i e w stop) (λ h. no_t (b e) stop h.2) (r, s, w, small) (inr (inr (refl, refl))) (omega arith)
      (λ t u. absurd (no_time_unit b e t stop u)) (λ t u. absurd (no_imaginary_unit b e t stop u))

  -- ---- decimal numbers

  start_same : (s t m j k : ℕ) → IsExponent b s m j → IsExponent b t m k → t ≡ s
  start_same s t m j k x y = elim x.start [
    | inl e ↦ elim y.start [
      | inl f ↦ omega (arith, e, f)
      | inr f ↦ absurd (plus_no_digit (b (m + 1)) f.0 (subst (λ z. is_digit (b z) ≡ true) e (x.digits s (omega arith) x.some)))
    ]
    | inr e ↦ elim y.start [
      | inl f ↦ absurd (plus_no_digit (b (m + 1)) e.0 (subst (λ z. is_digit (b z) ≡ true) f (y.digits t (omega arith) y.some)))
      | inr f ↦ f.1 ∙ sym e.1
    ]
  ]

  exponent_longest : (s m e : ℕ) → IsExponent b s m e → is_digit (b e) ≡ false → IsLongestExponent b m e
  exponent_longest s m e x stop t k y =
      let same : t ≡ s = start_same s t m e k x y in
      let lt : t < k = y.some in
      let less : s < e = x.some in
      (run_ends b is_digit t e k (omega (arith, same, less)) stop y.digits, λ lt'. x.digits k (omega (arith, same, lt)) lt')

  longest_decimal : (i e : ℕ) → IsDecimal b i e → continues (b e) ≡ false → IsLongestDecimal b i e
  longest_decimal i e (inl (p, h)) stop =
      let lt : p < e = h.within in
      fraction_longest b i p e h.ahead h.before h.point (omega (arith, lt)) h.behind (no_digit (b e) stop) (λ s k x. no_exponent (b e) stop x.head)
  longest_decimal i e (inr (inl (p, m, s, h, x))) stop =
      let lt : p < m = h.within in
      pointed_longest b i p m e h.ahead h.before h.point (omega (arith, lt)) h.behind (sign_no_digit (b m) x.head) (exponent_some b s m e x) x.head
      (exponent_longest s m e x (no_digit (b e) stop))
  longest_decimal i e (inr (inr (m, s, lt, all, x))) stop =
      unpointed_longest b i m e (omega (arith, lt)) all (sign_no_digit (b m) x.head) (sign_no_point (b m) x.head) (exponent_longest s m e x (no_digit (b e) stop))

  pub decimal_longest : (i e : ℕ) → IsDecimal b i e → continues (b e) ≡ false → LongestToken b Decimal i e
  decimal_longest i e d stop =
      decimal_is b i e Decimal e (decimal_head b i e d) d (longest_decimal i e d stop) (inr (inr (refl, refl))) (omega arith)
      (λ t u. absurd (no_time_unit b e t stop u)) (λ t u. absurd (no_imaginary_unit b e t stop u))

-- a lexeme of a kind found where it stands: no blank, no comment, and nothing longer begins there
pub record Found (b : ℕ → ℕ) (k : Kind) (i j : ℕ) : Type 0 where
  pub solid : IsSolid b i
  pub longest : LongestToken b k i j
  pub some : i < j

module _ (b : ℕ → ℕ) (text : List ℕ) (i : ℕ) (here : stands b text i ≡ true) where
  agree : (k : ℕ) → k < length text → b (i + k) ≡ byte text k
  agree k lt = stands_byte b text i k here lt

  zero_is : i + 0 ≡ i
  zero_is = omega arith

  pub name_found : IsToken (byte text) Name 0 (length text) → continues (b (i + length text)) ≡ false → Found b Name i (i + length text)
  name_found h stop = record {
    solid = solid_by_byte b i (name_is_solid (b i) first);
    longest = record { token = (record { some = some; first = first; others = others }, no_reserved, no_constant); longest = word_bounds b i (i + length text) some first (no_name_byte (b (i + length text)) stop) };
    some = some;
  }
    where
      lt : 0 < length text
      lt = h.0.some

      some : i < i + length text
      some = omega (arith, lt)

      first : is_name_start (b i) ≡ true
      first = subst (λ t. is_name_start (b t) ≡ true) zero_is (test_there (byte text) b i (length text) agree is_name_start 0 lt h.0.first)

      others : EachFrom b is_name_byte (i + 1) (i + length text)
      others = each_there (byte text) b i (length text) agree is_name_byte 1 (length text) (i + 1) (i + length text) refl refl (omega arith) h.0.others

      no_reserved : IsOneOf b reserved_words i (i + length text) → ⊥
      no_reserved g = h.1 (one_back (byte text) b i (length text) agree reserved_words 0 (length text) (omega arith) (subst (λ t. IsOneOf b reserved_words t (i + length text)) (sym zero_is) g))

      no_constant : IsOneOf b constants i (i + length text) → ⊥
      no_constant g = h.2 (one_back (byte text) b i (length text) agree constants 0 (length text) (omega arith) (subst (λ t. IsOneOf b constants t (i + length text)) (sym zero_is) g))

  pub reserved_found : among reserved_words text ≡ true → continues (b (i + length text)) ≡ false → Found b Reserved i (i + length text)
  reserved_found m stop = record {
    solid = solid_by_byte b i (name_is_solid (b i) r.0);
    longest = record { token = token; longest = word_bounds b i (i + length text) r.1 r.0 (no_name_byte (b (i + length text)) stop) };
    some = r.1;
  }
    where
      token : IsOneOf b reserved_words i (i + length text)
      token = one_of b reserved_words text i m here

      r : (is_name_start (b i) ≡ true) × (i < i + length text)
      r = head_of_one b is_name_start reserved_words i (i + length text) refl token

  -- `pi` and `tau`
  pub constant_found : among (codes "pi" ∷ codes "tau" ∷ []) text ≡ true → among constants text ≡ true → continues (b (i + length text)) ≡ false → Found b Constant i (i + length text)
  constant_found letters m stop = record {
    solid = solid_by_byte b i (name_is_solid (b i) r.0);
    longest = record { token = one_of b constants text i m here; longest = word_bounds b i (i + length text) r.1 r.0 (no_name_byte (b (i + length text)) stop) };
    some = r.1;
  }
    where
      r : (is_name_start (b i) ≡ true) × (i < i + length text)
      r = head_of_one b is_name_start (codes "pi" ∷ codes "tau" ∷ []) i (i + length text) refl (one_of b (codes "pi" ∷ codes "tau" ∷ []) text i letters here)

  pub integer_found : IsToken (byte text) Integer 0 (length text) → continues (b (i + length text)) ≡ false → Found b Integer i (i + length text)
  integer_found h stop = record { solid = solid_by_byte b i (number_is_solid (b i) (or_left _ _ first)); longest = integer_longest b i (i + length text) token stop; some = token_some b Integer i (i + length text) token }
    where
      token : IsInteger b i (i + length text)
      token = subst (λ t. IsInteger b t (i + length text)) zero_is (integer_there (byte text) b i (length text) agree 0 (length text) (omega arith) h)

      first : is_digit (b i) ≡ true
      first = let (r, s, w, small) = token in whole_head b r s i (i + length text) w

  pub decimal_found : IsToken (byte text) Decimal 0 (length text) → continues (b (i + length text)) ≡ false → Found b Decimal i (i + length text)
  decimal_found h stop = record { solid = solid_by_byte b i (number_is_solid (b i) (decimal_head b i (i + length text) token)); longest = decimal_longest b i (i + length text) token stop; some = token_some b Decimal i (i + length text) token }
    where
      token : IsDecimal b i (i + length text)
      token = subst (λ t. IsDecimal b t (i + length text)) zero_is (decimal_there (byte text) b i (length text) agree 0 (length text) (omega arith) h)

  pub text_found : IsToken (byte text) Text 0 (length text) → Found b Text i (i + length text)
  text_found h = record { solid = solid_by_byte b i (quote_is_solid (b i) token.0.quote); longest = text_is b i (i + length text) token.0 token.1; some = token_some b Text i (i + length text) token }
    where
      token : IsToken b Text i (i + length text)
      token = subst (λ t. IsToken b Text t (i + length text)) zero_is (
        text_there (byte text) b i (length text) agree 0 (length text) (omega arith) h.0,
        wide_there (byte text) b i (length text) agree 0 (length text) (omega arith) h.0.some ∙ h.1,
      )

  -- a symbol that begins with no opening of a comment
  pub symbol_found : among symbols text ≡ true → begins (codes "//") text ≡ false → begins (codes "/*") text ≡ false → ends_symbol text (b (i + length text)) ≡ true
      → Found b Symbol i (i + length text)
  symbol_found m no_line no_comment stop = record {
    solid = record { no_blank = not_false _ r.0; no_line = no_opening b (codes "//") text i no_line here ends.0; no_comment = no_opening b (codes "/*") text i no_comment here ends.1 };
    longest = record { token = token; longest = bound };
    some = r.1;
  }
    where
      token : IsOneOf b symbols i (i + length text)
      token = one_of b symbols text i m here

      r : (not (is_blank (b i)) ≡ true) × (i < i + length text)
      r = head_of_one b (λ c. not (is_blank c)) symbols i (i + length text) refl token

      is_5 : head (b i) ≡ 5
      is_5 = eqb_same _ 5 (head_of_one b (λ c. eqb (head c) 5) symbols i (i + length text) refl token).0

      bound : (k : Kind) (j : ℕ) → IsToken b k i j → j ≤ i + length text
      bound Symbol j h = none_longer b symbols text i j here (and_left (none_of (nexts symbols text) (b (i + length text))) _ stop) h
      bound k j h = absurd (other b k 5 i j refl is_5 h)

      c : ℕ
      c = b (i + length text)

      ends : (none_of (next (codes "//") text) c ≡ true) × (none_of (next (codes "/*") text) c ≡ true)
      ends = let rest : (none_of (next (codes "//") text) c && none_of (next (codes "/*") text) c) ≡ true = and_right (none_of (nexts symbols text) c) _ stop in
          (and_left (none_of (next (codes "//") text) c) _ rest, and_right (none_of (next (codes "//") text) c) _ rest)
