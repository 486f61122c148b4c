-- The longest token where a word, a text, a marked one or a sign begins.
use Rattle.std.proofs.Common.{◌≡◌, ℕ, ◌+◌, ◌-◌, ◌≤◌, ◌<◌, inl, inr, true, false, ◌||◌, eqb, List, refl, ap, arith}
use Rattle.qt_lex.specs.declared.tokens.Kind.{Kind}
use Rattle.qt_lex.specs.declared.tokens.Kind.TheVariants.{Name, Reserved, Integer, Wide, Decimal, Timing, Imaginary, Text, Hardware, Hash, Symbol, Constant, Euler, End}
use Rattle.qt_lex.specs.Bytes.{is_digit, is_letter, is_name_start, is_name_byte, is_quote, reserved_words, constants, euler_signs, symbols, IsOneOf, longest_in, EachFrom}
use Rattle.qt_lex.specs.Tokens.{IsText, is_wide_text, IsToken, LongestToken, NoToken}
use Rattle.qt_lex.proofs.Tables.{or_cases, or_no_left, eqb_same, compare, head_of_one, word_of_one, longest_stands, longest_bounds, run_ends}
use Rattle.qt_lex.proofs.Heads.{may_begin_number, quote_no_whole, head, head_word, head_quote, whole_head, decimal_head, plain_head, other}

module _ (b : ℕ → ℕ) where
  word_bounds : (i e : ℕ) → i < e → is_name_start (b i) ≡ true → is_name_byte (b e) ≡ false → (k : Kind) (j : ℕ) → IsToken b k i j → j ≤ e
  word_bounds i e lt s stop Name j h = run_ends b is_name_byte (i + 1) e j (omega (arith, lt)) stop h.0.others
  word_bounds i e lt s stop Reserved j h = run_ends b is_name_byte (i + 1) e j (omega (arith, lt)) stop (word_of_one b reserved_words i j refl s h)
  word_bounds i e lt s stop Constant j h = run_ends b is_name_byte (i + 1) e j (omega (arith, lt)) stop (word_of_one b constants i j refl s h)
  word_bounds i e lt s stop k j h = absurd (other b k 0 i j refl (head_word (b i) s) h)

  pub reserved_is : (i e n : ℕ) → i < e → is_name_start (b i) ≡ true → is_name_byte (b e) ≡ false → n ≡ longest_in b reserved_words i → n ≡ e - i → LongestToken b Reserved i e
  reserved_is i e n lt s stop f g = record {
    token = longest_stands b reserved_words i n e f (omega (arith, lt, g)) (omega (arith, lt, g));
    longest = word_bounds i e lt s stop;
  }

  pub constant_is : (i e n : ℕ) → i < e → is_name_start (b i) ≡ true → is_name_byte (b e) ≡ false → n ≡ longest_in b constants i → n ≡ e - i → LongestToken b Constant i e
  constant_is i e n lt s stop f g = record {
    token = longest_stands b constants i n e f (omega (arith, lt, g)) (omega (arith, lt, g));
    longest = word_bounds i e lt s stop;
  }

  pub name_is : (i e n m : ℕ) → i < e → is_name_start (b i) ≡ true → EachFrom b is_name_byte (i + 1) e → is_name_byte (b e) ≡ false
      → n ≡ longest_in b reserved_words i → (n ≡ e - i → ⊥) → m ≡ longest_in b constants i → (m ≡ e - i → ⊥) → LongestToken b Name i e
  name_is i e n m lt s all stop f g f' g' = record {
    token = (record { some = lt; first = s; others = all }, no_reserved, no_constant);
    longest = word_bounds i e lt s stop;
  }
    where
      no_reserved : IsOneOf b reserved_words i e → ⊥
      no_reserved h =
          let x : e ≤ i + n = longest_bounds b reserved_words i n (i + n) e f refl h in
          let y : i + n ≤ e = word_bounds i e lt s stop Reserved (i + n) (longest_stands b reserved_words i n (i + n) f (omega (arith, lt, x)) refl) in
          g (omega (arith, x, y))

      no_constant : IsOneOf b constants i e → ⊥
      no_constant h =
          let x : e ≤ i + m = longest_bounds b constants i m (i + m) e f' refl h in
          let y : i + m ≤ e = word_bounds i e lt s stop Constant (i + m) (longest_stands b constants i m (i + m) f' (omega (arith, lt, x)) refl) in
          g' (omega (arith, x, y))

  text_bound : (i j k : ℕ) → IsText b i j → IsText b i k → k < j → ⊥
  text_bound i j k h g lt =
      let z : (eqb (b (k - 1)) (b i) || eqb (b (k - 1)) 10) ≡ false = h.inside (k - 1) (omega (arith, g.some)) (omega (arith, lt, g.some)) in
      let u : eqb (b (k - 1)) (b i) ≡ false = or_no_left _ (eqb (b (k - 1)) 10) z in
      let v : b (k - 1) ≡ b i = g.closed in
      grind (arith, u, v)

  pub text_one : (i j k : ℕ) → IsText b i j → IsText b i k → k ≡ j
  text_one i j k h g = elim (compare k j) [
    | inl lt ↦ absurd (text_bound i j k h g lt)
    | inr t ↦ elim t [ inl e ↦ e | inr lt ↦ absurd (text_bound i k j g h lt) ]
  ]

  text_bounds : (i j : ℕ) → IsText b i j → (k : Kind) (j' : ℕ) → IsToken b k i j' → j' ≤ j
  text_bounds i j t Text j' h = let e : j' ≡ j = text_one i j j' t h.0 in omega (arith, e)
  text_bounds i j t Wide j' (inl (r, s, w, le)) = absurd (quote_no_whole b r s i j' t.quote w)
  text_bounds i j t Wide j' (inr h) = let e : j' ≡ j = text_one i j j' t h.0 in omega (arith, e)
  text_bounds i j t k j' h = absurd (other b k 2 i j' refl (head_quote (b i) t.quote) h)

  pub text_is : (i j : ℕ) → IsText b i j → is_wide_text b i j ≡ false → LongestToken b Text i j
  text_is i j t short = record { token = (t, short); longest = text_bounds i j t }

  pub wide_text_is : (i j : ℕ) → IsText b i j → is_wide_text b i j ≡ true → LongestToken b Wide i j
  wide_text_is i j t long = record { token = inr (t, long); longest = text_bounds i j t }

  pub no_text : (i : ℕ) → is_quote (b i) ≡ true → ((j : ℕ) → IsText b i j → ⊥) → NoToken b i
  no_text i q none Text j h = none j h.0
  no_text i q none Wide j (inl (r, s, w, le)) = quote_no_whole b r s i j q w
  no_text i q none Wide j (inr h) = none j h.0
  no_text i q none k j h = other b k 2 i j refl (head_quote (b i) q) h

  pub hardware_is : (i e : ℕ) → b i ≡ 36 → i + 1 < e → EachFrom b is_digit (i + 1) e → is_digit (b e) ≡ false → LongestToken b Hardware i e
  hardware_is i e f lt all stop = record { token = record { some = lt; first = f; others = all }; longest = bound }
    where
      bound : (k : Kind) (j' : ℕ) → IsToken b k i j' → j' ≤ e
      bound Hardware j' h = run_ends b is_digit (i + 1) e j' (omega (arith, lt)) stop h.others
      bound k j' h = absurd (other b k 3 i j' refl (ap head f) h)

  pub no_hardware : (i : ℕ) → b i ≡ 36 → is_digit (b (i + 1)) ≡ false → NoToken b i
  no_hardware i f stop Hardware j h = let g : is_digit (b (i + 1)) ≡ true = h.others (i + 1) (omega arith) h.some in cc (g, stop)
  no_hardware i f stop k j h = other b k 3 i j refl (ap head f) h

  pub hash_is : (i e : ℕ) → b i ≡ 35 → i + 1 < e → EachFrom b is_letter (i + 1) e → is_letter (b e) ≡ false → LongestToken b Hash i e
  hash_is i e f lt all stop = record { token = record { some = lt; first = f; others = all }; longest = bound }
    where
      bound : (k : Kind) (j' : ℕ) → IsToken b k i j' → j' ≤ e
      bound Hash j' h = run_ends b is_letter (i + 1) e j' (omega (arith, lt)) stop h.others
      bound k j' h = absurd (other b k 4 i j' refl (ap head f) h)

  pub no_hash : (i : ℕ) → b i ≡ 35 → is_letter (b (i + 1)) ≡ false → NoToken b i
  no_hash i f stop Hash j h = let g : is_letter (b (i + 1)) ≡ true = h.others (i + 1) (omega arith) h.some in cc (g, stop)
  no_hash i f stop k j h = other b k 4 i j refl (ap head f) h

  pub symbol_is : (i n : ℕ) → n ≡ longest_in b symbols i → 0 < n → LongestToken b Symbol i (i + n)
  symbol_is i n e lt = record { token = token; longest = bound }
    where
      token : IsOneOf b symbols i (i + n)
      token = longest_stands b symbols i n (i + n) e lt refl

      h5 : head (b i) ≡ 5
      h5 = eqb_same _ 5 (head_of_one b (λ c. eqb (head c) 5) symbols i (i + n) refl token).0

      bound : (k : Kind) (j' : ℕ) → IsToken b k i j' → j' ≤ i + n
      bound Symbol j' h = longest_bounds b symbols i n (i + n) j' e refl h
      bound k j' h = absurd (other b k 5 i j' refl h5 h)

  pub greek_is : (i n : ℕ) → is_name_start (b i) ≡ false → n ≡ longest_in b constants i → 0 < n → LongestToken b Constant i (i + n)
  greek_is i n plain e lt = record { token = token; longest = bound }
    where
      token : IsOneOf b constants i (i + n)
      token = longest_stands b constants i n (i + n) e lt refl

      h6 : head (b i) ≡ 6
      h6 = elim (or_cases (is_name_start (b i)) (eqb (b i) 207) (head_of_one b (λ c. is_name_start c || eqb c 207) constants i (i + n) refl token).0) [
        | inl y ↦ absurd (cc (plain, y))
        | inr f ↦ ap head (eqb_same (b i) 207 f)
      ]

      bound : (k : Kind) (j' : ℕ) → IsToken b k i j' → j' ≤ i + n
      bound Constant j' h = longest_bounds b constants i n (i + n) j' e refl h
      bound k j' h = absurd (other b k 6 i j' refl h6 h)

  pub euler_is : (i n : ℕ) → n ≡ longest_in b euler_signs i → 0 < n → LongestToken b Euler i (i + n)
  euler_is i n e lt = record { token = token; longest = bound }
    where
      token : IsOneOf b euler_signs i (i + n)
      token = longest_stands b euler_signs i n (i + n) e lt refl

      h7 : head (b i) ≡ 7
      h7 = eqb_same _ 7 (head_of_one b (λ c. eqb (head c) 7) euler_signs i (i + n) refl token).0

      bound : (k : Kind) (j' : ℕ) → IsToken b k i j' → j' ≤ i + n
      bound Euler j' h = longest_bounds b euler_signs i n (i + n) j' e refl h
      bound k j' h = absurd (other b k 7 i j' refl h7 h)

  empty_table : (t : List (List ℕ)) (i j : ℕ) → 0 ≡ longest_in b t i → i < j → IsOneOf b t i j → ⊥
  empty_table t i j e lt h = let z : j ≤ i = longest_bounds b t i 0 i j e (omega arith) h in omega (arith, z, lt)

  pub no_sign : (i : ℕ) → is_name_start (b i) ≡ false → may_begin_number (b i) ≡ false → is_quote (b i) ≡ false → (eqb (b i) 36 || eqb (b i) 35) ≡ false
      → 0 ≡ longest_in b symbols i → 0 ≡ longest_in b constants i → 0 ≡ longest_in b euler_signs i → NoToken b i
  no_sign i w n q m sy co eu Name j h = let v : is_name_start (b i) ≡ true = h.0.first in cc (w, v)
  no_sign i w n q m sy co eu Reserved j h = let v : is_name_start (b i) ≡ true = (head_of_one b is_name_start reserved_words i j refl h).0 in cc (w, v)
  no_sign i w n q m sy co eu Integer j (r, s, x, y) = let v : is_digit (b i) ≡ true = whole_head b r s i j x in let u : is_digit (b i) ≡ false = or_no_left _ (eqb (b i) 46) n in cc (u, v)
  no_sign i w n q m sy co eu Wide j (inr h) = let v : is_quote (b i) ≡ true = h.0.quote in cc (q, v)
  no_sign i w n q m sy co eu Wide j (inl (r, s, x, y)) = let v : is_digit (b i) ≡ true = whole_head b r s i j x in let u : is_digit (b i) ≡ false = or_no_left _ (eqb (b i) 46) n in cc (u, v)
  no_sign i w n q m sy co eu Decimal j h = let v : may_begin_number (b i) ≡ true = decimal_head b i j h in cc (n, v)
  no_sign i w n q m sy co eu Timing j (x, p, u) = let v : may_begin_number (b i) ≡ true = plain_head b i x p in cc (n, v)
  no_sign i w n q m sy co eu Imaginary j (x, p, u) = let v : may_begin_number (b i) ≡ true = plain_head b i x p in cc (n, v)
  no_sign i w n q m sy co eu Text j h = let v : is_quote (b i) ≡ true = h.0.quote in cc (q, v)
  no_sign i w n q m sy co eu Hardware j h = let v : (eqb (b i) 36 || eqb (b i) 35) ≡ true = ap (λ t. eqb t 36 || eqb t 35) h.first in cc (m, v)
  no_sign i w n q m sy co eu Hash j h = let v : (eqb (b i) 36 || eqb (b i) 35) ≡ true = ap (λ t. eqb t 36 || eqb t 35) h.first in cc (m, v)
  no_sign i w n q m sy co eu Symbol j h = empty_table symbols i j sy (head_of_one b (λ c. true) symbols i j refl h).1 h
  no_sign i w n q m sy co eu Constant j h = empty_table constants i j co (head_of_one b (λ c. true) constants i j refl h).1 h
  no_sign i w n q m sy co eu Euler j h = empty_table euler_signs i j eu (head_of_one b (λ c. true) euler_signs i j refl h).1 h
  no_sign i w n q m sy co eu End j h = h
