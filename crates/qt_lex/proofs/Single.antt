-- The bytes of a token are spelled as one kind alone.
use Rattle.std.proofs.Common.{◌≡◌, ℕ, ◌+◌, ◌-◌, ◌^◌, ◌≤◌, ◌<◌, inl, inr, Bool, true, false, not, ◌&&◌, ◌||◌, eqb, List, [], ◌∷◌, length, refl, ◌∙◌, ap, subst, arith}
use Rattle.qt_lex.specs.declared.tokens.Kind.{Kind}
use Rattle.qt_lex.specs.declared.tokens.Kind.TheVariants.{Name, Reserved, Integer, Wide, Decimal, Timing, Imaginary, Text, Hardware, Hash, Symbol, Constant, Euler, End}
use Rattle.qt_lex.specs.declared.number.Radix.{Radix}
use Rattle.qt_lex.specs.Bytes.{is_digit, stands, reserved_words, constants, time_units, imaginary_units, IsOneOf}
use Rattle.qt_lex.specs.Numbers.{base_of, number_of, IsWhole, IsPointed, IsExponent, IsDecimal}
use Rattle.qt_lex.specs.Tokens.{IsToken}
use Rattle.qt_lex.proofs.Tables.{and_left, and_right, or_left, or_cases, not_false, eqb_same, compare}
use Rattle.qt_lex.proofs.Heads.{head, number_no_quote, quote_no_whole, head_word, head_number, head_quote, head_is, plain_head, decimal_head, whole_head, other}
use Rattle.qt_lex.proofs.Numbers.{is_hexadecimal, digit_is_hexadecimal, whole_same, whole_decimal}

abbrev pub sizes_are : (ℕ → ℕ → Bool) → List (List ℕ) → Bool
sizes_are p [] = true
sizes_are p ([] ∷ xs) = false
sizes_are p ((y ∷ ys) ∷ xs) = p y (length (y ∷ ys)) && sizes_are p xs

abbrev pub last_is : (ℕ → Bool) → ℕ → List ℕ → Bool
last_is p y [] = p y
last_is p y (x ∷ xs) = last_is p x xs

abbrev pub lasts_are : (ℕ → Bool) → List (List ℕ) → Bool
lasts_are p [] = true
lasts_are p ([] ∷ xs) = false
lasts_are p ((y ∷ ys) ∷ xs) = last_is p y ys && lasts_are p xs

-- a first byte and a length that a constant has, and no reserved word
abbrev pub is_constant_size : ℕ → ℕ → Bool
is_constant_size c n = (eqb c 112 && eqb n 2) || ((eqb c 116 && eqb n 3) || eqb c 207)

-- the last byte of a number without a unit
abbrev pub is_plain_last : ℕ → Bool
is_plain_last c = is_hexadecimal c || eqb c 46

abbrev pub is_time_last : ℕ → Bool
is_time_last c = eqb c 116 || eqb c 115

time_no_plain : (c : ℕ) → is_time_last c ≡ true → is_plain_last c ≡ true → ⊥
time_no_plain c h g = grind arith

module _ (b : ℕ → ℕ) where
  size_of_one : (p : ℕ → ℕ → Bool) (t : List (List ℕ)) (i j : ℕ) → sizes_are p t ≡ true → IsOneOf b t i j → p (b i) (j - i) ≡ true
  size_of_one p [] i j f h = absurd h
  size_of_one p ([] ∷ xs) i j f h = absurd (cc f)
  size_of_one p ((y ∷ ys) ∷ xs) i j f (inl h) =
      let e : b i ≡ y = eqb_same (b i) y (and_left _ (stands b ys (i + 1)) h.0) in
      let n : j - i ≡ length (y ∷ ys) = omega (arith, h.1) in
      ap (λ t. p t (j - i)) e ∙ ap (p y) n ∙ and_left (p y (length (y ∷ ys))) (sizes_are p xs) f
  size_of_one p ((y ∷ ys) ∷ xs) i j f (inr h) = size_of_one p xs i j (and_right (p y (length (y ∷ ys))) (sizes_are p xs) f) h

  last_stands : (p : ℕ → Bool) (y : ℕ) (ys : List ℕ) (i : ℕ) → last_is p y ys ≡ true → stands b (y ∷ ys) i ≡ true → p (b (i + length ys)) ≡ true
  last_stands p y [] i f h =
      let e : b i ≡ y = eqb_same (b i) y (and_left (eqb (b i) y) true h) in
      let n : i + 0 ≡ i = omega arith in
      ap (λ t. p (b t)) n ∙ ap p e ∙ f
  last_stands p y (x ∷ xs) i f h =
      let g : p (b (i + 1 + length xs)) ≡ true = last_stands p x xs (i + 1) f (and_right (eqb (b i) y) (stands b (x ∷ xs) (i + 1)) h) in
      let n : i + length (x ∷ xs) ≡ i + 1 + length xs = omega arith in
      ap (λ t. p (b t)) n ∙ g

  pub last_of_one : (p : ℕ → Bool) (t : List (List ℕ)) (i j : ℕ) → lasts_are p t ≡ true → IsOneOf b t i j → p (b (j - 1)) ≡ true
  last_of_one p [] i j f h = absurd h
  last_of_one p ([] ∷ xs) i j f h = absurd (cc f)
  last_of_one p ((y ∷ ys) ∷ xs) i j f (inl h) =
      let n : j - 1 ≡ i + length ys = omega (arith, h.1) in
      ap (λ t. p (b t)) n ∙ last_stands p y ys i (and_left (last_is p y ys) (lasts_are p xs) f) h.0
  last_of_one p ((y ∷ ys) ∷ xs) i j f (inr h) = last_of_one p xs i j (and_right (last_is p y ys) (lasts_are p xs) f) h

  digit_last : (c : ℕ) → is_digit c ≡ true → is_plain_last c ≡ true
  digit_last c h = grind arith

  pointed_last : (p i j : ℕ) → IsPointed b p i j → is_plain_last (b (j - 1)) ≡ true
  pointed_last p i j h = elim (compare (p + 1) j) [
    | inl lt ↦ digit_last (b (j - 1)) (h.behind (j - 1) (omega (arith, lt)) (omega (arith, lt)))
    | inr t ↦ elim t [
      | inl e ↦ (let f : j - 1 ≡ p = omega (arith, e) in let g : b (j - 1) ≡ 46 = ap b f ∙ h.point in ap is_plain_last g)
      | inr more ↦ absurd (let lt : p < j = h.within in omega (arith, lt, more))
    ]
  ]

  exponent_last : (s m j : ℕ) → IsExponent b s m j → is_plain_last (b (j - 1)) ≡ true
  exponent_last s m j h = let lt : s < j = h.some in digit_last (b (j - 1)) (h.digits (j - 1) (omega (arith, lt)) (omega (arith, lt)))

  pub whole_last : (r : Radix) (s i j : ℕ) → IsWhole b r s i j → is_plain_last (b (j - 1)) ≡ true
  whole_last r s i j w = or_left (is_hexadecimal (b (j - 1))) (eqb (b (j - 1)) 46) (digit_is_hexadecimal r (b (j - 1)) w.digits.last)

  pub decimal_last : (i j : ℕ) → IsDecimal b i j → is_plain_last (b (j - 1)) ≡ true
  decimal_last i j (inl (p, h)) = pointed_last p i j h
  decimal_last i j (inr (inl (p, m, s, h, e))) = exponent_last s m j e
  decimal_last i j (inr (inr (m, s, lt, all, e))) = exponent_last s m j e

  time_last : (m j : ℕ) → IsOneOf b time_units m j → is_plain_last (b (j - 1)) ≡ true → ⊥
  time_last m j u h = time_no_plain (b (j - 1)) (last_of_one is_time_last time_units m j refl u) h

  im_last : (m j : ℕ) → IsOneOf b imaginary_units m j → b (j - 1) ≡ 109
  im_last m j u = eqb_same (b (j - 1)) 109 (last_of_one (λ c. eqb c 109) imaginary_units m j refl u)

  im_no_plain : (m j : ℕ) → IsOneOf b imaginary_units m j → is_plain_last (b (j - 1)) ≡ true → ⊥
  im_no_plain m j u h = let g : is_plain_last 109 ≡ true = subst (λ t. is_plain_last t ≡ true) (im_last m j u) h in cc g

  im_no_time : (m n j : ℕ) → IsOneOf b imaginary_units m j → IsOneOf b time_units n j → ⊥
  im_no_time m n j u v = let g : is_time_last 109 ≡ true = subst (λ t. is_time_last t ≡ true) (im_last m j u) (last_of_one is_time_last time_units n j refl v) in cc g

  reserved_no_constant : (i j : ℕ) → IsOneOf b reserved_words i j → IsOneOf b constants i j → ⊥
  reserved_no_constant i j h g =
      let u : is_constant_size (b i) (j - i) ≡ true = size_of_one is_constant_size constants i j refl g in
      let v : is_constant_size (b i) (j - i) ≡ false = not_false _ (size_of_one (λ c n. not (is_constant_size c n)) reserved_words i j refl h) in
      cc (u, v)

  narrow_no_wide : (r : Radix) (s : ℕ) (q : Radix) (t i j : ℕ) → IsWhole b r s i j → IsWhole b q t i j
      → number_of b (base_of r) s (j - s) < 2 ^ 64 → 2 ^ 64 ≤ number_of b (base_of q) t (j - t) → ⊥
  narrow_no_wide r s q t i j w v lt le =
      let e : (q ≡ r) × (t ≡ s) = whole_same b r s q t i j w v in
      let f : 2 ^ 64 ≤ number_of b (base_of r) s (j - s) = subst (λ y. 2 ^ 64 ≤ number_of b (base_of r) y (j - y)) e.1 (subst (λ y. 2 ^ 64 ≤ number_of b (base_of y) t (j - t)) e.0 le) in
      omega (arith, lt, f)

  whole_there : (r : Radix) (s i j : ℕ) → IsWhole b r s i j → head (b i) ≡ 1
  whole_there r s i j w = head_number (b i) (or_left (is_digit (b i)) (eqb (b i) 46) (whole_head b r s i j w))

  name_only : (i j : ℕ) (k : Kind) → IsToken b Name i j → IsToken b k i j → Name ≡ k
  name_only i j Name h g = refl
  name_only i j Reserved h g = absurd (h.1 g)
  name_only i j Constant h g = absurd (h.2 g)
  name_only i j k h g = absurd (other b k 0 i j refl (head_word (b i) h.0.first) g)

  reserved_only : (i j : ℕ) (k : Kind) → IsToken b Reserved i j → IsToken b k i j → Reserved ≡ k
  reserved_only i j Name h g = absurd (g.1 h)
  reserved_only i j Reserved h g = refl
  reserved_only i j Constant h g = absurd (reserved_no_constant i j h g)
  reserved_only i j k h g = absurd (other b k 0 i j refl (eqb_same (head (b i)) 0 (head_is b Reserved i j h)) g)

  constant_only : (i j : ℕ) (k : Kind) → IsToken b Constant i j → IsToken b k i j → Constant ≡ k
  constant_only i j Name h g = absurd (g.2 h)
  constant_only i j Reserved h g = absurd (reserved_no_constant i j g h)
  constant_only i j Constant h g = refl
  constant_only i j k h g = elim (or_cases (eqb (head (b i)) 0) (eqb (head (b i)) 6) (head_is b Constant i j h)) [
    | inl e ↦ absurd (other b k 0 i j refl (eqb_same (head (b i)) 0 e) g)
    | inr e ↦ absurd (other b k 6 i j refl (eqb_same (head (b i)) 6 e) g)
  ]

  integer_only : (i j : ℕ) (k : Kind) → IsToken b Integer i j → IsToken b k i j → Integer ≡ k
  integer_only i j Integer h g = refl
  integer_only i j Wide (r, s, w, lt) (inr g) = absurd (quote_no_whole b r s i j g.0.quote w)
  integer_only i j Wide (r, s, w, lt) (inl (q, t, v, le)) = absurd (narrow_no_wide r s q t i j w v lt le)
  integer_only i j Decimal (r, s, w, lt) g = absurd (let x : j < j = (whole_decimal b r s i j j w g).0 in omega (arith, x))
  integer_only i j Timing (r, s, w, lt) (m, p, u) = absurd (time_last m j u (whole_last r s i j w))
  integer_only i j Imaginary (r, s, w, lt) (m, p, u) = absurd (im_no_plain m j u (whole_last r s i j w))
  integer_only i j k (r, s, w, lt) g = absurd (other b k 1 i j refl (whole_there r s i j w) g)

  wide_only : (i j : ℕ) (k : Kind) → IsToken b Wide i j → IsToken b k i j → Wide ≡ k
  wide_only i j Integer (inr h) (r, s, w, lt) = absurd (quote_no_whole b r s i j h.0.quote w)
  wide_only i j Integer (inl (q, t, v, le)) (r, s, w, lt) = absurd (narrow_no_wide r s q t i j w v lt le)
  wide_only i j Wide h g = refl
  wide_only i j Text (inl (r, s, w, lt)) g = absurd (quote_no_whole b r s i j g.0.quote w)
  wide_only i j Text (inr h) g = let x = h.1 in let y = g.1 in absurd (cc (x, y))
  wide_only i j Decimal (inl (r, s, w, lt)) g = absurd (let x : j < j = (whole_decimal b r s i j j w g).0 in omega (arith, x))
  wide_only i j Timing (inl (r, s, w, lt)) (m, p, u) = absurd (time_last m j u (whole_last r s i j w))
  wide_only i j Imaginary (inl (r, s, w, lt)) (m, p, u) = absurd (im_no_plain m j u (whole_last r s i j w))
  wide_only i j k (inl (r, s, w, lt)) g = absurd (other b k 1 i j refl (whole_there r s i j w) g)
  wide_only i j k (inr h) g = absurd (other b k 2 i j refl (head_quote (b i) h.0.quote) g)

  decimal_only : (i j : ℕ) (k : Kind) → IsToken b Decimal i j → IsToken b k i j → Decimal ≡ k
  decimal_only i j Integer h (r, s, w, lt) = absurd (let x : j < j = (whole_decimal b r s i j j w h).0 in omega (arith, x))
  decimal_only i j Wide h (inr g) = absurd (number_no_quote (b i) (decimal_head b i j h) g.0.quote)
  decimal_only i j Wide h (inl (r, s, w, lt)) = absurd (let x : j < j = (whole_decimal b r s i j j w h).0 in omega (arith, x))
  decimal_only i j Decimal h g = refl
  decimal_only i j Timing h (m, p, u) = absurd (time_last m j u (decimal_last i j h))
  decimal_only i j Imaginary h (m, p, u) = absurd (im_no_plain m j u (decimal_last i j h))
  decimal_only i j k h g = absurd (other b k 1 i j refl (head_number (b i) (decimal_head b i j h)) g)

  timing_only : (i j : ℕ) (k : Kind) → IsToken b Timing i j → IsToken b k i j → Timing ≡ k
  timing_only i j Integer (m, p, u) (r, s, w, lt) = absurd (time_last m j u (whole_last r s i j w))
  timing_only i j Wide (m, p, u) (inr g) = absurd (number_no_quote (b i) (plain_head b i m p) g.0.quote)
  timing_only i j Wide (m, p, u) (inl (r, s, w, lt)) = absurd (time_last m j u (whole_last r s i j w))
  timing_only i j Decimal (m, p, u) g = absurd (time_last m j u (decimal_last i j g))
  timing_only i j Timing h g = refl
  timing_only i j Imaginary (m, p, u) (n, q, v) = absurd (im_no_time n m j v u)
  timing_only i j k (m, p, u) g = absurd (other b k 1 i j refl (head_number (b i) (plain_head b i m p)) g)

  imaginary_only : (i j : ℕ) (k : Kind) → IsToken b Imaginary i j → IsToken b k i j → Imaginary ≡ k
  imaginary_only i j Integer (m, p, u) (r, s, w, lt) = absurd (im_no_plain m j u (whole_last r s i j w))
  imaginary_only i j Wide (m, p, u) (inr g) = absurd (number_no_quote (b i) (plain_head b i m p) g.0.quote)
  imaginary_only i j Wide (m, p, u) (inl (r, s, w, lt)) = absurd (im_no_plain m j u (whole_last r s i j w))
  imaginary_only i j Decimal (m, p, u) g = absurd (im_no_plain m j u (decimal_last i j g))
  imaginary_only i j Timing (m, p, u) (n, q, v) = absurd (im_no_time m n j u v)
  imaginary_only i j Imaginary h g = refl
  imaginary_only i j k (m, p, u) g = absurd (other b k 1 i j refl (head_number (b i) (plain_head b i m p)) g)

  text_only : (i j : ℕ) (k : Kind) → IsToken b Text i j → IsToken b k i j → Text ≡ k
  text_only i j Text h g = refl
  text_only i j Wide h (inl (r, s, w, lt)) = absurd (quote_no_whole b r s i j h.0.quote w)
  text_only i j Wide h (inr g) = let x = h.1 in let y = g.1 in absurd (cc (x, y))
  text_only i j k h g = absurd (other b k 2 i j refl (head_quote (b i) h.0.quote) g)

  hardware_only : (i j : ℕ) (k : Kind) → IsToken b Hardware i j → IsToken b k i j → Hardware ≡ k
  hardware_only i j Hardware h g = refl
  hardware_only i j k h g = absurd (other b k 3 i j refl (ap head h.first) g)

  hash_only : (i j : ℕ) (k : Kind) → IsToken b Hash i j → IsToken b k i j → Hash ≡ k
  hash_only i j Hash h g = refl
  hash_only i j k h g = absurd (other b k 4 i j refl (ap head h.first) g)

  symbol_only : (i j : ℕ) (k : Kind) → IsToken b Symbol i j → IsToken b k i j → Symbol ≡ k
  symbol_only i j Symbol h g = refl
  symbol_only i j k h g = absurd (other b k 5 i j refl (eqb_same (head (b i)) 5 (head_is b Symbol i j h)) g)

  euler_only : (i j : ℕ) (k : Kind) → IsToken b Euler i j → IsToken b k i j → Euler ≡ k
  euler_only i j Euler h g = refl
  euler_only i j k h g = absurd (other b k 7 i j refl (eqb_same (head (b i)) 7 (head_is b Euler i j h)) g)

  pub kind_one : (i j : ℕ) (k q : Kind) → IsToken b k i j → IsToken b q i j → k ≡ q
  kind_one i j Name q h g = name_only i j q h g
  kind_one i j Reserved q h g = reserved_only i j q h g
  kind_one i j Integer q h g = integer_only i j q h g
  kind_one i j Wide q h g = wide_only i j q h g
  kind_one i j Decimal q h g = decimal_only i j q h g
  kind_one i j Timing q h g = timing_only i j q h g
  kind_one i j Imaginary q h g = imaginary_only i j q h g
  kind_one i j Text q h g = text_only i j q h g
  kind_one i j Hardware q h g = hardware_only i j q h g
  kind_one i j Hash q h g = hash_only i j q h g
  kind_one i j Symbol q h g = symbol_only i j q h g
  kind_one i j Constant q h g = constant_only i j q h g
  kind_one i j Euler q h g = euler_only i j q h g
  kind_one i j End q h g = absurd h
