-- Digits and tokens are the same wherever the same bytes stand.
use Rattle.std.proofs.Common.{◌≡◌, ℕ, zero, suc, ◌+◌, ◌-◌, ◌*◌, ◌≤◌, ◌<◌, ◌⊎◌, inl, inr, true, false, not, ◌&&◌, ◌||◌, eqb, leb, cond, List, [], ◌∷◌, length, refl, sym, ◌∙◌, ap, subst, arith}
use Rattle.qt_lex.specs.declared.number.Radix.TheVariants.{Binary}
use Rattle.qt_lex.specs.declared.tokens.Kind.TheVariants.{Name, Text}
use Rattle.qt_lex.specs.Bytes.{is_digit, is_name_start, is_name_byte, is_quote, reserved_words, constants, stands, IsOneOf}
use Rattle.qt_lex.specs.Numbers.{is_digit_of, digit_value, goes_on, number_of, is_exponent_sign, is_sign, IsPointed, IsExponent, IsDecimal}
use Rattle.qt_lex.specs.Bits.{each_goes_on, are_bits, digit_count, is_long_bit_string}
use Rattle.qt_lex.specs.Tokens.{IsWord, IsText, IsToken, is_wide_text}
use Rattle.qt_lex.proofs.Tables.{compare, compare2}

pub quote_is_no_bit : (q : ℕ) → is_quote q ≡ true → is_digit_of Binary q ≡ false
quote_is_no_bit q h = grind arith

-- the n bytes of c from place j on are those of b from place i on
module _ (b c : ℕ → ℕ) (i j n : ℕ) (same : (k : ℕ) → k < n → c (j + k) ≡ b (i + k)) where
  pub number_same : (base m : ℕ) → m ≤ n → number_of c base j m ≡ number_of b base i m
  number_same base zero le = refl
  number_same base (suc m) le =
      ap (λ t. cond (eqb t 95) (number_of c base j m) (number_of c base j m * base + digit_value t)) (same m le)
      ∙ ap (λ t. cond (eqb (b (i + m)) 95) t (t * base + digit_value (b (i + m)))) (number_same base m (omega arith))

  pub count_same : (m : ℕ) → m ≤ n → digit_count c j m ≡ digit_count b i m
  count_same zero le = refl
  count_same (suc m) le =
      ap (λ t. cond (eqb t 95) (digit_count c j m) (digit_count c j m + 1)) (same m le)
      ∙ ap (λ t. cond (eqb (b (i + m)) 95) t (t + 1)) (count_same m (omega arith))

-- the same, and no binary digit stands behind either
module _ (b c : ℕ → ℕ) (i j n : ℕ) (same : (k : ℕ) → k < n → c (j + k) ≡ b (i + k)) (old : is_digit_of Binary (b (i + n)) ≡ false) (new : is_digit_of Binary (c (j + n)) ≡ false) where
  digit_same : (m : ℕ) → m ≤ n → is_digit_of Binary (c (j + m)) ≡ is_digit_of Binary (b (i + m))
  digit_same m le = elim (compare m n) [
    | inl lt ↦ ap (is_digit_of Binary) (same m lt)
    | inr t ↦ let e : m ≡ n = elim t [ inl e ↦ e | inr lt ↦ absurd (omega arith) ] in
        subst (λ t. is_digit_of Binary (c (j + t)) ≡ is_digit_of Binary (b (i + t))) (sym e) (new ∙ sym old)
  ]

  goes_same : (m : ℕ) → m < n → goes_on c Binary (j + m) ≡ goes_on b Binary (i + m)
  goes_same m lt =
      ap (λ t. is_digit_of Binary t || (eqb t 95 && is_digit_of Binary (c (j + m + 1)))) (same m lt)
      ∙ ap (λ t. is_digit_of Binary (b (i + m)) || (eqb (b (i + m)) 95 && t))
      (ap (λ t. is_digit_of Binary (c t)) (omega arith) ∙ digit_same (m + 1) (omega arith) ∙ ap (λ t. is_digit_of Binary (b t)) (omega arith))

  each_same : (m : ℕ) → m ≤ n → each_goes_on c j m ≡ each_goes_on b i m
  each_same zero le = refl
  each_same (suc m) le = ap (λ t. t && goes_on c Binary (j + m)) (each_same m (omega arith)) ∙ ap (λ t. each_goes_on b i m && t) (goes_same m le)

  are_same : are_bits c j n ≡ are_bits b i n
  are_same = elim (compare2 n 0) [
    | inl none ↦ (let e : n ≡ 0 = omega arith in subst (λ t. are_bits c j t ≡ are_bits b i t) (sym e) refl)
    | inr some ↦
        ap (λ t. not (eqb n 0) && (t && (each_goes_on c j n && is_digit_of Binary (c (j + n - 1))))) (ap (λ t. is_digit_of Binary (c t)) (omega arith) ∙ digit_same 0 (omega arith) ∙ ap (λ t. is_digit_of Binary (b t)) (omega arith))
        ∙ ap (λ t. not (eqb n 0) && (is_digit_of Binary (b i) && (t && is_digit_of Binary (c (j + n - 1))))) (each_same n (omega arith))
        ∙ ap (λ t. not (eqb n 0) && (is_digit_of Binary (b i) && (each_goes_on b i n && t)))
        (ap (λ t. is_digit_of Binary (c t)) (omega (arith, some)) ∙ digit_same (n - 1) (omega arith) ∙ ap (λ t. is_digit_of Binary (b t)) (omega (arith, some)))
  ]

  pub long_same : is_long_bit_string c j n ≡ is_long_bit_string b i n
  long_same = ap (λ t. t && leb 65 (digit_count c j n)) are_same ∙ ap (λ t. are_bits b i n && leb 65 t) (count_same b c i j n same n (omega arith))

-- the n bytes of c are those of b from place i on
module _ (b c : ℕ → ℕ) (i n : ℕ) (same : (k : ℕ) → k < n → c k ≡ b (i + k)) where
  first : 0 < n → c 0 ≡ b i
  first lt = same 0 lt ∙ ap b (omega arith)

  stands_same : (xs : List ℕ) (k : ℕ) → k + length xs ≤ n → stands c xs k ≡ stands b xs (i + k)
  stands_same [] k le = refl
  stands_same (x ∷ xs) k le =
      ap (λ t. eqb t x && stands c xs (k + 1)) (same k (omega arith))
      ∙ ap (λ t. eqb (b (i + k)) x && t) (stands_same xs (k + 1) (omega arith) ∙ ap (stands b xs) (omega arith))

  -- one of the texts of a table, there and here
  pub one_of_moved : (t : List (List ℕ)) → IsOneOf b t i (i + n) → IsOneOf c t 0 n
  one_of_moved [] h = absurd h
  one_of_moved (x ∷ xs) (inl h) = let e : length x ≡ n = omega (arith, h.1) in inl (stands_same x 0 (omega arith) ∙ ap (stands b x) (omega arith) ∙ h.0, omega arith)
  one_of_moved (x ∷ xs) (inr h) = inr (one_of_moved xs h)

  one_of_back : (t : List (List ℕ)) → IsOneOf c t 0 n → IsOneOf b t i (i + n)
  one_of_back [] h = absurd h
  one_of_back (x ∷ xs) (inl h) = let e : length x ≡ n = omega (arith, h.1) in inl (ap (stands b x) (omega arith) ∙ sym (stands_same x 0 (omega arith)) ∙ h.0, omega arith)
  one_of_back (x ∷ xs) (inr h) = inr (one_of_back xs h)

  lexeme_moved : IsWord b i (i + n) → IsWord c 0 n
  lexeme_moved h = record {
    some = omega (arith, h.some);
    first = ap is_name_start (first (omega (arith, h.some))) ∙ h.first;
    others = λ k from below. ap is_name_byte (same k below) ∙ h.others (i + k) (omega arith) (omega arith);
  }

  pub name_moved : IsToken b Name i (i + n) → IsToken c Name 0 n
  name_moved h = (lexeme_moved h.0, λ t. h.1 (one_of_back reserved_words t), λ t. h.2 (one_of_back constants t))

  pointed_moved : (p j : ℕ) → j ≤ n → IsPointed b (i + p) i (i + j) → IsPointed c p 0 j
  pointed_moved p j le h = record {
    before = λ k from below. ap is_digit (same k (omega (arith, h.within))) ∙ h.before (i + k) (omega arith) (omega arith);
    ahead = omega arith;
    point = same p (omega (arith, h.within)) ∙ h.point;
    behind = λ k from below. ap is_digit (same k (omega arith)) ∙ h.behind (i + k) (omega arith) (omega arith);
    within = omega (arith, h.within);
    some = omega (arith, h.some);
  }

  exponent_ahead : (s m j : ℕ) → IsExponent b s m j → m < s
  exponent_ahead s m j h = elim h.start [ inl e ↦ omega (arith, e) | inr e ↦ omega (arith, e.1) ]

  exponent_moved : (s m j : ℕ) → j ≤ n → IsExponent b (i + s) (i + m) (i + j) → IsExponent c s m j
  exponent_moved s m j le h =
      let start : (s ≡ m + 1) ⊎ ((is_sign (c (m + 1)) ≡ true) × (s ≡ m + 2)) = elim h.start [
        | inl e ↦ inl (omega (arith, e))
        | inr e ↦ let at : s ≡ m + 2 = omega (arith, e.1) in inr (ap is_sign (same (m + 1) (omega (arith, h.some)) ∙ ap b (omega arith)) ∙ e.0, at)
      ] in
      let lt : m < s = elim start [ inl e ↦ omega arith | inr e ↦ omega (arith, e.1) ] in
      record {
        head = ap is_exponent_sign (same m (omega (arith, h.some))) ∙ h.head;
        start = start;
        some = omega (arith, h.some);
        digits = λ k from below. ap is_digit (same k (omega arith)) ∙ h.digits (i + k) (omega arith) (omega arith);
      }

  pub decimal_moved : IsDecimal b i (i + n) → IsDecimal c 0 n
  decimal_moved (inl (p, h)) =
      let e : p ≡ i + (p - i) = omega (arith, h.ahead) in
      inl (p - i, pointed_moved (p - i) n (omega arith) (subst (λ t. IsPointed b t i (i + n)) e h))
  decimal_moved (inr (inl (p, m, s, h, x))) =
      let lt : m < s = exponent_ahead s m (i + n) x in
      let e : p ≡ i + (p - i) = omega (arith, h.ahead) in
      let f : m ≡ i + (m - i) = omega (arith, h.some) in
      let g : s ≡ i + (s - i) = omega (arith, h.some) in
      let within : m - i ≤ n = omega (arith, x.some) in
      inr (inl (
        p - i,
        m - i,
        s - i,
        pointed_moved (p - i) (m - i) within (subst (λ t. IsPointed b t i (i + (m - i))) e (subst (λ t. IsPointed b p i t) f h)),
        exponent_moved (s - i) (m - i) n (omega arith) (subst (λ t. IsExponent b t (i + (m - i)) (i + n)) g (subst (λ t. IsExponent b s t (i + n)) f x)),
      ))
  decimal_moved (inr (inr (m, s, some, digits, x))) =
      let lt : m < s = exponent_ahead s m (i + n) x in
      let f : m ≡ i + (m - i) = omega (arith, some) in
      let g : s ≡ i + (s - i) = omega (arith, some) in
      inr (inr (
        m - i,
        s - i,
        omega (arith, some),
        λ k from below. ap is_digit (same k (omega (arith, x.some))) ∙ digits (i + k) (omega arith) (omega arith),
        exponent_moved (s - i) (m - i) n (omega arith) (subst (λ t. IsExponent b t (i + (m - i)) (i + n)) g (subst (λ t. IsExponent b s t (i + n)) f x)),
      ))

  text_moved : IsText b i (i + n) → IsText c 0 n
  text_moved h =
      let quote : c 0 ≡ b i = first (omega (arith, h.some)) in
      record {
        some = omega (arith, h.some);
        quote = ap is_quote quote ∙ h.quote;
        inside = λ k from below.
            ap (λ t. eqb t (c 0) || eqb t 10) (same k (omega arith)) ∙ ap (λ t. eqb (b (i + k)) t || eqb (b (i + k)) 10) quote ∙ h.inside (i + k) (omega arith) (omega arith);
        closed = same (n - 1) (omega (arith, h.some)) ∙ ap b (omega (arith, h.some)) ∙ h.closed ∙ sym quote;
      }

  -- a text in quotes that is no bit string of more than 64 digits
  pub quoted_moved : IsToken b Text i (i + n) → IsToken c Text 0 n
  quoted_moved h = (text_moved h.0, wide)
    where
      size : n - 1 - 1 ≡ i + n - 1 - (i + 1)
      size = omega arith

      wide : is_wide_text c 0 n ≡ false
      wide =
          let some : i + 1 < i + n = h.0.some in
          let quote : c 0 ≡ b i = first (omega arith) in
          let at : 1 + (n - 1 - 1) ≡ n - 1 = omega arith in
          let closed : c (n - 1) ≡ b (i + n - 1) = same (n - 1) (omega arith) ∙ ap b (omega arith) in
          let there : i + 1 + (n - 1 - 1) ≡ i + n - 1 = omega arith in
          let old : is_digit_of Binary (b (i + 1 + (n - 1 - 1))) ≡ false = ap (λ t. is_digit_of Binary (b t)) there ∙ ap (is_digit_of Binary) h.0.closed ∙ quote_is_no_bit (b i) h.0.quote in
          let new : is_digit_of Binary (c (1 + (n - 1 - 1))) ≡ false = ap (λ t. is_digit_of Binary (c t)) at ∙ ap (is_digit_of Binary) (closed ∙ h.0.closed) ∙ quote_is_no_bit (b i) h.0.quote in
          long_same b c (i + 1) 1 (n - 1 - 1) (λ k lt. same (1 + k) (omega arith) ∙ ap b (omega arith)) old new
          ∙ ap (is_long_bit_string b (i + 1)) size ∙ h.1
