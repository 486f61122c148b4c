-- Bytes that stand at a place, and what is spelled in a text by itself is spelled wherever the text stands.
use Rattle.std.proofs.Common.{◌≡◌, ℕ, zero, suc, ◌+◌, ◌-◌, ◌*◌, ◌≤◌, ◌<◌, ◌⊎◌, inl, inr, Bool, true, false, not, ◌&&◌, ◌||◌, eqb, leb, cond, List, [], ◌∷◌, ◌++◌, length, refl, sym, ◌∙◌, ap, subst, arith}
use Rattle.qt_lex.specs.declared.number.Radix.{Radix}
use Rattle.qt_lex.specs.declared.number.Radix.TheVariants.{Binary}
use Rattle.qt_lex.specs.Bytes.{byte, is_digit, is_quote, stands, IsOneOf, EachFrom}
use Rattle.qt_lex.specs.Numbers.{base_of, prefixes, is_digit_of, digit_value, is_exponent_sign, is_sign, goes_on, IsDigits, number_of, IsWhole, IsInteger, IsPointed, IsExponent, IsDecimal}
use Rattle.qt_lex.specs.Bits.{each_goes_on, are_bits, digit_count, is_long_bit_string}
use Rattle.qt_lex.specs.Tokens.{IsText, is_wide_text}
use Rattle.qt_lex.proofs.Tables.{and_left, and_right, or_left, eqb_same, compare}

pub both : (p q : Bool) → p ≡ true → q ≡ true → (p && q) ≡ true
both p q h g = cc

pub eqb_equal : (m n : ℕ) → m ≡ n → eqb m n ≡ true
eqb_equal m n h = grind arith

module _ (b : ℕ → ℕ) where
  pub stands_split : (xs ys : List ℕ) (i : ℕ) → stands b (xs ++ ys) i ≡ true → (stands b xs i ≡ true) × (stands b ys (i + length xs) ≡ true)
  stands_split [] ys i h = (refl, let z : i + 0 ≡ i = omega arith in rw z h)
  stands_split (x ∷ xs) ys i h =
      let r = stands_split xs ys (i + 1) (and_right (eqb (b i) x) _ h) in
      let z : i + length (x ∷ xs) ≡ (i + 1) + length xs = omega arith in
      (both _ _ (and_left (eqb (b i) x) _ h) r.0, rw z r.1)

  pub stands_byte : (xs : List ℕ) (i k : ℕ) → stands b xs i ≡ true → k < length xs → b (i + k) ≡ byte xs k
  stands_byte [] i k h lt = absurd (omega (arith, lt))
  stands_byte (x ∷ xs) i zero h lt = let z : i + 0 ≡ i = omega arith in ap b z ∙ eqb_same (b i) x (and_left (eqb (b i) x) _ h)
  stands_byte (x ∷ xs) i (suc k) h lt =
      let z : i + suc k ≡ (i + 1) + k = omega arith in
      ap b z ∙ stands_byte xs (i + 1) k (and_right (eqb (b i) x) _ h) (omega (arith, lt))

  pub stands_here : (xs : List ℕ) (i : ℕ) → ((k : ℕ) → k < length xs → b (i + k) ≡ byte xs k) → stands b xs i ≡ true
  stands_here [] i h = refl
  stands_here (x ∷ xs) i h =
      both _ _ (eqb_equal (b i) x (let z : i + 0 ≡ i = omega arith in ap b (sym z) ∙ h 0 (omega arith)))
      (stands_here xs (i + 1) (λ k lt. let z : (i + 1) + k ≡ i + suc k = omega arith in ap b z ∙ h (suc k) (omega (arith, lt))))

  -- an exponent begins before it ends
  pub exponent_some : (s x y : ℕ) → IsExponent b s x y → x < y
  exponent_some s x y h = let lt : s < y = h.some in elim h.start [
    | inl e ↦ omega (arith, lt, e)
    | inr e ↦ (let z : s ≡ x + 2 = e.1 in omega (arith, lt, z))
  ]

-- `c` from 0 up to n has the bytes of `b` from i on
module _ (c b : ℕ → ℕ) (i n : ℕ) (same : (k : ℕ) → k < n → b (i + k) ≡ c k) where
  stands_there : (xs : List ℕ) (x : ℕ) → x + length xs ≤ n → stands c xs x ≡ true → stands b xs (i + x) ≡ true
  stands_there [] x le h = refl
  stands_there (y ∷ ys) x le h =
      let z : i + (x + 1) ≡ (i + x) + 1 = omega arith in
      both _ _ (ap (λ t. eqb t y) (same x (omega (arith, le))) ∙ and_left (eqb (c x) y) _ h)
      (subst (λ t. stands b ys t ≡ true) z (stands_there ys (x + 1) (omega (arith, le)) (and_right (eqb (c x) y) _ h)))

  stands_back : (xs : List ℕ) (x : ℕ) → x + length xs ≤ n → stands b xs (i + x) ≡ true → stands c xs x ≡ true
  stands_back [] x le h = refl
  stands_back (y ∷ ys) x le h =
      let z : (i + x) + 1 ≡ i + (x + 1) = omega arith in
      both _ _ (ap (λ t. eqb t y) (sym (same x (omega (arith, le)))) ∙ and_left (eqb (b (i + x)) y) _ h)
      (stands_back ys (x + 1) (omega (arith, le)) (subst (λ t. stands b ys t ≡ true) z (and_right (eqb (b (i + x)) y) _ h)))

  pub one_there : (t : List (List ℕ)) (x y : ℕ) → y ≤ n → IsOneOf c t x y → IsOneOf b t (i + x) (i + y)
  one_there [] x y le h = absurd h
  one_there (z ∷ zs) x y le (inl h) = inl (stands_there z x (omega (arith, le, h.1)) h.0, omega (arith, h.1))
  one_there (z ∷ zs) x y le (inr h) = inr (one_there zs x y le h)

  pub one_back : (t : List (List ℕ)) (x y : ℕ) → y ≤ n → IsOneOf b t (i + x) (i + y) → IsOneOf c t x y
  one_back [] x y le h = absurd h
  one_back (z ∷ zs) x y le (inl h) = inl (stands_back z x (omega (arith, le, h.1)) h.0, omega (arith, h.1))
  one_back (z ∷ zs) x y le (inr h) = inr (one_back zs x y le h)

  pub test_there : (p : ℕ → Bool) (k : ℕ) → k < n → p (c k) ≡ true → p (b (i + k)) ≡ true
  test_there p k lt h = ap p (same k lt) ∙ h

  -- the same at a place that is counted in `b`
  byte_there : (k m : ℕ) → k ≡ i + m → m < n → b k ≡ c m
  byte_there k m e lt = ap b e ∙ same m lt

  pub each_there : (p : ℕ → Bool) (x y u v : ℕ) → u ≡ i + x → v ≡ i + y → y ≤ n → EachFrom c p x y → EachFrom b p u v
  each_there p x y u v e f le h = λ k ge lt. ap p (byte_there k (k - i) (omega (arith, e, ge)) (omega (arith, e, f, ge, lt, le))) ∙ h (k - i) (omega (arith, e, ge)) (omega (arith, e, f, ge, lt))

  goes_same : (r : Radix) (k u : ℕ) → u ≡ i + k → k + 1 < n → goes_on b r u ≡ goes_on c r k
  goes_same r k u e lt =
      ap (λ t. is_digit_of r t || (eqb t 95 && is_digit_of r (b (u + 1)))) (byte_there u k e (omega (arith, lt)))
      ∙ ap (λ t. is_digit_of r (c k) || (eqb (c k) 95 && is_digit_of r t)) (byte_there (u + 1) (k + 1) (omega (arith, e)) lt)

  pub digits_there : (r : Radix) (x y : ℕ) → y ≤ n → IsDigits c r x y → IsDigits b r (i + x) (i + y)
  digits_there r x y le d = record { some = omega (arith, lt); first = test_there (is_digit_of r) x (omega (arith, lt, le)) d.first; each = each; last = last }
    where
      lt : x < y
      lt = d.some

      last : is_digit_of r (b (i + y - 1)) ≡ true
      last = ap (is_digit_of r) (byte_there (i + y - 1) (y - 1) (omega (arith, lt)) (omega (arith, lt, le))) ∙ d.last

      each : (k : ℕ) → i + x ≤ k → k < i + y → goes_on b r k ≡ true
      each k ge less = elim (compare (k + 1) (i + y)) [
        | inl more ↦ goes_same r (k - i) k (omega (arith, ge)) (omega (arith, ge, more, le)) ∙ d.each (k - i) (omega (arith, ge)) (omega (arith, ge, less))
        | inr t ↦ elim t [
          | inl e ↦ or_left (is_digit_of r (b k)) _ (let z : i + y - 1 ≡ k = omega (arith, e) in subst (λ m. is_digit_of r (b m) ≡ true) z last)
          | inr more ↦ absurd (omega (arith, less, more))
        ]
      ]

  number_there : (base x m : ℕ) → x + m ≤ n → number_of b base (i + x) m ≡ number_of c base x m
  number_there base x zero le = refl
  number_there base x (suc m) le =
      ap (λ t. cond (eqb t 95) (number_of b base (i + x) m) (number_of b base (i + x) m * base + digit_value t)) (byte_there (i + x + m) (x + m) (omega arith) (omega (arith, le)))
      ∙ ap (λ t. cond (eqb (c (x + m)) 95) t (t * base + digit_value (c (x + m)))) (number_there base x m (omega (arith, le)))

  whole_there : (r : Radix) (s x y : ℕ) → y ≤ n → IsWhole c r s x y → IsWhole b r (i + s) (i + x) (i + y)
  whole_there r s x y le w = let lt : s < y = w.digits.some in record { prefix = one_there (prefixes r) x s (omega (arith, lt, le)) w.prefix; digits = digits_there r s y le w.digits }

  pub integer_there : (x y : ℕ) → y ≤ n → IsInteger c x y → IsInteger b (i + x) (i + y)
  integer_there x y le (r, s, w, small) =
      let lt : s < y = w.digits.some in
      let z : (i + y) - (i + s) ≡ y - s = omega arith in
      let e : number_of b (base_of r) (i + s) ((i + y) - (i + s)) ≡ number_of c (base_of r) s (y - s) = ap (number_of b (base_of r) (i + s)) z ∙ number_there (base_of r) s (y - s) (omega (arith, lt, le)) in
      (r, i + s, whole_there r s x y le w, rw e small)

  pointed_there : (p x y : ℕ) → y ≤ n → IsPointed c p x y → IsPointed b (i + p) (i + x) (i + y)
  pointed_there p x y le h =
      let lt : p < y = h.within in
      let ge : x ≤ p = h.ahead in
      let some : x + 1 < y = h.some in
      record {
        before = each_there is_digit x p (i + x) (i + p) refl refl (omega (arith, lt, le)) h.before;
        ahead = omega (arith, ge);
        point = same p (omega (arith, lt, le)) ∙ h.point;
        behind = each_there is_digit (p + 1) y (i + p + 1) (i + y) (omega arith) refl le h.behind;
        within = omega (arith, lt);
        some = omega (arith, some);
      }

  exponent_there : (s x y : ℕ) → y ≤ n → IsExponent c s x y → IsExponent b (i + s) (i + x) (i + y)
  exponent_there s x y le h = record { head = head; start = start; some = omega (arith, lt); digits = each_there is_digit s y (i + s) (i + y) refl refl le h.digits }
    where
      lt : s < y
      lt = h.some

      head : is_exponent_sign (b (i + x)) ≡ true
      head = elim h.start [
        | inl e ↦ test_there is_exponent_sign x (omega (arith, lt, le, e)) h.head
        | inr e ↦ (let z : s ≡ x + 2 = e.1 in test_there is_exponent_sign x (omega (arith, lt, le, z)) h.head)
      ]

      start : (i + s ≡ i + x + 1) ⊎ ((is_sign (b (i + x + 1)) ≡ true) × (i + s ≡ i + x + 2))
      start = elim h.start [
        | inl e ↦ inl (omega (arith, e))
        | inr e ↦ (let z : s ≡ x + 2 = e.1 in inr (ap is_sign (byte_there (i + x + 1) (x + 1) (omega arith) (omega (arith, lt, le, z))) ∙ e.0, omega (arith, z)))
      ]

  pub decimal_there : (x y : ℕ) → y ≤ n → IsDecimal c x y → IsDecimal b (i + x) (i + y)
  decimal_there x y le (inl (p, h)) = inl (i + p, pointed_there p x y le h)
  decimal_there x y le (inr (inl (p, m, s, h, e))) =
      let lt : m < y = exponent_some c s m y e in
      inr (inl (i + p, i + m, i + s, pointed_there p x m (omega (arith, lt, le)) h, exponent_there s m y le e))
  decimal_there x y le (inr (inr (m, s, less, all, e))) =
      let lt : m < y = exponent_some c s m y e in
      inr (inr (i + m, i + s, omega (arith, less), each_there is_digit x m (i + x) (i + m) refl refl (omega (arith, lt, le)) all, exponent_there s m y le e))

  pub text_there : (x y : ℕ) → y ≤ n → IsText c x y → IsText b (i + x) (i + y)
  text_there x y le h = record { some = omega (arith, some); quote = ap is_quote here ∙ h.quote; inside = inside; closed = closed }
    where
      some : x + 1 < y
      some = h.some

      here : b (i + x) ≡ c x
      here = same x (omega (arith, some, le))

      inside : (k : ℕ) → i + x < k → k + 1 < i + y → (eqb (b k) (b (i + x)) || eqb (b k) 10) ≡ false
      inside k lt less =
          ap (λ t. eqb t (b (i + x)) || eqb t 10) (byte_there k (k - i) (omega (arith, lt)) (omega (arith, lt, less, le)))
          ∙ ap (λ t. eqb (c (k - i)) t || eqb (c (k - i)) 10) here ∙ h.inside (k - i) (omega (arith, lt)) (omega (arith, lt, less))

      closed : b (i + y - 1) ≡ b (i + x)
      closed = byte_there (i + y - 1) (y - 1) (omega (arith, some)) (omega (arith, some, le)) ∙ h.closed ∙ sym here

  each_bit_there : (x u m : ℕ) → u ≡ i + x → x + m < n → each_goes_on b u m ≡ each_goes_on c x m
  each_bit_there x u zero e lt = refl
  each_bit_there x u (suc m) e lt =
      ap (λ t. t && goes_on b Binary (u + m)) (each_bit_there x u m e (omega (arith, lt)))
      ∙ ap (λ t. each_goes_on c x m && t) (goes_same Binary (x + m) (u + m) (omega (arith, e)) (omega (arith, lt)))

  bits_there : (x u m : ℕ) → u ≡ i + x → x + m < n → are_bits b u m ≡ are_bits c x m
  bits_there x u zero e lt = refl
  bits_there x u (suc m) e lt =
      ap (λ t. not (eqb (suc m) 0) && (is_digit_of Binary t && (each_goes_on b u (suc m) && is_digit_of Binary (b (u + suc m - 1))))) (byte_there u x e (omega (arith, lt)))
      ∙ ap (λ t. not (eqb (suc m) 0) && (is_digit_of Binary (c x) && (t && is_digit_of Binary (b (u + suc m - 1))))) (each_bit_there x u (suc m) e lt)
      ∙ ap (λ t. not (eqb (suc m) 0) && (is_digit_of Binary (c x) && (each_goes_on c x (suc m) && is_digit_of Binary t))) (byte_there (u + suc m - 1) (x + suc m - 1) (omega (arith, e)) (omega (arith, lt)))

  count_there : (x u m : ℕ) → u ≡ i + x → x + m ≤ n → digit_count b u m ≡ digit_count c x m
  count_there x u zero e le = refl
  count_there x u (suc m) e le =
      ap (λ t. cond (eqb t 95) (digit_count b u m) (digit_count b u m + 1)) (byte_there (u + m) (x + m) (omega (arith, e)) (omega (arith, le)))
      ∙ ap (λ t. cond (eqb (c (x + m)) 95) t (t + 1)) (count_there x u m e (omega (arith, le)))

  pub wide_there : (x y : ℕ) → y ≤ n → x + 1 < y → is_wide_text b (i + x) (i + y) ≡ is_wide_text c x y
  wide_there x y le some =
      let z : (i + y) - 1 - (i + x + 1) ≡ y - 1 - (x + 1) = omega (arith, some) in
      ap (is_long_bit_string b (i + x + 1)) z
      ∙ ap (λ t. t && leb 65 (digit_count b (i + x + 1) (y - 1 - (x + 1)))) (bits_there (x + 1) (i + x + 1) (y - 1 - (x + 1)) (omega arith) (omega (arith, some, le)))
      ∙ ap (λ t. are_bits c (x + 1) (y - 1 - (x + 1)) && leb 65 t) (count_there (x + 1) (i + x + 1) (y - 1 - (x + 1)) (omega arith) (omega (arith, some, le)))
