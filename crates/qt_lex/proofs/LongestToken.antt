-- The longest token where a number begins.
use Rattle.std.proofs.Common.{◌≡◌, ℕ, ◌+◌, ◌-◌, ◌≤◌, ◌<◌, inl, inr, Bool, true, false, not, ◌&&◌, ◌||◌, eqb, List, [], ◌∷◌, refl, sym, subst, arith}
use Rattle.qt_lex.specs.declared.tokens.Kind.{Kind}
use Rattle.qt_lex.specs.declared.tokens.Kind.TheVariants.{Integer, Wide, Decimal, Timing, Imaginary}
use Rattle.qt_lex.specs.declared.number.Radix.{Radix}
use Rattle.qt_lex.specs.declared.number.Radix.TheVariants as radix
use Rattle.qt_lex.specs.Bytes.{is_digit, stands, time_units, imaginary_units, IsOneOf}
use Rattle.qt_lex.specs.Numbers.{is_digit_of, goes_on, IsDigits, IsWhole, IsDecimal, IsPlain}
use Rattle.qt_lex.specs.Tokens.{IsToken, LongestToken, NoToken}
use Rattle.qt_lex.specs.Answers.{is_decimal_byte, IsPreferred, IsLongestDecimal, IsWithUnit}
use Rattle.qt_lex.proofs.Tables.{and_left, and_right, or_left, or_right, or_cases, not_false, eqb_same, compare, head_of_one}
use Rattle.qt_lex.proofs.Heads.{may_begin_number, number_no_quote, head_number, whole_head, other}
use Rattle.qt_lex.proofs.Numbers.{is_mark, is_hexadecimal, digit_is_hexadecimal, whole_others, whole_decimal}

-- the units but `dt` begin with no byte of a number
abbrev pub later_units : List (List ℕ)
later_units = (110 ∷ 115 ∷ []) ∷ (117 ∷ 115 ∷ []) ∷ (194 ∷ 181 ∷ 115 ∷ []) ∷ (109 ∷ 115 ∷ []) ∷ (115 ∷ []) ∷ []

abbrev pub is_spaced_digit : ℕ → Bool
is_spaced_digit c = is_hexadecimal c || eqb c 95

t_no_digit : (r : Radix) → is_digit_of r 116 ≡ false
t_no_digit radix.Binary = refl
t_no_digit radix.Octal = refl
t_no_digit radix.Decimal = refl
t_no_digit radix.Hexadecimal = refl

module _ (b : ℕ → ℕ) where
  goes_on_digit : (r : Radix) (k : ℕ) → goes_on b r k ≡ true → is_spaced_digit (b k) ≡ true
  goes_on_digit r k h = elim (or_cases (is_digit_of r (b k)) (eqb (b k) 95 && is_digit_of r (b (k + 1))) h) [
    | inl d ↦ or_left (is_hexadecimal (b k)) (eqb (b k) 95) (digit_is_hexadecimal r (b k) d)
    | inr d ↦ or_right (is_hexadecimal (b k)) (eqb (b k) 95) (and_left (eqb (b k) 95) (is_digit_of r (b (k + 1))) d)
  ]

  t_stops : (r : Radix) (k : ℕ) → b k ≡ 116 → goes_on b r k ≡ true → ⊥
  t_stops r k e h = elim (or_cases (is_digit_of r (b k)) (eqb (b k) 95 && is_digit_of r (b (k + 1))) h) [
    | inl d ↦ (let f : is_digit_of r 116 ≡ true = subst (λ t. is_digit_of r t ≡ true) e d in let g : is_digit_of r 116 ≡ false = t_no_digit r in cc (f, g))
    | inr d ↦ (let f : eqb (b k) 95 ≡ true = and_left (eqb (b k) 95) (is_digit_of r (b (k + 1))) d in let g : b k ≡ 95 = eqb_same (b k) 95 f in omega (arith, e, g))
  ]

  unit_no_decimal : (m j : ℕ) → IsOneOf b time_units m j → is_decimal_byte (b m) ≡ true → ⊥
  unit_no_decimal m j u h = let f : is_decimal_byte (b m) ≡ false = not_false _ (head_of_one b (λ c. not (is_decimal_byte c)) time_units m j refl u).0 in cc (f, h)

  unit_no_mark : (m j : ℕ) → IsOneOf b time_units m j → is_mark (b m) ≡ true → ⊥
  unit_no_mark m j u h = let f : is_mark (b m) ≡ false = not_false _ (head_of_one b (λ c. not (is_mark c)) time_units m j refl u).0 in cc (f, h)

  im_no_decimal : (m j : ℕ) → IsOneOf b imaginary_units m j → is_decimal_byte (b m) ≡ true → ⊥
  im_no_decimal m j u h = let f : is_decimal_byte (b m) ≡ false = not_false _ (head_of_one b (λ c. not (is_decimal_byte c)) imaginary_units m j refl u).0 in cc (f, h)

  im_no_mark : (m j : ℕ) → IsOneOf b imaginary_units m j → is_mark (b m) ≡ true → ⊥
  im_no_mark m j u h = let f : is_mark (b m) ≡ false = not_false _ (head_of_one b (λ c. not (is_mark c)) imaginary_units m j refl u).0 in cc (f, h)

  im_no_digit : (r : Radix) (m j : ℕ) → IsOneOf b imaginary_units m j → goes_on b r m ≡ true → ⊥
  im_no_digit r m j u h =
      let f : is_spaced_digit (b m) ≡ false = not_false _ (head_of_one b (λ c. not (is_spaced_digit c)) imaginary_units m j refl u).0 in
      let g : is_spaced_digit (b m) ≡ true = goes_on_digit r m h in
      cc (f, g)

  -- of the units only `dt` begins with a digit
  only_dt : (r : Radix) (m j : ℕ) → IsOneOf b time_units m j → goes_on b r m ≡ true → (b m ≡ 100) × (b (m + 1) ≡ 116) × (j ≡ m + 2)
  only_dt r m j (inl h) g = (
    eqb_same (b m) 100 (and_left (eqb (b m) 100) (eqb (b (m + 1)) 116 && true) h.0),
    eqb_same (b (m + 1)) 116 (and_left (eqb (b (m + 1)) 116) true (and_right (eqb (b m) 100) (eqb (b (m + 1)) 116 && true) h.0)),
    h.1,
  )
  only_dt r m j (inr u) g = absurd (
      let f : is_spaced_digit (b m) ≡ false = not_false _ (head_of_one b (λ c. not (is_spaced_digit c)) later_units m j refl u).0 in
      let x : is_spaced_digit (b m) ≡ true = goes_on_digit r m g in
      cc (f, x))

  -- what ends at e or before, with a unit behind it, ends at j or before
  record Reach (e j : ℕ) : Type 0 where
    ahead : e ≤ j
    times : (k : ℕ) → IsOneOf b time_units e k → k ≤ j
    imaginaries : (k : ℕ) → IsOneOf b imaginary_units e k → k ≤ j

  decimal_bounds : (i e j : ℕ) → IsDecimal b i e → IsLongestDecimal b i e → Reach e j → may_begin_number (b i) ≡ true → (k : Kind) (j' : ℕ) → IsToken b k i j' → j' ≤ j
  decimal_bounds i e j d long x n Integer j' (q, t, w, lt) = let u : j' < e = (whole_decimal b q t i j' e w d).0 in let v : e ≤ j = x.ahead in omega (arith, u, v)
  decimal_bounds i e j d long x n Wide j' (inr h) = absurd (number_no_quote (b i) n h.0.quote)
  decimal_bounds i e j d long x n Wide j' (inl (q, t, w, lt)) = let u : j' < e = (whole_decimal b q t i j' e w d).0 in let v : e ≤ j = x.ahead in omega (arith, u, v)
  decimal_bounds i e j d long x n Decimal j' h = let u : j' ≤ e = (long j' h).0 in let v : e ≤ j = x.ahead in omega (arith, u, v)
  decimal_bounds i e j d long x n Timing j' (m, inl (q, t, w), u) = absurd (unit_no_decimal m j' u (whole_decimal b q t i m e w d).1)
  decimal_bounds i e j d long x n Timing j' (m, inr h, u) = elim (compare m e) [
    | inl less ↦ absurd (unit_no_decimal m j' u ((long m h).1 less))
    | inr t ↦ elim t [
      | inl same ↦ x.times j' (subst (λ y. IsOneOf b time_units y j') same u)
      | inr more ↦ absurd (let v : m ≤ e = (long m h).0 in omega (arith, v, more))
    ]
  ]
  decimal_bounds i e j d long x n Imaginary j' (m, inl (q, t, w), u) = absurd (im_no_decimal m j' u (whole_decimal b q t i m e w d).1)
  decimal_bounds i e j d long x n Imaginary j' (m, inr h, u) = elim (compare m e) [
    | inl less ↦ absurd (im_no_decimal m j' u ((long m h).1 less))
    | inr t ↦ elim t [
      | inl same ↦ x.imaginaries j' (subst (λ y. IsOneOf b imaginary_units y j') same u)
      | inr more ↦ absurd (let v : m ≤ e = (long m h).0 in omega (arith, v, more))
    ]
  ]
  decimal_bounds i e j d long x n k j' h = absurd (other b k 1 i j' refl (head_number (b i) n) h)

  -- the last digit may be the `d` of `dt`
  Cut : Radix → ℕ → ℕ → Type 0
  Cut r s e = IsDigits b r s (e - 1) × (b (e - 1) ≡ 100) × (b e ≡ 116)

  record Whole (r : Radix) (s i e : ℕ) : Type 0 where
    whole : IsWhole b r s i e
    stop : goes_on b r e ≡ false
    preferred : IsPreferred b i r
    no_decimal : (k : ℕ) → IsDecimal b i k → ⊥

  whole_le : (r : Radix) (s i e : ℕ) → Whole r s i e → (q : Radix) (t k : ℕ) → IsWhole b q t i k → k ≤ e
  whole_le r s i e w q t k v = elim (whole_others b r s i e w.whole w.stop w.preferred q t k v) [
    | inl x ↦ x.2
    | inr x ↦ (let lt : k < e = x.0 in omega (arith, lt))
  ]

  time_le : (r : Radix) (s i e j m j' : ℕ) (q : Radix) (t : ℕ) → Whole r s i e → Reach e j
      → (IsDigits b r s (e - 1) → b (e - 1) ≡ 100 → b e ≡ 116 → e + 1 ≤ j)
      → IsWhole b q t i m → IsOneOf b time_units m j' → j' ≤ j
  time_le r s i e j m j' q t w x cut v u = elim (whole_others b r s i e w.whole w.stop w.preferred q t m v) [
    | inl y ↦ elim (compare m e) [
      | inl less ↦ cut_there y less
      | inr z ↦ elim z [
        | inl same ↦ x.times j' (subst (λ y. IsOneOf b time_units y j') same u)
        | inr more ↦ absurd (let le : m ≤ e = y.2 in omega (arith, le, more))
      ]
    ]
    | inr y ↦ absurd (unit_no_mark m j' u y.1)
  ]
    where
      cut_there : (q ≡ r) × (t ≡ s) × (m ≤ e) → m < e → j' ≤ j
      cut_there y less =
          let d : IsDigits b r s m = subst (λ z. IsDigits b r z m) y.1 (subst (λ z. IsDigits b z t m) y.0 v.digits) in
          let lt : s < m = d.some in
          let dt : (b m ≡ 100) × (b (m + 1) ≡ 116) × (j' ≡ m + 2) = only_dt r m j' u (w.whole.digits.each m (omega (arith, lt)) less) in
          let last : m + 1 ≡ e = elim (compare (m + 1) e) [
            | inl further ↦ absurd (t_stops r (m + 1) dt.1 (w.whole.digits.each (m + 1) (omega (arith, lt)) further))
            | inr z ↦ elim z [ inl same ↦ same | inr more ↦ absurd (omega (arith, less, more)) ]
          ] in
          let at : m ≡ e - 1 = omega (arith, last) in
          let le : e + 1 ≤ j = cut (subst (λ z. IsDigits b r s z) at d) (subst (λ z. b z ≡ 100) at dt.0) (subst (λ z. b z ≡ 116) last dt.1) in
          let f : j' ≡ m + 2 = dt.2 in
          omega (arith, last, le, f)

  imaginary_le : (r : Radix) (s i e j m j' : ℕ) (q : Radix) (t : ℕ) → Whole r s i e → Reach e j → IsWhole b q t i m → IsOneOf b imaginary_units m j' → j' ≤ j
  imaginary_le r s i e j m j' q t w x v u = elim (whole_others b r s i e w.whole w.stop w.preferred q t m v) [
    | inl y ↦ elim (compare m e) [
      | inl less ↦ absurd (
          let d : IsDigits b r s m = subst (λ z. IsDigits b r z m) y.1 (subst (λ z. IsDigits b z t m) y.0 v.digits) in
          let lt : s < m = d.some in
          im_no_digit r m j' u (w.whole.digits.each m (omega (arith, lt)) less))
      | inr z ↦ elim z [
        | inl same ↦ x.imaginaries j' (subst (λ y. IsOneOf b imaginary_units y j') same u)
        | inr more ↦ absurd (let le : m ≤ e = y.2 in omega (arith, le, more))
      ]
    ]
    | inr y ↦ absurd (im_no_mark m j' u y.1)
  ]

  whole_bounds : (r : Radix) (s i e j : ℕ) → Whole r s i e → Reach e j → (IsDigits b r s (e - 1) → b (e - 1) ≡ 100 → b e ≡ 116 → e + 1 ≤ j) → may_begin_number (b i) ≡ true
      → (k : Kind) (j' : ℕ) → IsToken b k i j' → j' ≤ j
  whole_bounds r s i e j w x cut n Integer j' (q, t, v, lt) = let u : j' ≤ e = whole_le r s i e w q t j' v in let z : e ≤ j = x.ahead in omega (arith, u, z)
  whole_bounds r s i e j w x cut n Wide j' (inr h) = absurd (number_no_quote (b i) n h.0.quote)
  whole_bounds r s i e j w x cut n Wide j' (inl (q, t, v, lt)) = let u : j' ≤ e = whole_le r s i e w q t j' v in let z : e ≤ j = x.ahead in omega (arith, u, z)
  whole_bounds r s i e j w x cut n Decimal j' h = absurd (w.no_decimal j' h)
  whole_bounds r s i e j w x cut n Timing j' (m, inl (q, t, v), u) = time_le r s i e j m j' q t w x cut v u
  whole_bounds r s i e j w x cut n Timing j' (m, inr h, u) = absurd (w.no_decimal m h)
  whole_bounds r s i e j w x cut n Imaginary j' (m, inl (q, t, v), u) = imaginary_le r s i e j m j' q t w x v u
  whole_bounds r s i e j w x cut n Imaginary j' (m, inr h, u) = absurd (w.no_decimal m h)
  whole_bounds r s i e j w x cut n k j' h = absurd (other b k 1 i j' refl (head_number (b i) n) h)

  unit_token : (i e : ℕ) (k k' : Kind) (j : ℕ) → IsPlain b i e → IsToken b k i e → IsWithUnit b k e k' j → IsToken b k' i j
  unit_token i e k k' j p t (inl u) = subst (λ y. IsToken b y i j) (sym u.0) (e, p, u.1)
  unit_token i e k k' j p t (inr (inl u)) = subst (λ y. IsToken b y i j) (sym u.0) (e, p, u.1)
  unit_token i e k k' j p t (inr (inr u)) = subst (λ y. IsToken b y i j) (sym u.0) (subst (λ y. IsToken b k i y) (sym u.1) t)

  pub decimal_is : (i e : ℕ) (k : Kind) (j : ℕ) → may_begin_number (b i) ≡ true → IsDecimal b i e → IsLongestDecimal b i e → IsWithUnit b Decimal e k j → e ≤ j
      → ((t : ℕ) → IsOneOf b time_units e t → t ≤ j) → ((t : ℕ) → IsOneOf b imaginary_units e t → t ≤ j) → LongestToken b k i j
  decimal_is i e k j n d long unit ahead times imaginaries = record {
    token = unit_token i e Decimal k j (inr d) d unit;
    longest = decimal_bounds i e j d long (record { ahead = ahead; times = times; imaginaries = imaginaries }) n;
  }

  pub whole_is : (r : Radix) (s i e : ℕ) (k k' : Kind) (j : ℕ) → may_begin_number (b i) ≡ true → ((t : ℕ) → IsDecimal b i t → ⊥)
      → IsWhole b r s i e → goes_on b r e ≡ false → IsPreferred b i r
      → ((IsDigits b r s (e - 1) × (b (e - 1) ≡ 100) × (b e ≡ 116)) → ⊥)
      → IsToken b k i e → IsWithUnit b k e k' j → e ≤ j
      → ((t : ℕ) → IsOneOf b time_units e t → t ≤ j) → ((t : ℕ) → IsOneOf b imaginary_units e t → t ≤ j) → LongestToken b k' i j
  whole_is r s i e k k' j n no_decimal w stop preferred no_cut token unit ahead times imaginaries = record {
    token = unit_token i e k k' j (inl (r, s, w)) token unit;
    longest = whole_bounds r s i e j (record { whole = w; stop = stop; preferred = preferred; no_decimal = no_decimal }) (record { ahead = ahead; times = times; imaginaries = imaginaries })
        (λ d f g. absurd (no_cut (d, f, g))) n;
  }

  pub cut_is : (r : Radix) (s i e : ℕ) → may_begin_number (b i) ≡ true → ((t : ℕ) → IsDecimal b i t → ⊥)
      → IsWhole b r s i e → goes_on b r e ≡ false → IsPreferred b i r
      → IsDigits b r s (e - 1) × (b (e - 1) ≡ 100) × (b e ≡ 116) → LongestToken b Timing i (e + 1)
  cut_is r s i e n no_decimal w stop preferred (d, f, g) = record {
    token = (e - 1, inl (r, s, record { prefix = w.prefix; digits = d }), inl (unit, omega (arith, lt)));
    longest = whole_bounds r s i e (e + 1) (record { whole = w; stop = stop; preferred = preferred; no_decimal = no_decimal })
        (record { ahead = omega arith; times = λ t u. absurd (no_time t u); imaginaries = λ t u. absurd (no_im t u) }) (λ x y z. omega arith) n;
  }
    where
      lt : s < e
      lt = w.digits.some

      next : e - 1 + 1 ≡ e
      next = omega (arith, lt)

      unit : stands b (100 ∷ 116 ∷ []) (e - 1) ≡ true
      unit = let g' : b (e - 1 + 1) ≡ 116 = subst (λ t. b t ≡ 116) (sym next) g in grind (arith, f, g')

      no_time : (t : ℕ) → IsOneOf b time_units e t → ⊥
      no_time t u =
          let x : eqb (b e) 116 ≡ false = not_false _ (head_of_one b (λ c. not (eqb c 116)) time_units e t refl u).0 in
          grind (arith, x, g)

      no_im : (t : ℕ) → IsOneOf b imaginary_units e t → ⊥
      no_im t u =
          let x : eqb (b e) 116 ≡ false = not_false _ (head_of_one b (λ c. not (eqb c 116)) imaginary_units e t refl u).0 in
          grind (arith, x, g)

  pub no_number : (i : ℕ) → may_begin_number (b i) ≡ true → ((t : ℕ) → IsDecimal b i t → ⊥) → is_digit (b i) ≡ false → NoToken b i
  no_number i n none stop Integer j (r, s, w, lt) = let v : is_digit (b i) ≡ true = whole_head b r s i j w in cc (v, stop)
  no_number i n none stop Wide j (inr h) = number_no_quote (b i) n h.0.quote
  no_number i n none stop Wide j (inl (r, s, w, lt)) = let v : is_digit (b i) ≡ true = whole_head b r s i j w in cc (v, stop)
  no_number i n none stop Decimal j h = none j h
  no_number i n none stop Timing j (m, inl (r, s, w), u) = let v : is_digit (b i) ≡ true = whole_head b r s i m w in cc (v, stop)
  no_number i n none stop Timing j (m, inr h, u) = none m h
  no_number i n none stop Imaginary j (m, inl (r, s, w), u) = let v : is_digit (b i) ≡ true = whole_head b r s i m w in cc (v, stop)
  no_number i n none stop Imaginary j (m, inr h, u) = none m h
  no_number i n none stop k j h = other b k 1 i j refl (head_number (b i) n) h
