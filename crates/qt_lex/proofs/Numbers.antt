-- Which numbers begin at a place, and which of them is the longest.
use Rattle.std.proofs.Common.{◌≡◌, ℕ, ◌+◌, ◌≤◌, ◌<◌, ◌⊎◌, inl, inr, Bool, true, false, ◌&&◌, ◌||◌, eqb, cond, [], ◌∷◌, Option, Some, None, refl, sym, ◌∙◌, ap, subst, arith}
use Rattle.qt_lex.specs.declared.number.Radix.{Radix}
use Rattle.qt_lex.specs.declared.number.Radix.TheVariants as radix
use Rattle.qt_lex.specs.Bytes.{is_digit, stands, IsOneOf, EachFrom}
use Rattle.qt_lex.specs.Numbers.{is_digit_of, prefixes, is_exponent_sign, goes_on, IsDigits, IsWhole, IsDecimal}
use Rattle.qt_lex.specs.Answers.{prefix_of, is_decimal_byte, IsPreferred}
use Rattle.qt_lex.proofs.Tables.{and_left, and_right, or_left, or_right, or_cases, eqb_same, compare, compare2}

-- the second byte of a prefix
abbrev pub is_mark : ℕ → Bool
is_mark c = eqb c 120 || (eqb c 88 || (eqb c 98 || (eqb c 66 || eqb c 111)))

abbrev pub is_hexadecimal : ℕ → Bool
is_hexadecimal c = is_digit_of radix.Hexadecimal c

-- a point or the sign of an exponent
abbrev pub is_break : ℕ → Bool
is_break c = eqb c 46 || is_exponent_sign c

mark_no_digit : (c : ℕ) → is_mark c ≡ true → is_digit c ≡ true → ⊥
mark_no_digit c h g = grind arith

mark_no_space : (c : ℕ) → is_mark c ≡ true → eqb c 95 ≡ true → ⊥
mark_no_space c h g = grind arith

mark_no_break : (c : ℕ) → is_mark c ≡ true → is_break c ≡ true → ⊥
mark_no_break c h g = grind arith

pub break_no_digit : (c : ℕ) → is_break c ≡ true → is_digit c ≡ true → ⊥
break_no_digit c h g = grind arith

break_no_space : (c : ℕ) → is_break c ≡ true → eqb c 95 ≡ true → ⊥
break_no_space c h g = grind arith

pub point_is_break : (c : ℕ) → c ≡ 46 → is_break c ≡ true
point_is_break c e = ap is_break e

pub sign_is_break : (c : ℕ) → is_exponent_sign c ≡ true → is_break c ≡ true
sign_is_break c h = or_right (eqb c 46) (is_exponent_sign c) h

break_is_decimal : (c : ℕ) → is_break c ≡ true → is_decimal_byte c ≡ true
break_is_decimal c h = or_right (is_digit c) (is_break c) h

digit_is_decimal : (c : ℕ) → is_digit c ≡ true → is_decimal_byte c ≡ true
digit_is_decimal c h = or_left (is_digit c) (is_break c) h

pub digit_is_hexadecimal : (r : Radix) (c : ℕ) → is_digit_of r c ≡ true → is_hexadecimal c ≡ true
digit_is_hexadecimal radix.Binary c h = grind arith
digit_is_hexadecimal radix.Octal c h = grind arith
digit_is_hexadecimal radix.Decimal c h = grind arith
digit_is_hexadecimal radix.Hexadecimal c h = h

pub prefix_inverse : (c d : ℕ) (r : Radix) → prefix_of c d ≡ Some r
    → (c ≡ 48) × (((r ≡ radix.Hexadecimal) × ((d ≡ 120) ⊎ (d ≡ 88))) ⊎ (((r ≡ radix.Binary) × ((d ≡ 98) ⊎ (d ≡ 66))) ⊎ ((r ≡ radix.Octal) × (d ≡ 111))))
prefix_inverse c d r h = at_zero (eqb c 48) refl h
  where
    Says : Type 0
    Says = ((r ≡ radix.Hexadecimal) × ((d ≡ 120) ⊎ (d ≡ 88))) ⊎ (((r ≡ radix.Binary) × ((d ≡ 98) ⊎ (d ≡ 66))) ⊎ ((r ≡ radix.Octal) × (d ≡ 111)))

    at_o : (v : Bool) → eqb d 111 ≡ v → cond {A = Option Radix} v (Some radix.Octal) None ≡ Some r → ((r ≡ radix.Octal) × (d ≡ 111))
    at_o true e g = (cc g, eqb_same d 111 e)
    at_o false e g = absurd (cc g)

    two : (x y : ℕ) → (eqb d x || eqb d y) ≡ true → (d ≡ x) ⊎ (d ≡ y)
    two x y h = elim (or_cases (eqb d x) (eqb d y) h) [ inl e ↦ inl (eqb_same d x e) | inr e ↦ inr (eqb_same d y e) ]

    at_b : (v : Bool) → (eqb d 98 || eqb d 66) ≡ v → cond {A = Option Radix} v (Some radix.Binary) (cond (eqb d 111) (Some radix.Octal) None) ≡ Some r
        → (((r ≡ radix.Binary) × ((d ≡ 98) ⊎ (d ≡ 66))) ⊎ ((r ≡ radix.Octal) × (d ≡ 111)))
    at_b true e g = inl (cc g, two 98 66 e)
    at_b false e g = inr (at_o (eqb d 111) refl g)

    at_x : (v : Bool) → (eqb d 120 || eqb d 88) ≡ v
        → cond {A = Option Radix} v (Some radix.Hexadecimal) (cond (eqb d 98 || eqb d 66) (Some radix.Binary) (cond (eqb d 111) (Some radix.Octal) None)) ≡ Some r
        → ((r ≡ radix.Hexadecimal) × ((d ≡ 120) ⊎ (d ≡ 88))) ⊎ (((r ≡ radix.Binary) × ((d ≡ 98) ⊎ (d ≡ 66))) ⊎ ((r ≡ radix.Octal) × (d ≡ 111)))
    at_x true e g = inl (cc g, two 120 88 e)
    at_x false e g = inr (at_b (eqb d 98 || eqb d 66) refl g)

    at_zero : (v : Bool) → eqb c 48 ≡ v
        → cond {A = Option Radix} v (cond (eqb d 120 || eqb d 88) (Some radix.Hexadecimal) (cond (eqb d 98 || eqb d 66) (Some radix.Binary) (cond (eqb d 111) (Some radix.Octal) None))) None ≡ Some r
        → (c ≡ 48) × (((r ≡ radix.Hexadecimal) × ((d ≡ 120) ⊎ (d ≡ 88))) ⊎ (((r ≡ radix.Binary) × ((d ≡ 98) ⊎ (d ≡ 66))) ⊎ ((r ≡ radix.Octal) × (d ≡ 111))))
    at_zero true e g = (eqb_same c 48 e, at_x (eqb d 120 || eqb d 88) refl g)
    at_zero false e g = absurd (cc g)

no_decimal_prefix : (c d : ℕ) → prefix_of c d ≡ Some radix.Decimal → ⊥
no_decimal_prefix c d h = elim (prefix_inverse c d radix.Decimal h).1 [
  | inl t ↦ (let e : radix.Decimal ≡ radix.Hexadecimal = t.0 in cc e)
  | inr u ↦ elim u [
    | inl t ↦ (let e : radix.Decimal ≡ radix.Binary = t.0 in cc e)
    | inr t ↦ (let e : radix.Decimal ≡ radix.Octal = t.0 in cc e)
  ]
]

module _ (b : ℕ → ℕ) where
  two_bytes : (x y i : ℕ) → stands b (x ∷ y ∷ []) i ≡ true → (b i ≡ x) × (b (i + 1) ≡ y)
  two_bytes x y i h = (
    eqb_same (b i) x (and_left _ (eqb (b (i + 1)) y && true) h),
    eqb_same (b (i + 1)) y (and_left _ true (and_right (eqb (b i) x) (eqb (b (i + 1)) y && true) h)),
  )

  pub record Prefixed (r : Radix) (i s : ℕ) : Type 0 where
    pub says : prefix_of (b i) (b (i + 1)) ≡ Some r
    pub start : s ≡ i + 2
    pub first : b i ≡ 48
    pub mark : is_mark (b (i + 1)) ≡ true

  prefixed_by : (r : Radix) (x i s : ℕ) → prefix_of 48 x ≡ Some r → is_mark x ≡ true → (stands b (48 ∷ x ∷ []) i ≡ true) × (s ≡ i + 2) → Prefixed r i s
  prefixed_by r x i s e m h =
      let t : (b i ≡ 48) × (b (i + 1) ≡ x) = two_bytes 48 x i h.0 in
      record {
        says = ap (λ c. prefix_of c (b (i + 1))) t.0 ∙ ap (λ c. prefix_of 48 c) t.1 ∙ e;
        start = h.1;
        first = t.0;
        mark = ap is_mark t.1 ∙ m;
      }

  pub prefix_is : (r : Radix) (i s : ℕ) → IsOneOf b (prefixes r) i s → ((r ≡ radix.Decimal) × (s ≡ i)) ⊎ Prefixed r i s
  prefix_is radix.Binary i s (inl h) = inr (prefixed_by radix.Binary 98 i s refl refl h)
  prefix_is radix.Binary i s (inr (inl h)) = inr (prefixed_by radix.Binary 66 i s refl refl h)
  prefix_is radix.Binary i s (inr (inr h)) = absurd h
  prefix_is radix.Octal i s (inl h) = inr (prefixed_by radix.Octal 111 i s refl refl h)
  prefix_is radix.Octal i s (inr h) = absurd h
  prefix_is radix.Decimal i s (inl h) = inl (refl, omega (arith, h.1))
  prefix_is radix.Decimal i s (inr h) = absurd h
  prefix_is radix.Hexadecimal i s (inl h) = inr (prefixed_by radix.Hexadecimal 120 i s refl refl h)
  prefix_is radix.Hexadecimal i s (inr (inl h)) = inr (prefixed_by radix.Hexadecimal 88 i s refl refl h)
  prefix_is radix.Hexadecimal i s (inr (inr h)) = absurd h

  -- what may end a run of digits
  stops : (r : Radix) (k : ℕ) → (is_digit_of r (b k) ≡ true → ⊥) → (eqb (b k) 95 ≡ true → ⊥) → goes_on b r k ≡ true → ⊥
  stops r k f g h = elim (or_cases (is_digit_of r (b k)) (eqb (b k) 95 && is_digit_of r (b (k + 1))) h) [
    | inl d ↦ f d
    | inr d ↦ g (and_left _ (is_digit_of r (b (k + 1))) d)
  ]

  digits_end_le : (r : Radix) (s e k : ℕ) → s ≤ e → (goes_on b r e ≡ true → ⊥) → IsDigits b r s k → k ≤ e
  digits_end_le r s e k le stop d = elim (compare2 k e) [ inl x ↦ x | inr lt ↦ absurd (stop (d.each e le lt)) ]

  false_true : (r : Radix) (e : ℕ) → goes_on b r e ≡ false → goes_on b r e ≡ true → ⊥
  false_true r e h g = cc (h, g)

  pub mark_stops : (k : ℕ) → is_mark (b k) ≡ true → goes_on b radix.Decimal k ≡ true → ⊥
  mark_stops k h = stops radix.Decimal k (mark_no_digit (b k) h) (mark_no_space (b k) h)

  prefixed_not_decimal : (r : Radix) (i s : ℕ) → Prefixed r i s → r ≡ radix.Decimal → ⊥
  prefixed_not_decimal r i s x e =
      let f : prefix_of (b i) (b (i + 1)) ≡ Some radix.Decimal = x.says ∙ ap Some e in
      no_decimal_prefix (b i) (b (i + 1)) f

  start_same : (r : Radix) (i s t : ℕ) → IsOneOf b (prefixes r) i s → IsOneOf b (prefixes r) i t → t ≡ s
  start_same r i s t p q = elim (prefix_is r i s p) [
    | inl f ↦ elim (prefix_is r i t q) [
      | inl g ↦ g.1 ∙ sym f.1
      | inr y ↦ absurd (prefixed_not_decimal r i t y f.0)
    ]
    | inr x ↦ elim (prefix_is r i t q) [
      | inl g ↦ absurd (prefixed_not_decimal r i s x g.0)
      | inr y ↦ y.start ∙ sym x.start
    ]
  ]

  -- at most one place long, where a prefix stands
  zero_alone : (i t k : ℕ) → is_mark (b (i + 1)) ≡ true → IsWhole b radix.Decimal t i k → k ≡ i + 1
  zero_alone i t k m u =
      let f : t ≡ i = start_same radix.Decimal i i t (inl (refl, omega arith)) u.prefix in
      let g : IsDigits b radix.Decimal i k = subst (λ y. IsDigits b radix.Decimal y k) f u.digits in
      let le : k ≤ i + 1 = digits_end_le radix.Decimal i (i + 1) k (omega arith) (mark_stops (i + 1) m) g in
      let lt : i < k = g.some in
      omega (arith, le, lt)

  alike : (r : Radix) (s i e t k : ℕ) → IsWhole b r s i e → goes_on b r e ≡ false → IsWhole b r t i k → (t ≡ s) × (k ≤ e)
  alike r s i e t k w stop v =
      let f : t ≡ s = start_same r i s t w.prefix v.prefix in
      let d : IsDigits b r s k = subst (λ x. IsDigits b r x k) f v.digits in
      let lt : s < e = w.digits.some in
      (f, digits_end_le r s e k (omega (arith, lt)) (false_true r e stop) d)

  -- another whole number at the same place is in the same base and no longer, or it is the `0` of a prefix
  pub whole_others : (r : Radix) (s i e : ℕ) → IsWhole b r s i e → goes_on b r e ≡ false → IsPreferred b i r
      → (q : Radix) (t k : ℕ) → IsWhole b q t i k → ((q ≡ r) × (t ≡ s) × (k ≤ e)) ⊎ ((k < e) × (is_mark (b k) ≡ true))
  whole_others r s i e w stop pref q t k v = elim (pref q t v.prefix v.digits.first) [
    | inl same ↦ inl (let x : (t ≡ s) × (k ≤ e) = alike r s i e t k w stop (subst (λ y. IsWhole b y t i k) same v) in (same, x.0, x.1))
    | inr d ↦ elim (prefix_is r i s w.prefix) [
      | inl f ↦
          let same : q ≡ r = d ∙ sym f.0 in
          inl (let x : (t ≡ s) × (k ≤ e) = alike r s i e t k w stop (subst (λ y. IsWhole b y t i k) same v) in (same, x.0, x.1))
      | inr x ↦
          let at : k ≡ i + 1 = zero_alone i t k x.mark (subst (λ y. IsWhole b y t i k) d v) in
          let st : s ≡ i + 2 = x.start in
          let lt : s < e = w.digits.some in
          inr (omega (arith, at, st, lt), subst (λ y. is_mark (b y) ≡ true) (sym at) x.mark)
    ]
  ]

  -- two spellings of the same bytes are in the same base
  pub whole_same : (r : Radix) (s : ℕ) (q : Radix) (t i j : ℕ) → IsWhole b r s i j → IsWhole b q t i j → (q ≡ r) × (t ≡ s)
  whole_same r s q t i j w v = elim (prefix_is r i s w.prefix) [
    | inl f ↦ elim (prefix_is q i t v.prefix) [
      | inl g ↦ (g.0 ∙ sym f.0, g.1 ∙ sym f.1)
      | inr y ↦ absurd (
          let at : j ≡ i + 1 = zero_alone i s j y.mark (subst (λ z. IsWhole b z s i j) f.0 w) in
          let st : t ≡ i + 2 = y.start in
          let lt : t < j = v.digits.some in
          omega (arith, at, st, lt))
    ]
    | inr x ↦ elim (prefix_is q i t v.prefix) [
      | inl g ↦ absurd (
          let at : j ≡ i + 1 = zero_alone i t j x.mark (subst (λ z. IsWhole b z t i j) g.0 v) in
          let st : s ≡ i + 2 = x.start in
          let lt : s < j = w.digits.some in
          omega (arith, at, st, lt))
      | inr y ↦ (
        let f : prefix_of (b i) (b (i + 1)) ≡ Some r = x.says in
            let g : prefix_of (b i) (b (i + 1)) ≡ Some q = y.says in
            cc (f, g),
        y.start ∙ sym x.start,
      )
    ]
  ]

  -- where the digits of a decimal number end first, a point or an exponent stands
  record Spine (p i j : ℕ) : Type 0 where
    ahead : i ≤ p
    within : p < j
    before : EachFrom b is_digit i p
    stop : is_break (b p) ≡ true

  spine : (i j : ℕ) → IsDecimal b i j → (p : ℕ) × Spine p i j
  spine i j (inl (p, h)) = (p, record { ahead = h.ahead; within = h.within; before = h.before; stop = point_is_break (b p) h.point })
  spine i j (inr (inl (p, m, s, h, e))) = (p, record { ahead = h.ahead; within = further; before = h.before; stop = point_is_break (b p) h.point })
    where
      further : p < j
      further = elim e.start [
        | inl f ↦ (let x : p < m = h.within in let y : s < j = e.some in omega (arith, x, y, f))
        | inr f ↦ (let x : p < m = h.within in let y : s < j = e.some in let z : s ≡ m + 2 = f.1 in omega (arith, x, y, z))
      ]
  spine i j (inr (inr (m, s, lt, all, e))) = (m, record { ahead = omega (arith, lt); within = further; before = all; stop = sign_is_break (b m) e.head })
    where
      further : m < j
      further = elim e.start [
        | inl f ↦ (let y : s < j = e.some in omega (arith, y, f))
        | inr f ↦ (let y : s < j = e.some in let z : s ≡ m + 2 = f.1 in omega (arith, y, z))
      ]

  -- a whole number is shorter than a decimal number at the same place
  pub whole_decimal : (r : Radix) (s i k j : ℕ) → IsWhole b r s i k → IsDecimal b i j → (k < j) × (is_decimal_byte (b k) ≡ true)
  whole_decimal r s i k j w d = by_spine (spine i j d).0 (spine i j d).1 (prefix_is r i s w.prefix)
    where
      by_spine : (p : ℕ) → Spine p i j → ((r ≡ radix.Decimal) × (s ≡ i)) ⊎ Prefixed r i s → (k < j) × (is_decimal_byte (b k) ≡ true)
      by_spine p x (inl f) =
          let g : IsDigits b radix.Decimal i k = subst (λ y. IsDigits b radix.Decimal y k) f.1 (subst (λ y. IsDigits b y s k) f.0 w.digits) in
          let le : k ≤ p = digits_end_le radix.Decimal i p k x.ahead (stops radix.Decimal p (break_no_digit (b p) x.stop) (break_no_space (b p) x.stop)) g in
          let lt : p < j = x.within in
          let lk : i < k = g.some in (
            omega (arith, le, lt),
            elim (compare k p) [
              | inl less ↦ digit_is_decimal (b k) (x.before k (omega (arith, lk)) less)
              | inr t ↦ elim t [
                | inl same ↦ break_is_decimal (b k) (subst (λ y. is_break (b y) ≡ true) (sym same) x.stop)
                | inr more ↦ absurd (omega (arith, le, more))
              ]
            ],
          )
      by_spine p x (inr y) = absurd (elim (compare p (i + 1)) [
        | inl less ↦ (
            let le : i ≤ p = x.ahead in
            let at : i ≡ p = omega (arith, le, less) in
            let z : is_break (b i) ≡ true = subst (λ t. is_break (b t) ≡ true) (sym at) x.stop in
            let u : is_break 48 ≡ true = subst (λ t. is_break t ≡ true) y.first z in
            cc u)
        | inr t ↦ elim t [
          | inl same ↦ mark_no_break (b (i + 1)) y.mark (subst (λ t. is_break (b t) ≡ true) same x.stop)
          | inr more ↦ mark_no_digit (b (i + 1)) y.mark (x.before (i + 1) (omega arith) more)
        ]
      ])
