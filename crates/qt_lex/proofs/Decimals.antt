-- The longest decimal number at a place.
use Rattle.std.proofs.Common.{◌≡◌, ℕ, ◌+◌, ◌≤◌, ◌<◌, ◌⊎◌, inl, inr, true, false, ap, subst, arith}
use Rattle.qt_lex.specs.Bytes.{is_digit, EachFrom}
use Rattle.qt_lex.specs.Numbers.{is_exponent_sign, IsPointed, IsExponent, IsDecimal}
use Rattle.qt_lex.specs.Answers.{is_decimal_byte, IsLongestExponent, IsLongestDecimal}
use Rattle.qt_lex.proofs.Tables.{or_left, or_right, not_true, compare2, run_ends, run_same}
use Rattle.qt_lex.proofs.Numbers.{is_break, break_no_digit, sign_is_break}

digit_is_decimal : (c : ℕ) → is_digit c ≡ true → is_decimal_byte c ≡ true
digit_is_decimal c h = or_left (is_digit c) (is_break c) h

sign_is_decimal : (c : ℕ) → is_exponent_sign c ≡ true → is_decimal_byte c ≡ true
sign_is_decimal c h = or_right (is_digit c) (is_break c) (sign_is_break c h)

module _ (b : ℕ → ℕ) where
  point_no_digit : (p : ℕ) → b p ≡ 46 → is_digit (b p) ≡ false
  point_no_digit p e = ap is_digit e

  head_no_digit : (s m j : ℕ) → IsExponent b s m j → is_digit (b m) ≡ false
  head_no_digit s m j e = not_true (is_digit (b m)) (break_no_digit (b m) (sign_is_break (b m) e.head))

  -- digits from i up to p, and none there
  record Digits (i p : ℕ) : Type 0 where
    ahead : i ≤ p
    all : EachFrom b is_digit i p
    stop : is_digit (b p) ≡ false

  pointed_same : (i p q j : ℕ) → Digits i p → IsPointed b q i j → q ≡ p
  pointed_same i p q j d h = run_same b is_digit i p q d.ahead h.ahead d.all h.before d.stop (point_no_digit q h.point)

  fraction_end : (i p f q j : ℕ) → Digits i p → Digits (p + 1) f → IsPointed b q i j → (j ≤ f) × (j < f → is_digit (b j) ≡ true)
  fraction_end i p f q j d g h =
      let same : q ≡ p = pointed_same i p q j d h in
      let le : j ≤ f = run_ends b is_digit (p + 1) f j g.ahead g.stop (subst (λ t. EachFrom b is_digit (t + 1) j) same h.behind) in
      let lt : q < j = h.within in
      (le, λ less. g.all j (omega (arith, same, lt)) less)

  mantissa_same : (i p f q m s j : ℕ) → Digits i p → Digits (p + 1) f → IsPointed b q i m → IsExponent b s m j → m ≡ f
  mantissa_same i p f q m s j d g h e =
      let x : (m ≤ f) × (m < f → is_digit (b m) ≡ true) = fraction_end i p f q m d g h in
      elim (compare2 f m) [
        | inl le ↦ (let y : m ≤ f = x.0 in omega (arith, le, y))
        | inr lt ↦ absurd (let u : is_digit (b m) ≡ true = x.1 lt in let v : is_digit (b m) ≡ false = head_no_digit s m j e in cc (u, v))
      ]

  plain_same : (i p m s j : ℕ) → Digits i p → i < m → EachFrom b is_digit i m → IsExponent b s m j → m ≡ p
  plain_same i p m s j d lt all e = run_same b is_digit i p m d.ahead (omega (arith, lt)) d.all all d.stop (head_no_digit s m j e)

  no_plain : (i p m s j : ℕ) → Digits i p → b p ≡ 46 → i < m → EachFrom b is_digit i m → IsExponent b s m j → ⊥
  no_plain i p m s j d at lt all e =
      let same : m ≡ p = plain_same i p m s j d lt all e in
      let h : is_exponent_sign 46 ≡ true = subst (λ t. is_exponent_sign t ≡ true) at (subst (λ t. is_exponent_sign (b t) ≡ true) same e.head) in
      cc h

  -- no point behind the first digits
  pub unpointed_longest : (i p e : ℕ) → i ≤ p → EachFrom b is_digit i p → is_digit (b p) ≡ false → (b p ≡ 46 → ⊥) → IsLongestExponent b p e → IsLongestDecimal b i e
  unpointed_longest i p e le all stop plain longest k (inl (q, h)) =
      absurd (plain (let same : q ≡ p = pointed_same i p q k (record { ahead = le; all = all; stop = stop }) h in subst (λ t. b t ≡ 46) same h.point))
  unpointed_longest i p e le all stop plain longest k (inr (inl (q, m, s, h, x))) =
      absurd (plain (let same : q ≡ p = pointed_same i p q m (record { ahead = le; all = all; stop = stop }) h in subst (λ t. b t ≡ 46) same h.point))
  unpointed_longest i p e le all stop plain longest k (inr (inr (m, s, lt, each, x))) =
      let same : m ≡ p = plain_same i p m s k (record { ahead = le; all = all; stop = stop }) lt each x in
      let y : (k ≤ e) × (k < e → is_digit (b k) ≡ true) = longest s k (subst (λ t. IsExponent b s t k) same x) in
      (y.0, λ less. digit_is_decimal (b k) (y.1 less))

  pub unpointed_none : (i p : ℕ) → i ≤ p → EachFrom b is_digit i p → is_digit (b p) ≡ false → (b p ≡ 46 → ⊥) → ((p ≡ i) ⊎ ((s k : ℕ) → IsExponent b s p k → ⊥)) → (k : ℕ) → IsDecimal b i k → ⊥
  unpointed_none i p le all stop plain none k (inl (q, h)) =
      plain (let same : q ≡ p = pointed_same i p q k (record { ahead = le; all = all; stop = stop }) h in subst (λ t. b t ≡ 46) same h.point)
  unpointed_none i p le all stop plain none k (inr (inl (q, m, s, h, x))) =
      plain (let same : q ≡ p = pointed_same i p q m (record { ahead = le; all = all; stop = stop }) h in subst (λ t. b t ≡ 46) same h.point)
  unpointed_none i p le all stop plain none k (inr (inr (m, s, lt, each, x))) =
      let same : m ≡ p = plain_same i p m s k (record { ahead = le; all = all; stop = stop }) lt each x in
      elim none [
        | inl e ↦ omega (arith, same, e, lt)
        | inr f ↦ f s k (subst (λ t. IsExponent b s t k) same x)
      ]

  -- a point behind the first digits, and an exponent or none behind the digits after it
  pub pointed_longest : (i p f e : ℕ) → i ≤ p → EachFrom b is_digit i p → b p ≡ 46 → p + 1 ≤ f → EachFrom b is_digit (p + 1) f → is_digit (b f) ≡ false
      → f < e → is_exponent_sign (b f) ≡ true → IsLongestExponent b f e → IsLongestDecimal b i e
  pointed_longest i p f e le all at le' all' stop' lt sign longest k (inl (q, h)) =
      let x : (k ≤ f) × (k < f → is_digit (b k) ≡ true) = fraction_end i p f q k (record { ahead = le; all = all; stop = point_no_digit p at }) (record { ahead = le'; all = all'; stop = stop' }) h in
      let y : k ≤ f = x.0 in (
        omega (arith, y, lt),
        λ less. elim (compare2 f k) [
          | inl ge ↦ (let same : f ≡ k = omega (arith, ge, y) in sign_is_decimal (b k) (subst (λ t. is_exponent_sign (b t) ≡ true) same sign))
          | inr l ↦ digit_is_decimal (b k) (x.1 l)
        ],
      )
  pointed_longest i p f e le all at le' all' stop' lt sign longest k (inr (inl (q, m, s, h, x))) =
      let same : m ≡ f = mantissa_same i p f q m s k (record { ahead = le; all = all; stop = point_no_digit p at }) (record { ahead = le'; all = all'; stop = stop' }) h x in
      let y : (k ≤ e) × (k < e → is_digit (b k) ≡ true) = longest s k (subst (λ t. IsExponent b s t k) same x) in
      (y.0, λ less. digit_is_decimal (b k) (y.1 less))
  pointed_longest i p f e le all at le' all' stop' lt sign longest k (inr (inr (m, s, l, each, x))) =
      absurd (no_plain i p m s k (record { ahead = le; all = all; stop = point_no_digit p at }) at l each x)

  pub fraction_longest : (i p f : ℕ) → i ≤ p → EachFrom b is_digit i p → b p ≡ 46 → p + 1 ≤ f → EachFrom b is_digit (p + 1) f → is_digit (b f) ≡ false
      → ((s k : ℕ) → IsExponent b s f k → ⊥) → IsLongestDecimal b i f
  fraction_longest i p f le all at le' all' stop' none k (inl (q, h)) =
      let x : (k ≤ f) × (k < f → is_digit (b k) ≡ true) = fraction_end i p f q k (record { ahead = le; all = all; stop = point_no_digit p at }) (record { ahead = le'; all = all'; stop = stop' }) h in
      (x.0, λ less. digit_is_decimal (b k) (x.1 less))
  fraction_longest i p f le all at le' all' stop' none k (inr (inl (q, m, s, h, x))) =
      let same : m ≡ f = mantissa_same i p f q m s k (record { ahead = le; all = all; stop = point_no_digit p at }) (record { ahead = le'; all = all'; stop = stop' }) h x in
      absurd (none s k (subst (λ t. IsExponent b s t k) same x))
  fraction_longest i p f le all at le' all' stop' none k (inr (inr (m, s, l, each, x))) =
      absurd (no_plain i p m s k (record { ahead = le; all = all; stop = point_no_digit p at }) at l each x)

  -- a point alone
  pub lone_point : (i p f : ℕ) → i ≤ p → EachFrom b is_digit i p → b p ≡ 46 → p + 1 ≤ f → EachFrom b is_digit (p + 1) f → is_digit (b f) ≡ false → f ≡ i + 1 → (k : ℕ) → IsDecimal b i k → ⊥
  lone_point i p f le all at le' all' stop' alone k (inl (q, h)) =
      let x : (k ≤ f) × (k < f → is_digit (b k) ≡ true) = fraction_end i p f q k (record { ahead = le; all = all; stop = point_no_digit p at }) (record { ahead = le'; all = all'; stop = stop' }) h in
      let y : k ≤ f = x.0 in
      let z : i + 1 < k = h.some in
      omega (arith, y, z, alone)
  lone_point i p f le all at le' all' stop' alone k (inr (inl (q, m, s, h, e))) =
      let x : (m ≤ f) × (m < f → is_digit (b m) ≡ true) = fraction_end i p f q m (record { ahead = le; all = all; stop = point_no_digit p at }) (record { ahead = le'; all = all'; stop = stop' }) h in
      let y : m ≤ f = x.0 in
      let z : i + 1 < m = h.some in
      omega (arith, y, z, alone)
  lone_point i p f le all at le' all' stop' alone k (inr (inr (m, s, l, each, x))) =
      no_plain i p m s k (record { ahead = le; all = all; stop = point_no_digit p at }) at l each x
