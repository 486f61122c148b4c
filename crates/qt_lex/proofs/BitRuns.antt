-- Runs of binary digits: one place more, and where a run stops.
use Rattle.std.proofs.Common.{◌≡◌, ℕ, zero, suc, ◌+◌, ◌-◌, ◌≤◌, ◌<◌, inl, inr, Bool, true, false, not, ◌&&◌, eqb, cond, refl, sym, ◌∙◌, ap, subst, arith}
use Rattle.qt_lex.specs.declared.number.Radix.TheVariants.{Binary}
use Rattle.qt_lex.specs.Numbers.{is_digit_of, goes_on, IsDigits}
use Rattle.qt_lex.proofs.Tables.{and_left, and_right, compare}
use Rattle.qt_lex.specs.Bits.{each_goes_on, are_bits, digit_count}

both : (a b : Bool) → a ≡ true → b ≡ true → (a && b) ≡ true
both a b e f = cc

some : (n : ℕ) → 0 < n → not (eqb n 0) ≡ true
some n h = grind arith

none : (n : ℕ) → not (eqb n 0) ≡ true → 0 < n
none n h = grind arith

module _ (b : ℕ → ℕ) where
  pub each_step : (s p : ℕ) → s ≤ p → each_goes_on b s (p + 1 - s) ≡ (each_goes_on b s (p - s) && goes_on b Binary p)
  each_step s p le =
      let e : p + 1 - s ≡ suc (p - s) = omega (arith, le) in
      let f : s + (p - s) ≡ p = omega (arith, le) in
      ap (each_goes_on b s) e ∙ ap (λ t. each_goes_on b s (p - s) && goes_on b Binary t) f

  each_fewer : (s n d : ℕ) → each_goes_on b s (n + d) ≡ true → each_goes_on b s n ≡ true
  each_fewer s n zero h = let e : n + zero ≡ n = omega arith in subst (λ t. each_goes_on b s t ≡ true) e h
  each_fewer s n (suc d) h =
      let e : n + suc d ≡ suc (n + d) = omega arith in
      let g : each_goes_on b s (suc (n + d)) ≡ true = subst (λ t. each_goes_on b s t ≡ true) e h in
      each_fewer s n d (and_left (each_goes_on b s (n + d)) (goes_on b Binary (s + (n + d))) g)

  -- where one place doesn't go on, no longer run does
  pub each_stops : (s p e : ℕ) → s ≤ p → p < e → goes_on b Binary p ≡ false → each_goes_on b s (e - s) ≡ false
  each_stops s p e le lt stop = at_test (each_goes_on b s (e - s)) refl
    where
      at_test : (v : Bool) → each_goes_on b s (e - s) ≡ v → v ≡ false
      at_test false f = refl
      at_test true f =
          let x : p + 1 - s + (e - (p + 1)) ≡ e - s = omega (arith, le, lt) in
          let y : each_goes_on b s (p + 1 - s) ≡ true = each_fewer s (p + 1 - s) (e - (p + 1)) (subst (λ t. each_goes_on b s t ≡ true) (sym x) f) in
          let z : goes_on b Binary p ≡ true = and_right (each_goes_on b s (p - s)) (goes_on b Binary p) (sym (each_step s p le) ∙ y) in
          cc (stop, z)

  pub count_step : (s p : ℕ) → s ≤ p → digit_count b s (p + 1 - s) ≡ cond (eqb (b p) 95) (digit_count b s (p - s)) (digit_count b s (p - s) + 1)
  count_step s p le =
      let e : p + 1 - s ≡ suc (p - s) = omega (arith, le) in
      let f : s + (p - s) ≡ p = omega (arith, le) in
      ap (digit_count b s) e ∙ ap (λ t. cond (eqb (b t) 95) (digit_count b s (p - s)) (digit_count b s (p - s) + 1)) f

  from_each : (i n : ℕ) → ((k : ℕ) → i ≤ k → k < i + n → goes_on b Binary k ≡ true) → each_goes_on b i n ≡ true
  from_each i zero h = refl
  from_each i (suc n) h = both (each_goes_on b i n) (goes_on b Binary (i + n)) (from_each i n (λ k le lt. h k le (omega (arith, lt)))) (h (i + n) (omega arith) (omega arith))

  each_at : (i n k : ℕ) → each_goes_on b i n ≡ true → i ≤ k → k < i + n → goes_on b Binary k ≡ true
  each_at i zero k h le lt = absurd (omega (arith, le, lt))
  each_at i (suc n) k h le lt = elim (compare k (i + n)) [
    | inl less ↦ each_at i n k (and_left (each_goes_on b i n) (goes_on b Binary (i + n)) h) le less
    | inr t ↦ elim t [
      | inl same ↦ subst (λ t. goes_on b Binary t ≡ true) (sym same) (and_right (each_goes_on b i n) (goes_on b Binary (i + n)) h)
      | inr more ↦ absurd (omega (arith, more, lt))
    ]
  ]

  -- the two ways to say that digits `0` and `1` stand there with single `_` between them
  pub bits_from_digits : (i j : ℕ) → IsDigits b Binary i j → are_bits b i (j - i) ≡ true
  bits_from_digits i j d =
      let lt : i < j = d.some in
      let n : i + (j - i) ≡ j = omega (arith, lt) in
      let last : i + (j - i) - 1 ≡ j - 1 = omega (arith, lt) in
      both (not (eqb (j - i) 0)) _ (some (j - i) (omega (arith, lt)))
      (both (is_digit_of Binary (b i)) _ d.first
      (both (each_goes_on b i (j - i)) _ (from_each i (j - i) (λ k le below. d.each k le (omega (arith, below, n)))) (subst (λ t. is_digit_of Binary (b t) ≡ true) (sym last) d.last)))

  pub digits_from_bits : (i j : ℕ) → i ≤ j → are_bits b i (j - i) ≡ true → IsDigits b Binary i j
  digits_from_bits i j le h =
      let n : i + (j - i) ≡ j = omega (arith, le) in
      let more : (is_digit_of Binary (b i) && (each_goes_on b i (j - i) && is_digit_of Binary (b (i + (j - i) - 1)))) ≡ true = and_right (not (eqb (j - i) 0)) _ h in
      let rest : (each_goes_on b i (j - i) && is_digit_of Binary (b (i + (j - i) - 1))) ≡ true = and_right (is_digit_of Binary (b i)) _ more in
      let each : each_goes_on b i (j - i) ≡ true = and_left (each_goes_on b i (j - i)) (is_digit_of Binary (b (i + (j - i) - 1))) rest in
      let lt : 0 < j - i = none (j - i) (and_left (not (eqb (j - i) 0)) _ h) in
      let last : i + (j - i) - 1 ≡ j - 1 = omega (arith, n) in
      record {
        some = omega (arith, lt);
        first = and_left (is_digit_of Binary (b i)) _ more;
        each = λ k from below. each_at i (j - i) k each from (omega (arith, below, n));
        last = subst (λ t. is_digit_of Binary (b t) ≡ true) last (and_right (each_goes_on b i (j - i)) (is_digit_of Binary (b (i + (j - i) - 1))) rest);
      }
