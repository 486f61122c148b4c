-- What digits count, place by place.
use Rattle.std.proofs.Common.{◌≡◌, ℕ, zero, suc, ◌+◌, ◌-◌, ◌*◌, ◌≤◌, ◌<◌, inl, inr, Bool, true, false, ◌&&◌, eqb, cond, ◌∙◌, ap, subst, arith}
use Rattle.qt_lex.specs.declared.number.Radix.{Radix}
use Rattle.qt_lex.specs.declared.number.Radix.TheVariants as radix
use Rattle.qt_lex.specs.Numbers.{is_digit_of, base_of, digit_value, number_of, IsDigits}
use Rattle.qt_lex.proofs.Tables.{and_left, or_cases}
use Rattle.qt_lex.proofs.Numbers.{digit_is_hexadecimal}

pub base_some : (r : Radix) → 0 < base_of r
base_some radix.Binary = omega arith
base_some radix.Octal = omega arith
base_some radix.Decimal = omega arith
base_some radix.Hexadecimal = omega arith

grows : (n base d : ℕ) → 0 < base → n ≤ n * base + d
grows n base d h = grind arith

module _ (b : ℕ → ℕ) where
  pub number_step : (base s p : ℕ) → s ≤ p → number_of b base s (p + 1 - s) ≡ cond (eqb (b p) 95) (number_of b base s (p - s)) (number_of b base s (p - s) * base + digit_value (b p))
  number_step base s p le =
      let e : p + 1 - s ≡ suc (p - s) = omega (arith, le) in
      let f : s + (p - s) ≡ p = omega (arith, le) in
      ap (number_of b base s) e
      ∙ ap (λ t. cond (eqb (b t) 95) (number_of b base s (p - s)) (number_of b base s (p - s) * base + digit_value (b t))) f

  number_more : (base s n : ℕ) → 0 < base → number_of b base s n ≤ number_of b base s (suc n)
  number_more base s n h = at_test (eqb (b (s + n)) 95)
    where
      at_test : (v : Bool) → number_of b base s n ≤ cond v (number_of b base s n) (number_of b base s n * base + digit_value (b (s + n)))
      at_test true = omega arith
      at_test false = grows (number_of b base s n) base (digit_value (b (s + n))) h

  number_above : (base s n d : ℕ) → 0 < base → number_of b base s n ≤ number_of b base s (n + d)
  number_above base s n zero h = let e : n + zero ≡ n = omega arith in rw e (omega arith)
  number_above base s n (suc d) h =
      let e : n + suc d ≡ suc (n + d) = omega arith in
      let x : number_of b base s n ≤ number_of b base s (n + d) = number_above base s n d h in
      let y : number_of b base s (n + d) ≤ number_of b base s (suc (n + d)) = number_more base s (n + d) h in
      rw e (omega (arith, x, y))

  pub number_le : (base s n m : ℕ) → 0 < base → n ≤ m → number_of b base s n ≤ number_of b base s m
  number_le base s n m h le =
      let e : n + (m - n) ≡ m = omega (arith, le) in
      subst (λ t. number_of b base s n ≤ number_of b base s t) e (number_above base s n (m - n) h)

  pub digit_there : (r : Radix) (s e p : ℕ) → IsDigits b r s e → s ≤ p → p < e → eqb (b p) 95 ≡ false → is_digit_of radix.Hexadecimal (b p) ≡ true
  digit_there r s e p d le lt no_space = elim (or_cases (is_digit_of r (b p)) (eqb (b p) 95 && is_digit_of r (b (p + 1))) (d.each p le lt)) [
    | inl h ↦ digit_is_hexadecimal r (b p) h
    | inr h ↦ absurd (let x : eqb (b p) 95 ≡ true = and_left _ (is_digit_of r (b (p + 1))) h in cc (x, no_space))
  ]
