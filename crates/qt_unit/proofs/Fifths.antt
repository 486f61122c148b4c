-- A search in which a number falls to a fifth at each step ends after 49 steps, from 2^112 on.
use Rattle.std.proofs.Common.{◌≡◌, ℕ, zero, suc, ◌+◌, ◌-◌, ◌*◌, ◌^◌, ◌<◌, ◌≤◌, pow-add, ap, ◌∙◌, arith}
use mathlib.Core.Logic.{inl, inr}
use native.Mathlib.Nat.{mul_assoc, mul_comm}
use Rattle.qt_canon_laws.proofs.Order.{nat_three_ways}

regrouped : (p q : ℕ) → 5 * p * q ≡ p * (5 * q)
regrouped p q = ap (λ (m : ℕ). m * q) (mul_comm 5 p) ∙ mul_assoc p 5 q

le_times : (k m n : ℕ) → m ≤ n → k * m ≤ k * n
le_times zero m n h = omega arith
le_times (suc k) m n h = let r : k * m ≤ k * n = le_times k m n h in omega arith

power_next : (n : ℕ) → 5 ^ (n + 1) ≡ 5 * 5 ^ n
power_next n = pow-add 5 n 1 ∙ mul_comm (5 ^ n) 5

-- the bound goes on
pub fifth_on : (n p q : ℕ) → 5 * q ≤ p → 5 ^ n * p ≤ 2 ^ 112 → 5 ^ (n + 1) * q ≤ 2 ^ 112
fifth_on n p q h k =
    let r : 5 ^ n * (5 * q) ≤ 5 ^ n * p = le_times (5 ^ n) (5 * q) p h in
    let s : 5 ^ (n + 1) * q ≡ 5 ^ n * (5 * q) = ap (λ (m : ℕ). m * q) (power_next n) ∙ regrouped (5 ^ n) q in
    omega arith

power_more : (d n : ℕ) → 5 ^ n ≤ 5 ^ (d + n)
power_more zero n = let z : zero + n ≡ n = omega arith in let w : 5 ^ (zero + n) ≡ 5 ^ n = ap (λ (m : ℕ). 5 ^ m) z in omega arith
power_more (suc d) n = let z : suc d + n ≡ d + n + 1 = omega arith in let w : 5 ^ (suc d + n) ≡ 5 ^ (d + n + 1) = ap (λ (m : ℕ). 5 ^ m) z in let v = power_next (d + n) in let r = power_more d n in omega arith

at_least : (p q : ℕ) → 0 < q → p ≤ p * q
at_least p zero h = absurd (omega arith)
at_least p (suc q) h = omega arith

too_large : (n p : ℕ) → 0 < p → 5 ^ n * p ≤ 2 ^ 112 → 49 ≤ n → ⊥
too_large n p h k l =
    let z : n - 49 + 49 ≡ n = omega arith in
    let r : 5 ^ 49 ≤ 5 ^ (n - 49 + 49) = power_more (n - 49) 49 in
    let w : 5 ^ (n - 49 + 49) ≡ 5 ^ n = ap (λ (m : ℕ). 5 ^ m) z in
    let s : 5 ^ n ≤ 5 ^ n * p = at_least (5 ^ n) p h in
    absurd (omega arith)

pub few_fifths : (n p : ℕ) → 0 < p → 5 ^ n * p ≤ 2 ^ 112 → n ≤ 48
few_fifths n p h k = elim (nat_three_ways n 49) [
  | inl l ↦ omega arith
  | inr r ↦ absurd (too_large n p h k (elim r [ inl e ↦ omega arith | inr l ↦ omega arith ]))
]
