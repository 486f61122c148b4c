-- Good numbers, a + b√2 with 0 ≤ a and 2b² ≤ a²: what they bound, and that sums and products of them are good.
use Rattle.std.proofs.Common.{◌≡◌, ℕ, ◌+◌, ◌*◌, ◌<◌, ◌≤◌, ap, arith, ℤ, pos, negsuc, ◌+ℤ◌, ◌-ℤ◌, ◌*ℤ◌, ◌≤ℤ◌, inl, inr}
use Rattle.std.specs.Prelude.{unsigned_abs}
use Rattle.std.proofs.Math.Nat.{mul-le-mul}
use Rattle.std.proofs.lemmas.Int.{ints, unsigned_abs-mul}
use Rattle.std.proofs.lemmas.Bool.{cases_lt}
use Rattle.qt_root2.specs.Root2.{IsGood}
use Rattle.qt_integers.proofs.Integers.{dif, dif_eq, dif_add, dif_sub, dif_mul, by_dif, pos_is, times_least}

-- ---- squares of natural numbers

-- m ≤ n, if n < m is impossible
by_below : (m n : ℕ) → (n < m → ⊥) → m ≤ n
by_below m n h = elim (cases_lt n m) [ inl l ↦ absurd (h l) | inr l ↦ l ]

square_below : (m n : ℕ) → n < m → (n + 1) * (n + 1) ≤ m * m
square_below m n h = mul-le-mul {n₁ = n + 1} {m₁ = n + 1} {n₂ = m} {m₂ = m} (omega arith) (omega arith)

-- if 2m² ≤ n², then m ≤ (3/4)n
root_bound : (m n : ℕ) → 2 * (m * m) ≤ n * n → 4 * m ≤ 3 * n
root_bound m n h = by_below (4 * m) (3 * n) (λ l. let s = square_below (4 * m) (3 * n) l in omega arith)

-- if 2m² ≤ p² and 2n² ≤ q², then 2mn ≤ pq
cross_bound : (m n p q : ℕ) → 2 * (m * m) ≤ p * p → 2 * (n * n) ≤ q * q → 2 * (m * n) ≤ p * q
cross_bound m n p q h g = by_below (2 * (m * n)) (p * q) (λ l.
    let s = square_below (2 * (m * n)) (p * q) l in
    let t = mul-le-mul {n₁ = 2 * (m * m)} {m₁ = 2 * (n * n)} {n₂ = p * p} {m₂ = q * q} h g in
    omega arith)

-- ---- good numbers by natural numbers

good_at : (p : ℕ) (b : ℤ) → 2 * (unsigned_abs b * unsigned_abs b) ≤ p * p → IsGood (pos p) b
good_at p (pos m) h = (omega (arith, ints), omega (arith, ints, h))
good_at p (negsuc m) h = (omega (arith, ints), omega (arith, ints, h))

squares_at : (p : ℕ) (b : ℤ) → IsGood (pos p) b → 2 * (unsigned_abs b * unsigned_abs b) ≤ p * p
squares_at p (pos m) h = omega (arith, ints, h.1)
squares_at p (negsuc m) h = omega (arith, ints, h.1)

-- b is within 3/4 of a to both sides
pub record IsNarrow (a b : ℤ) : Type 0 where
  pub least : pos 0 ≤ℤ a
  pub above : (pos 4 *ℤ b) ≤ℤ (pos 3 *ℤ a)
  pub below : pos 0 ≤ℤ (pos 3 *ℤ a +ℤ pos 4 *ℤ b)

narrow_at : (p : ℕ) (b : ℤ) → 4 * unsigned_abs b ≤ 3 * p → IsNarrow (pos p) b
narrow_at p (pos m) h = record { least = omega (arith, ints); above = omega (arith, ints, h); below = omega (arith, ints) }
narrow_at p (negsuc m) h = record { least = omega (arith, ints); above = omega (arith, ints); below = omega (arith, ints, h) }

pub narrow : (a b : ℤ) → IsGood a b → IsNarrow a b
narrow (pos p) b h = narrow_at p b (root_bound (unsigned_abs b) p (squares_at p b h))
narrow (negsuc p) b h = absurd (omega (arith, ints, h.0))

narrow_bound : (a b : ℤ) → IsNarrow a b → pos (unsigned_abs b) ≤ℤ a
narrow_bound a (pos m) n = omega (arith, ints, n.above, n.least)
narrow_bound a (negsuc m) n = omega (arith, ints, n.below, n.least)

-- |b| ≤ a
pub good_bounded : (a b : ℤ) → IsGood a b → pos (unsigned_abs b) ≤ℤ a
good_bounded a b h = narrow_bound a b (narrow a b h)

abs_plus : (b d : ℤ) → unsigned_abs (b +ℤ d) ≤ unsigned_abs b + unsigned_abs d
abs_plus (pos m) (pos n) = omega arith
abs_plus (negsuc m) (negsuc n) = omega arith
abs_plus (pos m) (negsuc n) = grind (arith, ints)
abs_plus (negsuc m) (pos n) = grind (arith, ints)

abs_twice : (b : ℤ) → unsigned_abs (b +ℤ b) ≡ 2 * unsigned_abs b
abs_twice (pos m) = omega arith
abs_twice (negsuc m) = omega arith

pub good_plus : (a b c d : ℤ) → IsGood a b → IsGood c d → IsGood (a +ℤ c) (b +ℤ d)
good_plus (pos p) b (pos q) d h g =
    let m = unsigned_abs b in
    let n = unsigned_abs d in
    let k = unsigned_abs (b +ℤ d) in
    let x = cross_bound m n p q (squares_at p b h) (squares_at q d g) in
    let s = mul-le-mul {n₁ = k} {m₁ = k} {n₂ = m + n} {m₂ = m + n} (abs_plus b d) (abs_plus b d) in
    good_at (p + q) (b +ℤ d) (omega (arith, x, s, squares_at p b h, squares_at q d g))
good_plus (negsuc p) b c d h g = absurd (omega (arith, ints, h.0))
good_plus (pos p) b (negsuc q) d h g = absurd (omega (arith, ints, g.0))

-- ---- products

-- the products that make up (a + b√2)(c + d√2) are within a·c to both sides
pub record IsWithin (a b c d : ℤ) : Type 0 where
  pub cross_above : (pos 2 *ℤ (b *ℤ d)) ≤ℤ (a *ℤ c)
  pub cross_below : pos 0 ≤ℤ (a *ℤ c +ℤ pos 2 *ℤ (b *ℤ d))
  pub first_above : (a *ℤ d) ≤ℤ (a *ℤ c)
  pub first_below : pos 0 ≤ℤ (a *ℤ c +ℤ a *ℤ d)
  pub second_above : (b *ℤ c) ≤ℤ (a *ℤ c)
  pub second_below : pos 0 ≤ℤ (a *ℤ c +ℤ b *ℤ c)

twice_above : (z : ℤ) (n : ℕ) → 2 * unsigned_abs z ≤ n → (pos 2 *ℤ z) ≤ℤ pos n
twice_above (pos m) n h = omega (arith, ints, h)
twice_above (negsuc m) n h = omega (arith, ints)

twice_below : (z : ℤ) (n : ℕ) → 2 * unsigned_abs z ≤ n → pos 0 ≤ℤ (pos n +ℤ pos 2 *ℤ z)
twice_below (pos m) n h = omega (arith, ints)
twice_below (negsuc m) n h = omega (arith, ints, h)

once_above : (z : ℤ) (n : ℕ) → unsigned_abs z ≤ n → z ≤ℤ pos n
once_above (pos m) n h = omega (arith, ints, h)
once_above (negsuc m) n h = omega (arith, ints)

once_below : (z : ℤ) (n : ℕ) → unsigned_abs z ≤ n → pos 0 ≤ℤ (pos n +ℤ z)
once_below (pos m) n h = omega (arith, ints)
once_below (negsuc m) n h = omega (arith, ints, h)

pub within : (a b c d : ℤ) → IsGood a b → IsGood c d → IsWithin a b c d
within (pos p) b (pos q) d h g =
    let m = unsigned_abs b in
    let n = unsigned_abs d in
    let x : 2 * unsigned_abs (b *ℤ d) ≤ p * q = omega (arith, unsigned_abs-mul b d, cross_bound m n p q (squares_at p b h) (squares_at q d g)) in
    let mb : m ≤ p = omega (arith, root_bound m p (squares_at p b h)) in
    let nb : n ≤ q = omega (arith, root_bound n q (squares_at q d g)) in
    let y : unsigned_abs (pos p *ℤ d) ≤ p * q = omega (arith, unsigned_abs-mul (pos p) d, mul-le-mul {n₁ = p} {m₁ = n} {n₂ = p} {m₂ = q} (omega arith) nb) in
    let z : unsigned_abs (b *ℤ pos q) ≤ p * q = omega (arith, unsigned_abs-mul b (pos q), mul-le-mul {n₁ = m} {m₁ = q} {n₂ = p} {m₂ = q} mb (omega arith)) in
    record {
      cross_above = twice_above (b *ℤ d) (p * q) x;
      cross_below = twice_below (b *ℤ d) (p * q) x;
      first_above = once_above (pos p *ℤ d) (p * q) y;
      first_below = once_below (pos p *ℤ d) (p * q) y;
      second_above = once_above (b *ℤ pos q) (p * q) z;
      second_below = once_below (b *ℤ pos q) (p * q) z;
    }
within (negsuc p) b c d h g = absurd (omega (arith, ints, h.0))
within (pos p) b (negsuc q) d h g = absurd (omega (arith, ints, g.0))

-- a² − 2b²
abbrev norm : ℤ → ℤ → ℤ
norm a b = a *ℤ a -ℤ pos 2 *ℤ (b *ℤ b)

two : pos 2 ≡ dif 2 0
two = pos_is 2

norm_at : (a b c d e f g h : ℕ) → norm (dif a b *ℤ dif e f +ℤ dif 2 0 *ℤ (dif c d *ℤ dif g h)) (dif a b *ℤ dif g h +ℤ dif c d *ℤ dif e f) ≡ norm (dif a b) (dif c d) *ℤ norm (dif e f) (dif g h)
norm_at a b c d e f g h = simp (two, dif_add, dif_sub, dif_mul) (dif_eq _ _ _ _ (omega arith))

norm-times : (a b c d : ℤ) → norm (a *ℤ c +ℤ pos 2 *ℤ (b *ℤ d)) (a *ℤ d +ℤ b *ℤ c) ≡ norm a b *ℤ norm c d
norm-times a b c d =
    by_dif (λ a. norm (a *ℤ c +ℤ pos 2 *ℤ (b *ℤ d)) (a *ℤ d +ℤ b *ℤ c) ≡ norm a b *ℤ norm c d) (λ a0 a1.
    let x = dif a0 a1 in
    by_dif (λ b. norm (x *ℤ c +ℤ pos 2 *ℤ (b *ℤ d)) (x *ℤ d +ℤ b *ℤ c) ≡ norm x b *ℤ norm c d) (λ b0 b1.
    let y = dif b0 b1 in
    by_dif (λ c. norm (x *ℤ c +ℤ pos 2 *ℤ (y *ℤ d)) (x *ℤ d +ℤ y *ℤ c) ≡ norm x y *ℤ norm c d) (λ c0 c1.
    let z = dif c0 c1 in
    by_dif (λ d. norm (x *ℤ z +ℤ pos 2 *ℤ (y *ℤ d)) (x *ℤ d +ℤ y *ℤ z) ≡ norm x y *ℤ norm z d) (λ d0 d1.
    rw (← two) at (norm_at a0 a1 b0 b1 c0 c1 d0 d1)) d) c) b) a

norm_at_least : (a b : ℤ) → IsGood a b → pos 0 ≤ℤ norm a b
norm_at_least a b h = omega (arith, ints, h.1)

pub good_times : (a b c d : ℤ) → IsGood a b → IsGood c d → IsGood (a *ℤ c +ℤ pos 2 *ℤ (b *ℤ d)) (a *ℤ d +ℤ b *ℤ c)
good_times a b c d h g =
    let w = within a b c d h g in
    let n = times_least (norm a b) (norm c d) (norm_at_least a b h) (norm_at_least c d g) in
    let e = norm-times a b c d in
    (w.cross_below, omega (arith, ints, n, e))

pub good_half : (h g : ℤ) → IsGood (h +ℤ h) (g +ℤ g) → IsGood h g
good_half (pos p) g x =
    let s = squares_at (p + p) (g +ℤ g) x in
    good_at p g (omega (arith, s, abs_twice g, ap (λ k. k * k) (abs_twice g)))
good_half (negsuc p) g x = absurd (omega (arith, ints, x.0))
