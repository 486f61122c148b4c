-- Products with a + b√2, and |x|², in words of 128 bits.
use Rattle.std.proofs.Common.{◌≡◌, ℕ, ◌*◌, ◌^◌, ◌≤◌, refl, sym, ap, ◌∙◌, arith, ℤ, pos, ◌+ℤ◌, ◌-ℤ◌, ◌*ℤ◌, ◌≤ℤ◌}
use Rattle.std.specs.Int.RustNames.{unsigned_abs}
use mir.Val.{to_z, of_z}
use mir.Syntax.{w64}
use lib.IntN.{neg_ℤ, zero-*ℤ, *ℤ_comm}
use Rattle.std.proofs.lemmas.Int.{ints, unsigned_abs-mul}
use Rattle.std.proofs.lemmas.Nat.{mul-le}
use Rattle.qt_integers.proofs.Integers.{distrib, distrib_left, neg_left, neg_right, neg_plus, neg_neg}
use Rattle.qt_ring.specs.declared.omega.Omega.{Omega}
use Rattle.qt_ring.specs.Ring.{times, norm_a, norm_b, Within}
use Rattle.qt_ring.proofs.RingLaws.{same}
use Rattle.qt_ring.proofs.Norms.{norm_a-nonneg, norm_good}
use Rattle.qt_root2.proofs.Good.{good_bounded}
use Rattle.qt_unit.specs.Real.{real}
use Rattle.qt_unit.proofs.Words.{word, word_is}

sum_size : (s t : ℤ) → unsigned_abs s ≤ 2 ^ 118 → unsigned_abs t ≤ 2 ^ 118 → unsigned_abs (s +ℤ t) ≤ 2 ^ 119
sum_size s t h k = omega (arith, ints)

pub combined_is : (s t x y : ℤ) → unsigned_abs s ≤ 2 ^ 118 → unsigned_abs t ≤ 2 ^ 118 → s ≡ x → t ≡ y → word (word s +ℤ word t) ≡ x +ℤ y
combined_is s t x y h k e f =
    let a : word s +ℤ word t ≡ s +ℤ t = ap (λ z. z +ℤ word t) (word_is s (omega arith)) ∙ ap (λ z. s +ℤ z) (word_is t (omega arith)) in
    ap word a ∙ word_is (s +ℤ t) (omega (arith, sum_size s t h k)) ∙ ap (λ z. z +ℤ t) e ∙ ap (λ z. x +ℤ z) f

pub combined_size : (s t : ℤ) → unsigned_abs s ≤ 2 ^ 118 → unsigned_abs t ≤ 2 ^ 118 → unsigned_abs (word (word s +ℤ word t)) ≤ 2 ^ 119
combined_size s t h k =
    let e : word (word s +ℤ word t) ≡ s +ℤ t = combined_is s t s t h k refl refl in
    let f : unsigned_abs (word (word s +ℤ word t)) ≡ unsigned_abs (s +ℤ t) = ap unsigned_abs e in
    omega (arith, sum_size s t h k)

-- ---- operands of 64 bits
abbrev pub short : ℤ → ℤ
short z = to_z w64 (of_z w64 z)

short_is : (z : ℤ) → unsigned_abs z ≤ 2 ^ 62 → short z ≡ z
short_is z h = omega (arith, ints)

pub short_product : (a b : ℤ) → unsigned_abs a ≤ 2 ^ 62 → unsigned_abs b ≤ 2 ^ 62 → short a *ℤ short b ≡ a *ℤ b
short_product a b h k = ap (λ z. z *ℤ short b) (short_is a h) ∙ ap (λ z. a *ℤ z) (short_is b k)

pub short_sum : (a b : ℤ) → unsigned_abs a ≤ 2 ^ 55 → unsigned_abs b ≤ 2 ^ 55 → short a +ℤ short b ≡ a +ℤ b
short_sum a b h k = ap (λ z. z +ℤ short b) (short_is a (omega arith)) ∙ ap (λ z. a +ℤ z) (short_is b (omega arith))

pub short_difference : (a b : ℤ) → unsigned_abs a ≤ 2 ^ 55 → unsigned_abs b ≤ 2 ^ 55 → short a -ℤ short b ≡ a -ℤ b
short_difference a b h k = ap (λ z. z -ℤ short b) (short_is a (omega arith)) ∙ ap (λ z. a -ℤ z) (short_is b (omega arith))

by_parts : (u p q a b c d : ℤ) → unsigned_abs u ≤ 2 ^ 119 → unsigned_abs p ≤ 2 ^ 62 → unsigned_abs q ≤ 2 ^ 62 → unsigned_abs a ≤ 2 ^ 56 → unsigned_abs b ≤ 2 ^ 56 → u ≡ short p *ℤ short a +ℤ short q *ℤ short b → a ≡ c → b ≡ d → word u ≡ p *ℤ c +ℤ q *ℤ d
by_parts u p q a b c d h i j k l e f g =
    word_is u (omega arith) ∙ e
    ∙ ap (λ z. z +ℤ short q *ℤ short b) (short_product p a i (omega arith)) ∙ ap (λ z. p *ℤ a +ℤ z) (short_product q b j (omega arith))
    ∙ ap (λ z. p *ℤ z +ℤ q *ℤ b) f ∙ ap (λ z. p *ℤ c +ℤ q *ℤ z) g

-- ---- |x|²
root_part_is : (a b c d : ℤ) → b *ℤ (a +ℤ c) +ℤ d *ℤ (c -ℤ a) ≡ a *ℤ b +ℤ b *ℤ c +ℤ c *ℤ d -ℤ d *ℤ a
root_part_is a b c d = simp (distrib, neg_right) (omega (arith, ints, *ℤ_comm b a, *ℤ_comm d c))

pub root_is : (x : Omega) (u s t : ℤ) → Within (2 ^ 55) x → unsigned_abs u ≤ 2 ^ 119 → unsigned_abs s ≤ 2 ^ 56 → unsigned_abs t ≤ 2 ^ 56 → u ≡ short x.c1 *ℤ short s +ℤ short x.c3 *ℤ short t → s ≡ short x.c0 +ℤ short x.c2 → t ≡ short x.c2 -ℤ short x.c0 → word u ≡ norm_b x
root_is x u s t w h i j e f g =
    let p = w.c1_in in
    let q = w.c3_in in
    by_parts u x.c1 x.c3 s t (x.c0 +ℤ x.c2) (x.c2 -ℤ x.c0) h (omega arith) (omega arith) i j e (f ∙ short_sum x.c0 x.c2 w.c0_in w.c2_in) (g ∙ short_difference x.c2 x.c0 w.c2_in w.c0_in)
    ∙ root_part_is x.c0 x.c1 x.c2 x.c3

square_size : (z : ℤ) → unsigned_abs z ≤ 2 ^ 55 → unsigned_abs (z *ℤ z) ≤ 2 ^ 110
square_size z h =
    let e : unsigned_abs (z *ℤ z) ≡ unsigned_abs z * unsigned_abs z = unsigned_abs-mul z z in
    let l : unsigned_abs z * unsigned_abs z ≤ 2 ^ 55 * 2 ^ 55 = mul-le (unsigned_abs z) (unsigned_abs z) (2 ^ 55) (2 ^ 55) h h in
    omega arith

total_size : (a b c d : ℤ) → unsigned_abs a ≤ 2 ^ 110 → unsigned_abs b ≤ 2 ^ 110 → unsigned_abs c ≤ 2 ^ 110 → unsigned_abs d ≤ 2 ^ 110 → (a +ℤ b +ℤ c +ℤ d) ≤ℤ pos (2 ^ 112)
total_size a b c d h i j k = omega (arith, ints)

within_of : (a : ℤ) (n : ℕ) → a ≤ℤ pos (2 ^ 112) → pos n ≤ℤ a → n ≤ 2 ^ 112
within_of a n h k = omega (arith, ints)

-- |B| is at most A, since the norm is good
norm_b-size : (x : Omega) → Within (2 ^ 55) x → unsigned_abs (norm_b x) ≤ 2 ^ 112
norm_b-size x w =
    let a : norm_a x ≤ℤ pos (2 ^ 112) = total_size (x.c0 *ℤ x.c0) (x.c1 *ℤ x.c1) (x.c2 *ℤ x.c2) (x.c3 *ℤ x.c3) (square_size x.c0 w.c0_in) (square_size x.c1 w.c1_in) (square_size x.c2 w.c2_in) (square_size x.c3 w.c3_in) in
    let b : pos (unsigned_abs (norm_b x)) ≤ℤ norm_a x = good_bounded (norm_a x) (norm_b x) (norm_a-nonneg x, norm_good x) in
    within_of (norm_a x) (unsigned_abs (norm_b x)) a b

pub root_size : (x : Omega) (u : ℤ) → Within (2 ^ 55) x → u ≡ norm_b x → unsigned_abs u ≤ 2 ^ 112
root_size x u w e = let h : unsigned_abs (norm_b x) ≤ 2 ^ 112 = norm_b-size x w in let f : unsigned_abs u ≡ unsigned_abs (norm_b x) = ap unsigned_abs e in omega arith

-- ---- the product with a + b√2
times-real : (x : Omega) (p q : ℤ) → times (real p q) x ≡ record { c0 = p *ℤ x.c0 +ℤ q *ℤ (x.c1 -ℤ x.c3); c1 = p *ℤ x.c1 +ℤ q *ℤ (x.c0 +ℤ x.c2); c2 = p *ℤ x.c2 +ℤ q *ℤ (x.c1 +ℤ x.c3); c3 = p *ℤ x.c3 +ℤ q *ℤ (x.c2 -ℤ x.c0) }
unfolding times
times-real x p q = same _ _
    (simp (distrib, distrib_left, neg_left, neg_right, neg_plus, neg_neg, zero-*ℤ) (omega (arith, ints)))
    (simp (distrib, distrib_left, neg_left, neg_right, neg_plus, neg_neg, zero-*ℤ) (omega (arith, ints)))
    (simp (distrib, distrib_left, neg_left, neg_right, neg_plus, neg_neg, zero-*ℤ) (omega (arith, ints)))
    (simp (distrib, distrib_left, neg_left, neg_right, neg_plus, neg_neg, zero-*ℤ) (omega (arith, ints)))

wider : (z : ℤ) → unsigned_abs z ≤ 2 ^ 55 → unsigned_abs z ≤ 2 ^ 56
wider z h = omega arith

pub product_is : (x : Omega) (p q u0 u1 u2 u3 a b c d : ℤ) → Within (2 ^ 55) x → unsigned_abs p ≤ 2 ^ 62 → unsigned_abs q ≤ 2 ^ 62 → unsigned_abs u0 ≤ 2 ^ 119 → unsigned_abs u1 ≤ 2 ^ 119 → unsigned_abs u2 ≤ 2 ^ 119 → unsigned_abs u3 ≤ 2 ^ 119 → unsigned_abs a ≤ 2 ^ 56 → unsigned_abs b ≤ 2 ^ 56 → unsigned_abs c ≤ 2 ^ 56 → unsigned_abs d ≤ 2 ^ 56 → u0 ≡ short p *ℤ short x.c0 +ℤ short q *ℤ short a → u1 ≡ short p *ℤ short x.c1 +ℤ short q *ℤ short b → u2 ≡ short p *ℤ short x.c2 +ℤ short q *ℤ short c → u3 ≡ short p *ℤ short x.c3 +ℤ short q *ℤ short d → a ≡ short x.c1 -ℤ short x.c3 → b ≡ short x.c0 +ℤ short x.c2 → c ≡ short x.c1 +ℤ short x.c3 → d ≡ short x.c2 -ℤ short x.c0 → record { c0 = word u0; c1 = word u1; c2 = word u2; c3 = word u3 } ≡ times (real p q) x
product_is x p q u0 u1 u2 u3 a b c d w i j h0 h1 h2 h3 k0 k1 k2 k3 e0 e1 e2 e3 f0 f1 f2 f3 =
    same _ _
    (by_parts u0 p q x.c0 a x.c0 (x.c1 -ℤ x.c3) h0 i j (wider x.c0 w.c0_in) k0 e0 refl (f0 ∙ short_difference x.c1 x.c3 w.c1_in w.c3_in))
    (by_parts u1 p q x.c1 b x.c1 (x.c0 +ℤ x.c2) h1 i j (wider x.c1 w.c1_in) k1 e1 refl (f1 ∙ short_sum x.c0 x.c2 w.c0_in w.c2_in))
    (by_parts u2 p q x.c2 c x.c2 (x.c1 +ℤ x.c3) h2 i j (wider x.c2 w.c2_in) k2 e2 refl (f2 ∙ short_sum x.c1 x.c3 w.c1_in w.c3_in))
    (by_parts u3 p q x.c3 d x.c3 (x.c2 -ℤ x.c0) h3 i j (wider x.c3 w.c3_in) k3 e3 refl (f3 ∙ short_difference x.c2 x.c0 w.c2_in w.c0_in))
    ∙ sym (times-real x p q)

word_size : (u : ℤ) → unsigned_abs u ≤ 2 ^ 119 → unsigned_abs (word u) ≤ 2 ^ 120
word_size u h = omega (arith, ints)

pub product_size : (u0 u1 u2 u3 : ℤ) → unsigned_abs u0 ≤ 2 ^ 119 → unsigned_abs u1 ≤ 2 ^ 119 → unsigned_abs u2 ≤ 2 ^ 119 → unsigned_abs u3 ≤ 2 ^ 119 → Within (2 ^ 120) (record { c0 = word u0; c1 = word u1; c2 = word u2; c3 = word u3 })
product_size u0 u1 u2 u3 a b c d = record { c0_in = word_size u0 a; c1_in = word_size u1 b; c2_in = word_size u2 c; c3_in = word_size u3 d }

pub word_negative : (a : ℤ) → unsigned_abs a ≤ 2 ^ 120 → word (pos 0 -ℤ word a) ≡ neg_ℤ a
word_negative a h = omega (arith, ints)
