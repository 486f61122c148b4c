-- Laws of the whole numbers. An identity is proved over differences of natural numbers, where it is one of sums of products, and then carried over.
use Rattle.std.proofs.Common.{◌≡◌, ℕ, zero, suc, ◌+◌, ◌*◌, ◌-◌, ◌/◌, ◌%◌, ◌<◌, inl, inr, refl, sym, ap, ◌∙◌, subst, arith, ℤ, pos, negsuc, ◌+ℤ◌, ◌-ℤ◌, ◌*ℤ◌, ◌≤ℤ◌, ◌≤◌}
use lib.IntN.{neg_ℤ, *ℤ_comm, *ℤ-one}
use Rattle.std.proofs.lemmas.Int.{ints, unsigned_abs-mul}
use Rattle.std.proofs.lemmas.Bool.{cases_lt}
use Rattle.std.proofs.lemmas.Nat.{mul-le}
use Rattle.std.specs.Int.RustNames.{unsigned_abs}

-- a - b
pub dif : ℕ → ℕ → ℤ
dif a b = pos a -ℤ pos b

pub dif_eq : (a b c d : ℕ) → a + d ≡ c + b → dif a b ≡ dif c d
unfolding dif
dif_eq a b c d h = omega (arith, ints)

pub dif_add : (a b c d : ℕ) → dif a b +ℤ dif c d ≡ dif (a + c) (b + d)
unfolding dif
dif_add a b c d = omega (arith, ints)

pub dif_sub : (a b c d : ℕ) → dif a b -ℤ dif c d ≡ dif (a + d) (b + c)
unfolding dif
dif_sub a b c d = omega (arith, ints)

up : ℤ → ℕ
up (pos n) = n
up (negsuc n) = 0

down : ℤ → ℕ
down (pos n) = 0
down (negsuc n) = suc n

dif_is : (z : ℤ) → dif (up z) (down z) ≡ z
unfolding dif up down
dif_is (pos n) = omega (arith, ints)
dif_is (negsuc n) = omega (arith, ints)

pub pos_is : (n : ℕ) → pos n ≡ dif n 0
unfolding dif
pos_is n = omega (arith, ints)

pos_by : (n m k : ℕ) → n + m ≡ k → pos n ≡ dif k m
unfolding dif
pos_by n m k h = omega (arith, ints, h)

neg_by : (n m k : ℕ) → n + m ≡ k → neg_ℤ (pos n) ≡ dif m k
unfolding dif
neg_by n m k h = omega (arith, ints, h)

-- a product by the signs
mul_is : (x y : ℤ) → x *ℤ y ≡ dif (up x * up y + down x * down y) (up x * down y + down x * up y)
unfolding up down
mul_is (pos a) (pos b) = pos_by _ _ _ (omega arith)
mul_is (pos a) (negsuc b) = neg_by _ _ _ (omega arith)
mul_is (negsuc a) (pos b) = neg_by _ _ _ (omega arith)
mul_is (negsuc a) (negsuc b) = pos_by _ _ _ (omega arith)

cross : (a b c d p q r s : ℕ) → p + b ≡ q + a → r + d ≡ s + c → (p * r + q * s) + (a * d + b * c) ≡ (a * c + b * d) + (p * s + q * r)
cross a b c d p q r s h g =
    let h1 : (p + b) * r ≡ (q + a) * r = ap (λ x. x * r) h in
    let h2 : (p + b) * s ≡ (q + a) * s = ap (λ x. x * s) h in
    let g1 : a * (r + d) ≡ a * (s + c) = ap (λ x. a * x) g in
    let g2 : b * (r + d) ≡ b * (s + c) = ap (λ x. b * x) g in
    omega arith

from_dif : (a b : ℕ) (z : ℤ) → z ≡ dif a b → up z + b ≡ down z + a
unfolding dif up down
from_dif a b (pos n) e = omega (arith, ints, e)
from_dif a b (negsuc n) e = omega (arith, ints, e)

parts : (a b : ℕ) → up (dif a b) + b ≡ down (dif a b) + a
parts a b = from_dif a b (dif a b) refl

pub dif_mul : (a b c d : ℕ) → dif a b *ℤ dif c d ≡ dif (a * c + b * d) (a * d + b * c)
dif_mul a b c d =
    mul_is (dif a b) (dif c d) ∙ dif_eq _ _ _ _ (cross a b c d (up (dif a b)) (down (dif a b)) (up (dif c d)) (down (dif c d)) (parts a b) (parts c d))

pub by_dif : (P : ℤ → Type 0) → ((a b : ℕ) → P (dif a b)) → (z : ℤ) → P z
by_dif P h z = subst P (dif_is z) (h (up z) (down z))

distrib_d : (a b c d e f : ℕ) → dif a b *ℤ (dif c d +ℤ dif e f) ≡ dif a b *ℤ dif c d +ℤ dif a b *ℤ dif e f
distrib_d a b c d e f = simp (dif_add, dif_mul) (dif_eq _ _ _ _ (omega arith))

pub distrib : (x y z : ℤ) → x *ℤ (y +ℤ z) ≡ x *ℤ y +ℤ x *ℤ z
distrib x y z = by_dif (λ x. x *ℤ (y +ℤ z) ≡ x *ℤ y +ℤ x *ℤ z) (λ a b. by_dif (λ y. dif a b *ℤ (y +ℤ z) ≡ dif a b *ℤ y +ℤ dif a b *ℤ z) (λ c d. by_dif (λ z. dif a b *ℤ (dif c d +ℤ z) ≡ dif a b *ℤ dif c d +ℤ dif a b *ℤ z) (λ e f. distrib_d a b c d e f) z) y) x

pub distrib_left : (x y z : ℤ) → (y +ℤ z) *ℤ x ≡ y *ℤ x +ℤ z *ℤ x
distrib_left x y z = *ℤ_comm (y +ℤ z) x ∙ distrib x y z ∙ ap (λ t. t +ℤ x *ℤ z) (*ℤ_comm x y) ∙ ap (λ t. y *ℤ x +ℤ t) (*ℤ_comm x z)

assoc_d : (a b c d e f : ℕ) → dif a b *ℤ (dif c d *ℤ dif e f) ≡ dif a b *ℤ dif c d *ℤ dif e f
assoc_d a b c d e f = simp (dif_add, dif_mul) (dif_eq _ _ _ _ (omega arith))

pub assoc : (x y z : ℤ) → x *ℤ y *ℤ z ≡ x *ℤ (y *ℤ z)
assoc x y z = sym (by_dif (λ x. x *ℤ (y *ℤ z) ≡ x *ℤ y *ℤ z) (λ a b. by_dif (λ y. dif a b *ℤ (y *ℤ z) ≡ dif a b *ℤ y *ℤ z) (λ c d. by_dif (λ z. dif a b *ℤ (dif c d *ℤ z) ≡ dif a b *ℤ dif c d *ℤ z) (λ e f. assoc_d a b c d e f) z) y) x)

pub neg_dif : (a b : ℕ) → neg_ℤ (dif a b) ≡ dif b a
unfolding dif
neg_dif a b = omega (arith, ints)

neg_d : (a b c d : ℕ) → neg_ℤ (dif a b) *ℤ dif c d ≡ neg_ℤ (dif a b *ℤ dif c d)
neg_d a b c d = simp (neg_dif, dif_mul) (dif_eq _ _ _ _ (omega arith))

pub neg_left : (x y : ℤ) → neg_ℤ x *ℤ y ≡ neg_ℤ (x *ℤ y)
neg_left x y = by_dif (λ x. neg_ℤ x *ℤ y ≡ neg_ℤ (x *ℤ y)) (λ a b. by_dif (λ y. neg_ℤ (dif a b) *ℤ y ≡ neg_ℤ (dif a b *ℤ y)) (λ c d. neg_d a b c d) y) x

pub neg_right : (x y : ℤ) → x *ℤ neg_ℤ y ≡ neg_ℤ (x *ℤ y)
neg_right x y = *ℤ_comm x (neg_ℤ y) ∙ neg_left y x ∙ ap neg_ℤ (*ℤ_comm y x)

pub neg_plus : (x y : ℤ) → neg_ℤ (x +ℤ y) ≡ neg_ℤ x +ℤ neg_ℤ y
neg_plus x y = omega (arith, ints)

pub neg_neg : (x : ℤ) → neg_ℤ (neg_ℤ x) ≡ x
neg_neg x = omega (arith, ints)

-- a number and itself
pub double_same : (x y : ℤ) → x +ℤ x ≡ y +ℤ y → x ≡ y
double_same x y h = omega (arith, ints, h)

-- the order of products

pub times_least : (x y : ℤ) → pos 0 ≤ℤ x → pos 0 ≤ℤ y → pos 0 ≤ℤ (x *ℤ y)
times_least (pos m) (pos n) h g = omega (arith, ints)
times_least (negsuc m) y h g = absurd (omega (arith, ints, h))
times_least (pos m) (negsuc n) h g = absurd (omega (arith, ints, g))

two_squares_d : (a b c d e f g h : ℕ) → (dif a b *ℤ dif a b +ℤ dif c d *ℤ dif c d) *ℤ (dif e f *ℤ dif e f +ℤ dif g h *ℤ dif g h) ≡ (dif a b *ℤ dif e f -ℤ dif c d *ℤ dif g h) *ℤ (dif a b *ℤ dif e f -ℤ dif c d *ℤ dif g h) +ℤ (dif a b *ℤ dif g h +ℤ dif c d *ℤ dif e f) *ℤ (dif a b *ℤ dif g h +ℤ dif c d *ℤ dif e f)
two_squares_d a b c d e f g h = simp (dif_add, dif_sub, dif_mul) (dif_eq _ _ _ _ (omega arith))

abbrev TwoSquares : ℤ → ℤ → ℤ → ℤ → Type 0
TwoSquares x y z w = (x *ℤ x +ℤ y *ℤ y) *ℤ (z *ℤ z +ℤ w *ℤ w) ≡ (x *ℤ z -ℤ y *ℤ w) *ℤ (x *ℤ z -ℤ y *ℤ w) +ℤ (x *ℤ w +ℤ y *ℤ z) *ℤ (x *ℤ w +ℤ y *ℤ z)

-- a product of two sums of two squares is one
pub two_squares : (x y z w : ℤ) → (x *ℤ x +ℤ y *ℤ y) *ℤ (z *ℤ z +ℤ w *ℤ w) ≡ (x *ℤ z -ℤ y *ℤ w) *ℤ (x *ℤ z -ℤ y *ℤ w) +ℤ (x *ℤ w +ℤ y *ℤ z) *ℤ (x *ℤ w +ℤ y *ℤ z)
two_squares x y z w =
    by_dif (λ x. TwoSquares x y z w) (λ a b.
    by_dif (λ y. TwoSquares (dif a b) y z w) (λ c d.
    by_dif (λ z. TwoSquares (dif a b) (dif c d) z w) (λ e f.
    by_dif (λ w. TwoSquares (dif a b) (dif c d) (dif e f) w) (λ g h. two_squares_d a b c d e f g h) w) z) y) x

-- ---- squares
pub two_times : (x : ℤ) → pos 2 *ℤ x ≡ x +ℤ x
unfolding lib.IntN.one
two_times x = *ℤ_comm (pos 2) x ∙ distrib x (pos 1) (pos 1) ∙ ap (λ t. t +ℤ x *ℤ pos 1) (*ℤ-one x) ∙ ap (λ t. x +ℤ t) (*ℤ-one x)

pub square_is : (x : ℤ) → x *ℤ x ≡ pos (unsigned_abs x * unsigned_abs x)
square_is (pos n) = refl
square_is (negsuc n) = refl

pub square-nonneg : (x : ℤ) → pos 0 ≤ℤ (x *ℤ x)
square-nonneg x = omega (arith, ints, square_is x)

pub square_sum : (x y : ℤ) → (x +ℤ y) *ℤ (x +ℤ y) ≡ x *ℤ x +ℤ y *ℤ y +ℤ (x *ℤ y +ℤ x *ℤ y)
square_sum x y = simp (distrib, distrib_left) (omega (arith, ints, *ℤ_comm y x))

square_difference : (x y : ℤ) → (x -ℤ y) *ℤ (x -ℤ y) ≡ x *ℤ x +ℤ y *ℤ y -ℤ (x *ℤ y +ℤ x *ℤ y)
square_difference x y = simp (distrib, distrib_left, neg_left, neg_right, neg_plus, neg_neg) (omega (arith, ints, *ℤ_comm y x))

pub double_product : (x y : ℤ) → (x *ℤ y +ℤ x *ℤ y) ≤ℤ (x *ℤ x +ℤ y *ℤ y)
double_product x y = omega (arith, ints, square_difference x y, square-nonneg (x -ℤ y))

above : (m k d : ℕ) → k ≡ m + suc d → k * k ≤ m * m → ⊥
above m k d e h =
    let s : k * k ≡ (m + suc d) * (m + suc d) = ap (λ t. t * t) e in
    omega arith

by_difference : (m k t : ℕ) → k - m ≡ t → k * k ≤ m * m → k ≤ m
by_difference m k zero e h = omega arith
by_difference m k (suc d) e h = absurd (above m k d (omega arith) h)

pub le_of_squares : (m k : ℕ) → k * k ≤ m * m → k ≤ m
le_of_squares m k h = by_difference m k (k - m) refl h

-- ---- products that are 0
square_zero : (n : ℕ) → n * n ≡ 0 → n ≡ 0
square_zero zero e = refl
square_zero (suc n) e = absurd (omega arith)

other_zero : (m n : ℕ) → m * n ≡ 0 → (m ≡ 0 → ⊥) → n ≡ 0
other_zero zero n p h = absurd (h refl)
other_zero (suc m) n p h = omega arith

pub factor_zero : (x y : ℤ) → x *ℤ y ≡ pos 0 → (x ≡ pos 0 → ⊥) → y ≡ pos 0
factor_zero x y e h =
    let p : unsigned_abs x * unsigned_abs y ≡ 0 = sym (unsigned_abs-mul x y) ∙ ap unsigned_abs e in
    let z : unsigned_abs y ≡ 0 = other_zero (unsigned_abs x) (unsigned_abs y) p (λ z. h (omega (arith, ints, z))) in
    omega (arith, ints, z)

-- ---- √2 is not a fraction: a square is twice a square at 0 alone
abbrev OnlyZeroUpTo : ℕ → Type 0
OnlyZeroUpTo k = (m n : ℕ) → n ≤ k → n * n ≡ 2 * (m * m) → n ≡ 0

even_step : (k m n q : ℕ) → OnlyZeroUpTo k → n ≤ suc k → n * n ≡ 2 * (m * m) → n ≡ 2 * q → n ≡ 0
even_step k m n q lower h e s =
    let square : n * n ≡ (2 * q) * (2 * q) = ap (λ t. t * t) s in
    let half : m * m ≡ 2 * (q * q) = omega arith in
    elim (cases_lt m n) [
      | inl l ↦
          let z : m ≡ 0 = lower q m (omega arith) half in
          let none : m * m ≡ 0 * 0 = ap (λ t. t * t) z in
          square_zero n (omega arith)
      | inr l ↦
          let larger : n * n ≤ m * m = mul-le n n m m l l in
          square_zero n (omega arith)
    ]

odd_step : (m n q : ℕ) → n * n ≡ 2 * (m * m) → n ≡ 2 * q + 1 → ⊥
odd_step m n q e s =
    let square : n * n ≡ (2 * q + 1) * (2 * q + 1) = ap (λ t. t * t) s in
    omega arith

step : (k m n q r : ℕ) → OnlyZeroUpTo k → n ≤ suc k → n * n ≡ 2 * (m * m) → n ≡ 2 * q + r → r < 2 → n ≡ 0
step k m n q zero lower h e s l = even_step k m n q lower h e (omega arith)
step k m n q (suc zero) lower h e s l = absurd (odd_step m n q e s)
step k m n q (suc (suc r)) lower h e s l = absurd (omega arith)

descent : (k : ℕ) → OnlyZeroUpTo k
descent zero m n h e = omega arith
descent (suc k) m n h e = step k m n (n / 2) (n % 2) (descent k) h e (omega arith) (omega arith)

pub twice_square : (a b : ℤ) → a *ℤ a ≡ pos 2 *ℤ (b *ℤ b) → a ≡ pos 0
twice_square a b e =
    let s : unsigned_abs a * unsigned_abs a ≡ 2 * (unsigned_abs b * unsigned_abs b) = omega (arith, ints, e, two_times (b *ℤ b), square_is a, square_is b) in
    let z : unsigned_abs a ≡ 0 = descent (unsigned_abs a) (unsigned_abs b) (unsigned_abs a) (omega arith) s in
    omega (arith, ints, z)
