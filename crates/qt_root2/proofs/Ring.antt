-- The numbers a + b√2 as a commutative ring: products, powers, conjugates, and doublings of them.
use Rattle.std.proofs.Common.{◌≡◌, ℕ, zero, suc, refl, sym, ap, ◌∙◌, arith, ℤ, pos, negsuc, ◌+ℤ◌, ◌*ℤ◌, ◌≤ℤ◌, ◌<ℤ◌}
use Rattle.std.specs.Prelude.{unsigned_abs}
use lib.IntN.{neg_ℤ, +ℤ_comm, *ℤ_comm}
use Rattle.std.proofs.Math.IntN.{*ℤ-zero}
use Rattle.std.proofs.lemmas.Int.{ints}
use Rattle.qt_root2.specs.Real.{lifted}
use Rattle.qt_root2.specs.Root2.{Root2, times_root2, one_root2, power}
use Rattle.qt_root2.specs.Scaling.{lifted_root2, unit, unit_inverse, unit_power}
use Rattle.qt_integers.proofs.Integers.{dif, dif_eq, dif_add, dif_mul, by_dif, pos_is, neg_left, neg_right, neg_plus, neg_neg, distrib_left}
use Rattle.qt_root2.proofs.Reals.{lifted_same, lifted-add}

pub same_root2 : (x y : Root2) → x.a ≡ y.a → x.b ≡ y.b → x ≡ y
same_root2 x y e f = parts x.a x.b y.a y.b e f
  where
    parts : (a b c d : ℤ) → a ≡ c → b ≡ d → (let p : Root2 = record { a = a; b = b } in let q : Root2 = record { a = c; b = d } in p ≡ q)
    parts a b c d e f = cc

-- ---- products

pub times_comm : (x y : Root2) → times_root2 x y ≡ times_root2 y x
times_comm x y = same_root2 (times_root2 x y) (times_root2 y x)
    (ap (λ z. z +ℤ pos 2 *ℤ (x.b *ℤ y.b)) (*ℤ_comm x.a y.a) ∙ ap (λ z. y.a *ℤ x.a +ℤ pos 2 *ℤ z) (*ℤ_comm x.b y.b))
    (ap (λ z. z +ℤ x.b *ℤ y.a) (*ℤ_comm x.a y.b) ∙ ap (λ z. y.b *ℤ x.a +ℤ z) (*ℤ_comm x.b y.a) ∙ +ℤ_comm (y.b *ℤ x.a) (y.a *ℤ x.b))

-- a triple product over differences
two : pos 2 ≡ dif 2 0
two = pos_is 2

triple_at : (a b c d e f g h i j k l : ℕ) →
    let p : Root2 = record { a = dif a b; b = dif c d } in
    let q : Root2 = record { a = dif e f; b = dif g h } in
    let r : Root2 = record { a = dif i j; b = dif k l } in
    times_root2 (times_root2 p q) r ≡ times_root2 p (times_root2 q r)
triple_at a b c d e f g h i j k l =
    let p : Root2 = record { a = dif a b; b = dif c d } in
    let q : Root2 = record { a = dif e f; b = dif g h } in
    let r : Root2 = record { a = dif i j; b = dif k l } in
    same_root2 (times_root2 (times_root2 p q) r) (times_root2 p (times_root2 q r))
    (simp (two, dif_add, dif_mul) (dif_eq _ _ _ _ (omega arith)))
    (simp (two, dif_add, dif_mul) (dif_eq _ _ _ _ (omega arith)))

by_dif_root2 : (P : Root2 → Type 0) → ((a b c d : ℕ) → P (record { a = dif a b; b = dif c d })) → (x : Root2) → P x
by_dif_root2 P h x = by_dif (λ a. P (record { a = a; b = x.b })) (λ a b. by_dif (λ z. P (record { a = dif a b; b = z })) (λ c d. h a b c d) x.b) x.a

pub times_assoc : (x y z : Root2) → times_root2 (times_root2 x y) z ≡ times_root2 x (times_root2 y z)
times_assoc x y z =
    by_dif_root2 (λ x. times_root2 (times_root2 x y) z ≡ times_root2 x (times_root2 y z)) (λ a b c d.
    let p : Root2 = record { a = dif a b; b = dif c d } in
    by_dif_root2 (λ y. times_root2 (times_root2 p y) z ≡ times_root2 p (times_root2 y z)) (λ e f g h.
    let q : Root2 = record { a = dif e f; b = dif g h } in
    by_dif_root2 (λ z. times_root2 (times_root2 p q) z ≡ times_root2 p (times_root2 q z)) (λ i j k l.
    triple_at a b c d e f g h i j k l) z) y) x

plus_nothing : (u v : ℤ) → v ≡ pos 0 → u +ℤ v ≡ u
plus_nothing u v h = omega (arith, ints, h)

times_1 : (z : ℤ) → z *ℤ pos 1 ≡ z
times_1 z = omega (arith, ints)

pub times-one : (x : Root2) → times_root2 x one_root2 ≡ x
times-one x = same_root2 (times_root2 x one_root2) x
    (plus_nothing (x.a *ℤ pos 1) (pos 2 *ℤ (x.b *ℤ pos 0)) (ap (λ z. pos 2 *ℤ z) (*ℤ-zero x.b)) ∙ times_1 x.a)
    (+ℤ_comm (x.a *ℤ pos 0) (x.b *ℤ pos 1) ∙ plus_nothing (x.b *ℤ pos 1) (x.a *ℤ pos 0) (*ℤ-zero x.a) ∙ times_1 x.b)

pub one-times : (x : Root2) → times_root2 one_root2 x ≡ x
one-times x = times_comm one_root2 x ∙ times-one x

-- (x·y)·(z·w) = (x·z)·(y·w)
times_swap : (x y z w : Root2) → times_root2 (times_root2 x y) (times_root2 z w) ≡ times_root2 (times_root2 x z) (times_root2 y w)
times_swap x y z w =
    times_assoc x y (times_root2 z w)
    ∙ ap (times_root2 x) (sym (times_assoc y z w) ∙ ap (λ u. times_root2 u w) (times_comm y z) ∙ times_assoc z y w)
    ∙ sym (times_assoc x z (times_root2 y w))

-- powers of two numbers whose product is 1
pub power_inverse : (x y : Root2) → times_root2 x y ≡ one_root2 → (n : ℕ) → times_root2 (power x n) (power y n) ≡ one_root2
power_inverse x y h zero = refl
power_inverse x y h (suc n) =
    times_swap x (power x n) y (power y n) ∙ ap (λ u. times_root2 u (times_root2 (power x n) (power y n))) h ∙ one-times (times_root2 (power x n) (power y n)) ∙ power_inverse x y h n

-- ---- doublings

pub lifted_root2_same : (n : ℕ) (x y : Root2) → lifted_root2 x n ≡ lifted_root2 y n → x ≡ y
lifted_root2_same n x y h = same_root2 x y (lifted_same n x.a y.a (ap (λ u. u.a) h)) (lifted_same n x.b y.b (ap (λ u. u.b) h))

lifted-times_ℤ : (a b : ℤ) (n : ℕ) → lifted a n *ℤ b ≡ lifted (a *ℤ b) n
lifted-times_ℤ a b zero = refl
lifted-times_ℤ a b (suc n) = distrib_left b (lifted a n) (lifted a n) ∙ ap (λ z. z +ℤ z) (lifted-times_ℤ a b n)

times_lifted_ℤ : (a b : ℤ) (n : ℕ) → a *ℤ lifted b n ≡ lifted (a *ℤ b) n
times_lifted_ℤ a b n = *ℤ_comm a (lifted b n) ∙ lifted-times_ℤ b a n ∙ ap (λ z. lifted z n) (*ℤ_comm b a)

pub lifted-times : (x y : Root2) (n : ℕ) → times_root2 (lifted_root2 x n) y ≡ lifted_root2 (times_root2 x y) n
lifted-times x y n = same_root2 (times_root2 (lifted_root2 x n) y) (lifted_root2 (times_root2 x y) n)
    (ap (λ z. z +ℤ pos 2 *ℤ (lifted x.b n *ℤ y.b)) (lifted-times_ℤ x.a y.a n)
    ∙ ap (λ z. lifted (x.a *ℤ y.a) n +ℤ z) (ap (λ z. pos 2 *ℤ z) (lifted-times_ℤ x.b y.b n) ∙ times_lifted_ℤ (pos 2) (x.b *ℤ y.b) n)
    ∙ sym (lifted-add (x.a *ℤ y.a) (pos 2 *ℤ (x.b *ℤ y.b)) n))
    (ap (λ z. z +ℤ lifted x.b n *ℤ y.a) (lifted-times_ℤ x.a y.b n)
    ∙ ap (λ z. lifted (x.a *ℤ y.b) n +ℤ z) (lifted-times_ℤ x.b y.a n)
    ∙ sym (lifted-add (x.a *ℤ y.b) (x.b *ℤ y.a) n))

-- ---- conjugates

-- a − b√2
abbrev pub conjugate : Root2 → Root2
conjugate x = record { a = x.a; b = neg_ℤ x.b }

pub conjugate-conjugate : (x : Root2) → conjugate (conjugate x) ≡ x
conjugate-conjugate x = same_root2 (conjugate (conjugate x)) x refl (neg_neg x.b)

pub conjugate-times : (x y : Root2) → times_root2 (conjugate x) (conjugate y) ≡ conjugate (times_root2 x y)
conjugate-times x y = same_root2 (times_root2 (conjugate x) (conjugate y)) (conjugate (times_root2 x y))
    (ap (λ z. x.a *ℤ y.a +ℤ pos 2 *ℤ z) (neg_left x.b (neg_ℤ y.b) ∙ ap neg_ℤ (neg_right x.b y.b) ∙ neg_neg (x.b *ℤ y.b)))
    (ap (λ z. z +ℤ neg_ℤ x.b *ℤ y.a) (neg_right x.a y.b) ∙ ap (λ z. neg_ℤ (x.a *ℤ y.b) +ℤ z) (neg_left x.b y.a) ∙ sym (neg_plus (x.a *ℤ y.b) (x.b *ℤ y.a)))

pub conjugate-power : (x : Root2) (n : ℕ) → power (conjugate x) n ≡ conjugate (power x n)
conjugate-power x zero = refl
conjugate-power x (suc n) = ap (times_root2 (conjugate x)) (conjugate-power x n) ∙ conjugate-times x (power x n)

-- (a − b√2) · ε^(2n) is the conjugate of (a + b√2) · ε^(−2n)
pub conjugate_raised : (x : Root2) (n : ℕ) → times_root2 (conjugate x) (power unit n) ≡ conjugate (times_root2 x (power unit_inverse n))
conjugate_raised x n = ap (times_root2 (conjugate x)) (conjugate-power unit_inverse n) ∙ conjugate-times x (power unit_inverse n)

pub unit_power_inverse : (z : ℤ) → times_root2 (unit_power z) (unit_power (neg_ℤ z)) ≡ one_root2
unit_power_inverse (pos zero) = refl
unit_power_inverse (pos (suc n)) = power_inverse unit unit_inverse refl (suc n)
unit_power_inverse (negsuc n) = power_inverse unit_inverse unit refl (suc n)

pub unit_power_negative : (z : ℤ) (n : ℕ) → z <ℤ pos 0 → n ≡ unsigned_abs z → unit_power z ≡ power unit_inverse n
unit_power_negative (pos m) n h e = absurd (omega (arith, ints, h))
unit_power_negative (negsuc m) n h e = ap (power unit_inverse) (sym e)

pub unit_power_positive : (z : ℤ) (n : ℕ) → pos 0 ≤ℤ z → n ≡ unsigned_abs z → unit_power z ≡ power unit n
unit_power_positive (pos m) n h e = ap (power unit) (sym e)
unit_power_positive (negsuc m) n h e = absurd (omega (arith, ints, h))
