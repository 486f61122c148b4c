-- The window of |x|² = A + B√2: powers of ω keep |x|², and powers of ε lead out of the window.
use Rattle.std.proofs.Common.{◌≡◌, ℕ, zero, suc, refl, sym, ap, subst, ◌∙◌, arith, ℤ, pos, negsuc, ◌+ℤ◌, ◌-ℤ◌, ◌*ℤ◌, ◌≤ℤ◌, ◌<ℤ◌}
use Rattle.std.proofs.lemmas.Int.{ints}
use Rattle.qt_ring.specs.declared.omega.Omega.{Omega}
use Rattle.qt_ring.specs.Ring.{nil, one, plus, minus, times, root, the_omega, epsilon, epsilon_inverse, norm_a, norm_b}
use Rattle.qt_ring.proofs.RingLaws.{times_assoc, one-times}
use Rattle.qt_ring.proofs.Norms.{norm_a-nonneg, norm-nil, norm_zero}
use Rattle.qt_ring.proofs.Units.{norm_of_product}
use Rattle.qt_canon_laws.specs.Powers.{power}
use Rattle.qt_canon_laws.specs.FirstEntry.{InWindow}

-- ---- |x|² times that of ε, of its inverse and of ω
parts_of_epsilon : (norm_a epsilon ≡ pos 3) × (norm_b epsilon ≡ pos 2)
unfolding epsilon plus one
parts_of_epsilon = (refl, refl)

parts_of_inverse : (norm_a epsilon_inverse ≡ pos 3) × (norm_b epsilon_inverse ≡ negsuc 1)
unfolding epsilon_inverse plus minus one
parts_of_inverse = (refl, refl)

parts_of_omega : (norm_a the_omega ≡ pos 1) × (norm_b the_omega ≡ pos 0)
unfolding the_omega
parts_of_omega = (refl, refl)

pub norm-epsilon : (x : Omega) → (norm_a (times epsilon x) ≡ pos 3 *ℤ norm_a x +ℤ pos 4 *ℤ norm_b x) × (norm_b (times epsilon x) ≡ pos 3 *ℤ norm_b x +ℤ pos 2 *ℤ norm_a x)
norm-epsilon x =
    let a = parts_of_epsilon.0 in
    let b = parts_of_epsilon.1 in (
      (norm_of_product epsilon x).0 ∙ ap (λ t. t *ℤ norm_a x +ℤ pos 2 *ℤ (norm_b epsilon *ℤ norm_b x)) a ∙ ap (λ t. pos 3 *ℤ norm_a x +ℤ pos 2 *ℤ (t *ℤ norm_b x)) b ∙ omega (arith, ints),
      (norm_of_product epsilon x).1 ∙ ap (λ t. t *ℤ norm_b x +ℤ norm_b epsilon *ℤ norm_a x) a ∙ ap (λ t. pos 3 *ℤ norm_b x +ℤ t *ℤ norm_a x) b,
    )

pub norm-epsilon_inverse : (x : Omega) → (norm_a (times epsilon_inverse x) ≡ pos 3 *ℤ norm_a x -ℤ pos 4 *ℤ norm_b x) × (norm_b (times epsilon_inverse x) ≡ pos 3 *ℤ norm_b x -ℤ pos 2 *ℤ norm_a x)
norm-epsilon_inverse x =
    let a = parts_of_inverse.0 in
    let b = parts_of_inverse.1 in (
      (norm_of_product epsilon_inverse x).0 ∙ ap (λ t. t *ℤ norm_a x +ℤ pos 2 *ℤ (norm_b epsilon_inverse *ℤ norm_b x)) a ∙ ap (λ t. pos 3 *ℤ norm_a x +ℤ pos 2 *ℤ (t *ℤ norm_b x)) b ∙ omega (arith, ints),
      (norm_of_product epsilon_inverse x).1 ∙ ap (λ t. t *ℤ norm_b x +ℤ norm_b epsilon_inverse *ℤ norm_a x) a ∙ ap (λ t. pos 3 *ℤ norm_b x +ℤ t *ℤ norm_a x) b ∙ omega (arith, ints),
    )

norm-omega : (x : Omega) → (norm_a (times the_omega x) ≡ norm_a x) × (norm_b (times the_omega x) ≡ norm_b x)
norm-omega x =
    let a = parts_of_omega.0 in
    let b = parts_of_omega.1 in (
      (norm_of_product the_omega x).0 ∙ ap (λ t. t *ℤ norm_a x +ℤ pos 2 *ℤ (norm_b the_omega *ℤ norm_b x)) a ∙ ap (λ t. pos 1 *ℤ norm_a x +ℤ pos 2 *ℤ (t *ℤ norm_b x)) b ∙ omega (arith, ints),
      (norm_of_product the_omega x).1 ∙ ap (λ t. t *ℤ norm_b x +ℤ norm_b the_omega *ℤ norm_a x) a ∙ ap (λ t. pos 1 *ℤ norm_b x +ℤ t *ℤ norm_a x) b ∙ omega (arith, ints),
    )

pub norm-root : (j : ℕ) (x : Omega) → (norm_a (times (root j) x) ≡ norm_a x) × (norm_b (times (root j) x) ≡ norm_b x)
norm-root zero x = (ap norm_a (one-times x), ap norm_b (one-times x))
norm-root (suc j) x =
    let s : times (root (suc j)) x ≡ times the_omega (times (root j) x) = times_assoc the_omega (root j) x in
    (ap norm_a s ∙ (norm-omega _).0 ∙ (norm-root j x).0, ap norm_b s ∙ (norm-omega _).1 ∙ (norm-root j x).1)

-- ---- the window
-- |x|² is in the window or above it
abbrev pub IsNotBelow : Omega → Type 0
IsNotBelow x = (pos 0 -ℤ norm_a x) <ℤ (pos 2 *ℤ norm_b x)

abbrev pub IsAbove : Omega → Type 0
IsAbove x = norm_a x <ℤ (pos 2 *ℤ norm_b x)

pub window_root : (j : ℕ) (x y : Omega) → y ≡ times (root j) x → InWindow y → InWindow x
window_root j x y e w =
    let p : norm_a y ≡ norm_a x = ap norm_a e ∙ (norm-root j x).0 in
    let q : norm_b y ≡ norm_b x = ap norm_b e ∙ (norm-root j x).1 in
    let a = w.above in
    let b = w.below in
    record { above = omega (arith, ints); below = omega (arith, ints) }

-- nothing in it is 0
pub window_not_nil : (x : Omega) → InWindow x → x ≡ nil → ⊥
window_not_nil x w e =
    let a : norm_a x ≡ pos 0 = ap norm_a e ∙ norm-nil.0 in
    let b : norm_b x ≡ pos 0 = ap norm_b e ∙ norm-nil.1 in
    let h = w.above in
    absurd (omega (arith, ints))

-- ---- ε leads out of it
climbs : (a b c d : ℤ) → c ≡ pos 3 *ℤ a +ℤ pos 4 *ℤ b → d ≡ pos 3 *ℤ b +ℤ pos 2 *ℤ a → (pos 0 -ℤ a) <ℤ (pos 2 *ℤ b) → c <ℤ (pos 2 *ℤ d)
climbs a b c d e f h = omega (arith, ints)

above-epsilon : (x : Omega) → IsNotBelow x → IsAbove (times epsilon x)
above-epsilon x h = climbs (norm_a x) (norm_b x) _ _ (norm-epsilon x).0 (norm-epsilon x).1 h

not_below_above : (a b : ℤ) → pos 0 ≤ℤ a → a <ℤ (pos 2 *ℤ b) → (pos 0 -ℤ a) <ℤ (pos 2 *ℤ b)
not_below_above a b h k = omega (arith, ints)

not_below-power : (n : ℕ) (x : Omega) → IsNotBelow x → IsNotBelow (times (power epsilon n) x)
not_below-power zero x h = subst IsNotBelow (sym (one-times x)) h
not_below-power (suc n) x h =
    let y : Omega = times (power epsilon n) x in
    subst IsNotBelow (sym (times_assoc epsilon (power epsilon n) x)) (not_below_above (norm_a (times epsilon y)) (norm_b (times epsilon y)) (norm_a-nonneg _) (above-epsilon y (not_below-power n x h)))

-- a power of ε leads from the window, or from above it, to above it
pub above-power : (n : ℕ) (x : Omega) → IsNotBelow x → IsAbove (times (power epsilon (suc n)) x)
above-power n x h = subst IsAbove (sym (times_assoc epsilon (power epsilon n) x)) (above-epsilon (times (power epsilon n) x) (not_below-power n x h))

-- ---- what isn't 0
by_parts : (z : ℤ) → pos 0 ≤ℤ z → (z ≡ pos 0 → ⊥) → pos 0 <ℤ z
by_parts (pos zero) h k = absurd (k refl)
by_parts (pos (suc n)) h k = omega (arith, ints)
by_parts (negsuc n) h k = absurd (omega (arith, ints))

pub norm_a-positive : (x : Omega) → (x ≡ nil → ⊥) → pos 0 <ℤ norm_a x
norm_a-positive x some = let n : pos 0 ≤ℤ norm_a x = norm_a-nonneg x in by_parts (norm_a x) n (λ e. some (norm_zero x e))
