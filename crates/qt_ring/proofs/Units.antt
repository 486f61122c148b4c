-- Units change no divisibility; quotients, and how 2, √2 and 1 − ω divide one another's multiples; |x·y|² = |x|²·|y|² by its two
-- parts, and so no product is 0 but that with 0.
use Rattle.std.proofs.Common.{◌≡◌, ℕ, ◌+◌, ◌*◌, ◌↔◌, refl, sym, ap, ◌∙◌, arith, ℤ, pos, negsuc, ◌+ℤ◌, ◌-ℤ◌, ◌*ℤ◌}
use lib.IntN.{*ℤ-zero, zero-*ℤ}
use Rattle.std.proofs.lemmas.Int.{ints}
use Rattle.qt_ring.specs.declared.omega.Omega.{Omega}
use Rattle.qt_ring.specs.Ring.{nil, one, the_omega, root_two, one_minus_omega, epsilon, epsilon_inverse, plus, minus, times, conj, root, two_to, whole, norm_a, norm_b}
use Rattle.qt_ring.specs.Division.{Divides, IsUnit}
use Rattle.qt_integers.proofs.Integers.{dif, dif_eq, dif_add, dif_sub, dif_mul, by_dif, pos_is, factor_zero, twice_square, neg_left, neg_right, neg_neg, double_same, two_times}
use Rattle.qt_ring.proofs.RingLaws.{same, plus_both, plus-minus, times-plus, times-minus, zero-neg, times_comm, times_assoc, times_front, one-times, root-plus, root_turns, norm_is}
use Rattle.qt_ring.proofs.Dividing.{times_two}
use Rattle.qt_ring.proofs.Norms.{norm_zero, norm-nil}
use Rattle.qt_ring.proofs.Mass.{norm-times}

-- ---- units
pub units_keep : (u d x : Omega) → IsUnit u → (Divides d (times u x) ↔ Divides d x)
units_keep u d x (v, e) = (
  λ (y, f). (times v y, times_front d v y ∙ ap (times v) f ∙ sym (times_assoc v u x) ∙ ap (λ t. times t x) (times_comm v u ∙ e) ∙ one-times x),
  λ (y, f). (times u y, times_front d u y ∙ ap (times u) f),
)

pub root_unit : (n : ℕ) → IsUnit (root n)
root_unit n =
    let turns : n + 7 * n ≡ 8 * n + 0 = omega arith in
    (root (7 * n), sym (root-plus n (7 * n)) ∙ ap root turns ∙ root_turns n 0)

pub epsilon_times_inverse : times epsilon epsilon_inverse ≡ one
unfolding epsilon epsilon_inverse times plus minus one
epsilon_times_inverse = refl

pub epsilon_unit : IsUnit epsilon
epsilon_unit = (epsilon_inverse, epsilon_times_inverse)

pub epsilon_inverse_unit : IsUnit epsilon_inverse
epsilon_inverse_unit = (epsilon, times_comm epsilon_inverse epsilon ∙ epsilon_times_inverse)

-- ---- quotients
halves_same : (y z : Omega) → plus y y ≡ plus z z → y ≡ z
unfolding plus
halves_same y z e = same y z
    (double_same y.c0 z.c0 (ap (λ (t : Omega). t.c0) e))
    (double_same y.c1 z.c1 (ap (λ (t : Omega). t.c1) e))
    (double_same y.c2 z.c2 (ap (λ (t : Omega). t.c2) e))
    (double_same y.c3 z.c3 (ap (λ (t : Omega). t.c3) e))

-- the other factor of 2 takes it to the double
doubled_by : (d w y : Omega) → times d w ≡ two_to 1 → times w (times d y) ≡ plus y y
doubled_by d w y e = sym (times_assoc w d y) ∙ ap (λ t. times t y) (times_comm w d ∙ e) ∙ times_two y

pub quotients_unique : (d y z : Omega) → Divides d (two_to 1) → times d y ≡ times d z → y ≡ z
quotients_unique d y z (w, e) f = halves_same y z (sym (doubled_by d w y e) ∙ ap (times w) f ∙ doubled_by d w z e)

root_two_twice : times root_two root_two ≡ two_to 1
unfolding times plus one
root_two_twice = refl

pub root_two_squared : Divides root_two (two_to 1)
root_two_squared = (root_two, root_two_twice)

pub one_minus_omega_in_two : Divides one_minus_omega (two_to 1)
unfolding times one_minus_omega plus minus one the_omega
one_minus_omega_in_two = (record { c0 = pos 1; c1 = pos 1; c2 = pos 1; c3 = pos 1 }, refl)

-- ---- how 2, √2 and 1 − ω divide one another's multiples
twice_root : (y : Omega) → times (two_to 1) y ≡ times root_two (times root_two y)
twice_root y = ap (λ t. times t y) (sym root_two_twice) ∙ times_assoc root_two root_two y

pub two_in_root_two : (x : Omega) → (Divides (two_to 1) (times root_two x) ↔ Divides root_two x)
two_in_root_two x = (
  λ (y, e). (y, quotients_unique root_two (times root_two y) x root_two_squared (sym (twice_root y) ∙ e)),
  λ (y, e). (y, twice_root y ∙ ap (times root_two) e),
)

-- (1 − ω)² is √2 times a unit
abbrev eta : Omega
eta = record { c0 = negsuc 0; c1 = pos 1; c2 = negsuc 0; c3 = pos 0 }

eta_unit : IsUnit eta
unfolding times one
eta_unit = (record { c0 = negsuc 0; c1 = pos 0; c2 = pos 1; c3 = pos 1 }, refl)

square_is_root : times one_minus_omega one_minus_omega ≡ times root_two eta
unfolding times one_minus_omega plus minus one the_omega
square_is_root = refl

squared : (y : Omega) → times one_minus_omega (times one_minus_omega y) ≡ times root_two (times eta y)
squared y = sym (times_assoc one_minus_omega one_minus_omega y) ∙ ap (λ t. times t y) square_is_root ∙ times_assoc root_two eta y

pub root_two_in_one_minus_omega : (x : Omega) → (Divides root_two (times one_minus_omega x) ↔ Divides one_minus_omega x)
root_two_in_one_minus_omega x = (
  λ (y, e). (units_keep eta one_minus_omega x eta_unit).0 (
    y,
    quotients_unique one_minus_omega (times one_minus_omega y) (times eta x) one_minus_omega_in_two
        (squared y ∙ times_front root_two eta y ∙ ap (times eta) e ∙ times_front eta one_minus_omega x),
  ),
  λ (y, e). (times eta y, sym (squared y) ∙ ap (times one_minus_omega) e),
)

pub one_minus_omega_in_root_two : Divides one_minus_omega root_two
unfolding times one_minus_omega plus minus one the_omega
one_minus_omega_in_root_two = (record { c0 = pos 0; c1 = pos 1; c2 = pos 1; c3 = pos 0 }, refl)

-- ---- |x·y|²
abbrev real : ℤ → ℤ → Omega
real a b = record { c0 = a; c1 = b; c2 = pos 0; c3 = pos 0 -ℤ b }

first_part : (a b c d : ℤ) → (times (real a b) (real c d)).c0 ≡ a *ℤ c +ℤ pos 2 *ℤ (b *ℤ d)
unfolding times
first_part a b c d = simp (neg_left, neg_right, neg_neg, zero-neg) (omega (arith, ints, two_times (b *ℤ d)))

second_part : (a b c d : ℤ) → (times (real a b) (real c d)).c1 ≡ a *ℤ d +ℤ b *ℤ c
unfolding times
second_part a b c d = simp (neg_left, neg_right, neg_neg, zero-neg, zero-*ℤ, *ℤ-zero) (omega (arith, ints))

norm_parts : (x y : Omega) → real (norm_a (times x y)) (norm_b (times x y)) ≡ times (real (norm_a x) (norm_b x)) (real (norm_a y) (norm_b y))
norm_parts x y = sym (norm_is (times x y)) ∙ norm-times x y ∙ ap (λ t. times t (times y (conj y))) (norm_is x) ∙ ap (times (real (norm_a x) (norm_b x))) (norm_is y)

pub norm_of_product : (x y : Omega) → (norm_a (times x y) ≡ norm_a x *ℤ norm_a y +ℤ pos 2 *ℤ (norm_b x *ℤ norm_b y)) × (norm_b (times x y) ≡ norm_a x *ℤ norm_b y +ℤ norm_b x *ℤ norm_a y)
norm_of_product x y = (
  ap (λ (t : Omega). t.c0) (norm_parts x y) ∙ first_part (norm_a x) (norm_b x) (norm_a y) (norm_b y),
  ap (λ (t : Omega). t.c1) (norm_parts x y) ∙ second_part (norm_a x) (norm_b x) (norm_a y) (norm_b y),
)

sum_with_root : (a b : ℤ) → real a b ≡ plus (whole a) (times (whole b) root_two)
unfolding plus times
sum_with_root a b = same _ _ (omega (arith, ints)) (omega (arith, ints)) (omega (arith, ints)) (omega (arith, ints))

pub norm_whole : (x : Omega) → times x (conj x) ≡ plus (whole (norm_a x)) (times (whole (norm_b x)) root_two)
norm_whole x = norm_is x ∙ sum_with_root (norm_a x) (norm_b x)

-- ---- no product of two numbers that are not 0 is 0
abbrev Eliminated : ℤ → ℤ → ℤ → ℤ → Type 0
Eliminated a b c d = (a *ℤ a -ℤ pos 2 *ℤ (b *ℤ b)) *ℤ c ≡ a *ℤ (a *ℤ c +ℤ pos 2 *ℤ (b *ℤ d)) -ℤ pos 2 *ℤ (b *ℤ (a *ℤ d +ℤ b *ℤ c))

two : pos 2 ≡ dif 2 0
two = pos_is 2

eliminated_at : (a b c d e f g h : ℕ) → (dif a b *ℤ dif a b -ℤ dif 2 0 *ℤ (dif c d *ℤ dif c d)) *ℤ dif e f ≡ dif a b *ℤ (dif a b *ℤ dif e f +ℤ dif 2 0 *ℤ (dif c d *ℤ dif g h)) -ℤ dif 2 0 *ℤ (dif c d *ℤ (dif a b *ℤ dif g h +ℤ dif c d *ℤ dif e f))
eliminated_at a b c d e f g h = simp (dif_add, dif_sub, dif_mul) (dif_eq _ _ _ _ (omega arith))

eliminated : (a b c d : ℤ) → Eliminated a b c d
eliminated a b c d =
    by_dif (λ a. Eliminated a b c d) (λ p q.
    by_dif (λ b. Eliminated (dif p q) b c d) (λ r s.
    by_dif (λ c. Eliminated (dif p q) (dif r s) c d) (λ t u.
    by_dif (λ d. Eliminated (dif p q) (dif r s) (dif t u) d) (λ v w. rw (← two) at (eliminated_at p q r s t u v w)) d) c) b) a

vanishing : (a b c d : ℤ) → a *ℤ c +ℤ pos 2 *ℤ (b *ℤ d) ≡ pos 0 → a *ℤ d +ℤ b *ℤ c ≡ pos 0 → (a *ℤ a -ℤ pos 2 *ℤ (b *ℤ b)) *ℤ c ≡ pos 0
vanishing a b c d e f =
    eliminated a b c d
    ∙ ap (λ t. a *ℤ t -ℤ pos 2 *ℤ (b *ℤ (a *ℤ d +ℤ b *ℤ c))) e
    ∙ ap (λ t. a *ℤ pos 0 -ℤ pos 2 *ℤ (b *ℤ t)) f
    ∙ simp *ℤ-zero

equal_of_difference : (a b : ℤ) → a -ℤ b ≡ pos 0 → a ≡ b
equal_of_difference a b e = omega (arith, ints, e)

pub no_zero_divisors : (x y : Omega) → times x y ≡ nil → (x ≡ nil → ⊥) → y ≡ nil
no_zero_divisors x y e h =
    let n = norm_of_product x y in
    let first : norm_a x *ℤ norm_a y +ℤ pos 2 *ℤ (norm_b x *ℤ norm_b y) ≡ pos 0 = sym n.0 ∙ ap norm_a e ∙ norm-nil.0 in
    let second : norm_a x *ℤ norm_b y +ℤ norm_b x *ℤ norm_a y ≡ pos 0 = sym n.1 ∙ ap norm_b e ∙ norm-nil.1 in
    norm_zero y (factor_zero (norm_a x *ℤ norm_a x -ℤ pos 2 *ℤ (norm_b x *ℤ norm_b x)) (norm_a y) (vanishing (norm_a x) (norm_b x) (norm_a y) (norm_b y) first second) (λ z.
    h (norm_zero x (twice_square (norm_a x) (norm_b x) (equal_of_difference (norm_a x *ℤ norm_a x) (pos 2 *ℤ (norm_b x *ℤ norm_b x)) z)))))

same_of_difference : (y z : Omega) → plus y (minus z) ≡ nil → y ≡ z
unfolding plus minus nil
same_of_difference y z e =
    let e0 = ap (λ (t : Omega). t.c0) e in
    let e1 = ap (λ (t : Omega). t.c1) e in
    let e2 = ap (λ (t : Omega). t.c2) e in
    let e3 = ap (λ (t : Omega). t.c3) e in
    same y z (omega (arith, ints, e0)) (omega (arith, ints, e1)) (omega (arith, ints, e2)) (omega (arith, ints, e3))

pub cancelled : (d y z : Omega) → (d ≡ nil → ⊥) → times d y ≡ times d z → y ≡ z
cancelled d y z h e =
    let zero : times d (plus y (minus z)) ≡ nil = times-plus d y (minus z) ∙ plus_both _ _ _ _ e (times-minus d z) ∙ plus-minus (times d z) in
    same_of_difference y z (no_zero_divisors d (plus y (minus z)) zero h)
