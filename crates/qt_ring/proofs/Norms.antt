-- |x|² = A + B√2 by its two parts: A is not negative, 2B² ≤ A², and A is 0 only where x is; the same for lists of entries.
use Rattle.std.proofs.Common.{◌≡◌, ℕ, zero, suc, ◌*◌, ◌<◌, ◌≤◌, Bool, true, false, ◌&&◌, List, [], ◌∷◌, length, get_or, refl, ap, subst, ◌∙◌, arith, ℤ, pos, negsuc, ◌+ℤ◌, ◌-ℤ◌, ◌*ℤ◌, ◌≤ℤ◌}
use lib.IntN.{*ℤ_comm}
use Rattle.std.specs.Int.RustNames.{unsigned_abs}
use Rattle.std.proofs.lemmas.Int.{ints, unsigned_abs-mul}
use Rattle.std.proofs.lemmas.Nat.{mul-le}
use Rattle.qt_ring.specs.declared.omega.Omega.{Omega}
use Rattle.qt_ring.specs.Ring.{nil, is_nil, norm_a, norm_b, Within}
use Rattle.qt_ring.specs.State.{all_nil, total_a, total_b}
use Rattle.qt_integers.proofs.Integers.{two_squares, two_times, square_is, square-nonneg, square_sum, double_product, le_of_squares}
use Rattle.qt_ring.proofs.RingLaws.{same, is_nil_true, is_nil-nil, and_left, and_right}

pub norm_a-nonneg : (x : Omega) → pos 0 ≤ℤ norm_a x
norm_a-nonneg x = omega (arith, ints, square-nonneg x.c0, square-nonneg x.c1, square-nonneg x.c2, square-nonneg x.c3)

good_parts : (u v r s : ℤ) → u *ℤ v ≡ s *ℤ s +ℤ r *ℤ r → (pos 2 *ℤ ((r +ℤ s) *ℤ (r +ℤ s))) ≤ℤ ((u +ℤ v) *ℤ (u +ℤ v))
good_parts u v r s h = omega (arith, ints, h, two_times ((r +ℤ s) *ℤ (r +ℤ s)), square_sum r s, square_sum u v, double_product r s, double_product u v)

pub norm_good : (x : Omega) → (pos 2 *ℤ (norm_b x *ℤ norm_b x)) ≤ℤ (norm_a x *ℤ norm_a x)
norm_good x =
    let u : ℤ = x.c2 *ℤ x.c2 +ℤ x.c0 *ℤ x.c0 in
    let v : ℤ = x.c1 *ℤ x.c1 +ℤ x.c3 *ℤ x.c3 in
    let r : ℤ = x.c2 *ℤ x.c3 +ℤ x.c0 *ℤ x.c1 in
    let s : ℤ = x.c2 *ℤ x.c1 -ℤ x.c0 *ℤ x.c3 in
    let a : u +ℤ v ≡ norm_a x = omega (arith, ints) in
    let b : r +ℤ s ≡ norm_b x = omega (arith, ints, *ℤ_comm x.c2 x.c1, *ℤ_comm x.c0 x.c3) in
    subst (λ (t : ℤ). (pos 2 *ℤ (norm_b x *ℤ norm_b x)) ≤ℤ (t *ℤ t)) a (subst (λ (t : ℤ). (pos 2 *ℤ (t *ℤ t)) ≤ℤ ((u +ℤ v) *ℤ (u +ℤ v))) b (good_parts u v r s (two_squares x.c2 x.c0 x.c1 x.c3)))

-- ---- sizes
below : (p q r s : ℤ) (m : ℕ) → (p *ℤ p +ℤ q *ℤ q +ℤ r *ℤ r +ℤ s *ℤ s) ≤ℤ pos (m * m) → (unsigned_abs p ≤ m) × (unsigned_abs q ≤ m) × (unsigned_abs r ≤ m) × (unsigned_abs s ≤ m)
below p q r s m h =
    let a = square_is p in
    let b = square_is q in
    let c = square_is r in
    let d = square_is s in
    (le_of_squares m (unsigned_abs p) (omega (arith, ints, a, b, c, d, h)), le_of_squares m (unsigned_abs q) (omega (arith, ints, a, b, c, d, h)), le_of_squares m (unsigned_abs r) (omega (arith, ints, a, b, c, d, h)), le_of_squares m (unsigned_abs s) (omega (arith, ints, a, b, c, d, h)))

pub within_norm : (x : Omega) (m : ℕ) → norm_a x ≤ℤ pos (m * m) → Within m x
within_norm x m h =
    let b = below x.c0 x.c1 x.c2 x.c3 m h in
    record { c0_in = b.0; c1_in = b.1; c2_in = b.2; c3_in = b.3 }

small : (z : ℤ) → unsigned_abs z ≤ 0 → z ≡ pos 0
small z h = omega (arith, ints)

pub norm_zero : (x : Omega) → norm_a x ≡ pos 0 → x ≡ nil
unfolding nil
norm_zero x e =
    let w : Within 0 x = within_norm x 0 (omega (arith, ints, e)) in
    same _ _ (small x.c0 w.c0_in) (small x.c1 w.c1_in) (small x.c2 w.c2_in) (small x.c3 w.c3_in)

pub norm-nil : (norm_a nil ≡ pos 0) × (norm_b nil ≡ pos 0)
unfolding nil
norm-nil = (refl, refl)

-- ---- lists of entries
sum-nonneg : (a b : ℤ) → pos 0 ≤ℤ a → pos 0 ≤ℤ b → pos 0 ≤ℤ (a +ℤ b)
sum-nonneg a b h g = omega (arith, ints)

first_le : (a b : ℤ) → pos 0 ≤ℤ b → a ≤ℤ (a +ℤ b)
first_le a b h = omega (arith, ints)

later_le : (a b c : ℤ) → pos 0 ≤ℤ a → c ≤ℤ b → c ≤ℤ (a +ℤ b)
later_le a b c h g = omega (arith, ints)

zero_sum : (a b : ℤ) → a ≡ pos 0 → b ≡ pos 0 → a +ℤ b ≡ pos 0
zero_sum a b e f = omega (arith, ints)

zero_parts : (a b : ℤ) → pos 0 ≤ℤ a → pos 0 ≤ℤ b → a +ℤ b ≡ pos 0 → (a ≡ pos 0) × (b ≡ pos 0)
zero_parts a b h g e = (omega (arith, ints), omega (arith, ints))

double_le : (x y : ℤ) (m k : ℕ) → 2 * m ≤ k → x ≤ℤ pos m → y ≡ pos k → (x +ℤ x) ≤ℤ y
double_le x y m k h g e = omega (arith, ints)

pub total_a-nonneg : (es : List Omega) → pos 0 ≤ℤ total_a es
total_a-nonneg [] = omega (arith, ints)
total_a-nonneg (e ∷ es) = sum-nonneg (norm_a e) (total_a es) (norm_a-nonneg e) (total_a-nonneg es)

-- no entry weighs more than all
pub total_entry : (es : List Omega) (i : ℕ) → i < length es → norm_a (get_or es i nil) ≤ℤ total_a es
total_entry [] i h = absurd (omega arith)
total_entry (e ∷ es) zero h = first_le (norm_a e) (total_a es) (total_a-nonneg es)
total_entry (e ∷ es) (suc i) h = later_le (norm_a e) (total_a es) (norm_a (get_or es i nil)) (norm_a-nonneg e) (total_entry es i (omega arith))

pub total_zero : (es : List Omega) → all_nil es ≡ true → (total_a es ≡ pos 0) × (total_b es ≡ pos 0)
total_zero [] e = (refl, refl)
total_zero (x ∷ es) e =
    let n : x ≡ nil = is_nil_true x (and_left (is_nil x) (all_nil es) e) in
    let t = total_zero es (and_right (is_nil x) (all_nil es) e) in
    (zero_sum (norm_a x) (total_a es) (ap norm_a n ∙ norm-nil.0) t.0, zero_sum (norm_b x) (total_b es) (ap norm_b n ∙ norm-nil.1) t.1)

and_both : (a b : Bool) → a ≡ true → b ≡ true → (a && b) ≡ true
and_both true b e f = f
and_both false b e f = absurd (cc)

pub zero_total : (es : List Omega) → total_a es ≡ pos 0 → all_nil es ≡ true
zero_total [] e = refl
zero_total (x ∷ es) e =
    let z = zero_parts (norm_a x) (total_a es) (norm_a-nonneg x) (total_a-nonneg es) e in
    and_both (is_nil x) (all_nil es) (ap is_nil (norm_zero x z.0) ∙ is_nil-nil) (zero_total es z.1)

-- ---- pairs with a ≥ 0 and 2b² ≤ a² can be added
cross_nat : (a b c d : ℕ) → 2 * (b * b) ≤ a * a → 2 * (d * d) ≤ c * c → 2 * (b * d) ≤ a * c
cross_nat a b c d h g =
    let p : 2 * (b * b) * (2 * (d * d)) ≤ a * a * (c * c) = mul-le (2 * (b * b)) (2 * (d * d)) (a * a) (c * c) h g in
    le_of_squares (a * c) (2 * (b * d)) (omega arith)

size_le : (z : ℤ) → z ≤ℤ pos (unsigned_abs z)
size_le z = omega (arith, ints)

product_le : (b d : ℤ) → (b *ℤ d) ≤ℤ pos (unsigned_abs b * unsigned_abs d)
product_le b d = subst (λ (k : ℕ). (b *ℤ d) ≤ℤ pos k) (unsigned_abs-mul b d) (size_le (b *ℤ d))

product_is : (a c : ℤ) → pos 0 ≤ℤ a → pos 0 ≤ℤ c → a *ℤ c ≡ pos (unsigned_abs a * unsigned_abs c)
product_is (pos a) (pos c) h g = refl
product_is (pos a) (negsuc c) h g = absurd (omega (arith, ints))
product_is (negsuc a) c h g = absurd (omega (arith, ints))

good_size : (a b : ℤ) → (pos 2 *ℤ (b *ℤ b)) ≤ℤ (a *ℤ a) → 2 * (unsigned_abs b * unsigned_abs b) ≤ unsigned_abs a * unsigned_abs a
good_size a b h = omega (arith, ints, h, two_times (b *ℤ b), square_is a, square_is b)

good_cross : (a b c d : ℤ) → pos 0 ≤ℤ a → pos 0 ≤ℤ c → (pos 2 *ℤ (b *ℤ b)) ≤ℤ (a *ℤ a) → (pos 2 *ℤ (d *ℤ d)) ≤ℤ (c *ℤ c) → (b *ℤ d +ℤ b *ℤ d) ≤ℤ (a *ℤ c)
good_cross a b c d ha hc h g =
    let n : 2 * (unsigned_abs b * unsigned_abs d) ≤ unsigned_abs a * unsigned_abs c = cross_nat (unsigned_abs a) (unsigned_abs b) (unsigned_abs c) (unsigned_abs d) (good_size a b h) (good_size c d g) in
    double_le (b *ℤ d) (a *ℤ c) (unsigned_abs b * unsigned_abs d) (unsigned_abs a * unsigned_abs c) n (product_le b d) (product_is a c ha hc)

pub good_plus : (a b c d : ℤ) → pos 0 ≤ℤ a → pos 0 ≤ℤ c → (pos 2 *ℤ (b *ℤ b)) ≤ℤ (a *ℤ a) → (pos 2 *ℤ (d *ℤ d)) ≤ℤ (c *ℤ c) → (pos 2 *ℤ ((b +ℤ d) *ℤ (b +ℤ d))) ≤ℤ ((a +ℤ c) *ℤ (a +ℤ c))
good_plus a b c d ha hc h g =
    omega (arith, ints, h, g, good_cross a b c d ha hc h g, square_sum b d, square_sum a c, two_times ((b +ℤ d) *ℤ (b +ℤ d)), two_times (b *ℤ b), two_times (d *ℤ d))

pub total_good : (es : List Omega) → (pos 2 *ℤ (total_b es *ℤ total_b es)) ≤ℤ (total_a es *ℤ total_a es)
total_good [] = omega (arith, ints)
total_good (e ∷ es) = good_plus (norm_a e) (norm_b e) (total_a es) (total_b es) (norm_a-nonneg e) (total_a-nonneg es) (norm_good e) (total_good es)
