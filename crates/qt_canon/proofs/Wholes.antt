-- 2^t divides a number of the ring where it divides each coefficient, and the quotient is found by shifting.
use Rattle.std.proofs.Common.{◌≡◌, ℕ, zero, suc, ◌+◌, ◌*◌, ◌/◌, ◌%◌, ◌^◌, ◌<◌, ◌≤◌, refl, sym, ap, ◌∙◌, arith, ℤ, pos, negsuc, ◌+ℤ◌, ◌*ℤ◌}
use Rattle.std.specs.Int.RustNames.{unsigned_abs}
use lib.IntN.{neg_ℤ, zero-*ℤ}
use lib.Signed.{shr_z}
use Rattle.std.proofs.lemmas.Int.{ints, unsigned_abs-mul}
use Rattle.std.proofs.lemmas.Nat.{div-add-mod', div-mul-add}
use Rattle.std.proofs.Math.Nat.{mul-mod_right, mul-div_cancel_left}
use native.Mathlib.Nat.{mul_comm}
use Rattle.qt_integers.proofs.Integers.{neg_right}
use Rattle.qt_ring.specs.declared.omega.Omega.{Omega}
use Rattle.qt_ring.specs.Ring.{one, plus, times, whole, two_to, Within}
use Rattle.qt_ring.specs.Division.{Divides}
use Rattle.qt_ring.proofs.RingLaws.{same}
use Rattle.qt_ring.proofs.Coefficients.{trip, trip_is}

one_whole : one ≡ whole (pos 1)
unfolding one
one_whole = refl

double_whole : (k : ℤ) → plus (whole k) (whole k) ≡ whole (k +ℤ k)
unfolding plus
double_whole k = same _ _ refl refl refl refl

two_to_whole : (t : ℕ) → two_to t ≡ whole (pos (2 ^ t))
two_to_whole zero = one_whole
two_to_whole (suc t) =
    let n : 2 ^ t + 2 ^ t ≡ 2 ^ suc t = omega arith in
    let z : pos (2 ^ t) +ℤ pos (2 ^ t) ≡ pos (2 ^ suc t) = ap pos n in
    ap (λ x. plus x x) (two_to_whole t) ∙ double_whole (pos (2 ^ t)) ∙ ap whole z

times_whole : (k : ℤ) (y : Omega) → times (whole k) y ≡ record { c0 = k *ℤ y.c0; c1 = k *ℤ y.c1; c2 = k *ℤ y.c2; c3 = k *ℤ y.c3 }
unfolding times
times_whole k y = same _ _ (simp zero-*ℤ (omega (arith, ints))) (simp zero-*ℤ (omega (arith, ints))) (simp zero-*ℤ (omega (arith, ints))) (simp zero-*ℤ (omega (arith, ints)))

times_two_to : (t : ℕ) (y : Omega) → times (two_to t) y ≡ record { c0 = pos (2 ^ t) *ℤ y.c0; c1 = pos (2 ^ t) *ℤ y.c1; c2 = pos (2 ^ t) *ℤ y.c2; c3 = pos (2 ^ t) *ℤ y.c3 }
times_two_to t y = ap (λ x. times x y) (two_to_whole t) ∙ times_whole (pos (2 ^ t)) y

-- 2^t divides the size of each coefficient
pub record IsOver (t : ℕ) (x : Omega) : Type 0 where
  pub c0_over : unsigned_abs x.c0 % 2 ^ t ≡ 0
  pub c1_over : unsigned_abs x.c1 % 2 ^ t ≡ 0
  pub c2_over : unsigned_abs x.c2 % 2 ^ t ≡ 0
  pub c3_over : unsigned_abs x.c3 % 2 ^ t ≡ 0

multiple : (k : ℕ) (z x : ℤ) → pos k *ℤ z ≡ x → unsigned_abs x % k ≡ 0
multiple k z x e = ap (λ t. unsigned_abs t % k) (sym e) ∙ ap (λ n. n % k) (unsigned_abs-mul (pos k) z) ∙ mul-mod_right k (unsigned_abs z)

pub over_of : (t : ℕ) (x : Omega) → Divides (two_to t) x → IsOver t x
over_of t x (y, e) =
    let f = sym (times_two_to t y) ∙ e in record {
      c0_over = multiple (2 ^ t) y.c0 x.c0 (ap (λ (o : Omega). o.c0) f);
      c1_over = multiple (2 ^ t) y.c1 x.c1 (ap (λ (o : Omega). o.c1) f);
      c2_over = multiple (2 ^ t) y.c2 x.c2 (ap (λ (o : Omega). o.c2) f);
      c3_over = multiple (2 ^ t) y.c3 x.c3 (ap (λ (o : Omega). o.c3) f);
    }

exact : (k n : ℕ) → n % k ≡ 0 → k * (n / k) ≡ n
exact k n e = let d : n / k * k + n % k ≡ n = div-add-mod' n k in let c : k * (n / k) ≡ n / k * k = mul_comm k (n / k) in omega arith

over : (k : ℕ) (x : ℤ) → unsigned_abs x % k ≡ 0 → (z : ℤ) × (pos k *ℤ z ≡ x)
over k (pos n) e = (pos (n / k), ap pos (exact k n e))
over k (negsuc n) e = (neg_ℤ (pos (suc n / k)), neg_right (pos k) (pos (suc n / k)) ∙ ap (λ m. neg_ℤ (pos m)) (exact k (suc n) e))

pub over_to : (t : ℕ) (x : Omega) → IsOver t x → Divides (two_to t) x
over_to t x o =
    let a = over (2 ^ t) x.c0 o.c0_over in
    let b = over (2 ^ t) x.c1 o.c1_over in
    let c = over (2 ^ t) x.c2 o.c2_over in
    let d = over (2 ^ t) x.c3 o.c3_over in
    (record { c0 = a.0; c1 = b.0; c2 = c.0; c3 = d.0 }, times_two_to t _ ∙ same _ x a.1 b.1 c.1 d.1)

-- ---- the quotient by a shift
shifted_down : (k : ℕ) (z : ℤ) → 0 < k → shr_z (pos k *ℤ z) k ≡ z
shifted_down k (pos n) h = ap pos (mul-div_cancel_left n h)
shifted_down zero (negsuc n) h = absurd (omega arith)
shifted_down (suc m) (negsuc n) h =
    let e : suc m * suc n ≡ suc (n * suc m + m) = omega arith in
    ap (λ j. shr_z (neg_ℤ (pos j)) (suc m)) e ∙ ap negsuc (div-mul-add n (suc m) m (omega arith))

positive : (t : ℕ) → 0 < 2 ^ t
positive zero = omega arith
positive (suc t) = let h : 0 < 2 ^ t = positive t in omega arith

le_product : (k n : ℕ) → 0 < k → n ≤ k * n
le_product zero n h = absurd (omega arith)
le_product (suc k) n h = omega arith

shift_is : (k : ℕ) (c z : ℤ) → 0 < k → unsigned_abs c ≤ 2 ^ 54 → pos k *ℤ z ≡ c → trip (shr_z (trip c) k) ≡ z
shift_is k c z h s e =
    let f : shr_z (trip c) k ≡ z = ap (λ a. shr_z a k) (trip_is c s ∙ sym e) ∙ shifted_down k z h in
    let g : unsigned_abs c ≡ k * unsigned_abs z = ap unsigned_abs (sym e) ∙ unsigned_abs-mul (pos k) z in
    let l : unsigned_abs z ≤ k * unsigned_abs z = le_product k (unsigned_abs z) h in
    ap trip f ∙ trip_is z (omega arith)

pub shifted_quotient : (t : ℕ) (x : Omega) → Within (2 ^ 54) x → Divides (two_to t) x → times (two_to t) (record { c0 = trip (shr_z (trip x.c0) (2 ^ t)); c1 = trip (shr_z (trip x.c1) (2 ^ t)); c2 = trip (shr_z (trip x.c2) (2 ^ t)); c3 = trip (shr_z (trip x.c3) (2 ^ t)) }) ≡ x
shifted_quotient t x w (y, e) =
    let f = sym (times_two_to t y) ∙ e in
    let h : 0 < 2 ^ t = positive t in
    ap (times (two_to t)) (same _ y
    (shift_is (2 ^ t) x.c0 y.c0 h w.c0_in (ap (λ (o : Omega). o.c0) f))
    (shift_is (2 ^ t) x.c1 y.c1 h w.c1_in (ap (λ (o : Omega). o.c1) f))
    (shift_is (2 ^ t) x.c2 y.c2 h w.c2_in (ap (λ (o : Omega). o.c2) f))
    (shift_is (2 ^ t) x.c3 y.c3 h w.c3_in (ap (λ (o : Omega). o.c3) f)))
    ∙ e
