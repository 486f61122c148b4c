-- Sums and differences of coefficients as the code takes them: within 64 bits nothing is lost.
use Rattle.std.proofs.Common.{◌≡◌, ℕ, ◌+◌, ◌*◌, ◌%◌, ◌≤◌, ◌^◌, suc, sym, ap, ◌∙◌, arith, ℤ, pos, FitsSigned, MatchOption, Option, None, ◌≢◌, ◌+ℤ◌, ◌-ℤ◌, ◌*ℤ◌}
use Rattle.std.specs.Int.RustNames.{unsigned_abs}
use mir.Val.{to_z, of_z}
use mir.Syntax.{w64, w128}
use lib.IntN.{neg_ℤ, *ℤ_comm, zero-*ℤ, *ℤ-one}
use Rattle.std.proofs.lemmas.Int.{ints}
use Rattle.qt_ring.specs.declared.omega.Omega.{Omega}
use Rattle.qt_ring.specs.Ring.{plus, times, the_omega, root}
use Rattle.qt_ring.proofs.RingLaws.{same, times_assoc, one-times, root_mod}

-- a whole number put into 64 bits and read again
abbrev pub trip : ℤ → ℤ
trip z = to_z w64 (of_z w64 z)

pub trip_is : (z : ℤ) → unsigned_abs z ≤ 2 ^ 54 → trip z ≡ z
trip_is z h = omega (arith, ints)

pub trip_sum : (a b : ℤ) → unsigned_abs a ≤ 2 ^ 54 → unsigned_abs b ≤ 2 ^ 54 → trip (trip a +ℤ trip b) ≡ a +ℤ b
trip_sum a b h k = omega (arith, ints)

pub trip_difference : (a b : ℤ) → unsigned_abs a ≤ 2 ^ 54 → unsigned_abs b ≤ 2 ^ 54 → trip (trip a -ℤ trip b) ≡ a +ℤ (pos 0 -ℤ b)
trip_difference a b h k = omega (arith, ints)

pub trip_negative : (a : ℤ) → unsigned_abs a ≤ 2 ^ 54 → trip (pos 0 -ℤ trip a) ≡ neg_ℤ a
trip_negative a h = omega (arith, ints)

pub trip_opposite : (a : ℤ) → unsigned_abs a ≤ 2 ^ 54 → trip (pos 0 -ℤ trip a) ≡ pos 0 -ℤ a
trip_opposite a h = omega (arith, ints)

-- sums of three, and sizes of them
pub trip_two_less : (a b c : ℤ) → unsigned_abs a ≤ 2 ^ 54 → unsigned_abs b ≤ 2 ^ 54 → unsigned_abs c ≤ 2 ^ 54 → trip (trip (trip a +ℤ trip b) -ℤ trip c) ≡ a +ℤ b -ℤ c
trip_two_less a b c h k l = omega (arith, ints)

pub trip_three : (a b c : ℤ) → unsigned_abs a ≤ 2 ^ 54 → unsigned_abs b ≤ 2 ^ 54 → unsigned_abs c ≤ 2 ^ 54 → trip (trip (trip a +ℤ trip b) +ℤ trip c) ≡ a +ℤ b +ℤ c
trip_three a b c h k l = omega (arith, ints)

pub trip_less_two : (a b c : ℤ) → unsigned_abs a ≤ 2 ^ 54 → unsigned_abs b ≤ 2 ^ 54 → unsigned_abs c ≤ 2 ^ 54 → trip (trip (trip a -ℤ trip b) -ℤ trip c) ≡ a -ℤ b -ℤ c
trip_less_two a b c h k l = omega (arith, ints)

pub size_two_less : (a b c : ℤ) → unsigned_abs a ≤ 2 ^ 54 → unsigned_abs b ≤ 2 ^ 54 → unsigned_abs c ≤ 2 ^ 54 → unsigned_abs (trip (trip (trip a +ℤ trip b) -ℤ trip c)) ≤ 3 * 2 ^ 54
size_two_less a b c h k l = rw (trip_two_less a b c h k l) (omega (arith, ints))

pub size_three : (a b c : ℤ) → unsigned_abs a ≤ 2 ^ 54 → unsigned_abs b ≤ 2 ^ 54 → unsigned_abs c ≤ 2 ^ 54 → unsigned_abs (trip (trip (trip a +ℤ trip b) +ℤ trip c)) ≤ 3 * 2 ^ 54
size_three a b c h k l = rw (trip_three a b c h k l) (omega (arith, ints))

pub size_less_two : (a b c : ℤ) → unsigned_abs a ≤ 2 ^ 54 → unsigned_abs b ≤ 2 ^ 54 → unsigned_abs c ≤ 2 ^ 54 → unsigned_abs (trip (trip (trip a -ℤ trip b) -ℤ trip c)) ≤ 3 * 2 ^ 54
size_less_two a b c h k l = rw (trip_less_two a b c h k l) (omega (arith, ints))

one_times : (x : ℤ) → pos 1 *ℤ x ≡ x
unfolding lib.IntN.one
one_times x = *ℤ_comm (pos 1) x ∙ *ℤ-one x

pub turned_is : (x r : Omega) → r.c0 ≡ neg_ℤ x.c3 → r.c1 ≡ x.c0 → r.c2 ≡ x.c1 → r.c3 ≡ x.c2 → r ≡ times the_omega x
unfolding times the_omega
turned_is x r a b c d = same r _ (simp (zero-*ℤ, one_times) (omega (arith, ints, a))) (simp (zero-*ℤ, one_times) (omega (arith, ints, b))) (simp (zero-*ℤ, one_times) (omega (arith, ints, c))) (simp (zero-*ℤ, one_times) (omega (arith, ints, d)))

pub none_turned : (x : Omega) → x ≡ times (root 0) x
none_turned x = sym (one-times x)

pub one_more : (j : ℕ) (x r s : Omega) → r ≡ times (root j) x → s ≡ times the_omega r → s ≡ times (root (j + 1)) x
one_more j x r s h k =
    let z : j + 1 ≡ suc j = omega arith in
    k ∙ ap (times the_omega) h ∙ sym (times_assoc the_omega (root j) x) ∙ ap (λ n. times (root n) x) (sym z)

pub all_turned : (j : ℕ) (x r : Omega) → r ≡ times (root (j % 8)) x → r ≡ times (root j) x
all_turned j x r h = h ∙ ap (λ t. times t x) (root_mod j)

-- ---- differences from half a sum of four
pub record IsHalfOfFour (h a b c d : ℤ) : Type 0 where
  pub value : a +ℤ b +ℤ c +ℤ d ≡ h +ℤ h
  pub a_in : unsigned_abs a ≤ 2 ^ 54
  pub b_in : unsigned_abs b ≤ 2 ^ 54
  pub c_in : unsigned_abs c ≤ 2 ^ 54
  pub d_in : unsigned_abs d ≤ 2 ^ 54

pub half_size : (h a b c d : ℤ) → IsHalfOfFour h a b c d → unsigned_abs h ≤ 2 ^ 55
half_size h a b c d i = omega (arith, ints)

pub trip_half : (h a b c d : ℤ) → IsHalfOfFour h a b c d → trip h ≡ h
trip_half h a b c d i = omega (arith, ints)

pub trip_half_less : (h a b c d : ℤ) → IsHalfOfFour h a b c d → trip (trip h -ℤ trip d) ≡ h -ℤ d
trip_half_less h a b c d i = omega (arith, ints)

pub trip_half_less_two : (h a b c d : ℤ) → IsHalfOfFour h a b c d → trip (trip (trip h -ℤ trip d) -ℤ trip c) ≡ h -ℤ d -ℤ c
trip_half_less_two h a b c d i = rw (trip_half_less h a b c d i) (omega (arith, ints))

pub trip_half_less_three : (h a b c d : ℤ) → IsHalfOfFour h a b c d → trip (trip (trip (trip h -ℤ trip d) -ℤ trip c) -ℤ trip b) ≡ h -ℤ d -ℤ c -ℤ b
trip_half_less_three h a b c d i = rw (trip_half_less_two h a b c d i) (omega (arith, ints))

pub fits_half_less_two : (h a b c d : ℤ) → IsHalfOfFour h a b c d → FitsSigned w64 (trip (trip h -ℤ trip d) -ℤ trip c)
fits_half_less_two h a b c d i = rw (trip_half_less h a b c d i) (omega (arith, ints))

pub fits_half_less_three : (h a b c d : ℤ) → IsHalfOfFour h a b c d → FitsSigned w64 (trip (trip (trip h -ℤ trip d) -ℤ trip c) -ℤ trip b)
fits_half_less_three h a b c d i = rw (trip_half_less_two h a b c d i) (omega (arith, ints))

pub size_of : (t z : ℤ) (m : ℕ) → t ≡ z → unsigned_abs z ≤ m → unsigned_abs t ≤ m
size_of t z m e h = rw e h

pub trip_four : (a b c d : ℤ) → unsigned_abs a ≤ 2 ^ 54 → unsigned_abs b ≤ 2 ^ 54 → unsigned_abs c ≤ 2 ^ 54 → unsigned_abs d ≤ 2 ^ 54 → trip (trip (trip (trip a +ℤ trip b) +ℤ trip c) +ℤ trip d) ≡ a +ℤ b +ℤ c +ℤ d
trip_four a b c d h k l m = rw (trip_three a b c h k l) (omega (arith, ints))

-- ---- and within 128 bits
less_is : (x w : ℤ) → x +ℤ (pos 0 -ℤ w) ≡ x -ℤ w
less_is x w = omega (arith, ints)

pub opposite_fits : (a : ℤ) → unsigned_abs a ≤ 2 ^ 108 → FitsSigned w128 (pos 0 -ℤ to_z w128 (of_z w128 a))
opposite_fits a h = omega (arith, ints)

pub opposite_size : (a : ℤ) → unsigned_abs a ≤ 2 ^ 108 → unsigned_abs (to_z w128 (of_z w128 (pos 0 -ℤ to_z w128 (of_z w128 a)))) ≤ 2 ^ 108
opposite_size a h = omega (arith, ints)

abbrev pub wide : ℤ → ℤ
wide z = to_z w128 (of_z w128 z)

pub wide_is : (z : ℤ) → unsigned_abs z ≤ 2 ^ 112 → wide z ≡ z
wide_is z h = omega (arith, ints)

wide_opposite : (z : ℤ) → unsigned_abs z ≤ 2 ^ 108 → wide (pos 0 -ℤ wide z) ≡ pos 0 -ℤ z
wide_opposite z h = omega (arith, ints)

four_size : (p q r s : ℤ) → unsigned_abs p ≤ 2 ^ 108 → unsigned_abs q ≤ 2 ^ 108 → unsigned_abs r ≤ 2 ^ 108 → unsigned_abs s ≤ 2 ^ 108 → unsigned_abs (p +ℤ q +ℤ r +ℤ (pos 0 -ℤ s)) ≤ 2 ^ 112
four_size p q r s a b c d = omega (arith, ints)

four_sum : (p q r s t : ℤ) → unsigned_abs p ≤ 2 ^ 108 → unsigned_abs q ≤ 2 ^ 108 → unsigned_abs r ≤ 2 ^ 108 → unsigned_abs s ≤ 2 ^ 108 → t ≡ wide p +ℤ wide q +ℤ wide r +ℤ wide (pos 0 -ℤ wide s) → t ≡ p +ℤ q +ℤ r +ℤ (pos 0 -ℤ s)
four_sum p q r s t a b c d e =
    e
    ∙ ap (λ k. k +ℤ wide q +ℤ wide r +ℤ wide (pos 0 -ℤ wide s)) (wide_is p (omega arith))
    ∙ ap (λ k. p +ℤ k +ℤ wide r +ℤ wide (pos 0 -ℤ wide s)) (wide_is q (omega arith))
    ∙ ap (λ k. p +ℤ q +ℤ k +ℤ wide (pos 0 -ℤ wide s)) (wide_is r (omega arith))
    ∙ ap (λ k. p +ℤ q +ℤ r +ℤ k) (wide_opposite s d)

pub products_sum : (p q r s t x y z w : ℤ) → unsigned_abs p ≤ 2 ^ 108 → unsigned_abs q ≤ 2 ^ 108 → unsigned_abs r ≤ 2 ^ 108 → unsigned_abs s ≤ 2 ^ 108 → t ≡ wide p +ℤ wide q +ℤ wide r +ℤ wide (pos 0 -ℤ wide s) → p ≡ x → q ≡ y → r ≡ z → s ≡ w → wide t ≡ x +ℤ y +ℤ z -ℤ w
products_sum p q r s t x y z w a b c d e f g h i =
    let k : t ≡ p +ℤ q +ℤ r +ℤ (pos 0 -ℤ s) = four_sum p q r s t a b c d e in
    let n : unsigned_abs t ≤ 2 ^ 112 = rw k (four_size p q r s a b c d) in
    wide_is t n ∙ k ∙ ap (λ u. u +ℤ q +ℤ r +ℤ (pos 0 -ℤ s)) f ∙ ap (λ u. x +ℤ u +ℤ r +ℤ (pos 0 -ℤ s)) g ∙ ap (λ u. x +ℤ y +ℤ u +ℤ (pos 0 -ℤ s)) h ∙ ap (λ u. x +ℤ y +ℤ z +ℤ (pos 0 -ℤ u)) i ∙ less_is (x +ℤ y +ℤ z) w

pub product_is : (a b p : ℤ) → unsigned_abs a ≤ 2 ^ 54 → unsigned_abs b ≤ 2 ^ 54 → p ≡ trip a *ℤ trip b → p ≡ a *ℤ b
product_is a b p h k e = e ∙ ap (λ t. t *ℤ trip b) (trip_is a h) ∙ ap (λ t. a *ℤ t) (trip_is b k)

-- ---- halves
pub double_is : (a h : ℤ) → unsigned_abs a ≤ 2 ^ 54 → trip a ≡ h +ℤ h → a ≡ trip h +ℤ trip h
double_is a h k e = omega (arith, ints)

pub no_half : (o : Option Omega) (x : Omega) → o ≡ None → ((h : Omega) → x ≢ plus h h) → MatchOption o ((h : Omega) → x ≢ plus h h) (λ h. x ≡ plus h h)
no_half o x e k = rw e k

pub half_c0 : (x h : Omega) → unsigned_abs x.c0 ≤ 2 ^ 54 → x ≡ plus h h → trip x.c0 ≡ h.c0 +ℤ h.c0
unfolding plus
half_c0 x h k e = trip_is x.c0 k ∙ ap (λ (t : Omega). t.c0) e

pub half_c1 : (x h : Omega) → unsigned_abs x.c1 ≤ 2 ^ 54 → x ≡ plus h h → trip x.c1 ≡ h.c1 +ℤ h.c1
unfolding plus
half_c1 x h k e = trip_is x.c1 k ∙ ap (λ (t : Omega). t.c1) e

pub half_c2 : (x h : Omega) → unsigned_abs x.c2 ≤ 2 ^ 54 → x ≡ plus h h → trip x.c2 ≡ h.c2 +ℤ h.c2
unfolding plus
half_c2 x h k e = trip_is x.c2 k ∙ ap (λ (t : Omega). t.c2) e

pub half_c3 : (x h : Omega) → unsigned_abs x.c3 ≤ 2 ^ 54 → x ≡ plus h h → trip x.c3 ≡ h.c3 +ℤ h.c3
unfolding plus
half_c3 x h k e = trip_is x.c3 k ∙ ap (λ (t : Omega). t.c3) e
