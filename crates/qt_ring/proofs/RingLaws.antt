-- The laws of the ring of Z[ω]: sums, products, conjugates, powers of ω, and |x|² by its two parts.
use Rattle.std.proofs.Common.{◌≡◌, ℕ, zero, suc, ◌+◌, ◌*◌, ◌/◌, ◌%◌, ◌≤◌, Bool, true, false, ◌&&◌, ◌↔◌, refl, sym, ap, ◌∙◌, arith, ℤ, pos, negsuc, ◌+ℤ◌, ◌-ℤ◌}
use lib.IntN.{neg_ℤ, *ℤ_comm, *ℤ-zero, *ℤ-one}
use Rattle.std.proofs.lemmas.Int.{ints}
use Rattle.qt_ring.specs.declared.omega.Omega.{Omega}
use Rattle.qt_ring.specs.Ring.{nil, one, the_omega, imaginary, plus, times, minus, conj, root, is_zero, is_nil, norm_a, norm_b, Within}
use Rattle.std.specs.Int.RustNames.{unsigned_abs}
use Rattle.qt_integers.proofs.Integers.{distrib, distrib_left, neg_left, neg_right, neg_plus, neg_neg, assoc}

abbrev pub built : ℤ → ℤ → ℤ → ℤ → Omega
built b c d a = record { c0 = a; c1 = b; c2 = c; c3 = d }

pub same : (x y : Omega) → x.c0 ≡ y.c0 → x.c1 ≡ y.c1 → x.c2 ≡ y.c2 → x.c3 ≡ y.c3 → x ≡ y
same x y a b c d =
    ap (λ t. built x.c1 x.c2 x.c3 t) a ∙ ap (λ t. built t x.c2 x.c3 y.c0) b ∙ ap (λ t. built y.c1 t x.c3 y.c0) c ∙ ap (λ t. built y.c1 y.c2 t y.c0) d

pub zero-neg : (x : ℤ) → pos 0 +ℤ neg_ℤ x ≡ neg_ℤ x
zero-neg x = omega (arith, ints)

pub size_plus : (a b : ℤ) (m k : ℕ) → unsigned_abs a ≤ m → unsigned_abs b ≤ k → unsigned_abs (a +ℤ b) ≤ m + k
size_plus a b m k g h = omega (arith, ints)

pub size_minus : (a : ℤ) (m : ℕ) → unsigned_abs a ≤ m → unsigned_abs (pos 0 -ℤ a) ≤ m
size_minus a m h = omega (arith, ints)

pub size_more : (a : ℤ) (m k : ℕ) → m ≤ k → unsigned_abs a ≤ m → unsigned_abs a ≤ k
size_more a m k h g = omega (arith, ints)

pub plus_comm : (x y : Omega) → plus x y ≡ plus y x
unfolding plus
plus_comm x y = same _ _ (omega (arith, ints)) (omega (arith, ints)) (omega (arith, ints)) (omega (arith, ints))

pub plus_assoc : (x y z : Omega) → plus (plus x y) z ≡ plus x (plus y z)
unfolding plus
plus_assoc x y z = same _ _ (omega (arith, ints)) (omega (arith, ints)) (omega (arith, ints)) (omega (arith, ints))

pub plus-nil : (x : Omega) → plus x nil ≡ x
unfolding plus nil
plus-nil x = same _ _ (omega (arith, ints)) (omega (arith, ints)) (omega (arith, ints)) (omega (arith, ints))

pub times_comm : (x y : Omega) → times x y ≡ times y x
unfolding times
times_comm x y = same _ _
    (omega (arith, ints, *ℤ_comm x.c0 y.c0, *ℤ_comm x.c1 y.c3, *ℤ_comm x.c2 y.c2, *ℤ_comm x.c3 y.c1))
    (omega (arith, ints, *ℤ_comm x.c0 y.c1, *ℤ_comm x.c1 y.c0, *ℤ_comm x.c2 y.c3, *ℤ_comm x.c3 y.c2))
    (omega (arith, ints, *ℤ_comm x.c0 y.c2, *ℤ_comm x.c1 y.c1, *ℤ_comm x.c2 y.c0, *ℤ_comm x.c3 y.c3))
    (omega (arith, ints, *ℤ_comm x.c0 y.c3, *ℤ_comm x.c1 y.c2, *ℤ_comm x.c2 y.c1, *ℤ_comm x.c3 y.c0))

pub times-plus : (x y z : Omega) → times x (plus y z) ≡ plus (times x y) (times x z)
unfolding times plus
times-plus x y z = same _ _ (simp distrib (omega (arith, ints))) (simp distrib (omega (arith, ints))) (simp distrib (omega (arith, ints))) (simp distrib (omega (arith, ints)))

pub times_assoc : (x y z : Omega) → times (times x y) z ≡ times x (times y z)
unfolding times
times_assoc x y z = same _ _
    (simp (distrib, distrib_left, neg_left, neg_right, neg_plus, neg_neg, assoc) (omega (arith, ints)))
    (simp (distrib, distrib_left, neg_left, neg_right, neg_plus, neg_neg, assoc) (omega (arith, ints)))
    (simp (distrib, distrib_left, neg_left, neg_right, neg_plus, neg_neg, assoc) (omega (arith, ints)))
    (simp (distrib, distrib_left, neg_left, neg_right, neg_plus, neg_neg, assoc) (omega (arith, ints)))

pub times-nil : (x : Omega) → times x nil ≡ nil
unfolding times nil
times-nil x = same _ _ (simp *ℤ-zero) (simp *ℤ-zero) (simp *ℤ-zero) (simp *ℤ-zero)

pub times-one : (x : Omega) → times x one ≡ x
unfolding times one
times-one x = same _ _ (simp (*ℤ-zero, *ℤ-one) (omega (arith, ints))) (simp (*ℤ-zero, *ℤ-one) (omega (arith, ints))) (simp (*ℤ-zero, *ℤ-one) (omega (arith, ints))) (simp (*ℤ-zero, *ℤ-one) (omega (arith, ints)))

pub conj_plus : (x y : Omega) → conj (plus x y) ≡ plus (conj x) (conj y)
unfolding conj plus
conj_plus x y = same _ _ (omega (arith, ints)) (omega (arith, ints)) (omega (arith, ints)) (omega (arith, ints))

pub conj-nil : conj nil ≡ nil
unfolding conj nil
conj-nil = refl

pub conj_conj : (x : Omega) → conj (conj x) ≡ x
unfolding conj
conj_conj x = same _ _ (omega (arith, ints)) (omega (arith, ints)) (omega (arith, ints)) (omega (arith, ints))

pub conj_times : (x y : Omega) → conj (times x y) ≡ times (conj x) (conj y)
unfolding conj times
conj_times x y = same _ _
    (simp (neg_left, neg_right, neg_plus, neg_neg, zero-neg) (omega (arith, ints)))
    (simp (neg_left, neg_right, neg_plus, neg_neg, zero-neg) (omega (arith, ints)))
    (simp (neg_left, neg_right, neg_plus, neg_neg, zero-neg) (omega (arith, ints)))
    (simp (neg_left, neg_right, neg_plus, neg_neg, zero-neg) (omega (arith, ints)))

pub conj-one : conj one ≡ one
unfolding conj one
conj-one = refl

pub conj-imaginary : conj imaginary ≡ minus imaginary
unfolding conj imaginary minus
conj-imaginary = refl

pub conj-minus : (x : Omega) → conj (minus x) ≡ minus (conj x)
unfolding conj minus
conj-minus x = same _ _ (omega (arith, ints)) (omega (arith, ints)) (omega (arith, ints)) (omega (arith, ints))

pub minus_minus : (x : Omega) → minus (minus x) ≡ x
unfolding minus
minus_minus x = same _ _ (omega (arith, ints)) (omega (arith, ints)) (omega (arith, ints)) (omega (arith, ints))

pub times-minus : (x y : Omega) → times x (minus y) ≡ minus (times x y)
unfolding times minus
times-minus x y = same _ _
    (simp (neg_left, neg_right, neg_plus, neg_neg, zero-neg) (omega (arith, ints)))
    (simp (neg_left, neg_right, neg_plus, neg_neg, zero-neg) (omega (arith, ints)))
    (simp (neg_left, neg_right, neg_plus, neg_neg, zero-neg) (omega (arith, ints)))
    (simp (neg_left, neg_right, neg_plus, neg_neg, zero-neg) (omega (arith, ints)))

pub nil-plus : (x : Omega) → plus nil x ≡ x
nil-plus x = plus_comm nil x ∙ plus-nil x

pub nil-times : (x : Omega) → times nil x ≡ nil
nil-times x = times_comm nil x ∙ times-nil x

pub one-times : (x : Omega) → times one x ≡ x
one-times x = times_comm one x ∙ times-one x

pub plus-times : (x y z : Omega) → times (plus x y) z ≡ plus (times x z) (times y z)
plus-times x y z = times_comm (plus x y) z ∙ times-plus z x y ∙ ap (λ t. plus t (times z y)) (times_comm z x) ∙ ap (plus (times x z)) (times_comm z y)

pub minus-times : (x y : Omega) → times (minus x) y ≡ minus (times x y)
minus-times x y = times_comm (minus x) y ∙ times-minus y x ∙ ap minus (times_comm y x)

pub minus_plus : (x y : Omega) → minus (plus x y) ≡ plus (minus x) (minus y)
unfolding plus minus
minus_plus x y = same _ _ (omega (arith, ints)) (omega (arith, ints)) (omega (arith, ints)) (omega (arith, ints))

pub minus-nil : minus nil ≡ nil
unfolding minus nil
minus-nil = refl

pub plus-minus : (x : Omega) → plus x (minus x) ≡ nil
unfolding plus minus nil
plus-minus x = same _ _ (omega (arith, ints)) (omega (arith, ints)) (omega (arith, ints)) (omega (arith, ints))

pub plus_both : (a b c d : Omega) → a ≡ c → b ≡ d → plus a b ≡ plus c d
plus_both a b c d e f = ap (λ t. plus t b) e ∙ ap (plus c) f

pub times_both : (a b c d : Omega) → a ≡ c → b ≡ d → times a b ≡ times c d
times_both a b c d e f = ap (λ t. times t b) e ∙ ap (times c) f

pub plus_cross : (a b c d : Omega) → plus (plus a b) (plus c d) ≡ plus (plus a c) (plus b d)
plus_cross a b c d =
    plus_assoc a b (plus c d) ∙ ap (plus a) (sym (plus_assoc b c d) ∙ ap (λ t. plus t d) (plus_comm b c) ∙ plus_assoc c b d) ∙ sym (plus_assoc a c (plus b d))

pub times_front : (a b x : Omega) → times a (times b x) ≡ times b (times a x)
times_front a b x = sym (times_assoc a b x) ∙ ap (λ t. times t x) (times_comm a b) ∙ times_assoc b a x

pub times_cross : (a b c d : Omega) → times (times a b) (times c d) ≡ times (times a c) (times b d)
times_cross a b c d = times_assoc a b (times c d) ∙ ap (times a) (times_front b c d) ∙ sym (times_assoc a c (times b d))

-- |x|² = A + B (ω − ω³)
pub norm_is : (x : Omega) → times x (conj x) ≡ record { c0 = norm_a x; c1 = norm_b x; c2 = pos 0; c3 = pos 0 -ℤ norm_b x }
unfolding times conj
norm_is x = same _ _
    (simp (neg_left, neg_right, neg_plus, neg_neg, zero-neg) (omega (arith, ints)))
    (simp (neg_left, neg_right, neg_plus, neg_neg, zero-neg) (omega (arith, ints, *ℤ_comm x.c1 x.c0, *ℤ_comm x.c2 x.c1, *ℤ_comm x.c3 x.c2, *ℤ_comm x.c3 x.c0)))
    (simp (neg_left, neg_right, neg_plus, neg_neg, zero-neg) (omega (arith, ints, *ℤ_comm x.c2 x.c0, *ℤ_comm x.c1 x.c3)))
    (simp (neg_left, neg_right, neg_plus, neg_neg, zero-neg) (omega (arith, ints, *ℤ_comm x.c1 x.c0, *ℤ_comm x.c2 x.c1, *ℤ_comm x.c3 x.c2, *ℤ_comm x.c3 x.c0)))

-- ---- powers of ω
pub root_eight : root 8 ≡ one
unfolding times the_omega one
root_eight = refl

pub root-plus : (m n : ℕ) → root (m + n) ≡ times (root m) (root n)
root-plus zero n =
    let z : 0 + n ≡ n = omega arith in
    ap root z ∙ sym (one-times (root n))
root-plus (suc m) n =
    let s : suc m + n ≡ suc (m + n) = omega arith in
    ap root s ∙ ap (times the_omega) (root-plus m n) ∙ sym (times_assoc the_omega (root m) (root n))

pub root_turns : (t n : ℕ) → root (8 * t + n) ≡ root n
root_turns zero n = let e : 8 * 0 + n ≡ n = omega arith in ap root e
root_turns (suc t) n =
    let e : 8 * suc t + n ≡ 8 + (8 * t + n) = omega arith in
    ap root e ∙ root-plus 8 (8 * t + n) ∙ times_both _ _ _ _ root_eight (root_turns t n) ∙ one-times (root n)

-- full turns leave no trace
pub root_mod : (n : ℕ) → root (n % 8) ≡ root n
root_mod n =
    let e : 8 * (n / 8) + n % 8 ≡ n = omega arith in
    sym (root_turns (n / 8) (n % 8)) ∙ ap root e

-- ---- sizes
pub within_plus : (m k : ℕ) (x y : Omega) → Within m x → Within k y → Within (m + k) (plus x y)
unfolding plus
within_plus m k x y v w = record { c0_in = size_plus x.c0 y.c0 m k v.c0_in w.c0_in; c1_in = size_plus x.c1 y.c1 m k v.c1_in w.c1_in; c2_in = size_plus x.c2 y.c2 m k v.c2_in w.c2_in; c3_in = size_plus x.c3 y.c3 m k v.c3_in w.c3_in }

pub within_minus : (m : ℕ) (x : Omega) → Within m x → Within m (minus x)
unfolding minus
within_minus m x v = record { c0_in = size_minus x.c0 m v.c0_in; c1_in = size_minus x.c1 m v.c1_in; c2_in = size_minus x.c2 m v.c2_in; c3_in = size_minus x.c3 m v.c3_in }

pub within_more : (m k : ℕ) (x : Omega) → m ≤ k → Within m x → Within k x
within_more m k x h v = record { c0_in = size_more x.c0 m k h v.c0_in; c1_in = size_more x.c1 m k h v.c1_in; c2_in = size_more x.c2 m k h v.c2_in; c3_in = size_more x.c3 m k h v.c3_in }

-- ---- the test for 0
zero_of : (z : ℤ) → is_zero z ≡ true → z ≡ pos 0
zero_of (pos zero) e = refl
zero_of (pos (suc n)) e = absurd (cc)
zero_of (negsuc n) e = absurd (cc)

pub and_left : (a b : Bool) → (a && b) ≡ true → a ≡ true
and_left true b e = refl
and_left false b e = e

pub and_right : (a b : Bool) → (a && b) ≡ true → b ≡ true
and_right true b e = e
and_right false b e = absurd (cc)

pub is_nil_true : (x : Omega) → is_nil x ≡ true → x ≡ nil
unfolding nil
is_nil_true x e =
    let d : (is_zero x.c0 && is_zero x.c1 && is_zero x.c2) ≡ true = and_left _ (is_zero x.c3) e in
    let c : (is_zero x.c0 && is_zero x.c1) ≡ true = and_left _ (is_zero x.c2) d in
    same _ _ (zero_of x.c0 (and_left _ (is_zero x.c1) c)) (zero_of x.c1 (and_right (is_zero x.c0) _ c)) (zero_of x.c2 (and_right (is_zero x.c0 && is_zero x.c1) _ d)) (zero_of x.c3 (and_right (is_zero x.c0 && is_zero x.c1 && is_zero x.c2) _ e))

pub is_nil-nil : is_nil nil ≡ true
unfolding nil
is_nil-nil = refl

pub is_nil_iff : (x : Omega) → (is_nil x ≡ true) ↔ (x ≡ nil)
is_nil_iff x = (is_nil_true x, λ e. ap is_nil e ∙ is_nil-nil)
