-- Powers of two in amplitudes: how they multiply, what they divide, and how small a half is.
use Rattle.std.proofs.Common.{◌≡◌, ℕ, zero, suc, ◌+◌, ◌-◌, ◌≤◌, None, Some, Option, refl, sym, ap, ◌∙◌, subst, arith, ℤ, ◌+ℤ◌}
use Rattle.std.specs.Prelude.{MatchOption, IsSome}
use Rattle.std.specs.Int.RustNames.{unsigned_abs}
use Rattle.std.proofs.lemmas.Int.{ints}
use Rattle.qt_ring.specs.declared.omega.Omega.{Omega}
use Rattle.qt_ring.specs.Division.{Divides}
use Rattle.qt_ring.specs.Ring.{nil, one, plus, times, two_to, Within}
use Rattle.qt_ring.proofs.Dividing.{times_two}
use Rattle.qt_ring.proofs.RingLaws.{one-times, times-one, times-nil, times-plus, plus-times}
use Rattle.qt_ring.proofs.Units.{quotients_unique}

-- ---- products
times_more : (n : ℕ) (x : Omega) → times (two_to (suc n)) x ≡ plus (times (two_to n) x) (times (two_to n) x)
times_more n x = plus-times (two_to n) (two_to n) x

pub times_next : (n : ℕ) (x : Omega) → times (two_to n) (plus x x) ≡ times (two_to (n + 1)) x
times_next n x =
    let e : suc n ≡ n + 1 = omega arith in
    times-plus (two_to n) x x ∙ sym (times_more n x) ∙ ap (λ k. times (two_to k) x) e

pub times_add : (m n : ℕ) (x : Omega) → times (two_to m) (times (two_to n) x) ≡ times (two_to (m + n)) x
times_add zero n x = let e : n ≡ 0 + n = omega arith in one-times (times (two_to n) x) ∙ ap (λ k. times (two_to k) x) e
times_add (suc m) n x =
    let e : suc (m + n) ≡ suc m + n = omega arith in
    times_more m (times (two_to n) x) ∙ ap (λ t. plus t t) (times_add m n x) ∙ sym (times_more (m + n) x) ∙ ap (λ k. times (two_to k) x) e

twice_same : (x y : Omega) → plus x x ≡ plus y y → x ≡ y
twice_same x y e = quotients_unique (two_to 1) x y (one, times-one (two_to 1)) (times_two x ∙ e ∙ sym (times_two y))

pub cancel_twos : (n : ℕ) (x y : Omega) → times (two_to n) x ≡ times (two_to n) y → x ≡ y
cancel_twos zero x y e = sym (one-times x) ∙ e ∙ one-times y
cancel_twos (suc n) x y e = cancel_twos n x y (twice_same (times (two_to n) x) (times (two_to n) y) (sym (times_more n x) ∙ e ∙ times_more n y))

-- ---- divisors
pub one_divides : (x : Omega) → Divides (two_to 0) x
one_divides x = (x, one-times x)

pub divides-nil : (d : Omega) → Divides d nil
divides-nil d = (nil, times-nil d)

pub divides_fewer : (m n : ℕ) (x : Omega) → m ≤ n → Divides (two_to n) x → Divides (two_to m) x
divides_fewer m n x h (y, e) =
    let f : m + (n - m) ≡ n = omega arith in
    (times (two_to (n - m)) y, times_add m (n - m) y ∙ ap (λ k. times (two_to k) y) f ∙ e)

-- a number over 2^n that has no half has no divisor 2^(n + 1)
pub no_more : (n : ℕ) (x rest : Omega) → times (two_to n) rest ≡ x → ((h : Omega) → rest ≡ plus h h → ⊥) → Divides (two_to (n + 1)) x → ⊥
no_more n x rest e h (y, f) = h y (cancel_twos n rest (plus y y) (e ∙ sym f ∙ sym (times_next n y)))

-- ---- halves
half_size : (m : ℕ) (a h : ℤ) → a ≡ h +ℤ h → unsigned_abs a ≤ m → unsigned_abs h ≤ m
half_size m a h e l = omega (arith, ints)

pub half_within : (m : ℕ) (x h : Omega) → x ≡ plus h h → Within m x → Within m h
unfolding plus
half_within m x h e w = record {
  c0_in = half_size m x.c0 h.c0 (ap (λ (t : Omega). t.c0) e) w.c0_in;
  c1_in = half_size m x.c1 h.c1 (ap (λ (t : Omega). t.c1) e) w.c1_in;
  c2_in = half_size m x.c2 h.c2 (ap (λ (t : Omega). t.c2) e) w.c2_in;
  c3_in = half_size m x.c3 h.c3 (ap (λ (t : Omega). t.c3) e) w.c3_in;
}

pub halving_on : (n : ℕ) (x rest h : Omega) → times (two_to n) rest ≡ x → rest ≡ plus h h → times (two_to (n + 1)) h ≡ x
halving_on n x rest h e f = sym (times_next n h) ∙ ap (times (two_to n)) (sym f) ∙ e

pub halved_once : (o : Option Omega) (rest h : Omega) → o ≡ Some h → MatchOption o ((k : Omega) → rest ≡ plus k k → ⊥) (λ k. rest ≡ plus k k) → rest ≡ plus h h
halved_once o rest h e m = let P : Option Omega → Type 0 = λ o. MatchOption o ((k : Omega) → rest ≡ plus k k → ⊥) (λ k. rest ≡ plus k k) in subst P e m

-- a number whose multiple 2^(n + 1) divides has a half
pub has_half : (n : ℕ) (x rest : Omega) (o : Option Omega) → times (two_to n) rest ≡ x → Divides (two_to (n + 1)) x → MatchOption o ((k : Omega) → rest ≡ plus k k → ⊥) (λ k. rest ≡ plus k k) → IsSome o
has_half n x rest None e d m = absurd (no_more n x rest e m d)
has_half n x rest (Some h) e d m = refl
