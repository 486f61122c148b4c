-- Products of 2, √2, 1 − ω, ε and ω: up to powers of ω and ε each is a power of 1 − ω.
use Rattle.std.proofs.Common.{◌≡◌, ℕ, zero, suc, ◌+◌, Bool, true, false, refl, sym, ap, subst, ◌∙◌, arith, ℤ, pos, negsuc}
use Rattle.qt_ring.specs.declared.omega.Omega.{Omega}
use Rattle.qt_ring.specs.Ring.{nil, one, plus, minus, times, root, two_to, the_omega, root_two, one_minus_omega, epsilon, epsilon_inverse}
use Rattle.qt_ring.proofs.RingLaws.{times_assoc, times_comm, times-one, one-times, times_both, times_cross, root-plus, times-nil, nil-times}
use Rattle.qt_ring.proofs.Units.{no_zero_divisors, epsilon_times_inverse}
use Rattle.qt_ring.proofs.Dividing.{times_two}
use Rattle.qt_canon_laws.specs.Powers.{power, once, epsilon_power}
use Rattle.qt_canon_laws.specs.Canonical.{Taken, factor_of}

-- x is ω^j ε^(a − n) (1 − ω)^e: the number n keeps all exponents from being negative
pub record Smooth (x : Omega) : Type 0 where
  pub n : ℕ
  pub j : ℕ
  pub a : ℕ
  pub e : ℕ
  pub is : times (power epsilon n) x ≡ times (times (root j) (power epsilon a)) (power one_minus_omega e)

pub power-plus : (x : Omega) (m n : ℕ) → power x (m + n) ≡ times (power x m) (power x n)
power-plus x zero n = let z : zero + n ≡ n = omega arith in ap (power x) z ∙ sym (one-times _)
power-plus x (suc m) n = let z : suc m + n ≡ suc (m + n) = omega arith in ap (power x) z ∙ ap (times x) (power-plus x m n) ∙ sym (times_assoc x _ _)

-- two products of three, factor by factor
six : (a b c d e f : Omega) → times (times (times a b) c) (times (times d e) f) ≡ times (times (times a d) (times b e)) (times c f)
six a b c d e f = times_cross (times a b) c (times d e) f ∙ ap (λ t. times t (times c f)) (times_cross a b d e)

pub smooth-times : (x y : Omega) → Smooth x → Smooth y → Smooth (times x y)
smooth-times x y s t = record {
  n = s.n + t.n;
  j = s.j + t.j;
  a = s.a + t.a;
  e = s.e + t.e;
  is = ap (λ r. times r (times x y)) (power-plus epsilon s.n t.n)
      ∙ times_cross (power epsilon s.n) (power epsilon t.n) x y
      ∙ times_both _ _ _ _ s.is t.is
      ∙ six (root s.j) (power epsilon s.a) (power one_minus_omega s.e) (root t.j) (power epsilon t.a) (power one_minus_omega t.e)
      ∙ times_both _ _ _ _ (times_both _ _ _ _ (sym (root-plus s.j t.j)) (sym (power-plus epsilon s.a t.a))) (sym (power-plus one_minus_omega s.e t.e));
}

pub smooth-one : Smooth one
smooth-one = record { n = 0; j = 0; a = 0; e = 0; is = times_both _ _ _ _ (sym (times-one one)) refl }

pub smooth-one_minus_omega : Smooth one_minus_omega
smooth-one_minus_omega = record { n = 0; j = 0; a = 0; e = 1; is = one-times _ ∙ sym (times-one _) ∙ sym (one-times _) ∙ times_both _ _ _ _ (sym (times-one one)) refl }

pub smooth-epsilon : Smooth epsilon
smooth-epsilon = record { n = 0; j = 0; a = 1; e = 0; is = one-times _ ∙ sym (times-one _) ∙ sym (one-times _) ∙ sym (times-one _) }

smooth-epsilon_inverse : Smooth epsilon_inverse
smooth-epsilon_inverse = record { n = 1; j = 0; a = 0; e = 0; is = ap (λ t. times t epsilon_inverse) (times-one epsilon) ∙ epsilon_times_inverse ∙ sym (times-one one) ∙ times_both _ _ _ _ (sym (times-one one)) refl }

smooth-root : (j : ℕ) → Smooth (root j)
smooth-root j = record { n = 0; j = j; a = 0; e = 0; is = one-times _ ∙ sym (times-one _) ∙ sym (times-one _) }

pub smooth-omega : Smooth the_omega
smooth-omega = let P : Omega → Type 0 = Smooth in subst P (times-one the_omega) (smooth-root 1)

-- √2 is ω³ ε (1 − ω)²
pub smooth-root_two : Smooth root_two
unfolding times plus minus one the_omega epsilon one_minus_omega
smooth-root_two = record { n = 0; j = 3; a = 1; e = 2; is = refl }

pub root_two_squared : times root_two root_two ≡ two_to 1
unfolding times plus one
root_two_squared = refl

pub smooth-two : Smooth (two_to 1)
smooth-two = let P : Omega → Type 0 = Smooth in subst P root_two_squared (smooth-times root_two root_two smooth-root_two smooth-root_two)

smooth-power : (x : Omega) (n : ℕ) → Smooth x → Smooth (power x n)
smooth-power x zero s = smooth-one
smooth-power x (suc n) s = smooth-times x (power x n) s (smooth-power x n s)

pub smooth-once : (x : Omega) (b : Bool) → Smooth x → Smooth (once x b)
smooth-once x true s = s
smooth-once x false s = smooth-one

pub smooth-two_to : (t : ℕ) → Smooth (two_to t)
smooth-two_to zero = smooth-one
smooth-two_to (suc t) = let P : Omega → Type 0 = Smooth in subst P (times_two (two_to t)) (smooth-times (two_to 1) (two_to t) smooth-two (smooth-two_to t))

pub smooth-epsilon_power : (m : ℤ) → Smooth (epsilon_power m)
smooth-epsilon_power (pos n) = smooth-power epsilon n smooth-epsilon
smooth-epsilon_power (negsuc n) = smooth-power epsilon_inverse (suc n) smooth-epsilon_inverse

pub smooth-factor_of : (k : Taken) → Smooth (factor_of k)
smooth-factor_of k =
    smooth-times _ _ (smooth-two_to k.twos)
    (smooth-times _ _ (smooth-once root_two k.has_root_two smooth-root_two)
    (smooth-times _ _ (smooth-once one_minus_omega k.has_one_minus_omega smooth-one_minus_omega)
    (smooth-times _ _ (smooth-epsilon_power k.units) (smooth-root k.turns))))

-- ---- none of them is 0
one_not_nil : one ≡ nil → ⊥
unfolding one nil
one_not_nil e = let z : pos 1 ≡ pos 0 = ap (λ (t : Omega). t.c0) e in absurd (cc)

-- a divisor of 1 isn't 0
pub unit_not_nil : (x y : Omega) → times x y ≡ one → x ≡ nil → ⊥
unit_not_nil x y e z = one_not_nil (sym e ∙ ap (λ t. times t y) z ∙ nil-times y)

pub times_not_nil : (x y : Omega) → (x ≡ nil → ⊥) → (y ≡ nil → ⊥) → times x y ≡ nil → ⊥
times_not_nil x y h k e = k (no_zero_divisors x y e h)

pub power_not_nil : (x : Omega) (n : ℕ) → (x ≡ nil → ⊥) → power x n ≡ nil → ⊥
power_not_nil x zero h e = one_not_nil e
power_not_nil x (suc n) h e = times_not_nil x (power x n) h (power_not_nil x n h) e

pub epsilon_not_nil : epsilon ≡ nil → ⊥
epsilon_not_nil e = unit_not_nil epsilon epsilon_inverse epsilon_times_inverse e

pub epsilon_inverse_not_nil : epsilon_inverse ≡ nil → ⊥
epsilon_inverse_not_nil e = unit_not_nil epsilon_inverse epsilon (times_comm epsilon_inverse epsilon ∙ epsilon_times_inverse) e

pub one_minus_omega_not_nil : one_minus_omega ≡ nil → ⊥
unfolding one_minus_omega plus minus one the_omega nil
one_minus_omega_not_nil e = let z : pos 1 ≡ pos 0 = ap (λ (t : Omega). t.c0) e in absurd (cc)

pub omega_not_nil : the_omega ≡ nil → ⊥
unfolding the_omega nil
omega_not_nil e = let z : pos 1 ≡ pos 0 = ap (λ (t : Omega). t.c1) e in absurd (cc)

pub root_not_nil : (j : ℕ) → root j ≡ nil → ⊥
root_not_nil zero e = one_not_nil e
root_not_nil (suc j) e = times_not_nil the_omega (root j) omega_not_nil (root_not_nil j) e

pub smooth_not_nil : (x : Omega) → Smooth x → x ≡ nil → ⊥
smooth_not_nil x s z =
    times_not_nil (times (root s.j) (power epsilon s.a)) (power one_minus_omega s.e)
    (times_not_nil (root s.j) (power epsilon s.a) (root_not_nil s.j) (power_not_nil epsilon s.a epsilon_not_nil))
    (power_not_nil one_minus_omega s.e one_minus_omega_not_nil)
    (sym s.is ∙ ap (times (power epsilon s.n)) z ∙ times-nil _)

pub two_to_not_nil : (t : ℕ) → two_to t ≡ nil → ⊥
two_to_not_nil t = smooth_not_nil (two_to t) (smooth-two_to t)

pub root_two_not_nil : root_two ≡ nil → ⊥
root_two_not_nil = smooth_not_nil root_two smooth-root_two

pub epsilon_power_not_nil : (m : ℤ) → epsilon_power m ≡ nil → ⊥
epsilon_power_not_nil m = smooth_not_nil (epsilon_power m) (smooth-epsilon_power m)

pub factor_not_nil : (k : Taken) → factor_of k ≡ nil → ⊥
factor_not_nil k = smooth_not_nil (factor_of k) (smooth-factor_of k)
