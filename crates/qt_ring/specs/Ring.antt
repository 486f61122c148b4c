-- Numbers of the ring Z[ω], ω = e^{iπ/4}: c0 + c1 ω + c2 ω² + c3 ω³ with whole coefficients, where ω⁴ = −1.
-- Where all angles are multiples of π/4, every entry of a gate's matrix is such a number divided by a power of two
-- (OpenQASM 3.0 live specification, "Gates", the built-in gates U and gphase; Cross et al. 2022).
use Rattle.std.specs.Prelude.{ℕ, zero, suc, ℤ, pos, negsuc, ◌+ℤ◌, ◌-ℤ◌, ◌*ℤ◌, ◌≤◌, Bool, true, false, ◌&&◌}
use Rattle.std.specs.Int.RustNames.{unsigned_abs}
use Rattle.qt_ring.specs.declared.omega.Omega.{Omega}

-- 0
unfoldable pub nil : Omega
nil = record { c0 = pos 0; c1 = pos 0; c2 = pos 0; c3 = pos 0 }

-- 1
unfoldable pub one : Omega
one = record { c0 = pos 1; c1 = pos 0; c2 = pos 0; c3 = pos 0 }

-- a whole number
abbrev pub whole : ℤ → Omega
whole k = record { c0 = k; c1 = pos 0; c2 = pos 0; c3 = pos 0 }

-- ω
unfoldable pub the_omega : Omega
the_omega = record { c0 = pos 0; c1 = pos 1; c2 = pos 0; c3 = pos 0 }

-- i, which is ω²
unfoldable pub imaginary : Omega
imaginary = record { c0 = pos 0; c1 = pos 0; c2 = pos 1; c3 = pos 0 }

-- √2, which is ω − ω³
abbrev pub root_two : Omega
root_two = record { c0 = pos 0; c1 = pos 1; c2 = pos 0; c3 = negsuc 0 }

unfoldable pub plus : Omega → Omega → Omega
plus x y = record { c0 = x.c0 +ℤ y.c0; c1 = x.c1 +ℤ y.c1; c2 = x.c2 +ℤ y.c2; c3 = x.c3 +ℤ y.c3 }

unfoldable pub minus : Omega → Omega
minus x = record { c0 = pos 0 -ℤ x.c0; c1 = pos 0 -ℤ x.c1; c2 = pos 0 -ℤ x.c2; c3 = pos 0 -ℤ x.c3 }

-- the product, by ω⁴ = −1
unfoldable pub times : Omega → Omega → Omega
times x y = record {
  c0 = x.c0 *ℤ y.c0 -ℤ x.c1 *ℤ y.c3 -ℤ x.c2 *ℤ y.c2 -ℤ x.c3 *ℤ y.c1;
  c1 = x.c0 *ℤ y.c1 +ℤ x.c1 *ℤ y.c0 -ℤ x.c2 *ℤ y.c3 -ℤ x.c3 *ℤ y.c2;
  c2 = x.c0 *ℤ y.c2 +ℤ x.c1 *ℤ y.c1 +ℤ x.c2 *ℤ y.c0 -ℤ x.c3 *ℤ y.c3;
  c3 = x.c0 *ℤ y.c3 +ℤ x.c1 *ℤ y.c2 +ℤ x.c2 *ℤ y.c1 +ℤ x.c3 *ℤ y.c0;
}

-- the complex conjugate: ω goes to −ω³
unfoldable pub conj : Omega → Omega
conj x = record { c0 = x.c0; c1 = pos 0 -ℤ x.c3; c2 = pos 0 -ℤ x.c2; c3 = pos 0 -ℤ x.c1 }

-- 1 − ω
unfoldable pub one_minus_omega : Omega
one_minus_omega = plus one (minus the_omega)

-- ε, the unit 1 + √2
unfoldable pub epsilon : Omega
epsilon = plus one root_two

-- its inverse √2 − 1
unfoldable pub epsilon_inverse : Omega
epsilon_inverse = plus root_two (minus one)

-- e^{i n π/4}: ω multiplied n times
abbrev pub root : ℕ → Omega
root zero = one
root (suc n) = times the_omega (root n)

-- 2^h, by doubling
abbrev pub two_to : ℕ → Omega
two_to zero = one
two_to (suc h) = plus (two_to h) (two_to h)

abbrev pub is_zero : ℤ → Bool
is_zero (pos zero) = true
is_zero _ = false

-- the number is 0
abbrev pub is_nil : Omega → Bool
is_nil x = is_zero x.c0 && is_zero x.c1 && is_zero x.c2 && is_zero x.c3

-- |x|² is norm_a x + norm_b x · √2
abbrev pub norm_a : Omega → ℤ
norm_a x = x.c0 *ℤ x.c0 +ℤ x.c1 *ℤ x.c1 +ℤ x.c2 *ℤ x.c2 +ℤ x.c3 *ℤ x.c3

abbrev pub norm_b : Omega → ℤ
norm_b x = x.c0 *ℤ x.c1 +ℤ x.c1 *ℤ x.c2 +ℤ x.c2 *ℤ x.c3 -ℤ x.c3 *ℤ x.c0

-- each coefficient is at most m in size
pub record Within (m : ℕ) (x : Omega) : Type 0 where
  pub c0_in : unsigned_abs x.c0 ≤ m
  pub c1_in : unsigned_abs x.c1 ≤ m
  pub c2_in : unsigned_abs x.c2 ≤ m
  pub c3_in : unsigned_abs x.c3 ≤ m
