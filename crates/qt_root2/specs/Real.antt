-- Probabilities as exact real numbers (a + b√2) / 2^k, always over the least power of two, so that equal numbers are equal records.
-- |amplitude|² is such a number (OpenQASM 3.0 live specification, "Quantum measurement and reset"; Cross et al. 2022).
use Rattle.std.specs.Prelude.{ℕ, zero, suc, ◌+◌, ◌-◌, ◌/◌, ◌%◌, ◌==◌, ℤ, pos, negsuc, ◌+ℤ◌, cond, Option, Some, None}

-- (a + b√2) / 2^k
pub record Real : Type 0 where
  pub a : ℤ
  pub b : ℤ
  pub k : ℕ

-- half of a whole number, where it is even
abbrev pub half_of : ℕ → Option ℕ
half_of n = cond (n % 2 == 0) (Some (n / 2)) None

abbrev pub signed : (ℕ → ℤ) → Option ℕ → Option ℤ
signed f None = None
signed f (Some n) = Some (f n)

abbrev pub half : ℤ → Option ℤ
half (pos n) = signed pos (half_of n)
half (negsuc n) = signed (λ m. negsuc (m - 1)) (half_of (n + 1))

abbrev pub halved : Option ℤ → Option ℤ → Real → (ℤ → ℤ → Real) → Real
halved (Some a) (Some b) whole next = next a b
halved _ _ whole next = whole

-- (a + b√2) / 2^k with the least exponent: while a and b are both even and the exponent isn't 0, all are halved
abbrev pub least : ℕ → ℤ → ℤ → Real
least zero a b = record { a = a; b = b; k = 0 }
least (suc k) a b = halved (half a) (half b) (record { a = a; b = b; k = suc k }) (least k)

-- a · 2^n, by doubling
abbrev pub lifted : ℤ → ℕ → ℤ
lifted a zero = a
lifted a (suc n) = lifted a n +ℤ lifted a n

abbrev pub zero_real : Real
zero_real = record { a = pos 0; b = pos 0; k = 0 }

abbrev pub one_real : Real
one_real = record { a = pos 1; b = pos 0; k = 0 }

-- the sum, over the product of the two denominators and then over the least
unfoldable pub plus_real : Real → Real → Real
plus_real x y = least (x.k + y.k) (lifted x.a y.k +ℤ lifted y.a x.k) (lifted x.b y.k +ℤ lifted y.b x.k)
