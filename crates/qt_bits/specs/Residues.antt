-- Whole numbers on n bits: what is left of a number, the number that bits stand for, powers, and bits shifted (OpenQASM 3.0 live
-- specification, "Types and Casting" and "Classical instructions"; Cross et al. 2022, "Real-time classical computing").
use Rattle.std.specs.Prelude.{ℕ, zero, suc, ◌-◌, ◌*◌, ◌/◌, ◌%◌, ◌^◌, cond, nat_lt, ℤ, pos, negsuc, ◌-ℤ◌, ◌*ℤ◌, unsigned_abs}
use Rattle.std.specs.Int.{int_rem_euclid}

-- z modulo 2^n
abbrev pub residue : ℕ → ℤ → ℕ
residue n z = unsigned_abs (int_rem_euclid z (pos (2 ^ n)))

-- two's complement of n bits
abbrev pub signed_number : ℕ → ℕ → ℤ
signed_number n bits = cond (nat_lt bits (2 ^ (n - 1))) (pos bits) (pos bits -ℤ pos (2 ^ n))

-- x to the power e
unfoldable pub power : ℤ → ℕ → ℤ
power x zero = pos 1
power x (suc e) = x *ℤ power x e

-- n bits shifted by a number of places: 0 where that is negative, or n or more
abbrev pub shifted_up : ℕ → ℕ → ℤ → ℕ
shifted_up n bits (pos k) = cond (nat_lt k n) (bits * 2 ^ k % 2 ^ n) 0
shifted_up n bits (negsuc k) = 0

abbrev pub shifted_down : ℕ → ℕ → ℤ → ℕ
shifted_down n bits (pos k) = cond (nat_lt k n) (bits / 2 ^ k) 0
shifted_down n bits (negsuc k) = 0

-- a number of places, modulo n
abbrev pub places_in : ℕ → ℤ → ℕ
places_in n k = unsigned_abs (int_rem_euclid k (pos n))
