-- Powers of a number of the ring Z[ω], and those of the unit ε = 1 + √2 to any whole number: factors that are taken out of a state's
-- amplitudes, since a state matters only up to a factor (OpenQASM 3.0 live specification, "Quantum measurement and reset";
-- Cross et al. 2022).
use Rattle.std.specs.Prelude.{ℕ, zero, suc, Bool, true, false, ℤ, pos, negsuc}
use Rattle.qt_ring.specs.declared.omega.Omega.{Omega}
use Rattle.qt_ring.specs.Ring.{one, times, epsilon, epsilon_inverse}

-- x multiplied n times
abbrev pub power : Omega → ℕ → Omega
power x zero = one
power x (suc n) = times x (power x n)

-- x once, or not at all
abbrev pub once : Omega → Bool → Omega
once x true = x
once x false = one

-- ε^m
abbrev pub epsilon_power : ℤ → Omega
epsilon_power (pos n) = power epsilon n
epsilon_power (negsuc n) = power epsilon_inverse (suc n)
