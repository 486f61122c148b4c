-- What a scale stands for, and when a number is another one scaled.
-- A scale is |p|² for the factor p that is taken out of a state vector (OpenQASM 3.0 live specification, "Quantum measurement and
-- reset"; Cross et al. 2022).
use Rattle.std.specs.Prelude.{◌≡◌, ℕ, suc, ℤ, pos, negsuc}
use Rattle.qt_root2.specs.declared.scale.Scale.{Scale}
use Rattle.qt_root2.specs.Real.{lifted}
use Rattle.qt_root2.specs.Root2.{Root2, times_root2, power}

-- ε² = 3 + 2√2, where ε = 1 + √2
abbrev pub unit : Root2
unit = record { a = pos 3; b = pos 2 }

-- its inverse 3 − 2√2
abbrev pub unit_inverse : Root2
unit_inverse = record { a = pos 3; b = negsuc 1 }

-- 2 − √2
abbrev pub prime : Root2
prime = record { a = pos 2; b = negsuc 0 }

-- ε² to a whole power
abbrev pub unit_power : ℤ → Root2
unit_power (pos n) = power unit n
unit_power (negsuc n) = power unit_inverse (suc n)

-- ε^(2·units) · (2 − √2)^primes
abbrev pub factor : Scale → Root2
factor s = times_root2 (unit_power s.units) (power prime s.primes)

abbrev pub lifted_root2 : Root2 → ℕ → Root2
lifted_root2 x n = record { a = lifted x.a n; b = lifted x.b n }

-- y is x · 2^twos
abbrev pub IsTimesTwos : ℤ → Root2 → Root2 → Type 0
IsTimesTwos (pos n) x y = y ≡ lifted_root2 x n
IsTimesTwos (negsuc n) x y = lifted_root2 y (suc n) ≡ x

-- y is x scaled
abbrev pub IsScaled : Scale → Root2 → Root2 → Type 0
IsScaled s x y = IsTimesTwos s.twos (times_root2 x (factor s)) y
