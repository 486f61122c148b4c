-- The first amplitude of a list that isn't 0. By its size and its coefficients the powers of ε = 1 + √2 and of ω are chosen that are taken
-- out of the list, since a state matters only up to a factor
-- (OpenQASM 3.0 live specification, "Quantum measurement and reset"; Cross et al. 2022).
use Rattle.std.specs.Prelude.{◌≡◌, List, [], ◌∷◌, cond, ℤ, pos, ◌-ℤ◌, ◌*ℤ◌, ◌≤ℤ◌, ◌<ℤ◌, ◌⊎◌}
use Rattle.qt_ring.specs.declared.omega.Omega.{Omega}
use Rattle.qt_ring.specs.Ring.{nil, is_nil, norm_a, norm_b}

-- the first entry that isn't 0, and 0 where there is none
abbrev pub first_entry : List Omega → Omega
first_entry [] = nil
first_entry (x ∷ xs) = cond (is_nil x) (first_entry xs) x

-- |x|² = A + B√2 with −A < 2B ≤ A
pub record InWindow (x : Omega) : Type 0 where
  pub above : (pos 0 -ℤ norm_a x) <ℤ (pos 2 *ℤ norm_b x)
  pub below : (pos 2 *ℤ norm_b x) ≤ℤ norm_a x

-- a is greater than b, or they are equal and the rest decides
abbrev pub GreaterOr : ℤ → ℤ → Type 0 → Type 0
GreaterOr a b Rest = (b <ℤ a) ⊎ ((b ≡ a) × Rest)

-- the list c0, c1, c2, c3 of x is lexicographically greater than that of y
abbrev pub IsGreater : Omega → Omega → Type 0
IsGreater x y = GreaterOr x.c0 y.c0 (GreaterOr x.c1 y.c1 (GreaterOr x.c2 y.c2 (y.c3 <ℤ x.c3)))
