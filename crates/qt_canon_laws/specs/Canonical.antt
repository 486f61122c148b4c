-- The canonical form of a list of amplitudes: what is left of it when all common divisors are taken out, one after the other. A state
-- matters only up to a factor, and states that have one form are one state
-- (OpenQASM 3.0 live specification, "Quantum measurement and reset"; Cross et al. 2022).
use Rattle.std.specs.Prelude.{◌≡◌, ℕ, ◌+◌, ◌<◌, ◌≤◌, Bool, true, false, List, ℤ, pos}
use Rattle.qt_ring.specs.declared.omega.Omega.{Omega}
use Rattle.qt_ring.specs.Ring.{times, root, two_to, root_two, one_minus_omega, norm_a, norm_b}
use Rattle.qt_ring.specs.Places.{digit}
use Rattle.qt_ring.specs.Multiples.{scaled, DividesAll}
use Rattle.qt_root2.specs.declared.scale.Scale.{Scale}
use Rattle.qt_root2.specs.Root2.{Root2}
use Rattle.qt_canon_laws.specs.Powers.{once, epsilon_power}
use Rattle.qt_canon_laws.specs.FirstEntry.{first_entry, InWindow, IsGreater}

-- w is left of v when the greatest 2^t that divides all entries is taken out
pub record TakesTwos (t : ℕ) (v w : List Omega) : Type 0 where
  pub left : scaled (two_to t) w ≡ v
  pub greatest : (k : ℕ) → DividesAll (two_to k) v → k ≤ t

-- w is left of v when d is taken out once, if it divides all entries
abbrev pub TakesOnce : Omega → Bool → List Omega → List Omega → Type 0
TakesOnce d true v w = scaled d w ≡ v
TakesOnce d false v w = (w ≡ v) × (DividesAll d v → ⊥)

-- w is left of v when the one ε^m is taken out after which the first entry that isn't 0 is in the window
pub record TakesUnits (m : ℤ) (v w : List Omega) : Type 0 where
  pub left : scaled (epsilon_power m) w ≡ v
  pub window : InWindow (first_entry w)

-- w is left of v when the ω^j is taken out after which no power of ω makes the first entry that isn't 0 greater
pub record TakesTurns (j : ℕ) (v w : List Omega) : Type 0 where
  pub few : j < 8
  pub left : scaled (root j) w ≡ v
  pub greatest : (k : ℕ) → IsGreater (times (root k) (first_entry w)) (first_entry w) → ⊥

-- how much each step takes out: 2^twos, √2 once or not, 1 − ω once or not, ε^units, ω^turns
pub record Taken : Type 0 where
  pub twos : ℕ
  pub has_root_two : Bool
  pub has_one_minus_omega : Bool
  pub units : ℤ
  pub turns : ℕ

-- u is the canonical form of v, and k is what is taken out on the way
pub record IsCanonical (v u : List Omega) (k : Taken) : Type 0 where
  pub after_twos : List Omega
  pub after_root_two : List Omega
  pub after_one_minus_omega : List Omega
  pub after_units : List Omega
  pub takes_twos : TakesTwos k.twos v after_twos
  pub takes_root_two : TakesOnce root_two k.has_root_two after_twos after_root_two
  pub takes_one_minus_omega : TakesOnce one_minus_omega k.has_one_minus_omega after_root_two after_one_minus_omega
  pub takes_units : TakesUnits k.units after_one_minus_omega after_units
  pub takes_turns : TakesTurns k.turns after_units u

-- the product of all that is taken out
abbrev pub factor_of : Taken → Omega
factor_of k =
    times (two_to k.twos) (
    times (once root_two k.has_root_two) (
    times (once one_minus_omega k.has_one_minus_omega) (
    times (epsilon_power k.units) (root k.turns))))

-- the scale that stands for |factor|², since |√2|² is 2, |1 − ω|² is 2 − √2, |ε|² is ε² and |ω|² is 1
abbrev pub scale_of : Taken → Scale
scale_of k = record { twos = pos (k.twos + k.twos + digit k.has_root_two); units = k.units; primes = digit k.has_one_minus_omega }

-- |x|²
abbrev pub norm : Omega → Root2
norm x = record { a = norm_a x; b = norm_b x }
