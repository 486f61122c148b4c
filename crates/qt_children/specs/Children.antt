-- What a choice leaves of a branch for an outcome that can come (OpenQASM 3.0 live specification, "Quantum measurement and reset"; Cross et al.
-- 2022: a state matters only up to a factor). The amplitudes over 2^k are a number p times their canonical form; the weight takes up |p|²
-- over 2^(2k), so that weight times squared norm stays.
use Rattle.std.specs.Prelude.{◌≡◌, ℕ, ◌+◌, ◌^◌, ◌⊎◌, List, All, pos, ◌-ℤ◌, ◌≤ℤ◌, ◌<ℤ◌}
use Rattle.std.specs.Int.RustNames.{unsigned_abs}
use Rattle.qt_ring.specs.declared.omega.Omega.{Omega}
use Rattle.qt_ring.specs.declared.TheConstants.{LARGEST}
use Rattle.qt_ring.specs.Ring.{Within}
use Rattle.qt_ring.specs.State.{State}
use Rattle.qt_root2.specs.declared.scale.Scale.{Scale}
use Rattle.qt_root2.specs.declared.weight.Weight.{Weight}
use Rattle.qt_root2.specs.Numerators.{weight_numerator}
use Rattle.qt_root2.specs.Root2.{Root2}
use Rattle.qt_root2.specs.Scaling.{IsScaled}
use Rattle.qt_canon_laws.specs.Canonical.{Taken, IsCanonical, scale_of}
use Rattle.qt_children.specs.declared.start.Start.{Start}

-- |p|² over 2^(2k)
abbrev pub scale_over : Taken → ℕ → Scale
scale_over k halvings = record { twos = (scale_of k).twos -ℤ pos (halvings + halvings); units = (scale_of k).units; primes = (scale_of k).primes }

abbrev pub AreSmall : List Omega → Type 0
AreSmall form = All (Within (unsigned_abs LARGEST)) form

-- the branch of a state at an instruction, with those slots
pub record IsChild (at : ℕ) (slots : List ℕ) (h : State) (w : Weight) (fuel : ℕ) (s : Start) : Type 0 where
  pub taken : Taken
  pub form : IsCanonical h.entries s.branch.entries taken
  pub place : s.branch.at ≡ at
  pub values : s.branch.slots ≡ slots
  pub left : s.fuel ≡ fuel
  pub weighs : IsScaled (scale_over taken h.halvings) (weight_numerator w) (weight_numerator s.weight)
  pub light : s.weight.a <ℤ pos (2 ^ 100)

-- the form has a coefficient that is too large, or the weight can't be held
pub record HasNoForm (es : List Omega) (halvings : ℕ) (w : Weight) : Type 0 where
  pub taken : Taken
  pub form : List Omega
  pub canonical : IsCanonical es form taken
  pub too_large : (AreSmall form → ⊥) ⊎ ((y : Root2) → IsScaled (scale_over taken halvings) (weight_numerator w) y → pos (2 ^ 100) ≤ℤ y.a)

abbrev pub HasNoChild : State → Weight → Type 0
HasNoChild h w = HasNoForm h.entries h.halvings w
