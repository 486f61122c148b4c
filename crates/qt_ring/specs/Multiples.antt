-- Multiples of lists of amplitudes, and a state over its least power of two. A state matters only up to a factor, and its amplitudes
-- may be written over any power of two that is large enough
-- (OpenQASM 3.0 live specification, "Quantum measurement and reset"; Cross et al. 2022).
use Rattle.std.specs.Prelude.{◌≡◌, ℕ, ◌+◌, ◌⊎◌, List, map}
use Rattle.qt_ring.specs.declared.omega.Omega.{Omega}
use Rattle.qt_ring.specs.Ring.{times, two_to}
use Rattle.qt_ring.specs.State.{State}

-- each entry times c
abbrev pub scaled : Omega → List Omega → List Omega
scaled c v = map (times c) v

-- d divides each entry
abbrev pub DividesAll : Omega → List Omega → Type 0
DividesAll d v = (w : List Omega) × (scaled d w ≡ v)

-- its power of two is the least: it is 2^0, or 2 doesn't divide all entries
abbrev pub IsLeast : State → Type 0
IsLeast s = (s.halvings ≡ 0) ⊎ (DividesAll (two_to 1) s.entries → ⊥)

-- t is the state s over its least power of two
pub record IsReduced (s t : State) : Type 0 where
  pub same_qubits : t.qubits ≡ s.qubits
  pub by : ℕ
  pub exponent : t.halvings + by ≡ s.halvings
  pub same_entries : scaled (two_to by) t.entries ≡ s.entries
  pub least : IsLeast t
