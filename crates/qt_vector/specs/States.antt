-- States that state vectors hold: over their least power of two, and within the bounds of size
-- (OpenQASM 3.0 live specification, "Types and Casting", quantum types; Cross et al. 2022).
use Rattle.std.specs.Prelude.{◌≤◌, List, All}
use Rattle.std.specs.Int.RustNames.{unsigned_abs}
use Rattle.qt_ring.specs.declared.omega.Omega.{Omega}
use Rattle.qt_ring.specs.declared.TheConstants.{QUBITS, LARGEST}
use Rattle.qt_ring.specs.Ring.{Within}
use Rattle.qt_ring.specs.State.{State, HasAllEntries}
use Rattle.qt_ring.specs.Multiples.{IsLeast}
use Rattle.qt_vector.specs.declared.TheConstants.{HALVINGS}

-- no coefficient is above LARGEST in size
abbrev pub IsSmall : Omega → Type 0
IsSmall x = Within (unsigned_abs LARGEST) x

abbrev pub AreSmall : List Omega → Type 0
AreSmall es = All IsSmall es

-- neither a coefficient nor the number of halvings is too large
pub record IsBounded (s : State) : Type 0 where
  pub few_halvings : s.halvings ≤ HALVINGS
  pub small_entries : AreSmall s.entries

-- a state that a vector may hold
pub record IsVector (s : State) : Type 0 where
  pub few_qubits : s.qubits ≤ QUBITS
  pub all_entries : HasAllEntries s
  pub bounded : IsBounded s
  pub least : IsLeast s
