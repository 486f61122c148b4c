-- The parts of a branch. What a program does next depends on three things alone: the place that it has come to, the values of its
-- classical variables, and the state of its qubits up to a factor
-- (OpenQASM 3.0 live specification, "Types and Casting", "Quantum measurement and reset"; Cross et al. 2022).
use Rattle.std.specs.Prelude.{◌≡◌, ℕ, ◌+◌, ◌*◌, ◌^◌, ◌≤◌, Bool, ◌++◌, nat_eq, List, length, All}
use Rattle.std.specs.Int.RustNames.{unsigned_abs}
use Rattle.std.specs.Ordering.{on, eq_of_both}
use Rattle.std.specs.Hash as fed
use Rattle.std.specs.Hash.{HashWrites}
use lib.Pointwise.{pointwise}
use Rattle.qt_ring.specs.declared.omega.Omega.{Omega}
use Rattle.qt_ring.specs.declared.TheConstants.{QUBITS, LARGEST}
use Rattle.qt_ring.specs.Ring.{Within}
use Rattle.qt_branch.specs.Amplitudes.{same_amplitude, told_amplitude}

pub record Parts : Type 0 where
  pub at : ℕ
  pub slots : List ℕ
  pub entries : List Omega

-- the amplitudes of all basis states of some qubits, no coefficient above LARGEST in size
pub record AreAmplitudes (es : List Omega) : Type 0 where
  pub qubits : ℕ
  pub few : qubits ≤ QUBITS
  pub all : length es ≡ 2 ^ qubits
  pub small : All (Within (unsigned_abs LARGEST)) es

-- parts that a branch may have
abbrev pub IsBranch : Parts → Type 0
IsBranch b = AreAmplitudes b.entries

-- the places, the slots and the amplitudes agree
abbrev pub same : Parts → Parts → Bool
same =
    eq_of_both (on (λ b. b.at) nat_eq)
    (eq_of_both (on (λ b. b.slots) (pointwise nat_eq)) (on (λ b. b.entries) (pointwise same_amplitude)))

-- what a branch tells a hasher: its place, its slots and its amplitudes
abbrev pub told : Parts → HashWrites
told b = fed.u32 b.at ++ (fed.slice fed.u64 b.slots ++ fed.slice told_amplitude b.entries)

-- the words of 64 bits that it takes
abbrev pub words : Parts → ℕ
words b = 4 * length b.entries + length b.slots + 16
