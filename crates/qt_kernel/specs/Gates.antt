-- What the code reckons at each index for a gate U under masks, before any halving, and for a phase under masks
-- (OpenQASM 3.0 live specification, "Gates", the built-in gates U and gphase, control modifiers; Cross et al. 2022).
use Rattle.std.specs.Prelude.{◌≡◌, ℕ, ◌*◌, ◌^◌, ◌<◌, ◌≤◌, Bool, true, false, if◌then◌else◌, List, length, EachIndex}
use Rattle.std.specs.Prelude.{slice_index_or, slice_set}
use Rattle.std.specs.Int.RustNames.{unsigned_abs}
use Rattle.qt_ring.specs.declared.omega.Omega.{Omega}
use Rattle.qt_ring.specs.declared.TheConstants.{QUBITS, LARGEST}
use Rattle.qt_ring.specs.Ring.{nil, times, two_to, root, Within}
use Rattle.qt_ring.specs.Division.{Divides}
use Rattle.qt_ring.specs.Matrix.{Matrix, u_gate}
use Rattle.qt_vector.specs.States.{IsSmall, AreSmall}
use Rattle.qt_embedding.specs.Controls.{AreMasks, IsTarget}
use Rattle.qt_embedding.specs.Entries.{masks_hold, row, paired_entry, masked_entry}
use Rattle.qt_kernel.specs.declared.gate.Controls.{Controls}
use Rattle.qt_kernel.specs.declared.gate.Angles.{Angles}
use Rattle.qt_kernel.specs.declared.gate.ControlledU.{ControlledU}

-- twice the matrix of U
abbrev pub u_matrix : Angles → Matrix
u_matrix a = (u_gate a.theta a.phi a.lambda).entries

pub record AreAngles (a : Angles) : Type 0 where
  pub theta_in : a.theta < 8
  pub phi_in : a.phi < 8
  pub lambda_in : a.lambda < 8

-- no coefficient is above four times the largest of an amplitude
abbrev pub IsFourfold : Omega → Type 0
IsFourfold x = Within (4 * unsigned_abs LARGEST) x

-- what becomes of the amplitudes of a pair, times 2, by whether the controls hold
abbrev pub low_after : ControlledU → Bool → Omega → Omega → Omega
low_after g hold low high = (if hold then row (u_matrix g.angles) false low high else times (two_to 1) low)

abbrev pub high_after : ControlledU → Bool → Omega → Omega → Omega
high_after g hold low high = (if hold then row (u_matrix g.angles) true low high else times (two_to 1) high)

-- what becomes of the amplitude at an index, times 2
abbrev pub entry_after : ControlledU → List Omega → ℕ → Omega
entry_after g es i = masked_entry g.controls.ones g.controls.zeros 1 (paired_entry (u_matrix g.angles) g.target es i) es i

abbrev pub entry_after_phase : Controls → ℕ → List Omega → ℕ → Omega
entry_after_phase c angle es i = masked_entry c.ones c.zeros 0 (times (root angle) (slice_index_or es i nil)) es i

-- the gate is on so many qubits, and these are all entries of a state of them, none too large
pub record Suits (g : ControlledU) (n : ℕ) (es : List Omega) : Type 0 where
  pub few : n ≤ QUBITS
  pub all : length es ≡ 2 ^ n
  pub small : AreSmall es
  pub masks : AreMasks n g.controls.ones g.controls.zeros
  pub target : IsTarget n g.controls.ones g.controls.zeros g.target
  pub angles : AreAngles g.angles

-- 2^by divides all new entries
abbrev pub AllDivide : ControlledU → ℕ → List Omega → Type 0
AllDivide g by es = EachIndex es (λ i. Divides (two_to by) (entry_after g es i))

-- the new entries over 2^by are small
abbrev pub AreSmallOver : ControlledU → ℕ → List Omega → Type 0
AreSmallOver g by es = EachIndex es (λ i. (y : Omega) → times (two_to by) y ≡ entry_after g es i → IsSmall y)

-- what becomes of the amplitudes at the two indexes of a pair, times 2
abbrev pub low_at : ControlledU → List Omega → ℕ → ℕ → Omega
low_at g es low high =
    low_after g (masks_hold g.controls.ones g.controls.zeros low) (slice_index_or es low nil) (slice_index_or es high nil)

abbrev pub high_at : ControlledU → List Omega → ℕ → ℕ → Omega
high_at g es low high =
    high_after g (masks_hold g.controls.ones g.controls.zeros low) (slice_index_or es low nil) (slice_index_or es high nil)

-- the entries of a pair are replaced by the new ones over 2^by
pub record WritesPair (g : ControlledU) (by low high : ℕ) (old new : List Omega) : Type 0 where
  pub first : Omega
  pub second : Omega
  pub first_is : times (two_to by) first ≡ low_at g old low high
  pub second_is : times (two_to by) second ≡ high_at g old low high
  pub written : new ≡ slice_set (slice_set old low first) high second
