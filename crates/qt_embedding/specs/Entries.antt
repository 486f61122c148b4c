-- What an operator under masks leaves at each index of a list of amplitudes, before any halving
-- (OpenQASM 3.0 live specification, "Gates", control modifiers; Cross et al. 2022).
use Rattle.std.specs.Prelude.{ℕ, ◌+◌, ◌-◌, ◌^◌, Bool, true, false, ◌&&◌, nat_eq, if◌then◌else◌, List, [], ◌∷◌, slice_index_or}
use Rattle.std.specs.Int.{bit_at}
use Rattle.std.specs.Int.RustNames.{bit_and}
use Rattle.qt_ring.specs.declared.omega.Omega.{Omega}
use Rattle.qt_ring.specs.Ring.{nil, plus, times, two_to}
use Rattle.qt_ring.specs.Places.{is_one}
use Rattle.qt_ring.specs.Matrix.{Matrix}

-- the bits of an index are as the masks ask
abbrev pub masks_hold : ℕ → ℕ → ℕ → Bool
masks_hold ones clear i = nat_eq (bit_and i ones) ones && nat_eq (bit_and i clear) 0

-- a row of a matrix on one qubit, times the amplitudes of bit 0 and bit 1
abbrev pub row : Matrix → Bool → Omega → Omega → Omega
row m b low high = plus (times (m (b ∷ []) (false ∷ [])) low) (times (m (b ∷ []) (true ∷ [])) high)

-- the entry at an index after a matrix on the qubit t
abbrev pub paired_entry : Matrix → ℕ → List Omega → ℕ → Omega
paired_entry m t es i =
    (if is_one (bit_at i t)
    then row m true (slice_index_or es (i - 2 ^ t) nil) (slice_index_or es i nil)
    else row m false (slice_index_or es i nil) (slice_index_or es (i + 2 ^ t) nil))

-- the first number where the masks hold, and else the entry as it was, over the operator's power of two
abbrev pub masked_entry : ℕ → ℕ → ℕ → Omega → List Omega → ℕ → Omega
masked_entry ones clear h changed es i = (if masks_hold ones clear i then changed else times (two_to h) (slice_index_or es i nil))
