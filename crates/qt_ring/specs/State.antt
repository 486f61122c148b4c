-- States of n qubits: 2^n amplitudes in Z[ω] with a shared number of halvings, and what gates, projections and flips do to
-- them by full matrices (OpenQASM 3.0 live specification, "Quantum measurement and reset"; Cross et al. 2022).
-- Entry i belongs to the basis state whose bit j is bit j of i. States are never scaled and never reduced.
use Rattle.std.specs.Prelude.{◌≡◌, ℕ, zero, suc, ◌+◌, ◌-◌, ◌^◌, Bool, true, ◌&&◌, not, replicate, List, [], ◌∷◌, length, map, ℤ, pos, ◌+ℤ◌, slice_index_or}
use Rattle.std.specs.List.{range_with_len}
use Rattle.qt_ring.specs.declared.omega.Omega.{Omega}
use Rattle.qt_ring.specs.Ring.{nil, one, plus, times, is_nil, norm_a, norm_b}
use Rattle.qt_ring.specs.Places.{Bits, at, equal_bits, bits_of, number}
use Rattle.qt_ring.specs.Matrix.{Matrix, kept, embedded, Operator}

-- each entry is an amplitude times 2^halvings
pub record State : Type 0 where
  pub qubits : ℕ
  pub entries : List Omega
  pub halvings : ℕ

abbrev pub HasAllEntries : State → Type 0
HasAllEntries s = length s.entries ≡ 2 ^ s.qubits

-- a list of 2^n entries, by the basis state of each
abbrev pub entries_by : ℕ → (Bits → Omega) → List Omega
entries_by n f = map (λ i. f (bits_of n i)) (range_with_len 0 (2 ^ n))

-- all qubits in 0
unfoldable pub zero_state : ℕ → State
zero_state n = record { qubits = n; entries = one ∷ replicate (2 ^ n - 1) nil; halvings = 0 }

-- a row of a matrix times a list of entries, whose first has the number j
abbrev pub dot : (ℕ → Omega) → ℕ → List Omega → Omega
dot row j [] = nil
dot row j (e ∷ es) = plus (times (row j) e) (dot row (suc j) es)

-- the full product of a matrix on n qubits with a list of 2^n entries
abbrev pub multiplied : ℕ → Matrix → List Omega → List Omega
multiplied n m es = map (λ i. dot (λ j. m (bits_of n i) (bits_of n j)) 0 es) (range_with_len 0 (2 ^ n))

-- a gate on chosen qubits
unfoldable pub applied : Operator → List ℕ → State → State
applied g qs s = record { qubits = s.qubits; entries = multiplied s.qubits (embedded g.entries qs) s.entries; halvings = s.halvings + g.halvings }

-- the entries whose bit of a qubit is b; the others are 0
unfoldable pub project : ℕ → Bool → State → State
project q b s = record s {
  entries = map (λ i. kept (equal_bits (at q (bits_of s.qubits i)) b) (slice_index_or s.entries i nil)) (range_with_len 0 (2 ^ s.qubits));
}

-- the basis state with the bit of one qubit turned
abbrev pub turned : ℕ → Bits → Bits
turned q [] = []
turned zero (b ∷ x) = not b ∷ x
turned (suc q) (b ∷ x) = b ∷ turned q x

-- each entry moves to the place with the bit of a qubit turned
unfoldable pub flip : ℕ → State → State
flip q s = record s {
  entries = map (λ i. slice_index_or s.entries (number (turned q (bits_of s.qubits i))) nil) (range_with_len 0 (2 ^ s.qubits));
}

abbrev pub all_nil : List Omega → Bool
all_nil [] = true
all_nil (e ∷ es) = is_nil e && all_nil es

-- no amplitude is other than 0
unfoldable pub vanishes : State → Bool
vanishes s = all_nil s.entries

-- the sum of |e|² over the entries is total_a + total_b · √2
abbrev pub total_a : List Omega → ℤ
total_a [] = pos 0
total_a (e ∷ es) = norm_a e +ℤ total_a es

abbrev pub total_b : List Omega → ℤ
total_b [] = pos 0
total_b (e ∷ es) = norm_b e +ℤ total_b es
