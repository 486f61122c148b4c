-- Operators under controls that ask for 1 or for 0, and the controls that two masks name
-- (OpenQASM 3.0 live specification, "Gates", control modifiers; Cross et al. 2022).
use Rattle.std.specs.Prelude.{◌≡◌, ℕ, zero, suc, ◌^◌, ◌<◌, Bool, true, false, List, [], ◌∷◌}
use Rattle.std.specs.Int.{bit_at}
use Rattle.std.specs.Int.RustNames.{bit_and}
use Rattle.qt_ring.specs.Places.{is_one}
use Rattle.qt_ring.specs.Matrix.{negctrl, Operator, controlled}

-- a qubit, and the bit that is asked of it
pub record Control : Type 0 where
  pub qubit : ℕ
  pub value : Bool

-- one more control in front of the operator's own qubits
abbrev pub under : Bool → Operator → Operator
under true g = controlled g
under false g = record { size = suc g.size; halvings = g.halvings; entries = negctrl g.halvings g.entries }

-- the operator under controls, the first control in front
abbrev pub under_all : List Control → Operator → Operator
under_all [] g = g
under_all (c ∷ cs) g = under c.value (under_all cs g)

-- the qubits of the controls, and behind them those of the operator
abbrev pub qubits_under : List Control → List ℕ → List ℕ
qubits_under [] qs = qs
qubits_under (c ∷ cs) qs = c.qubit ∷ qubits_under cs qs

abbrev pub asked_for : Bool → ℕ → Bool → List Control → List Control
asked_for true q b cs = record { qubit = q; value = b } ∷ cs
asked_for false q b cs = cs

-- the controls that two masks name among m qubits from q on, ascending: a bit of `ones` asks for 1, a bit of `clear` for 0
abbrev pub controls_from : ℕ → ℕ → ℕ → ℕ → List Control
controls_from q zero ones clear = []
controls_from q (suc m) ones clear =
    asked_for (is_one (bit_at ones q)) q true (asked_for (is_one (bit_at clear q)) q false (controls_from (suc q) m ones clear))

-- masks of control qubits below n, with no qubit in both
pub record AreMasks (n ones clear : ℕ) : Type 0 where
  pub ones_in : ones < 2 ^ n
  pub clear_in : clear < 2 ^ n
  pub apart : bit_and ones clear ≡ 0

-- a qubit below n in neither mask
pub record IsTarget (n ones clear t : ℕ) : Type 0 where
  pub target_in : t < n
  pub not_in_ones : bit_at ones t ≡ 0
  pub not_in_clear : bit_at clear t ≡ 0
