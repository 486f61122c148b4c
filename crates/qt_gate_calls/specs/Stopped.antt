-- Counts of gates up to a stop, at 4,294,967,295: the size of a program is given as that number where it is above it (the size is this
-- profile's; OpenQASM 3.0 live specification, "Gates"; Cross et al. 2022).
use Rattle.std.specs.Prelude.{◌≡◌, ℕ, ◌-◌, ◌^◌, min, List, get_or}
use Rattle.qt_gate_calls.specs.declared.body.GateBody.{GateBody}
use Rattle.qt_gate_calls.specs.declared.counts.GateCount.{GateCount}
use Rattle.qt_gate_calls.specs.Counts.{GateCounts, primitive_counts, operator_counts}

abbrev pub stopped : ℕ → ℕ
stopped n = min n (2 ^ 32 - 1)

-- ---- a list of counts, by the numbers of the gates

abbrev pub no_count : GateCount
no_count = record { primitives = 0; operators = 0 }

abbrev pub primitives_in : List GateCount → GateCounts
primitives_in counts i = (get_or counts i no_count).primitives

abbrev pub operators_in : List GateCount → GateCounts
operators_in counts i = (get_or counts i no_count).operators

-- the list has what the gates with these bodies come to
pub record AreCounted (bodies : List GateBody) (counts : List GateCount) : Type 0 where
  pub primitives : (i : ℕ) → primitives_in counts i ≡ stopped (primitive_counts bodies i)
  pub operators : (i : ℕ) → operators_in counts i ≡ stopped (operator_counts bodies i)
