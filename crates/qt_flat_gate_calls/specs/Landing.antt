-- What it is for a piece of code to do what a run of the meaning does (flat code is this profile's; OpenQASM 3.0 live specification,
-- "Classical instructions"; Cross et al. 2022). Whatever the work cells hold, and whatever follows the piece, the run from its first
-- instruction on has the leaves of the meaning's run with that behind it: an end with the same slots, state, fuel and trail, or the same fault
-- at the same place, with the same trail. Of a fault slots, state and fuel aren't compared.
use Rattle.std.specs.Prelude.{◌≡◌, ℕ}
use Rattle.qt_ring.specs.State.{State, HasAllEntries}
use Rattle.qt_meaning.specs.Points.{Point, Run, then_do}
use Rattle.qt_instructions.specs.declared.parts.Parts.{Parts}
use Rattle.qt_code.specs.Cells.{Cells}
use Rattle.qt_code.specs.Tail.{tail}
use Rattle.qt_gate_call_laws.specs.Seen.{LookAlike}

-- the state has so many qubits, and an amplitude for each basis state
abbrev pub IsWhole : ℕ → State → Type 0
IsWhole n s = (s.qubits ≡ n) × HasAllEntries s

-- from an instruction on, whatever the cells hold, the code does what `next` does: from each point with that fuel
abbrev pub GoesOn : Parts → ℕ → ℕ → Run → Type 0
GoesOn code fuel at next =
    (cells : Cells) (q : Point) → q.fuel ≡ fuel → IsWhole code.qubits q.state → LookAlike (tail code at cells q) (next q)

-- the piece from the instruction `at` up to the instruction `to` does what the run does, and spends no fuel
pub record RunLands (code : Parts) (at to : ℕ) (run : Run) : Type 0 where
  pub by : (next : Run) (cells : Cells) (p : Point) → IsWhole code.qubits p.state → GoesOn code p.fuel to next
      → LookAlike (tail code at cells p) (then_do run next p)
