-- States that plain state vectors hold: of few qubits, and changed by gates and projections alone from the state of all zeros
-- (OpenQASM 3.0 live specification, "Quantum measurement and reset"; Cross et al. 2022).
use Rattle.std.specs.Prelude.{◌^◌, ◌≤◌, pos, ◌≤ℤ◌}
use Rattle.qt_ring.specs.State.{State, HasAllEntries, total_a}

-- a state of few qubits that no gate has made longer than 1
pub record IsPlain (s : State) : Type 0 where
  pub few_qubits : s.qubits ≤ 4
  pub few_halvings : s.halvings ≤ 32
  pub all_entries : HasAllEntries s
  pub bounded : total_a s.entries ≤ℤ pos (4 ^ s.halvings)
