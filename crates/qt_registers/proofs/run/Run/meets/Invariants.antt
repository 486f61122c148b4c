use Rattle.std.proofs.Common.{ℕ, ◌+◌, ◌-◌, ◌*◌, ◌<◌, ◌≤◌}
use Rattle.qt_registers.specs.Runs.{HasNumber}
use Rattle.qt_registers.proofs.run.Run.meets.Given as goal

abbrev pub invariant-loop-place : goal.invariant-loop-place
invariant-loop-place l = (l.first ≤ l.place) × ((j : ℕ) → l.first ≤ j → j < l.place → HasNumber l.self (l.other.first + j * l.other.step) → ⊥)

abbrev pub decreases-loop-place : goal.decreases-loop-place
decreases-loop-place l = l.end - l.place
