use Rattle.std.proofs.Common.{◌≡◌, ◌-◌, ◌≤◌, drop}
use Rattle.qt_typing.specs.Gates as spec
use Rattle.qt_check_gate_calls.proofs.operands.meets_somewhere.Given as goal

-- the places so far have other qubits
abbrev pub invariant-loop-place : goal.invariant-loop-place
invariant-loop-place l = (spec.meets (drop l.place l.a) (drop l.place l.b) ≡ spec.meets l.a l.b) × (l.place ≤ l.count)

abbrev pub decreases-loop-place : goal.decreases-loop-place
decreases-loop-place l = l.count - l.place
