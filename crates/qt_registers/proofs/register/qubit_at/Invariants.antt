use Rattle.std.proofs.Common.{◌≡◌, length, slice_get}
use Rattle.qt_registers.specs.Runs.{qubits_of}
use Rattle.qt_registers.proofs.register.qubit_at.Given as goal

abbrev pub invariant-loop-runs : goal.invariant-loop-runs
invariant-loop-runs l = slice_get (qubits_of l.runs) l.place ≡ slice_get (qubits_of l.fn.runs) l.fn.place

abbrev pub decreases-loop-runs : goal.decreases-loop-runs
decreases-loop-runs l = length l.runs
