use Rattle.std.proofs.Common.{◌↔◌, length}
use Rattle.qt_registers.specs.Registers.{Overlap}
use Rattle.qt_registers.specs.Runs.{qubits_of}
use Rattle.qt_registers.proofs.register.runs_overlap.Given as goal

abbrev pub invariant-loop-runs : goal.invariant-loop-runs
invariant-loop-runs l = Overlap (qubits_of l.runs) (qubits_of l.others) ↔ Overlap (qubits_of l.fn.runs) (qubits_of l.others)

abbrev pub decreases-loop-runs : goal.decreases-loop-runs
decreases-loop-runs l = length l.runs
