use Rattle.std.proofs.Common.{◌↔◌, length}
use Rattle.qt_registers.specs.Registers.{Overlap}
use Rattle.qt_registers.specs.Runs.{qubits_of, run_qubits}
use Rattle.qt_registers.proofs.register.run_overlaps.Given as goal

abbrev pub invariant-loop-others : goal.invariant-loop-others
invariant-loop-others l = Overlap (run_qubits l.run) (qubits_of l.others) ↔ Overlap (run_qubits l.run) (qubits_of l.fn.others)

abbrev pub decreases-loop-others : goal.decreases-loop-others
decreases-loop-others l = length l.others
