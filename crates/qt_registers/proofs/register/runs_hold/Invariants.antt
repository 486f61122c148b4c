use Rattle.std.proofs.Common.{◌↔◌, length}
use Rattle.qt_registers.specs.Registers.{Holds}
use Rattle.qt_registers.specs.Runs.{qubits_of}
use Rattle.qt_registers.proofs.register.runs_hold.Given as goal

abbrev pub invariant-loop-runs : goal.invariant-loop-runs
invariant-loop-runs l = Holds (qubits_of l.runs) l.qubit ↔ Holds (qubits_of l.fn.runs) l.qubit

abbrev pub decreases-loop-runs : goal.decreases-loop-runs
decreases-loop-runs l = length l.runs
