use Rattle.std.proofs.Common.{◌≡◌, ◌+◌, ◌-◌, ◌*◌, ◌^◌, ◌<◌, ◌++◌, length}
use Rattle.qt_registers.specs.Registers.{stepped}
use Rattle.qt_registers.specs.Runs.{qubits_of}
use Rattle.qt_registers.proofs.register.stepped_runs.Given as goal

abbrev pub invariant-loop-runs : goal.invariant-loop-runs
invariant-loop-runs l =
    (qubits_of l.found.items ++ stepped (qubits_of l.runs) l.start l.step l.count ≡ stepped (qubits_of l.fn.runs) l.fn.start l.step l.fn.count)
    × (0 < l.count → l.start + (l.count - 1) * l.step < length (qubits_of l.runs))
    × (length (qubits_of l.runs) < 2 ^ 64)

abbrev pub decreases-loop-runs : goal.decreases-loop-runs
decreases-loop-runs l = length l.runs
