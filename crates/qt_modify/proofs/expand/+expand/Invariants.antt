-- Each body stands over fewer gates.
use Rattle.std.proofs.Common.{◌≡◌, ◌+◌, ◌*◌, length, take}
use Rattle.qt_modify.specs.Expansions.{calls_expansion, expansions_of}
use Rattle.qt_modify.proofs.expand.+expand.Given as goal

abbrev pub decreases-call_expansion : goal.decreases-call_expansion
decreases-call_expansion l = 5 * length l.gates.now + 2

abbrev pub decreases-called_expansion : goal.decreases-called_expansion
decreases-called_expansion l = 5 * length l.gates.now + 1

abbrev pub decreases-gate_expansion : goal.decreases-gate_expansion
decreases-gate_expansion l = 5 * length l.gates.now

abbrev pub decreases-calls_expansion : goal.decreases-calls_expansion
decreases-calls_expansion l = 5 * length l.gates.now + 4

abbrev pub decreases-body_call_expansion : goal.decreases-body_call_expansion
decreases-body_call_expansion l = 5 * length l.gates.now + 3

abbrev pub invariant-calls_expansion-loop-call : goal.invariant-calls_expansion-loop-call
invariant-calls_expansion-loop-call l =
    calls_expansion (expansions_of l.gates) (take l.call-index l.calls) l.given l.controls l.qubits l.fn.steps
    ≡ record { steps = l.steps; primitives = l.primitives }
