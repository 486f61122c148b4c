use Rattle.std.proofs.Common.{◌≡◌, take}
use Rattle.qt_gate_calls.specs.Primitives.{picked}
use Rattle.qt_primitives.specs.Primitives.{no_qubit}
use Rattle.qt_primitives.proofs.primitives.picked.Given as goal

abbrev pub invariant-loop-place : goal.invariant-loop-place
invariant-loop-place l = l.named ≡ picked no_qubit l.qubits (take l.place-index l.places)
