use Rattle.std.proofs.Common.{◌≡◌, length}
use Rattle.qt_typing.specs.Qubits.{repeats}
use Rattle.qt_check_qubits.proofs.repeats.repeats.Given as goal

abbrev pub invariant-loop-done : goal.invariant-loop-done
invariant-loop-done l = repeats l.done l.of ≡ repeats l.fn.done l.of

abbrev pub decreases-loop-done : goal.decreases-loop-done
decreases-loop-done l = length l.done
