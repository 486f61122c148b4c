use Rattle.qt_kernel.proofs.Writing.{Writing}
use Rattle.qt_kernel.proofs.gate.ControlledU.write.Given as goal

abbrev pub invariant-loop-index : goal.invariant-loop-index
invariant-loop-index l = Writing l.fn.self l.fn.by l.fn.entries l.entries l.index
