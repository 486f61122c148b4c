use Rattle.qt_kernel.proofs.Phases.{Phasing}
use Rattle.qt_kernel.proofs.gate.Controls.add_phase.Given as goal

abbrev pub invariant-loop-index : goal.invariant-loop-index
invariant-loop-index l = Phasing l.fn.self l.fn.angle l.fn.entries l.entries l.index
