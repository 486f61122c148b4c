use Rattle.qt_measure.proofs.Swapped.{Swapping}
use Rattle.qt_measure.proofs.swaps.swap_twins.Given as goal

abbrev pub invariant-loop-index : goal.invariant-loop-index
invariant-loop-index l = Swapping l.qubits l.qubit l.fn.entries l.entries l.index
