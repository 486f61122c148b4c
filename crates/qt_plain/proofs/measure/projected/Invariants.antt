use Rattle.std.proofs.Common.{◌≡◌, map, get_or}
use Rattle.std.specs.List.{range_with_len}
use Rattle.qt_ring.specs.Ring.{nil}
use Rattle.qt_ring.specs.Places.{at, equal_bits, bits_of}
use Rattle.qt_ring.specs.Matrix.{kept}
use Rattle.qt_plain.proofs.measure.projected.Given as goal

abbrev pub invariant-loop-index : goal.invariant-loop-index
invariant-loop-index l = l.kept.items ≡ map (λ i. kept (equal_bits (at l.fn.qubit (bits_of l.fn.qubits i)) l.fn.outcome) (get_or l.fn.entries i nil)) (range_with_len 0 l.index)
