use Rattle.std.proofs.Common.{◌≡◌, map, get_or}
use Rattle.std.specs.List.{range_with_len}
use Rattle.qt_ring.specs.Ring.{nil}
use Rattle.qt_plain.specs.Operators.{product_with}
use Rattle.qt_plain.proofs.gates.product.Given as goal

abbrev pub invariant-loop-index : goal.invariant-loop-index
invariant-loop-index l = l.new.items ≡ map (λ i. get_or (product_with l.fn.gate l.fn.qubits l.fn.entries) i nil) (range_with_len 0 l.index)
