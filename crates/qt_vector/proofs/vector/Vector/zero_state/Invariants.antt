use Rattle.std.proofs.Common.{◌≡◌, ◌-◌, ◌≤◌, ◌∷◌, replicate}
use Rattle.qt_ring.specs.Ring.{nil, one}
use Rattle.qt_vector.proofs.vector.Vector.zero_state.Given as goal

abbrev pub invariant-loop-index : goal.invariant-loop-index
invariant-loop-index l = record {
  begun : 1 ≤ l._index;
  entries : l.entries.items ≡ one ∷ replicate (l._index - 1) nil;
}
