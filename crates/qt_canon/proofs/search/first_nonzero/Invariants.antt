use Rattle.std.proofs.Common.{◌≡◌, ℕ, ◌<◌, true, get_or}
use Rattle.qt_ring.specs.Ring.{nil, is_nil}
use Rattle.qt_canon.proofs.search.first_nonzero.Given as goal

abbrev pub invariant-loop-entry : goal.invariant-loop-entry
invariant-loop-entry l = (k : ℕ) → k < l.entry-index → is_nil (get_or l.entries k nil) ≡ true
