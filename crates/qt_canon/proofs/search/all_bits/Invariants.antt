use Rattle.std.proofs.Common.{◌≡◌, ℕ, ◌%◌, ◌^◌, take}
use Rattle.std.specs.Prelude.{◌↔◌}
use Rattle.qt_ring.specs.Ring.{two_to}
use Rattle.qt_ring.specs.Multiples.{DividesAll}
use Rattle.qt_canon.proofs.search.all_bits.Given as goal

abbrev pub invariant-loop-entry : goal.invariant-loop-entry
invariant-loop-entry l = (t : ℕ) → ((l.bits % 2 ^ t ≡ 0) ↔ DividesAll (two_to t) (take l.entry-index l.entries))
