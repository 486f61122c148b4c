use Rattle.std.proofs.Common.{take}
use Rattle.qt_ring.specs.Ring.{times, two_to, root_two}
use Rattle.qt_ring.specs.Multiples.{DividesAll}
use Rattle.qt_canon.proofs.search.root_two_divides_all.Given as goal

abbrev pub invariant-loop-entry : goal.invariant-loop-entry
invariant-loop-entry l = DividesAll (times (two_to l.twos) root_two) (take l.entry-index l.entries)
