use Rattle.std.proofs.Common.{take}
use Rattle.qt_ring.specs.Ring.{times, one_minus_omega}
use Rattle.qt_ring.specs.Multiples.{DividesAll}
use Rattle.qt_canon.specs.EvenDivisors.{even_divisor}
use Rattle.qt_canon.proofs.search.one_minus_omega_divides_all.Given as goal

abbrev pub invariant-loop-entry : goal.invariant-loop-entry
invariant-loop-entry l = DividesAll (times (even_divisor l.twos l.has_root_two) one_minus_omega) (take l.entry-index l.entries)
