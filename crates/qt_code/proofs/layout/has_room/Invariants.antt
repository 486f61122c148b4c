use Rattle.std.proofs.Common.{◌≡◌, nat_le, length}
use Rattle.qt_meaning.specs.Distribution.{element_count}
use Rattle.qt_code.proofs.layout.has_room.Given as goal

abbrev pub invariant-lengths : goal.invariant-lengths
invariant-lengths l = nat_le (element_count l.lengths) l.room ≡ nat_le (element_count l.fn.lengths) l.fn.room

abbrev pub decreases-lengths : goal.decreases-lengths
decreases-lengths l = length l.lengths
