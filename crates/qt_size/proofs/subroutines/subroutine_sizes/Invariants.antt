-- The sizes of the subroutines so far are known.
use Rattle.std.proofs.Common.{◌≡◌, take, length}
use Rattle.qt_size.specs.Known.{AreKnown}
use Rattle.qt_size.proofs.subroutines.subroutine_sizes.Given as goal

abbrev pub invariant-loop-subroutine : goal.invariant-loop-subroutine
invariant-loop-subroutine l = AreKnown (take l.subroutine-index l.subroutines) l.known × (length l.known ≡ l.subroutine-index)
