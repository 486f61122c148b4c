use Rattle.std.proofs.Common.{◌≡◌, [], length}
use Rattle.qt_typing.specs.Declarations.{lengths_from}
use Rattle.qt_check_declarations.proofs.sizes.lengths_of.Given as goal

abbrev pub invariant-loop-dimensions : goal.invariant-loop-dimensions
invariant-loop-dimensions l = lengths_from l.place l.lengths.items l.dimensions l.names ≡ lengths_from l.place [] l.fn.dimensions l.names

abbrev pub decreases-loop-dimensions : goal.decreases-loop-dimensions
decreases-loop-dimensions l = length l.dimensions
