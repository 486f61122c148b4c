-- The items that are left decide.
use Rattle.std.proofs.Common.{◌≡◌, length}
use Rattle.qt_typing.specs.Programs.{items_built}
use Rattle.qt_check.proofs.check.built.Given as goal

abbrev pub invariant-loop-items : goal.invariant-loop-items
invariant-loop-items l = items_built l.program.items ≡ items_built l.items

abbrev pub decreases-loop-items : goal.decreases-loop-items
decreases-loop-items l = length l.items
