-- What is done and the items still to come are the whole.
use Rattle.std.proofs.Common.{◌≡◌, [], length}
use Rattle.qt_typing.specs.Programs.{items_from}
use Rattle.qt_check.proofs.items.items_typed.Given as goal

abbrev pub invariant-loop-items : goal.invariant-loop-items
invariant-loop-items l = items_from [] l.fn.items l.fn.state ≡ items_from l.done l.items l.state

abbrev pub decreases-loop-items : goal.decreases-loop-items
decreases-loop-items l = length l.items
