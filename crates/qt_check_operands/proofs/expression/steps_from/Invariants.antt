use Rattle.std.proofs.Common.{◌≡◌, [], length}
use Rattle.qt_typing.specs.Indexes.{steps_from}
use Rattle.qt_check_operands.specs.Parts.{index_parts}
use Rattle.qt_check_operands.proofs.expression.steps_from.Given as goal

-- the steps so far and those of the indexes that are left are all
abbrev pub invariant-indexes : goal.invariant-indexes
invariant-indexes l =
    steps_from l.names l.mode l.place [] l.fn.of (index_parts l.names l.place l.fn.left)
    ≡ steps_from l.names l.mode l.place l.steps l.kind (index_parts l.names l.place l.left)

abbrev pub decreases-indexes : goal.decreases-indexes
decreases-indexes l = length l.left
