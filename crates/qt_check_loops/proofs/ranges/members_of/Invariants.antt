use Rattle.std.proofs.Common.{◌≡◌, [], length}
use Rattle.qt_typing.specs.Statements.{members_from}
use Rattle.qt_check_loops.proofs.ranges.members_of.Given as goal

-- the members so far and those that are left are all
abbrev pub invariant-loop-members : goal.invariant-loop-members
invariant-loop-members l = members_from l.place l.forms l.members l.names ≡ members_from l.place [] l.fn.members l.names

abbrev pub decreases-loop-members : goal.decreases-loop-members
decreases-loop-members l = length l.members
