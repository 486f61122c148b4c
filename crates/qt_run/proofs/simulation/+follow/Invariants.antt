use Rattle.std.proofs.Common.{◌+◌, ◌*◌, length}
use Rattle.qt_run.proofs.simulation.+follow.Given as goal

abbrev pub decreases-follow : goal.decreases-follow
decreases-follow l = 2 * length l.statements.now

abbrev pub decreases-follow_outcome : goal.decreases-follow_outcome
decreases-follow_outcome l = 2 * length l.rest.now + 1
