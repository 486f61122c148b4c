use Rattle.std.proofs.Common.{length}
use Rattle.qt_check_operands.proofs.left.+next_of.Given as goal

abbrev pub decreases-next_of : goal.decreases-next_of
decreases-next_of l = length l.rest.now
