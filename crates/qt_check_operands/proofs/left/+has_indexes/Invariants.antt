use Rattle.std.proofs.Common.{length}
use Rattle.qt_check_operands.proofs.left.+has_indexes.Given as goal

abbrev pub decreases-has_indexes : goal.decreases-has_indexes
decreases-has_indexes l = length l.rest.now
