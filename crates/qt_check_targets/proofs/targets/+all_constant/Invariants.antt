use Rattle.std.proofs.Common.{length}
use Rattle.qt_check_targets.proofs.targets.+all_constant.Given as goal

abbrev pub decreases-all_constant : goal.decreases-all_constant
decreases-all_constant l = length l.forms.now
