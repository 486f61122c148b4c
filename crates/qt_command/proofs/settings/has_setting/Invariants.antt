use Rattle.std.proofs.Common.{◌≡◌, length}
use Rattle.qt_command.specs.Arguments.{has_setting}
use Rattle.qt_command.proofs.settings.has_setting.Given as goal

abbrev pub invariant-loop-settings : goal.invariant-loop-settings
invariant-loop-settings l = has_setting l.settings l.name ≡ has_setting l.fn.settings l.name

abbrev pub decreases-loop-settings : goal.decreases-loop-settings
decreases-loop-settings l = length l.settings
