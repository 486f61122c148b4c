use Rattle.std.proofs.Common.{◌≡◌, length}
use Rattle.qt_typing.specs.Inputs.{setting_of}
use Rattle.qt_settings.proofs.fit.setting_of.Given as goal

abbrev pub invariant-loop-settings : goal.invariant-loop-settings
invariant-loop-settings l = setting_of l.settings l.name ≡ setting_of l.fn.settings l.name

abbrev pub decreases-loop-settings : goal.decreases-loop-settings
decreases-loop-settings l = length l.settings
