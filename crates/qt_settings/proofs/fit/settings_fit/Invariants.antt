use Rattle.std.proofs.Common.{◌≡◌, length}
use Rattle.qt_typing.specs.Inputs.{settings_fit}
use Rattle.qt_settings.proofs.fit.settings_fit.Given as goal

abbrev pub invariant-loop-settings : goal.invariant-loop-settings
invariant-loop-settings l = settings_fit l.inputs l.settings ≡ settings_fit l.inputs l.fn.settings

abbrev pub decreases-loop-settings : goal.decreases-loop-settings
decreases-loop-settings l = length l.settings
