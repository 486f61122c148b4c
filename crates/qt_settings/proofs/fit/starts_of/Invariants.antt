use Rattle.std.proofs.Common.{◌≡◌, [], length}
use Rattle.qt_typing.specs.Inputs.{starts_from}
use Rattle.qt_settings.proofs.fit.starts_of.Given as goal

abbrev pub invariant-loop-inputs : goal.invariant-loop-inputs
invariant-loop-inputs l = starts_from l.settings l.starts l.inputs ≡ starts_from l.settings [] l.fn.inputs

abbrev pub decreases-loop-inputs : goal.decreases-loop-inputs
decreases-loop-inputs l = length l.inputs
