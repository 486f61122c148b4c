use Rattle.std.proofs.Common.{◌≡◌, length}
use Rattle.qt_typing.specs.Inputs.{is_input}
use Rattle.qt_settings.proofs.fit.is_input.Given as goal

abbrev pub invariant-loop-inputs : goal.invariant-loop-inputs
invariant-loop-inputs l = is_input l.inputs l.name ≡ is_input l.fn.inputs l.name

abbrev pub decreases-loop-inputs : goal.decreases-loop-inputs
decreases-loop-inputs l = length l.inputs
