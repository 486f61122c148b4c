use Rattle.std.proofs.Common.{◌≡◌, [], length}
use Rattle.qt_typing.specs.Subroutines.{parameters_from}
use Rattle.qt_check_parameters.proofs.parameters.parameters_of.Given as goal

-- the parameters so far and those that are left are all
abbrev pub invariant-loop-parameters : goal.invariant-loop-parameters
invariant-loop-parameters l =
    parameters_from l.place l.done l.parameters l.state ≡ parameters_from l.place [] l.fn.parameters l.fn.state

abbrev pub decreases-loop-parameters : goal.decreases-loop-parameters
decreases-loop-parameters l = length l.parameters
