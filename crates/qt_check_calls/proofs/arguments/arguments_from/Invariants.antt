use Rattle.std.proofs.Common.{◌≡◌, length}
use Rattle.qt_typing.specs.Calls.{arguments_from}
use Rattle.qt_check_calls.specs.Forms.{given_of}
use Rattle.qt_check_calls.proofs.arguments.arguments_from.Given as goal

abbrev pub invariant-loop-parameters : goal.invariant-loop-parameters
invariant-loop-parameters l =
    arguments_from l.names l.place (given_of l.done) l.parameters l.given
    ≡ arguments_from l.names l.place (given_of l.fn.done) l.fn.parameters l.fn.given

abbrev pub decreases-loop-parameters : goal.decreases-loop-parameters
decreases-loop-parameters l = length l.parameters
