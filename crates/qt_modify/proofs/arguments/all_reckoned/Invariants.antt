use Rattle.std.proofs.Common.{◌≡◌, take}
use Rattle.qt_modify.specs.Expansions.{all_reckoned}
use Rattle.qt_modify.specs.Needs.{flag_at}
use Rattle.qt_modify.proofs.arguments.all_reckoned.Given as goal

abbrev pub invariant-loop-number : goal.invariant-loop-number
invariant-loop-number l =
    all_reckoned (flag_at l.wants) l.given 0 (take l.number l.angles) l.fn.steps ≡ record { steps = l.steps; angles = l.arguments }
