use Rattle.std.proofs.Common.{◌≡◌, length}
use Rattle.qt_modify.specs.Eighths.{first_wrong}
use Rattle.qt_modify.proofs.finish.first_wrong.Given as goal

abbrev pub invariant-primitives : goal.invariant-primitives
invariant-primitives l = first_wrong l.primitives ≡ first_wrong l.fn.primitives

abbrev pub decreases-primitives : goal.decreases-primitives
decreases-primitives l = length l.primitives
