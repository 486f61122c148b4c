use Rattle.std.proofs.Common.{◌-◌}
use Rattle.qt_unit.proofs.Rises.{Rising}
use Rattle.qt_unit.proofs.window.steps_up.Given as goal

abbrev pub invariant-loop-whole : goal.invariant-loop-whole
invariant-loop-whole l = Rising l.fn.x l.steps l.whole l.root

abbrev pub decreases-loop-whole : goal.decreases-loop-whole
decreases-loop-whole l = 50 - l.steps
