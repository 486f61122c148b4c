use Rattle.std.specs.Int.RustNames.{unsigned_abs}
use Rattle.qt_unit.proofs.Falls.{Falling}
use Rattle.qt_unit.proofs.window.steps_down.Given as goal

abbrev pub invariant-loop-whole : goal.invariant-loop-whole
invariant-loop-whole l = Falling l.fn.x l.steps l.whole l.root

abbrev pub decreases-loop-whole : goal.decreases-loop-whole
decreases-loop-whole l = unsigned_abs l.whole
