use Rattle.std.proofs.Common.{◌≡◌, ◌≤◌, length, take}
use Rattle.qt_primitives.specs.Primitives.{modified}
use Rattle.qt_primitives.proofs.primitives.modified.Given as goal

abbrev pub invariant-loop-left : goal.invariant-loop-left
invariant-loop-left l = record {
  same : modified (take l.left l.modifiers) l.more ≡ modified l.modifiers l.fn.primitives;
  within : l.left ≤ length l.modifiers;
}

abbrev pub decreases-loop-left : goal.decreases-loop-left
decreases-loop-left l = l.left
