use Rattle.std.proofs.Common.{◌≡◌, ◌++◌, length}
use Rattle.qt_gate_calls.specs.Primitives.{undo}
use Rattle.qt_primitives.specs.Primitives.{inverse_of}
use Rattle.qt_primitives.proofs.primitives.undone.Given as goal

abbrev pub invariant-loop-primitive : goal.invariant-loop-primitive
invariant-loop-primitive l = l.undone ++ undo inverse_of l.left ≡ undo inverse_of l.fn.primitives

abbrev pub decreases-loop-primitive : goal.decreases-loop-primitive
decreases-loop-primitive l = length l.left
