use Rattle.std.proofs.Common.{◌≡◌, ◌++◌, take}
use Rattle.qt_primitives.proofs.primitives.copy_onto.Given as goal

abbrev pub invariant-loop-primitive : goal.invariant-loop-primitive
invariant-loop-primitive l = l.onto ≡ l.fn.onto ++ take l.primitive-index l.primitives
