use Rattle.std.proofs.Common.{◌≡◌, map, take}
use Rattle.qt_modify.specs.Eighths.{with_eighths}
use Rattle.qt_modify.proofs.finish.all_with_eighths.Given as goal

abbrev pub invariant-loop-primitive : goal.invariant-loop-primitive
invariant-loop-primitive l = l.made ≡ map with_eighths (take l.primitive-index l.primitives)
