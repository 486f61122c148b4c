-- What the slots that are left add from here is what all add from the beginning.
use Rattle.std.proofs.Common.{List}
use Rattle.qt_instructions.specs.declared.instruction.Instr.{Instr}
use Rattle.qt_flat_code.specs.Loops.{gets}
use Rattle.qt_emit_expressions.specs.Adds.{Adds}
use Rattle.qt_emit_loops.proofs.keeping.gets.Given as goal

abbrev pub invariant-slots : goal.invariant-slots
invariant-slots l =
    (all : List Instr) → Adds l.out all (gets l.to l.from l.left) → Adds l.fn.out all (gets l.fn.cell l.fn.slot l.fn.count)

abbrev pub decreases-slots : goal.decreases-slots
decreases-slots l = l.left
