-- What the slots that are left add from here is what all add from the beginning.
use Rattle.std.proofs.Common.{List}
use Rattle.qt_instructions.specs.declared.instruction.Instr.{Instr}
use Rattle.qt_flat_code.specs.Storing.{copies}
use Rattle.qt_emit_expressions.specs.Adds.{Adds}
use Rattle.qt_emit_storing.proofs.slots.copies.Given as goal

abbrev pub invariant-slots : goal.invariant-slots
invariant-slots l =
    (all : List Instr) → Adds l.out all (copies l.to l.cell l.left) → Adds l.fn.out all (copies l.fn.slot l.cell l.fn.count)

abbrev pub decreases-slots : goal.decreases-slots
decreases-slots l = l.left
