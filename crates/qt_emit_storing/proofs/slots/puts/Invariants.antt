-- What the slots that are left add from here is what all add from the beginning.
use Rattle.std.proofs.Common.{List}
use Rattle.qt_instructions.specs.declared.instruction.Instr.{Instr}
use Rattle.qt_flat_code.specs.Storing.{puts}
use Rattle.qt_emit_expressions.specs.Adds.{Adds}
use Rattle.qt_emit_storing.proofs.slots.puts.Given as goal

abbrev pub invariant-slots : goal.invariant-slots
invariant-slots l =
    (all : List Instr) → Adds l.out all (puts l.to l.from l.left) → Adds l.fn.out all (puts l.fn.slot l.fn.cell l.fn.count)

abbrev pub decreases-slots : goal.decreases-slots
decreases-slots l = l.left
