-- What the values that are left add from here is what all add from the beginning.
use Rattle.std.proofs.Common.{ℕ, List, length}
use Rattle.qt_instructions.specs.declared.instruction.Instr.{Instr}
use Rattle.qt_flat_code.specs.Lengths.{values_length}
use Rattle.qt_flat_code.specs.Storing.{values_code}
use Rattle.qt_emit_storing.specs.Writes.{Writes}
use Rattle.qt_emit_storing.proofs.slots.values.Given as goal

abbrev pub invariant-values : goal.invariant-values
invariant-values l =
    (all : List Instr) (last : ℕ) → Writes (values_code l.values l.base l.cell l.end) (values_length l.values) l.end l.out all last
    → Writes (values_code l.fn.values l.base l.fn.first l.fn.at) (values_length l.fn.values) l.fn.at l.fn.out all last

abbrev pub decreases-values : goal.decreases-values
decreases-values l = length l.values
