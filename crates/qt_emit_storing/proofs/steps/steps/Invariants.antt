-- What the steps that are left add from here is what all add from the beginning.
use Rattle.std.proofs.Common.{ℕ, List, length}
use Rattle.qt_instructions.specs.declared.instruction.Instr.{Instr}
use Rattle.qt_flat_code.specs.Lengths.{steps_length}
use Rattle.qt_flat_code.specs.Storing.{steps_code}
use Rattle.qt_emit_storing.specs.BitsIn.{bits_in}
use Rattle.qt_emit_storing.specs.Writes.{Writes}
use Rattle.qt_emit_storing.proofs.steps.steps.Given as goal

abbrev pub invariant-steps : goal.invariant-steps
invariant-steps l =
    (all : List Instr) (last : ℕ)
    → Writes (steps_code l.steps (bits_in l.bits) l.base l.cell l.end) (steps_length l.steps (bits_in l.bits)) l.end l.out all last
    → Writes (steps_code l.fn.steps (bits_in l.fn.first) l.base l.cell l.fn.at) (steps_length l.fn.steps (bits_in l.fn.first)) l.fn.at
    l.fn.out all last

abbrev pub decreases-steps : goal.decreases-steps
decreases-steps l = length l.steps
