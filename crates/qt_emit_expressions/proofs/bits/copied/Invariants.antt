-- What the bits that are left add from here is what all add from the beginning.
use Rattle.std.proofs.Common.{◌-◌, List}
use Rattle.qt_instructions.specs.declared.instruction.Instr.{Instr}
use Rattle.qt_flat_code.specs.Expressions.{copied_code, every}
use Rattle.qt_emit_expressions.specs.Adds.{Adds}
use Rattle.qt_emit_expressions.proofs.bits.copied.Given as goal

abbrev pub invariant-bits : goal.invariant-bits
invariant-bits l =
    let code = copied_code l.from.cell l.from.kind (every l.read.start l.read.step) l.to.cell l.to.kind (every l.write.start l.write.step)
    l.used in
    (all : List Instr) → Adds l.out all (code l.i (l.count - l.i)) → Adds l.fn.out all (code 0 l.count)

abbrev pub decreases-bits : goal.decreases-bits
decreases-bits l = l.count - l.i
