-- The bits that the steps left lead to are those that all lead to.
use Rattle.std.proofs.Common.{◌≡◌, length}
use Rattle.qt_flat_code.specs.Bits.{bits_after}
use Rattle.qt_emit_storing.specs.BitsIn.{bits_in}
use Rattle.qt_emit_storing.proofs.bits.bits_after.Given as goal

abbrev pub invariant-steps : goal.invariant-steps
invariant-steps l = bits_after l.steps (bits_in l.bits) ≡ bits_after l.fn.steps (bits_in l.fn.first)

abbrev pub decreases-steps : goal.decreases-steps
decreases-steps l = length l.steps
