use Rattle.std.proofs.Common.{sym, ap, ◌∙◌}
use Rattle.qt_run.specs.Tree.{with_bit}
use Rattle.qt_run.proofs.Bits.{or_with_bit, and_with_bit}
use Rattle.qt_run.proofs.slots.with_bit.Goals as goal

pub returns-then-bit : goal.returns-then-bit
returns-then-bit c =
    or_with_bit c.args.value c.args.place c.requires ∙ ap (λ b. with_bit c.args.place b c.args.value) (sym c.if-bit.true)

pub returns-else-bit : goal.returns-else-bit
returns-else-bit c =
    and_with_bit c.args.value c.args.place c.ranges.value.fits c.requires ∙ ap (λ b. with_bit c.args.place b c.args.value) (sym c.if-bit.false)
