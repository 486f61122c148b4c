use Rattle.std.proofs.Common.{ap, ◌∙◌}
use Rattle.std.specs.Prelude.{◌||◌, ◌&&◌}
use Rattle.qt_modify.specs.Needs.{flag_at, occurs}
use Rattle.qt_modify.proofs.Tables.{angle_marked}
use Rattle.qt_modify.proofs.needs.mark_angles.Goals as goal

pub loop-number-preserved : goal.loop-number-preserved
loop-number-preserved c =
    let angle = c.index-angles-number.result in
    let flags = c.loop-number.flags in
    angle_marked (flag_at c.args.wants.now) c.args.angles.now c.loop-number.number angle c.args.flags.now flags c.mark_if.new.flags
    c.loop-number-test.true c.index-angles-number.is c.loop-number.invariant
    (λ i. c.in_ok-mark_if.ensures i ∙ ap (λ b. flag_at flags i || (b && occurs angle i)) c.flag_at.ensures)
