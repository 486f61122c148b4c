use Rattle.std.proofs.Common.{sym, ap, ◌∙◌}
use Rattle.qt_modify.specs.Expansions.{reckoned_if}
use Rattle.qt_modify.specs.Needs.{flag_at}
use Rattle.qt_modify.proofs.Lists.{one_more_reckoned}
use Rattle.qt_modify.proofs.arguments.all_reckoned.Goals as goal

pub loop-number-preserved : goal.loop-number-preserved
loop-number-preserved c =
    let given = c.args.given.now in
    let angle = c.index-angles-number.result in
    let before = c.loop-number.steps in
    one_more_reckoned (flag_at c.args.wants.now) given c.args.angles.now c.loop-number.number angle c.args.steps.now before
    c.reckoned_if.new.steps c.loop-number.arguments c.push.new.self c.in_ok-argument.argument c.loop-number-test.true
    c.index-angles-number.is c.loop-number.invariant
    (ap (λ b. reckoned_if b given angle before) (sym c.flag_at.ensures) ∙ c.in_ok-argument.ensures)
    c.in_ok-push.ensures.ok
