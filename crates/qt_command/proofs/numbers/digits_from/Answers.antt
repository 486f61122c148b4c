use Rattle.std.proofs.Common.{◌≡◌, ◌∙◌, length}
use Rattle.qt_command.proofs.Digits.{small, preserved}
use Rattle.qt_command.proofs.numbers.digits_from.Goals as goal

pub one_more-requires : goal.one_more-requires
one_more-requires c = small c.loop-text.number (length c.loop-text.text.now) c.in-len1-up.len_at_least c.loop-text.invariant.1

pub loop-text-preserved : goal.loop-text-preserved
loop-text-preserved c =
    let kept = preserved c.loop-text.number c.in_ok-number.number c.loop-text.text.now c.in-len1-up.len_at_least c.loop-text.invariant.0
    c.loop-text.invariant.1 c.in_ok-number.ensures in
    (kept.0, kept.1, kept.2 ∙ c.loop-text.invariant.2)
