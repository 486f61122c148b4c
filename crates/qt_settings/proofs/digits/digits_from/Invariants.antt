use Rattle.std.proofs.Common.{◌≡◌, ◌<◌, ◌^◌, Some, length}
use Rattle.qt_typing.specs.Inputs.{below, digits_from}
use Rattle.qt_settings.proofs.digits.digits_from.Given as goal

abbrev pub invariant-loop-text : goal.invariant-loop-text
invariant-loop-text l =
    (l.number < 2 ^ 64) × (below (2 ^ 64) (digits_from l.base (Some l.number) l.text) ≡ below (2 ^ 64) (digits_from l.base (Some l.fn.number) l.fn.text))

abbrev pub decreases-loop-text : goal.decreases-loop-text
decreases-loop-text l = length l.text
