use Rattle.std.proofs.Common.{◌≡◌, ◌<◌, ◌≤◌, ◌-◌, ◌^◌, length}
use Rattle.qt_command.specs.Numbers.{digits_from}
use Rattle.qt_command.proofs.numbers.digits_from.Given as goal

abbrev pub invariant-loop-text : goal.invariant-loop-text
invariant-loop-text l =
    (length l.text ≤ 9) × (l.number < 10 ^ (9 - length l.text)) × (digits_from l.number l.text ≡ digits_from l.fn.number l.fn.text)

abbrev pub decreases-loop-text : goal.decreases-loop-text
decreases-loop-text l = length l.text
