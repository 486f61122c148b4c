-- What is counted and the parts still to come are the whole.
use Rattle.std.proofs.Common.{◌≡◌, ◌+◌, map, length}
use Rattle.qt_typing.specs.Tokens.{in_all, modifier_tokens}
use Rattle.qt_check_tokens.proofs.statement.count_modifiers.Given as goal

abbrev pub invariant-modifiers : goal.invariant-modifiers
invariant-modifiers l = l.fn.total + in_all (map modifier_tokens l.fn.modifiers) ≡ l.total + in_all (map modifier_tokens l.left)

abbrev pub decreases-modifiers : goal.decreases-modifiers
decreases-modifiers l = length l.left
