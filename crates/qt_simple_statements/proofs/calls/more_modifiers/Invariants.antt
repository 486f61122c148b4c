use Rattle.std.proofs.Common.{◌≡◌, ◌-◌, None, length}
use Rattle.qt_grammar.specs.Sorts.{modifier}
use Rattle.qt_simple_statements.specs.Parser.{modifier_with_at}
use Rattle.qt_expr.specs.Parser.{rest_some}
use Rattle.qt_simple_statements.proofs.calls.more_modifiers.Given as goal

abbrev pub invariant-turn : goal.invariant-turn
invariant-turn l = rest_some l.tokens {s = modifier} modifier_with_at l.levels None (length l.tokens) l.fn.all l.fn.at
    ≡ rest_some l.tokens {s = modifier} modifier_with_at l.levels None (l.turn-end - l.turn) l.all l.at
