use Rattle.std.proofs.Common.{◌≡◌, ◌+◌, ◌-◌, ◌*◌, None, length}
use Rattle.qt_terminals.specs.declared.terminal.Terminal.TheVariants as w
use Rattle.qt_grammar.specs.Sorts.{parameter}
use Rattle.qt_grammar.specs.Language as g
use Rattle.qt_expr.specs.Parser.{rest_separated}
use Rattle.qt_items.proofs.parameters.more_parameters.Given as goal

abbrev pub invariant-turn : goal.invariant-turn
invariant-turn l = rest_separated l.tokens {s = parameter} w.Comma g.a_parameter l.levels None (length l.tokens) l.fn.all l.fn.at
    ≡ rest_separated l.tokens {s = parameter} w.Comma g.a_parameter l.levels None (l.turn-end - l.turn) l.all l.at
