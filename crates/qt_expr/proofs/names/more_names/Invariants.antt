use Rattle.std.proofs.Common.{◌≡◌, ◌-◌, length, None}
use Rattle.qt_terminals.specs.declared.terminal.Terminal.TheVariants as w
use Rattle.qt_grammar.specs.Language.{a_label}
use Rattle.qt_expr.specs.Parser.{rest_separated}
use Rattle.qt_expr.proofs.names.more_names.Given as goal

abbrev pub invariant-turn : goal.invariant-turn
invariant-turn l = rest_separated l.tokens w.Comma a_label 0 None (length l.tokens) l.fn.all l.fn.at ≡ rest_separated l.tokens w.Comma a_label 0 None (l.turn-end - l.turn) l.all l.at
