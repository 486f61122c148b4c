use Rattle.std.proofs.Common.{◌≡◌, ◌+◌, ◌-◌, ◌*◌, None, length}
use Rattle.qt_grammar.specs.Sorts.{gate_line}
use Rattle.qt_grammar.specs.Language as g
use Rattle.qt_expr.specs.Parser.{rest_some}
use Rattle.qt_items.proofs.gates.more_gate_lines.Given as goal

abbrev pub invariant-turn : goal.invariant-turn
invariant-turn l = rest_some l.tokens {s = gate_line} g.a_gate_line l.levels None (length l.tokens) l.fn.all l.fn.at
    ≡ rest_some l.tokens {s = gate_line} g.a_gate_line l.levels None (l.turn-end - l.turn) l.all l.at
