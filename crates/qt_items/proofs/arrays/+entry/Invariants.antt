use Rattle.std.proofs.Common.{◌≡◌, ◌+◌, ◌-◌, ◌*◌, None, length}
use Rattle.qt_terminals.specs.declared.terminal.Terminal.TheVariants as w
use Rattle.qt_grammar.specs.Sorts.{entry}
use Rattle.qt_grammar.specs.Language as g
use Rattle.qt_expr.specs.Parser.{rest_separated}
use Rattle.qt_items.proofs.arrays.+entry.Given as goal

abbrev pub invariant-more_entries-turn : goal.invariant-more_entries-turn
invariant-more_entries-turn l = rest_separated l.tokens {s = entry} w.Comma g.entry_form l.levels None (length l.tokens) l.fn.all l.fn.at
    ≡ rest_separated l.tokens {s = entry} w.Comma g.entry_form l.levels None (l.turn-end - l.turn) l.all l.at

abbrev pub decreases-entries : goal.decreases-entries
decreases-entries l = 16 * l.levels

abbrev pub decreases-list : goal.decreases-list
decreases-list l = 16 * l.levels + 1

abbrev pub decreases-entry : goal.decreases-entry
decreases-entry l = 16 * l.levels + 2

abbrev pub decreases-more_entries : goal.decreases-more_entries
decreases-more_entries l = 16 * l.levels + 3

abbrev pub decreases-entry_list : goal.decreases-entry_list
decreases-entry_list l = 16 * l.levels + 4
