use Rattle.std.proofs.Common.{◌≡◌, ◌+◌, ◌*◌, map, drop}
use Rattle.qt_typing.specs.GateItems.{sum_of, sum_of_all}
use Rattle.qt_check_gate_items.specs.Operators.{operators_of, index_operators_of}
use Rattle.qt_check_gate_items.proofs.operators.+operators.Given as goal

-- what is counted and the parts still to come are all
abbrev pub invariant-list_operators-loop-expr : goal.invariant-list_operators-loop-expr
invariant-list_operators-loop-expr l = l.count + sum_of (map operators_of (drop l.expr-index l.exprs)) ≡ sum_of (map operators_of l.exprs)

abbrev pub invariant-indexes_operators-loop-index : goal.invariant-indexes_operators-loop-index
invariant-indexes_operators-loop-index l =
    l.count + sum_of (map index_operators_of (drop l.index-index l.indexes)) ≡ sum_of (map index_operators_of l.indexes)

abbrev pub invariant-brackets_operators-loop-indexes : goal.invariant-brackets_operators-loop-indexes
invariant-brackets_operators-loop-indexes l =
    l.count + sum_of_all (map (map index_operators_of) (drop l.indexes-index l.brackets))
    ≡ sum_of_all (map (map index_operators_of) l.brackets)

-- the depth of what is counted, and within a depth who calls whom
abbrev pub decreases-operators_of : goal.decreases-operators_of
decreases-operators_of l = 4 * goal.size-operators_of l + 0

abbrev pub decreases-scalar_operators : goal.decreases-scalar_operators
decreases-scalar_operators l = 4 * goal.size-scalar_operators l + 0

abbrev pub decreases-index_operators : goal.decreases-index_operators
decreases-index_operators l = 4 * goal.size-index_operators l + 0

abbrev pub decreases-optional_operators : goal.decreases-optional_operators
decreases-optional_operators l = 4 * goal.size-optional_operators l + 1

abbrev pub decreases-range_operators : goal.decreases-range_operators
decreases-range_operators l = 4 * goal.size-range_operators l + 0

abbrev pub decreases-indexes_operators : goal.decreases-indexes_operators
decreases-indexes_operators l = 4 * goal.size-indexes_operators l + 1

abbrev pub decreases-brackets_operators : goal.decreases-brackets_operators
decreases-brackets_operators l = 4 * goal.size-brackets_operators l + 2

abbrev pub decreases-list_operators : goal.decreases-list_operators
decreases-list_operators l = 4 * goal.size-list_operators l + 1
