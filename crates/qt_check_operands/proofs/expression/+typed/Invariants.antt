-- The recursion goes down the tree: each call has fewer nodes, or a smaller number within one node.
use Rattle.std.proofs.Common.{◌≡◌, ◌≤◌, ◌+◌, ◌*◌, [], drop, length}
use Rattle.qt_const.proofs.Nodes.{nodes, index_nodes, scalar_nodes, list_nodes, indexes_nodes, brackets_nodes}
use Rattle.qt_typing.specs.Expressions.{bits_of}
use Rattle.qt_typing.specs.Indexes as indexes
use Rattle.qt_check_operands.specs.Parts.{index_parts}
use Rattle.qt_check_operands.proofs.expression.+typed.Given as goal

abbrev pub decreases-typed : goal.decreases-typed
decreases-typed l = 16 * nodes l.expr.now

abbrev pub decreases-name_typed : goal.decreases-name_typed
decreases-name_typed l = 16 * brackets_nodes l.brackets.now + 10

abbrev pub decreases-call_typed : goal.decreases-call_typed
decreases-call_typed l = 16 * list_nodes l.arguments.now + 2

abbrev pub decreases-count_typed : goal.decreases-count_typed
decreases-count_typed l = 16 * list_nodes l.arguments.now + 1

abbrev pub decreases-turn_typed : goal.decreases-turn_typed
decreases-turn_typed l = 16 * list_nodes l.arguments.now + 1

abbrev pub decreases-cast_typed : goal.decreases-cast_typed
decreases-cast_typed l = 16 * (scalar_nodes l.to.now + nodes l.written.now) + 1

abbrev pub decreases-binary_typed : goal.decreases-binary_typed
decreases-binary_typed l = 16 * (nodes l.left.now + nodes l.right.now) + 2

abbrev pub decreases-combined_typed : goal.decreases-combined_typed
decreases-combined_typed l = 16 * (nodes l.left.now + nodes l.right.now) + 1

abbrev pub decreases-logical_typed : goal.decreases-logical_typed
decreases-logical_typed l = 16 * (nodes l.left.now + nodes l.right.now) + 1

abbrev pub decreases-name_operand : goal.decreases-name_operand
decreases-name_operand l = 16 * indexes_nodes l.left + 5

abbrev pub decreases-constant_bits : goal.decreases-constant_bits
decreases-constant_bits l = 16 * indexes_nodes l.left + 4

abbrev pub decreases-variable_operand : goal.decreases-variable_operand
decreases-variable_operand l = 16 * indexes_nodes l.left + 4

abbrev pub decreases-reached : goal.decreases-reached
decreases-reached l = 16 * indexes_nodes l.left.now + 3

abbrev pub decreases-element_from : goal.decreases-element_from
decreases-element_from l = 16 * indexes_nodes l.left.now + 2

-- what is done and the dimensions still to come are the whole
abbrev pub invariant-element_from-dimensions : goal.invariant-element_from-dimensions
invariant-element_from-dimensions l =
    (indexes.element_from l.names l.mode l.place l.fn.it [] l.fn.it.lengths (index_parts l.names l.place l.fn.left)
    ≡ indexes.element_from l.names l.mode l.place l.fn.it l.done l.lengths (index_parts l.names l.place l.left))
    × (drop (length l.fn.it.lengths) l.fn.left ≡ drop (length l.lengths) l.left)
    × (indexes_nodes l.left ≤ indexes_nodes l.fn.left)

abbrev pub decreases-element_from-dimensions : goal.decreases-element_from-dimensions
decreases-element_from-dimensions l = length l.lengths

abbrev pub decreases-bits_of : goal.decreases-bits_of
decreases-bits_of l = 16 * indexes_nodes l.left + 2

-- each index applies to what the ones before it left
abbrev pub invariant-bits_of-indexes : goal.invariant-bits_of-indexes
invariant-bits_of-indexes l =
    (bits_of l.names l.mode l.place l.fn.kind l.fn.form (index_parts l.names l.place l.fn.left)
    ≡ bits_of l.names l.mode l.place l.kind l.form (index_parts l.names l.place l.left))
    × (indexes_nodes l.left ≤ indexes_nodes l.fn.left)

abbrev pub decreases-bits_of-indexes : goal.decreases-bits_of-indexes
decreases-bits_of-indexes l = length l.left

abbrev pub decreases-dimension_index : goal.decreases-dimension_index
decreases-dimension_index l = 16 * index_nodes l.index.now

abbrev pub decreases-bits_at : goal.decreases-bits_at
decreases-bits_at l = 16 * index_nodes l.index.now
