-- What is counted and the items still to come are the whole; and the recursion goes down the list.
use Rattle.std.proofs.Common.{◌≡◌, ◌≤◌, ◌+◌, ◌*◌, map, length}
use denote.Param.Weighed.{most}
use Rattle.qt_tree.specs.declared.program.ListItem.{size-ListItem}
use Rattle.qt_typing.specs.Tokens.{more, item_tokens}
use Rattle.qt_check_tokens.proofs.declaration.+item.Given as goal

abbrev pub decreases-count_item : goal.decreases-count_item
decreases-count_item l = 3 * size-ListItem l.item.now

abbrev pub decreases-count_items : goal.decreases-count_items
decreases-count_items l = 3 * most size-ListItem l.items.now + 2

abbrev pub decreases-count_more_items : goal.decreases-count_more_items
decreases-count_more_items l = 3 * most size-ListItem l.items.now + 1

abbrev pub invariant-count_more_items-items : goal.invariant-count_more_items-items
invariant-count_more_items-items l =
    (l.fn.total + more (map item_tokens l.fn.items) ≡ l.total + more (map item_tokens l.left))
    × (most size-ListItem l.left ≤ most size-ListItem l.fn.items)

abbrev pub decreases-count_more_items-items : goal.decreases-count_more_items-items
decreases-count_more_items-items l = length l.left
