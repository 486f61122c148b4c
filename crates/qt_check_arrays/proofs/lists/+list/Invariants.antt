-- The recursion goes down the list: its items have smaller ones.
use Rattle.std.proofs.Common.{◌≡◌, ◌≤◌, ◌+◌, ◌*◌, length}
use denote.Param.Weighed.{most}
use Rattle.qt_tree.specs.declared.program.ListItem.{size-ListItem}
use Rattle.qt_typing.specs.Declarations.{list_values}
use Rattle.qt_check_arrays.specs.Behind.{behind}
use Rattle.qt_check_arrays.proofs.lists.+list.Given as goal

abbrev pub decreases-item_values : goal.decreases-item_values
decreases-item_values l = 3 * size-ListItem l.item.now

abbrev pub decreases-list_values : goal.decreases-list_values
decreases-list_values l = 3 * most size-ListItem l.items.now + 1

abbrev pub decreases-sized_values : goal.decreases-sized_values
decreases-sized_values l = 3 * most size-ListItem l.items.now + 2

-- the elements so far and those of the items that are left are all
abbrev pub invariant-list_values-items : goal.invariant-list_values-items
invariant-list_values-items l =
    (behind l.fn.forms (list_values l.names l.place l.kind l.lengths l.fn.items)
    ≡ behind l.forms (list_values l.names l.place l.kind l.lengths l.items))
    × (most size-ListItem l.items ≤ most size-ListItem l.fn.items)

abbrev pub decreases-list_values-items : goal.decreases-list_values-items
decreases-list_values-items l = length l.items
