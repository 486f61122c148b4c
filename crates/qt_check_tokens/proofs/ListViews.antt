-- The tokens of a list by its items.
use Rattle.std.proofs.Common.{◌≡◌, ℕ, ◌+◌, arith, List, map, ap, sym, ◌∙◌, refl}
use Rattle.qt_tree.specs.declared.expression.Expr.{Expr}
use Rattle.qt_tree.specs.declared.program.ListItem.{ListItem, Row_of-ListItem, end_of-ListItem, more_of-ListItem, items-the_row-ListItem}
use Rattle.qt_tree.specs.declared.program.ListItem.{items_shown-the_row-ListItem-0, out-ListItem}
use Rattle.qt_tree.specs.declared.program.ListItem.TheVariants as l
use Rattle.qt_tree.specs.declared.program.ListItem.TheOpen as o
use Rattle.qt_typing.specs.Tokens.{item_tokens, row_tokens, separated, more, expr_tokens}

row_is : (n : _) (row : Row_of-ListItem n) → row_tokens row ≡ separated (map item_tokens (items-the_row-ListItem n row))
row_is n end_of-ListItem = refl
row_is _ (more_of-ListItem item end_of-ListItem) = omega arith
row_is _ (more_of-ListItem item (more_of-ListItem {n = n} next rest)) =
    let h : row_tokens (more_of-ListItem next rest) ≡ item_tokens next + more (map item_tokens (items-the_row-ListItem n rest)) =
    row_is _ (more_of-ListItem next rest) in
    omega (arith, h)

-- what an item has, by what it is
abbrev of_layer : o.ListItem-F ListItem → ℕ
of_layer (o.Value expr) = expr_tokens expr
of_layer (o.List items) = 2 + separated (map item_tokens items)

item_is : (item : ListItem) → item_tokens item ≡ of_layer (out-ListItem item)
item_is (l.Value expr) = ap of_layer (sym (l.outs-Value expr))
item_is (l.List' shape row) =
    ap (λ n. 2 + n) (row_is _ row)
    ∙ (ap (λ t. of_layer (o.List t)) (sym (items_shown-the_row-ListItem-0 shape row)) ∙ ap of_layer (sym (l.outs-List' shape row)))

pub value_tokens : (expr : Expr) → item_tokens (l.Value expr) ≡ expr_tokens expr
value_tokens expr = refl

pub list_tokens : (items : List ListItem) → item_tokens (l.List items) ≡ 2 + separated (map item_tokens items)
list_tokens items = item_is (l.List items) ∙ ap of_layer (l.outs-List items)

pub ruleset items = (value_tokens, list_tokens)
