-- The lexemes of the values of arrays.
use Rattle.std.proofs.Common.{◌≡◌, List, ap, sym, ◌∙◌}
use Rattle.qt_tree.specs.declared.expression.Expr.{Expr}
use Rattle.qt_tree.specs.declared.program.ListItem.{ListItem}
use Rattle.qt_tree.specs.declared.program.ListItem.TheVariants as l
use Rattle.qt_tree.specs.declared.program.ListItem.TheOpen as o
use Rattle.qt_tree.specs.declared.program.ListItem.TheFolds.{fold-roll-ListItem}
use Rattle.qt_lexemes.specs.Lexemes.{Lexeme}
use Rattle.qt_print.specs.Expressions.{expr_lexemes}
use Rattle.qt_print.specs.Programs.{list_step, item_lexemes, values_lexemes}

pub item-list_lexemes : (items : List ListItem) → item_lexemes (l.List items) ≡ values_lexemes items
item-list_lexemes items = ap item_lexemes (sym (l.rolls-List items)) ∙ fold-roll-ListItem (List Lexeme) list_step (o.List items)

pub item-value_lexemes : (value : Expr) → item_lexemes (l.Value value) ≡ expr_lexemes value
item-value_lexemes value = ap item_lexemes (sym (l.rolls-Value value)) ∙ fold-roll-ListItem (List Lexeme) list_step (o.Value value)

pub ruleset list_items = (item-list_lexemes, item-value_lexemes)
