-- The elements of a list by its items, and elements behind others.
use Rattle.std.proofs.Common.{◌≡◌, ℕ, arith, nat_eq, not, List, [], ◌∷◌, ◌++◌, length, append-nil, append_assoc}
use Rattle.std.proofs.Common.{Ok, Err, ap, sym, ◌∙◌, refl}
use Rattle.qt_tree.specs.declared.expression.Expr.{Expr}
use Rattle.qt_tree.specs.declared.place.Place.{Place}
use Rattle.qt_tree.specs.declared.program.ListItem.{ListItem, Row_of-ListItem, end_of-ListItem, more_of-ListItem, out-ListItem}
use Rattle.qt_tree.specs.declared.program.ListItem.{items-the_row-ListItem, items_shown-the_row-ListItem-0}
use Rattle.qt_tree.specs.declared.program.ListItem.TheVariants as l
use Rattle.qt_tree.specs.declared.program.ListItem.TheOpen as o
use Rattle.qt_tree.specs.declared.refusal.TextRefusal.TheVariants as refusal
use Rattle.qt_typed.specs.declared.expression.TypedExpr.{TypedExpr}
use Rattle.qt_value.specs.declared.types.ValueType.{ValueType}
use Rattle.qt_typing.specs.declared.names.Names.{Names}
use Rattle.qt_typing.specs.Checked.{Checked, and_then, unless}
use Rattle.qt_typing.specs.Declarations.{row_length, item_values, row_values, list_values, array_values}
use Rattle.qt_typing.specs.Expressions.{value_at}
use Rattle.qt_check_arrays.specs.Behind.{behind}

row_length_is : (n : _) (row : Row_of-ListItem n) → row_length row ≡ length (items-the_row-ListItem n row)
row_length_is n end_of-ListItem = refl
row_length_is _ (more_of-ListItem {n = n} item rest) =
    let h : row_length rest ≡ length (items-the_row-ListItem n rest) = row_length_is n rest in
    omega (arith, h)

module _ (names : Names) (place : Place) (kind : ValueType) where
  row_is : (lengths : List ℕ) (n : _) (row : Row_of-ListItem n) → row_values names place kind lengths row
      ≡ list_values names place kind lengths (items-the_row-ListItem n row)
  row_is lengths n end_of-ListItem = refl
  row_is lengths n (more_of-ListItem item rest) =
      ap (λ c. and_then (item_values names place kind lengths item) (λ forms. and_then c (λ others. Ok (forms ++ others))))
      (row_is lengths _ rest)

  -- what an item has, by what it is
  abbrev of_layer : List ℕ → o.ListItem-F ListItem → Checked (List TypedExpr)
  of_layer [] (o.Value expr) = and_then (value_at names place kind expr) (λ form. Ok (form ∷ []))
  of_layer (n ∷ lengths) (o.List items) =
      and_then (unless (not (nat_eq (length items) n)) (refusal.E10 place)) (λ _. list_values names place kind lengths items)
  of_layer lengths layer = Err (refusal.E10 place)

  row_layer : (lengths : List ℕ) (m : ℕ) {n : _} (row : Row_of-ListItem n)
      → and_then (unless (not (nat_eq (row_length row) m)) (refusal.E10 place)) (λ _. row_values names place kind lengths row)
      ≡ of_layer (m ∷ lengths) (o.List (items-the_row-ListItem n row))
  row_layer lengths m {n = n} row =
      ap (λ t. and_then (unless (not (nat_eq t m)) (refusal.E10 place)) (λ _. row_values names place kind lengths row))
      (row_length_is n row)
      ∙ ap (λ c. and_then (unless (not (nat_eq (length (items-the_row-ListItem n row)) m)) (refusal.E10 place)) (λ _. c))
      (row_is lengths n row)

  item_is : (lengths : List ℕ) (item : ListItem) → item_values names place kind lengths item ≡ of_layer lengths (out-ListItem item)
  item_is [] (l.Value expr) = ap (of_layer []) (sym (l.outs-Value expr))
  item_is [] (l.List' shape row) = ap (of_layer []) (sym (l.outs-List' shape row))
  item_is (m ∷ lengths) (l.Value expr) = ap (of_layer (m ∷ lengths)) (sym (l.outs-Value expr))
  item_is (m ∷ lengths) (l.List' shape row) =
      row_layer lengths m row
      ∙ (ap (λ t. of_layer (m ∷ lengths) (o.List t)) (sym (items_shown-the_row-ListItem-0 shape row))
      ∙ ap (of_layer (m ∷ lengths)) (sym (l.outs-List' shape row)))

  pub single_values : (expr : Expr) → item_values names place kind [] (l.Value expr) ≡ and_then (value_at names place kind expr)
      (λ form. Ok (form ∷ []))
  single_values expr = refl

  pub no_single : (n : ℕ) (lengths : List ℕ) (expr : Expr) → item_values names place kind (n ∷ lengths) (l.Value expr) ≡ Err
      (refusal.E10 place)
  no_single n lengths expr = refl

  pub several_values : (lengths : List ℕ) (items : List ListItem) → item_values names place kind lengths (l.List items) ≡ array_values place
      kind lengths items names
  unfolding array_values
  several_values [] items = item_is [] (l.List items) ∙ ap (of_layer []) (l.outs-List items)
  several_values (n ∷ lengths) items = item_is (n ∷ lengths) (l.List items) ∙ ap (of_layer (n ∷ lengths)) (l.outs-List items)

-- nothing behind what is there
pub none_behind : (before : List TypedExpr) → behind before (Ok []) ≡ Ok (tt, before)
none_behind before = ap (λ t. Ok (tt, t)) (append-nil before)

-- one after the other
pub both_behind : (before : List TypedExpr) (first rest : Checked (List TypedExpr))
    → behind before (and_then first (λ forms. and_then rest (λ others. Ok (forms ++ others))))
    ≡ and_then (behind before first) (λ r. behind r.1 rest)
both_behind before (Ok forms) (Ok others) = ap (λ t. Ok (tt, t)) (sym (append_assoc before forms others))
both_behind before (Ok forms) (Err e) = refl
both_behind before (Err e) rest = refl

-- behind nothing
pub alone : (found : Checked (List TypedExpr)) → found ≡ and_then (behind [] found) (λ r. Ok r.1)
alone (Ok forms) = refl
alone (Err e) = refl

pub ruleset items = (single_values, no_single, several_values)

pub ruleset lists = (none_behind, both_behind)
