-- All indexes behind a name, by the brackets that they stand in.
use Rattle.std.proofs.Common.{◌≡◌, ℕ, ◌+◌, ◌≤◌, List, [], ◌∷◌, ◌++◌, map, refl, ap, sym, ◌∙◌, arith}
use Rattle.std.proofs.lemmas.List.{map-append}
use Rattle.qt_const.proofs.Nodes.{total, index_nodes, indexes_nodes, brackets_nodes}
use Rattle.qt_tree.specs.declared.expression.Index.{Index}
use Rattle.qt_typing.specs.Indexes.{all_indexes}

-- a map of each index
pub all_of_map : {A B : Type 0} (f : A → B) (brackets : List (List A)) → all_indexes (map (map f) brackets) ≡ map f (all_indexes brackets)
all_of_map f [] = refl
all_of_map f (indexes ∷ rest) = ap (λ more. map f indexes ++ more) (all_of_map f rest) ∙ sym (map-append f indexes (all_indexes rest))

total_append : (xs ys : List ℕ) → total (xs ++ ys) ≡ total xs + total ys
total_append [] ys = omega arith
total_append (x ∷ xs) ys = grind (arith, total_append xs ys)

-- brackets have no fewer nodes than the indexes in them
pub fewer_in_brackets : (brackets : List (List Index)) → indexes_nodes (all_indexes brackets) ≤ brackets_nodes brackets
fewer_in_brackets [] = omega arith
fewer_in_brackets (indexes ∷ rest) =
    let e : indexes_nodes (indexes ++ all_indexes rest) ≡ indexes_nodes indexes + indexes_nodes (all_indexes rest) =
    ap total (map-append index_nodes indexes (all_indexes rest)) ∙ total_append (map index_nodes indexes)
    (map index_nodes (all_indexes rest)) in
    let h : indexes_nodes (all_indexes rest) ≤ brackets_nodes rest = fewer_in_brackets rest in
    omega (arith, e, h)
