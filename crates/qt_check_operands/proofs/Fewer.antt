-- The indexes that are left have no more nodes than all, by which the recursion over them ends.
use Rattle.std.proofs.Common.{◌≡◌, ℕ, zero, suc, ◌+◌, ◌≤◌, List, [], ◌∷◌, drop, ap, arith}
use Rattle.qt_const.proofs.Nodes.{index_nodes, indexes_nodes}
use Rattle.qt_tree.specs.declared.expression.Index.{Index}

pub fewer_left : (n : ℕ) (indexes : List Index) → indexes_nodes (drop n indexes) ≤ indexes_nodes indexes
fewer_left zero indexes = omega arith
fewer_left (suc n) [] = omega arith
fewer_left (suc n) (index ∷ rest) =
    let h : indexes_nodes (drop n rest) ≤ indexes_nodes rest = fewer_left n rest in
    omega (arith, h)

-- one index, and those behind it
pub next_nodes : (left : List Index) (index : Index) (rest : List Index) → left ≡ index ∷ rest
    → indexes_nodes left ≡ index_nodes index + indexes_nodes rest + 1
next_nodes left index rest is = ap indexes_nodes is

pub drop_next : (n : ℕ) (left : List Index) (index : Index) (rest : List Index) → left ≡ index ∷ rest → drop (suc n) left ≡ drop n rest
drop_next n left index rest is = ap (drop (suc n)) is

pub drop_none : (n : ℕ) (left : List Index) → left ≡ [] → drop n left ≡ []
drop_none zero left is = is
drop_none (suc n) left is = ap (drop (suc n)) is

pub ruleset left = (next_nodes, drop_next, drop_none, fewer_left)
