-- Statements one after the other: those that are left stand behind those that are done.
use Rattle.std.proofs.Common.{◌≡◌, ◌<◌, List, [], ◌∷◌, map, length, Ok, refl, arith}
use Rattle.qt_tree.specs.declared.statement.Statement.{Statement}
use Rattle.qt_typed.specs.declared.statement.TypedStatement.{TypedStatement}
use Rattle.qt_typing.specs.declared.state.Around.{Around}
use Rattle.qt_typing.specs.declared.state.State.{State}
use Rattle.qt_typing.specs.Checked.{and_then}
use Rattle.qt_typing.specs.Statements.{each, each_from, added, statement_typing}

pub from_none : (around : Around) (body : List Statement) (state : State) → each around (map statement_typing body) state
    ≡ each_from around [] (map statement_typing body) state
unfolding each
from_none around body state = refl

pub one_more : (around : Around) (done : List TypedStatement) (first : Statement) (rest : List Statement) (state : State)
    → each_from around done (map statement_typing (first ∷ rest)) state
    ≡ and_then (statement_typing first around state) (λ r. each_from around (added done r.0) (map statement_typing rest) r.1)
one_more around done first rest state = refl

-- where no statement is left
pub ended : (around : Around) (done : List TypedStatement) (left : List Statement) (state : State) → length left < 1
    → each_from around done (map statement_typing left) state ≡ Ok (done, state)
ended around done [] state few = refl
ended around done (first ∷ rest) state few = absurd (omega (arith, few))

pub none_left : (around : Around) (done : List TypedStatement) (state : State) → each_from around done (map statement_typing []) state
    ≡ Ok (done, state)
none_left around done state = refl

pub ruleset turns = (from_none, one_more, none_left)
