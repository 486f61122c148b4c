-- A property of runs that goes with all that statements are made of holds of each statement whose actions have it, and of each list of statements.
use Rattle.std.proofs.Common.{ℕ, ◌+◌, List, [], ◌∷◌}
use Rattle.std.specs.List.{All}
use Rattle.qt_tree.specs.declared.place.Place.{Place}
use Rattle.qt_typed.specs.declared.statement.TypedAction.{TypedAction}
use Rattle.qt_typed.specs.declared.statement.TypedLoop.{TypedLoop}
use Rattle.qt_typed.specs.declared.statement.TypedLoop.TheVariants as loop
use Rattle.qt_typed.specs.declared.statement.TypedStatement.{TypedStatement, Row_of-TypedStatement, end_of-TypedStatement, more_of-TypedStatement}
use Rattle.qt_typed.specs.declared.statement.TypedStatement.TheVariants.{Simple, If', Loop'}
use Rattle.qt_typed.specs.Choices.{Counts, choices, row_choices}
use Rattle.qt_meaning.specs.Values.{is_true}
use Rattle.qt_meaning.specs.Expressions.{eval}
use Rattle.qt_meaning.specs.Places.{Site, all_stored}
use Rattle.qt_meaning.specs.Points.{On, Run, go, choose, with_result, with_store, cleared, clear, scoped}
use Rattle.qt_meaning.specs.Loops.{kept, begin, goes_on, advanced, turn, turns}
use Rattle.qt_meaning.specs.Statements.{Calls, act, past, tree, row_tree, list_tree}
use Rattle.qt_meaning.specs.WellFormed.{EachAction, EachInRow}
use Rattle.qt_meaning_laws.proofs.Runs.{IsClosed, all_first, all_later, result_has, choose_has, go_has, then_do_has, scoped_has}

module _ (P : Run → Type 0) (closed : IsClosed P) (F : TypedAction → Type 0) (S : Site → Type 0) (S_past : (count : ℕ) (at : Site) → S at → S (past count at)) (z : Counts) (calls : Calls) (action_has : (a : TypedAction) (at : Site) (place : Place) → F a → S at → P (act calls a at place)) where
  begin_has : (over : TypedLoop) (x base : ℕ) (place : Place) → P (begin over x base place)
  begin_has (loop.While condition) x base place = closed.ending On
  begin_has (loop.For to values) x base place =
      closed.reading (λ store. with_result (kept values base store) place (λ bits. go (with_store (all_stored (x + 1) bits))))
      (λ store. result_has P closed (kept values base store) place _ (λ bits e. go_has P closed (all_stored (x + 1) bits)))

  advanced_has : (over : TypedLoop) (x : ℕ) (body : Run) → P body → P (λ r. body (advanced over x r))
  advanced_has (loop.While condition) x body h = h
  advanced_has (loop.For to values) x body h = closed.storing (turn values to x) body h

  mutual
    pub tree_has : (s : TypedStatement) (at : Site) → EachAction F s → S at → P (tree z calls s at)
    tree_has (Simple spot a) at f s = closed.spending (act calls a at spot.place) (action_has a at spot.place f s)
    tree_has (If' spot condition k body body_slots m otherwise otherwise_slots) at f s =
        let at2 = past (row_choices z body) at in
        let first = scoped at.base body_slots (row_tree z calls body at) in
        let second = scoped at.base otherwise_slots (row_tree z calls otherwise at2) in
        closed.spending _ (
        closed.reading (λ store. with_result (eval condition at.base store) spot.place (λ v. choose (is_true v) first second))
        (λ store. result_has P closed (eval condition at.base store) spot.place _ (λ v e.
        choose_has P closed (is_true v) first second
        (scoped_has P closed at.base body_slots _ (row_has body at f.0 s))
        (scoped_has P closed at.base otherwise_slots _ (row_has otherwise at2 f.1 (S_past (row_choices z body) at s))))))
    tree_has (Loop' spot over loop_slots k body body_slots) at f s =
        let x = at.base + loop_slots.first in
        let each : Run = λ r. row_tree z calls body at (advanced over x r) in
        let end_body = cleared (at.base + body_slots.first) body_slots.count in
        let end_loop = cleared (at.base + loop_slots.first) loop_slots.count in
        closed.spending _ (
        then_do_has P closed (begin over x at.base spot.place) (λ q. turns q.fuel (goes_on over x at.base) spot.place (clear at.base body_slots) (clear at.base loop_slots) each q)
        (begin_has over x at.base spot.place)
        (closed.turning (goes_on over x at.base) spot.place end_body end_loop each (advanced_has over x (row_tree z calls body at) (row_has body at f s))))

    pub row_has : {m : _} (r : Row_of-TypedStatement m) (at : Site) → EachInRow F r → S at → P (row_tree z calls r at)
    row_has end_of-TypedStatement at f s = closed.ending On
    row_has (more_of-TypedStatement one rest) at f s =
        let at2 = past (choices z one) at in
        then_do_has P closed (tree z calls one at) (row_tree z calls rest at2) (tree_has one at f.0 s) (row_has rest at2 f.1 (S_past (choices z one) at s))

  pub list_has : (ss : List TypedStatement) (at : Site) → All (EachAction F) ss → S at → P (list_tree z calls ss at)
  list_has [] at f s = closed.ending On
  list_has (one ∷ ss) at f s =
      let at2 = past (choices z one) at in
      then_do_has P closed (tree z calls one at) (list_tree z calls ss at2)
      (tree_has one at (all_first (EachAction F) one ss f) s)
      (list_has ss at2 (all_later (EachAction F) one ss f) (S_past (choices z one) at s))
