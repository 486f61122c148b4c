-- A property of runs that goes with all that statements are made of, and with gates, measurements and resets, holds of each program.
use Rattle.std.proofs.Common.{ℕ, zero, suc, List, [], ◌∷◌, slice_index_or, Option, Some, None}
use Rattle.qt_tree.specs.declared.place.Place.{Place}
use Rattle.qt_gate_calls.specs.Numbered.{if_number}
use Rattle.qt_gate_calls.specs.Units.{KnownUnits}
use Rattle.qt_typed.specs.declared.call.GateUse.{GateUse}
use Rattle.qt_typed.specs.declared.program.TypedSubroutine.{TypedSubroutine}
use Rattle.qt_typed.specs.declared.program.Typed.{Typed}
use Rattle.qt_typed.specs.declared.statement.TypedRight.{TypedRight}
use Rattle.qt_typed.specs.declared.statement.TypedRight.TheVariants as right
use Rattle.qt_typed.specs.declared.statement.TypedAction.{TypedAction}
use Rattle.qt_typed.specs.declared.statement.TypedAction.TheVariants as action
use Rattle.qt_typed.specs.declared.statement.TypedStatement.{TypedStatement, Row_of-TypedStatement, end_of-TypedStatement, more_of-TypedStatement}
use Rattle.qt_typed.specs.declared.statement.TypedStatement.TheVariants.{Simple, If', Loop'}
use Rattle.qt_typed.specs.Choices.{Counts, list_choices, subroutine_choices}
use Rattle.qt_meaning.specs.Places.{Site}
use Rattle.qt_meaning.specs.Points.{On, Run, leaf}
use Rattle.qt_meaning.specs.Applying.{multiplied}
use Rattle.qt_meaning.specs.Statements.{Arguments, Calls, list_tree, entered, registers_from, body_run, calls_of}
use Rattle.qt_meaning.specs.Distribution.{main_site, run_of}
use Rattle.qt_meaning.specs.WellFormed.{EachAction, EachInRow}
use Rattle.qt_meaning_laws.proofs.Runs.{IsClosed, HasChoices, OptionalHas, ActionHas, action_has}
use Rattle.qt_meaning_laws.proofs.Trees.{list_has}

-- ---- nothing is asked of actions, qubits and sites

abbrev Anything : {A : Type 0} → A → Type 0
Anything a = Unit {0}

mutual
  any_action : (s : TypedStatement) → EachAction Anything s
  any_action (Simple spot a) = tt
  any_action (If' spot condition k body body_slots m otherwise otherwise_slots) = (any_row body, any_row otherwise)
  any_action (Loop' spot over loop_slots k body body_slots) = any_row body

  any_row : {m : _} (r : Row_of-TypedStatement m) → EachInRow Anything r
  any_row end_of-TypedStatement = tt
  any_row (more_of-TypedStatement s rest) = (any_action s, any_row rest)

pub if_number_has : (P : Run → Type 0) (n i : ℕ) (r s : Run) → P r → P s → P (if_number n i r s)
if_number_has P zero zero r s h g = h
if_number_has P (suc n) (suc i) r s h g = if_number_has P n i r s h g
if_number_has P zero (suc i) r s h g = g
if_number_has P (suc n) zero r s h g = g

module _ (P : Run → Type 0) (closed : IsClosed P) (choices : HasChoices Anything P) (gates : (used : GateUse) (angles : List KnownUnits) (qs : List ℕ) (place : Place) → P (multiplied used angles qs place)) where
  abbrev AllCalls : Calls → Type 0
  AllCalls calls = (i : ℕ) (given : Arguments) (at : Site) → P (calls i given at)

  optional : (calls : Calls) → AllCalls calls → (at : Site) (value : Option TypedRight) → OptionalHas P closed Anything choices calls at value
  optional calls h at None = tt
  optional calls h at (Some (right.Value value)) = tt
  optional calls h at (Some (right.Measure qubits)) = λ store ns qs e f k d l. tt
  optional calls h at (Some (right.Call call result to)) = λ store values ns qs e f. h call.subroutine _ _

  parts : (calls : Calls) → AllCalls calls → (at : Site) (a : TypedAction) → ActionHas P closed Anything choices calls at a
  parts calls h at (action.Declare kind slot value) = optional calls h at value
  parts calls h at (action.Assign target value) = optional calls h at (Some value)
  parts calls h at (action.Measure qubits target) = λ store ns qs e f k d l. tt
  parts calls h at (action.Reset qubits) = λ store ns qs e f k d l. tt
  parts calls h at (action.Gate call) = λ place angles store ns ms qs e f g. gates call.used angles qs place
  parts calls h at (action.Broadcast call) = λ i l place angles store ns ms qs e f g. gates call.used angles qs place
  parts calls h at (action.Call call) = λ store values ns qs e f. h call.subroutine _ _
  parts calls h at (action.Return value) = optional calls h at value
  parts calls h at _ = tt

  statements_have : (z : Counts) (calls : Calls) → AllCalls calls → (ss : List TypedStatement) (at : Site) → P (list_tree z calls ss at)
  statements_have z calls h ss at =
      list_has P closed Anything Anything (λ count at s. tt) z calls (λ a at place f s. action_has P closed Anything choices calls a at place (parts calls h at a))
      ss at (λ k d l. any_action (slice_index_or ss k d)) tt

  body_has : (z : Counts) (calls : Calls) → AllCalls calls → (s : TypedSubroutine) (given : Arguments) (at : Site) → P (body_run z calls s given at)
  body_has z calls h s given at =
      closed.storing (entered s.parameters given.values given.qubits at.base) _
      (statements_have z calls h s.body (record at { registers = registers_from 0 s.parameters given.qubits }))

  calls_have : (n : ℕ) (ss : List TypedSubroutine) (z : Counts) (calls : Calls) → AllCalls calls → AllCalls (calls_of n ss z calls)
  calls_have n [] z calls h = h
  calls_have n (s ∷ ss) z calls h =
      calls_have (suc n) ss (λ i. if_number n i (list_choices z s.body) (z i)) (λ i given at. if_number n i (body_run z calls s given at) (calls i given at))
      (λ i given at. if_number_has P n i _ _ (body_has z calls h s given at) (h i given at))

  pub program_has : (typed : Typed) → P (run_of typed)
  program_has typed =
      statements_have (subroutine_choices typed.subroutines) _ (calls_have 0 typed.subroutines (λ i. 0) (λ i given at. leaf On) (λ i given at. closed.ending On))
      typed.body (main_site typed)
