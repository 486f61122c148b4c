-- How many choices stand in a statement, where the bodies of subroutines are put in place of their calls. A choice is a measurement or a reset
-- of one qubit (OpenQASM 3.0 live specification, "Built-in quantum instructions", measurement and reset; Cross et al. 2022).
use Rattle.std.specs.Prelude.{ℕ, zero, suc, ◌+◌, List, [], ◌∷◌, length, Option, Some, None}
use Rattle.qt_gate_calls.specs.Numbered.{if_number}
use Rattle.qt_typed.specs.declared.call.TypedQubits.{TypedQubits}
use Rattle.qt_typed.specs.declared.call.TypedQubits.TheVariants as qubits
use Rattle.qt_typed.specs.declared.program.TypedSubroutine.{TypedSubroutine}
use Rattle.qt_typed.specs.declared.statement.TypedRight.{TypedRight}
use Rattle.qt_typed.specs.declared.statement.TypedRight.TheVariants as right
use Rattle.qt_typed.specs.declared.statement.TypedAction.{TypedAction}
use Rattle.qt_typed.specs.declared.statement.TypedAction.TheVariants as action
use Rattle.qt_typed.specs.declared.statement.TypedStatement.{TypedStatement, Row_of-TypedStatement, end_of-TypedStatement, more_of-TypedStatement}
use Rattle.qt_typed.specs.declared.statement.TypedStatement.TheVariants.{Simple, If', Loop'}

-- a number for each subroutine
abbrev pub Counts : Type 0
Counts = ℕ → ℕ

abbrev pub qubit_count : TypedQubits → ℕ
qubit_count (qubits.Single qubit) = 1
qubit_count (qubits.Register qubits) = length qubits

abbrev pub right_choices : Counts → TypedRight → ℕ
right_choices z (right.Value value) = 0
right_choices z (right.Measure qubits) = qubit_count qubits
right_choices z (right.Call call result to) = z call.subroutine

abbrev pub optional_choices : Counts → Option TypedRight → ℕ
optional_choices z None = 0
optional_choices z (Some value) = right_choices z value

abbrev pub action_choices : Counts → TypedAction → ℕ
action_choices z (action.Declare kind slot value) = optional_choices z value
action_choices z (action.Assign target value) = right_choices z value
action_choices z (action.Measure qubits target) = qubit_count qubits
action_choices z (action.Reset qubits) = qubit_count qubits
action_choices z (action.Call call) = z call.subroutine
action_choices z (action.Return value) = optional_choices z value
action_choices z _ = 0

abbrev mutual
  pub choices : Counts → TypedStatement → ℕ
  choices z (Simple at action) = action_choices z action
  choices z (If' at condition k body body_slots m otherwise otherwise_slots) = row_choices z body + row_choices z otherwise
  choices z (Loop' at over loop_slots k body body_slots) = row_choices z body

  pub row_choices : {m : _} → Counts → Row_of-TypedStatement m → ℕ
  row_choices z end_of-TypedStatement = 0
  row_choices z (more_of-TypedStatement s rest) = choices z s + row_choices z rest

abbrev pub list_choices : Counts → List TypedStatement → ℕ
list_choices z [] = 0
list_choices z (s ∷ ss) = choices z s + list_choices z ss

-- those of the subroutines, each over those before it, where the first of these has the number n
abbrev pub choices_from : ℕ → List TypedSubroutine → Counts → Counts
choices_from n [] z = z
choices_from n (s ∷ ss) z = choices_from (suc n) ss (λ i. if_number n i (list_choices z s.body) (z i))

abbrev pub subroutine_choices : List TypedSubroutine → Counts
subroutine_choices subroutines = choices_from 0 subroutines (λ i. 0)
