-- The size of a program: a sum over its statements, where the bodies of subroutines are put in place of their calls. A statement counts its
-- tokens; a gate call counts its primitives too, and the operators in the arguments of the calls in declared gates that it puts in, once for
-- each place of a broadcast (the size is this profile's; OpenQASM 3.0 live specification, "Gates" and "Subroutines"; Cross et al. 2022).
use Rattle.std.specs.Prelude.{ℕ, zero, suc, ◌+◌, ◌*◌, List, [], ◌∷◌, Option, Some, None}
use Rattle.qt_gate_calls.specs.Numbered.{if_number}
use Rattle.qt_gate_calls.specs.Counts.{call_count, call_operators, primitive_counts, operator_counts}
use Rattle.qt_typed.specs.declared.call.GateUse.{GateUse}
use Rattle.qt_typed.specs.declared.program.Typed.{Typed}
use Rattle.qt_typed.specs.declared.program.TypedSubroutine.{TypedSubroutine}
use Rattle.qt_typed.specs.declared.statement.TypedRight.{TypedRight}
use Rattle.qt_typed.specs.declared.statement.TypedRight.TheVariants as right
use Rattle.qt_typed.specs.declared.statement.TypedAction.{TypedAction}
use Rattle.qt_typed.specs.declared.statement.TypedAction.TheVariants as action
use Rattle.qt_typed.specs.declared.statement.TypedStatement.{TypedStatement, Row_of-TypedStatement, end_of-TypedStatement, more_of-TypedStatement}
use Rattle.qt_typed.specs.declared.statement.TypedStatement.TheVariants.{Simple, If', Loop'}
use Rattle.qt_typed.specs.Choices.{Counts}

-- the primitives and the operators of one call
abbrev pub use_size : GateUse → ℕ
use_size used =
    call_count (primitive_counts used.gates) used.modifiers used.gate + call_operators (operator_counts used.gates) used.modifiers used.gate

abbrev pub right_size : Counts → TypedRight → ℕ
right_size z (right.Value value) = 0
right_size z (right.Measure qubits) = 0
right_size z (right.Call call result to) = z call.subroutine

abbrev pub optional_size : Counts → Option TypedRight → ℕ
optional_size z None = 0
optional_size z (Some value) = right_size z value

-- what an action counts beside its tokens
abbrev pub action_size : Counts → TypedAction → ℕ
action_size z (action.Declare kind slot value) = optional_size z value
action_size z (action.Assign target value) = right_size z value
action_size z (action.Gate call) = use_size call.used
action_size z (action.Broadcast call) = call.size * use_size call.used
action_size z (action.Call call) = z call.subroutine
action_size z (action.Return value) = optional_size z value
action_size z _ = 0

abbrev mutual
  pub size : Counts → TypedStatement → ℕ
  size z (Simple at action) = at.tokens + action_size z action
  size z (If' at condition k body body_slots m otherwise otherwise_slots) = at.tokens + (row_size z body + row_size z otherwise)
  size z (Loop' at over loop_slots k body body_slots) = at.tokens + row_size z body

  pub row_size : {m : _} → Counts → Row_of-TypedStatement m → ℕ
  row_size z end_of-TypedStatement = 0
  row_size z (more_of-TypedStatement s rest) = size z s + row_size z rest

abbrev pub list_size : Counts → List TypedStatement → ℕ
list_size z [] = 0
list_size z (s ∷ ss) = size z s + list_size z ss

-- those of the subroutines, each over those before it, where the first of these has the number n
abbrev pub sizes_from : ℕ → List TypedSubroutine → Counts → Counts
sizes_from n [] z = z
sizes_from n (s ∷ ss) z = sizes_from (suc n) ss (λ i. if_number n i (list_size z s.body) (z i))

abbrev pub size_of : Typed → ℕ
size_of typed = list_size (sizes_from 0 typed.subroutines (λ i. 0)) typed.body
