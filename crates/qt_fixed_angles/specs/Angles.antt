-- The first fixed angle of a program that is no multiple of π/4, in the order of flat code: statements in the order in which they stand, a
-- call of a subroutine as its body in place of the call, a call on registers as a call for each place (OpenQASM 3.0 live specification,
-- "Gates" and "Subroutines"; Cross et al. 2022; that all angles are multiples of π/4 is this profile's). An angle of a primitive is fixed
-- where it is known before the run. It has the place of the gate call in the text of the program or of the subroutine.
use Rattle.std.specs.Prelude.{ℕ, zero, suc, ℤ, List, [], ◌∷◌, map, Option, Some, None}
use Rattle.std.specs.Option.{option_or}
use Rattle.qt_tree.specs.declared.place.Place.{Place}
use Rattle.qt_gate_calls.specs.Numbered.{if_number}
use Rattle.qt_gate_calls.specs.Primitives.{no_controls, call_primitives, primitives_of}
use Rattle.qt_gate_calls.specs.Faults.{first_wrong}
use Rattle.qt_typed.specs.declared.call.GateUse.{GateUse}
use Rattle.qt_typed.specs.declared.program.Typed.{Typed}
use Rattle.qt_typed.specs.declared.program.TypedSubroutine.{TypedSubroutine}
use Rattle.qt_typed.specs.declared.statement.TypedRight.{TypedRight}
use Rattle.qt_typed.specs.declared.statement.TypedRight.TheVariants as right
use Rattle.qt_typed.specs.declared.statement.TypedAction.{TypedAction}
use Rattle.qt_typed.specs.declared.statement.TypedAction.TheVariants as action
use Rattle.qt_typed.specs.declared.statement.TypedStatement.{TypedStatement, Row_of-TypedStatement, end_of-TypedStatement, more_of-TypedStatement}
use Rattle.qt_typed.specs.declared.statement.TypedStatement.TheVariants.{Simple, If', Loop'}
use Rattle.qt_modify.specs.Calls.{fixed_phase}
use Rattle.qt_fixed_angles.specs.declared.wrong.WrongAngle.{WrongAngle}

-- ---- gate calls

-- the units of the first wrong angle of a gate with its modifiers and arguments. Which qubits it is called on plays no part.
unfoldable pub wrong_units : GateUse → Option ℤ
wrong_units used =
    first_wrong (call_primitives (primitives_of used.gates) used.modifiers used.gate (map fixed_phase used.arguments) no_controls [])

abbrev pub with_place : Place → Option ℤ → Option WrongAngle
with_place place None = None
with_place place (Some units) = Some (record { place = place; units = units })

abbrev pub use_angle : Place → GateUse → Option WrongAngle
use_angle place used = with_place place (wrong_units used)

-- of so many calls, one after the other
abbrev pub times_angle : ℕ → Option WrongAngle → Option WrongAngle
times_angle zero angle = None
times_angle (suc n) angle = option_or angle (times_angle n angle)

-- ---- statements, where the angle of each subroutine is known by its number

abbrev pub Angles : Type 0
Angles = ℕ → Option WrongAngle

abbrev pub right_angle : Angles → TypedRight → Option WrongAngle
right_angle z (right.Value value) = None
right_angle z (right.Measure qubits) = None
right_angle z (right.Call call result to) = z call.subroutine

abbrev pub optional_angle : Angles → Option TypedRight → Option WrongAngle
optional_angle z None = None
optional_angle z (Some value) = right_angle z value

abbrev pub action_angle : Angles → TypedAction → Option WrongAngle
action_angle z (action.Declare kind slot value) = optional_angle z value
action_angle z (action.Assign target value) = right_angle z value
action_angle z (action.Gate call) = use_angle call.place call.used
action_angle z (action.Broadcast call) = times_angle call.size (use_angle call.place call.used)
action_angle z (action.Call call) = z call.subroutine
action_angle z (action.Return value) = optional_angle z value
action_angle z _ = None

abbrev mutual
  pub angle : Angles → TypedStatement → Option WrongAngle
  angle z (Simple at action) = action_angle z action
  angle z (If' at condition k body body_slots m otherwise otherwise_slots) = option_or (row_angle z body) (row_angle z otherwise)
  angle z (Loop' at over loop_slots k body body_slots) = row_angle z body

  pub row_angle : {m : _} → Angles → Row_of-TypedStatement m → Option WrongAngle
  row_angle z end_of-TypedStatement = None
  row_angle z (more_of-TypedStatement s rest) = option_or (angle z s) (row_angle z rest)

abbrev pub list_angle : Angles → List TypedStatement → Option WrongAngle
list_angle z [] = None
list_angle z (s ∷ ss) = option_or (angle z s) (list_angle z ss)

-- ---- programs

abbrev pub no_angles : Angles
no_angles i = None

-- those of the subroutines, each over those before it, where the first of these has the number n
abbrev pub angles_from : ℕ → List TypedSubroutine → Angles → Angles
angles_from n [] z = z
angles_from n (s ∷ ss) z = angles_from (suc n) ss (λ i. if_number n i (list_angle z s.body) (z i))

abbrev pub first_wrong_angle : Typed → Option WrongAngle
first_wrong_angle typed = list_angle (angles_from 0 typed.subroutines no_angles) typed.body
