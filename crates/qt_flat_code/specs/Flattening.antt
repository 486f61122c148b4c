-- What flattening a program answers (flat code and its bounds are this profile's; OpenQASM 3.0 live specification, "Gates"): that its size is
-- above the bound; else the first fixed angle of a primitive that is no multiple of π/4, in the order of its code; else its code.
use Rattle.std.specs.Prelude.{ℕ, suc, nat_lt, if◌then◌else◌, ℤ, List, [], ◌∷◌, Option, Some, None, option_map}
use Rattle.std.specs.Option.{option_or}
use Rattle.qt_tree.specs.declared.place.Place.{Place}
use Rattle.qt_gate_calls.specs.Numbered.{if_number}
use Rattle.qt_typed.specs.declared.program.Typed.{Typed}
use Rattle.qt_typed.specs.declared.program.TypedSubroutine.{TypedSubroutine}
use Rattle.qt_typed.specs.declared.statement.TypedAction.{TypedAction}
use Rattle.qt_typed.specs.declared.statement.TypedAction.TheVariants as action
use Rattle.qt_typed.specs.declared.statement.TypedRight.{TypedRight}
use Rattle.qt_typed.specs.declared.statement.TypedRight.TheVariants as right
use Rattle.qt_typed.specs.declared.statement.TypedStatement.{TypedStatement, Row_of-TypedStatement, end_of-TypedStatement, more_of-TypedStatement}
use Rattle.qt_typed.specs.declared.statement.TypedStatement.TheVariants.{Simple, If', Loop'}
use Rattle.qt_meaning.specs.Applying.{operands_at}
use Rattle.qt_instructions.specs.declared.parts.Parts.{Parts}
use Rattle.qt_flat_code.specs.GateCalls.{call_refusal}
use Rattle.qt_flat_code.specs.Programs.{parts_of}
use Rattle.qt_flat_code.specs.Statements.{nowhere}

-- ---- the first angle that is no multiple of π/4

-- the place of the gate call, and the units of the angle
abbrev pub Wrong : Type 0
Wrong = Option (Place × ℤ)

-- where all places of a broadcast are calls of the same gate, the first one tells
abbrev pub right_wrong : (ℕ → Wrong) → TypedRight → Wrong
right_wrong inside (right.Call call result to) = inside call.subroutine
right_wrong inside _ = None

abbrev pub optional_wrong : (ℕ → Wrong) → Option TypedRight → Wrong
optional_wrong inside None = None
optional_wrong inside (Some value) = right_wrong inside value

abbrev pub at_call : Place → Option ℤ → Wrong
at_call place units = option_map (λ n. (place, n)) units

abbrev pub action_wrong : (ℕ → Wrong) → TypedAction → Wrong
action_wrong inside (action.Declare kind slot value) = optional_wrong inside value
action_wrong inside (action.Assign target value) = right_wrong inside value
action_wrong inside (action.Gate call) = at_call call.place (call_refusal nowhere call.used call.operands)
action_wrong inside (action.Broadcast call) = at_call call.place (call_refusal nowhere call.used (operands_at 0 call.operands))
action_wrong inside (action.Call call) = inside call.subroutine
action_wrong inside (action.Return value) = optional_wrong inside value
action_wrong inside _ = None

abbrev mutual
  pub statement_wrong : (ℕ → Wrong) → TypedStatement → Wrong
  statement_wrong inside (Simple spot action) = action_wrong inside action
  statement_wrong inside (If' spot condition k body body_slots m otherwise otherwise_slots) =
      option_or (row_wrong inside body) (row_wrong inside otherwise)
  statement_wrong inside (Loop' spot over loop_slots k body body_slots) = row_wrong inside body

  pub row_wrong : {m : _} → (ℕ → Wrong) → Row_of-TypedStatement m → Wrong
  row_wrong inside end_of-TypedStatement = None
  row_wrong inside (more_of-TypedStatement s rest) = option_or (statement_wrong inside s) (row_wrong inside rest)

abbrev pub list_wrong : (ℕ → Wrong) → List TypedStatement → Wrong
list_wrong inside [] = None
list_wrong inside (s ∷ ss) = option_or (statement_wrong inside s) (list_wrong inside ss)

-- those of the subroutines, each over those before it, where the first of these has the number n
abbrev pub wrong_from : ℕ → List TypedSubroutine → (ℕ → Wrong) → ℕ → Wrong
wrong_from n [] inside = inside
wrong_from n (s ∷ ss) inside = wrong_from (suc n) ss (λ i. if_number n i (list_wrong inside s.body) (inside i))

abbrev pub first_wrong_angle : Typed → Wrong
first_wrong_angle typed = list_wrong (wrong_from 0 typed.subroutines (λ i. None)) typed.body

-- ---- the answer

abbrev pub most_size : ℕ
most_size = 1048576

pub data Flattened : Type 0 where
  TooLong : ℕ → Flattened
  WrongAngle : Place → ℤ → Flattened
  Flat : Parts → Flattened

abbrev pub without_wrong : Wrong → Parts → Flattened
without_wrong (Some wrong) parts = WrongAngle wrong.0 wrong.1
without_wrong None parts = Flat parts

abbrev pub flattened : Typed → Flattened
flattened typed = if nat_lt most_size typed.size then TooLong typed.size else without_wrong (first_wrong_angle typed) (parts_of typed)
