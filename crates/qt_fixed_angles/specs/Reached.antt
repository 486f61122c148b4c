-- Which subroutines are put in (OpenQASM 3.0 live specification, "Subroutines"; Cross et al. 2022): those that the program calls, and those
-- before it that each of them calls.
use Rattle.std.specs.Prelude.{◌≡◌, ℕ, ◌<◌, ◌≤◌, Bool, true, false, ◌||◌, List, [], ◌∷◌, length, Option, Some, None, slice_get, get_or, map}
use Rattle.qt_typed.specs.declared.expression.TypedPhase.{TypedPhase}
use Rattle.qt_typed.specs.declared.program.TypedSubroutine.{TypedSubroutine}
use Rattle.qt_typed.specs.declared.statement.TypedRight.{TypedRight}
use Rattle.qt_typed.specs.declared.statement.TypedRight.TheVariants as right
use Rattle.qt_typed.specs.declared.statement.TypedAction.{TypedAction}
use Rattle.qt_typed.specs.declared.statement.TypedAction.TheVariants as action
use Rattle.qt_typed.specs.declared.statement.TypedStatement.{TypedStatement, Row_of-TypedStatement, end_of-TypedStatement, more_of-TypedStatement}
use Rattle.qt_typed.specs.declared.statement.TypedStatement.TheVariants.{Simple, If', Loop'}
use Rattle.qt_modify.specs.Calls.{fixed_phase, argument_of}
use Rattle.qt_modify.specs.Needs.{flag_at, is_number}
use Rattle.qt_primitives.specs.declared.unit.Argument.{Argument}
use Rattle.qt_fixed_angles.specs.declared.wrong.WrongAngle.{WrongAngle}
use Rattle.qt_fixed_angles.specs.Angles.{Angles, angles_from, no_angles}

-- the arguments, of which none that isn't fixed has a cell of its own
abbrev pub arguments_of : List TypedPhase → List Argument
arguments_of = map (λ (p : TypedPhase). argument_of (fixed_phase p) 0)

-- ---- which subroutines a statement calls

abbrev pub right_calls : TypedRight → ℕ → Bool
right_calls (right.Value value) i = false
right_calls (right.Measure qubits) i = false
right_calls (right.Call call result to) i = is_number call.subroutine i

abbrev pub optional_calls : Option TypedRight → ℕ → Bool
optional_calls None i = false
optional_calls (Some value) i = right_calls value i

abbrev pub action_calls : TypedAction → ℕ → Bool
action_calls (action.Declare kind slot value) i = optional_calls value i
action_calls (action.Assign target value) i = right_calls value i
action_calls (action.Call call) i = is_number call.subroutine i
action_calls (action.Return value) i = optional_calls value i
action_calls _ i = false

abbrev mutual
  pub calls : TypedStatement → ℕ → Bool
  calls (Simple at action) i = action_calls action i
  calls (If' at condition k body body_slots m otherwise otherwise_slots) i = row_calls body i || row_calls otherwise i
  calls (Loop' at over loop_slots k body body_slots) i = row_calls body i

  pub row_calls : {m : _} → Row_of-TypedStatement m → ℕ → Bool
  row_calls end_of-TypedStatement i = false
  row_calls (more_of-TypedStatement s rest) i = calls s i || row_calls rest i

abbrev pub list_calls : List TypedStatement → ℕ → Bool
list_calls [] i = false
list_calls (s ∷ ss) i = calls s i || list_calls ss i

-- ---- flags of subroutines

-- the flags of the calls with numbers below that one are set beside those that were; those from it on are as before
pub record Marks (below : ℕ) (old new : List Bool) (more : ℕ → Bool) : Type 0 where
  pub kept : (i : ℕ) → flag_at old i ≡ true → flag_at new i ≡ true
  pub set : (i : ℕ) → i < below → more i ≡ true → flag_at new i ≡ true
  pub behind : (i : ℕ) → below ≤ i → flag_at new i ≡ flag_at old i

-- the flags of the calls with numbers below that one are set
abbrev pub AreMarked : ℕ → List Bool → List TypedStatement → Type 0
AreMarked below flags ss = (i : ℕ) → i < below → list_calls ss i ≡ true → flag_at flags i ≡ true

-- each subroutine whose flag is set has the flags of those before it that it calls set
abbrev pub AreClosed : List TypedSubroutine → List Bool → Type 0
AreClosed subroutines flags =
    (i : ℕ) (s : TypedSubroutine) → slice_get subroutines i ≡ Some s → flag_at flags i ≡ true → AreMarked i flags s.body

-- the flags of all subroutines that are put in are set
pub record Covers (subroutines : List TypedSubroutine) (body : List TypedStatement) (flags : List Bool) : Type 0 where
  pub program : AreMarked (length subroutines) flags body
  pub each : AreClosed subroutines flags

-- ---- the angles of subroutines in a list by their numbers

abbrev pub angle_in : List (Option WrongAngle) → Angles
angle_in known i = get_or known i None

-- the list has the angles of these subroutines where their flags are set
abbrev pub AreKnown : List Bool → List TypedSubroutine → List (Option WrongAngle) → Type 0
AreKnown flags subroutines known = (i : ℕ) → flag_at flags i ≡ true → angle_in known i ≡ angles_from 0 subroutines no_angles i
