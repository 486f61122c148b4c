-- Subroutines (OpenQASM 3.0 live specification, "Subroutines" and "Scoping of variables"; Cross et al. 2022). A subroutine has a frame of
-- its own: its result, its parameters, its body. It sees its parameters and the global constants, gates and subroutines before it. Its
-- name is judged first, then its parameters, its result and its body; it is in scope behind the definition alone.
use Rattle.std.specs.Prelude.{ℕ, false, List, [], ◌∷◌, ◌++◌, length, map, Option, Some, None, Ok, Err}
use Rattle.qt_const_rules.specs.declared.consts.Known.TheVariants as known
use Rattle.qt_const_rules.specs.declared.modes.Mode.TheVariants as mode
use Rattle.qt_names.specs.Entries.{Name}
use Rattle.qt_names.specs.declared.named.Named.{Named}
use Rattle.qt_names.specs.declared.named.Places.TheVariants as places
use Rattle.qt_names.specs.declared.named.What.TheVariants as what
use Rattle.qt_registers.specs.Registers.{parameter_qubits}
use Rattle.qt_tree.specs.declared.expression.Expr.{Expr}
use Rattle.qt_tree.specs.declared.expression.Scalar.{Scalar}
use Rattle.qt_tree.specs.declared.place.Place.{Place}
use Rattle.qt_tree.specs.declared.program.Definition.{Definition}
use Rattle.qt_tree.specs.declared.program.Parameter.{Parameter}
use Rattle.qt_tree.specs.declared.program.Parameter.TheVariants as parameter
use Rattle.qt_tree.specs.declared.statement.Statement.{Statement}
use Rattle.qt_typed.specs.declared.program.TypedParameter.{TypedParameter}
use Rattle.qt_typed.specs.declared.program.TypedParameter.TheVariants as typed
use Rattle.qt_typed.specs.declared.program.TypedSubroutine.{TypedSubroutine}
use Rattle.qt_typed.specs.declared.statement.TypedStatement.{TypedStatement}
use Rattle.qt_value.specs.declared.types.ValueType.{ValueType}
use Rattle.qt_typing.specs.declared.names.Names.{Names}
use Rattle.qt_typing.specs.declared.state.Around.{Around}
use Rattle.qt_typing.specs.declared.state.Body.{Body}
use Rattle.qt_typing.specs.declared.state.Returns.{Returns}
use Rattle.qt_typing.specs.declared.state.Returns.TheVariants as returns
use Rattle.qt_typing.specs.declared.state.State.{State}
use Rattle.qt_typing.specs.Checked.{Checked, and_then}
use Rattle.qt_typing.specs.Environment.{Typing, ◌>>=◌, pure, seen, type_at, take_slots, declare, declare_in_both, enter}
use Rattle.qt_typing.specs.Declarations.{new_name, typed_name, optional_size}
use Rattle.qt_typing.specs.Statements.{inside, statement_typing}

-- ---- parameters, each with a slot of its own

abbrev pub value_named : ValueType → ℕ → Named
value_named kind slot = record { what = what.Parameter; of = Some kind; lengths = []; places = places.Number slot }

abbrev pub qubit_named : ℕ → Named
qubit_named slot = record { what = what.Parameter; of = None; lengths = []; places = places.Number slot }

-- a register is named by the number of its parameter
abbrev pub register_named : ℕ → ℕ → Named
register_named number size =
    record { what = what.Parameter; of = None; lengths = size ∷ []; places = places.Qubits (parameter_qubits number size) }

unfoldable pub value_parameter : Place → Name → ValueType → Typing TypedParameter
value_parameter place name kind =
    take_slots 1 >>= (λ slot. declare place name (value_named kind slot) known.Other >>= (λ _. pure (typed.Value kind slot)))

unfoldable pub qubit_parameter : Place → Name → ℕ → Option ℕ → Typing TypedParameter
qubit_parameter place name number None =
    take_slots 1 >>= (λ slot. declare place name (qubit_named slot) known.Hidden >>= (λ _. pure (typed.Qubit slot)))
qubit_parameter place name number (Some size) =
    take_slots 1 >>= (λ slot. declare place name (register_named number size) known.Hidden >>= (λ _. pure (typed.Register slot size)))

-- a type or size comes before the name
unfoldable pub parameter_of : Place → ℕ → Parameter → Typing TypedParameter
parameter_of place number (parameter.Classical scalar name) = seen (typed_name place scalar name) >>= value_parameter place name
parameter_of place number (parameter.Qubits size name) = seen (optional_size place size) >>= qubit_parameter place name number

unfoldable pub parameters_from : Place → List TypedParameter → List Parameter → Typing (List TypedParameter)
parameters_from place done [] = pure done
parameters_from place done (p ∷ rest) = parameter_of place (length done) p >>= (λ t. parameters_from place (done ++ t ∷ []) rest)

-- ---- the result, which has the first slot

abbrev pub result_slots : Option Scalar → ℕ
result_slots None = 0
result_slots (Some scalar) = 1

unfoldable pub result_type_at : Place → Option Scalar → Names → Checked (Option ValueType)
result_type_at place None names = Ok None
result_type_at place (Some scalar) names = and_then (type_at names mode.Plain place scalar) (λ kind. Ok (Some kind))

abbrev pub returns_of : Option ValueType → Returns
returns_of None = returns.Nothing
returns_of (Some kind) = returns.Value kind

unfoldable pub around_body : Option ValueType → Around
around_body result = record { in_loop = false; returns = returns_of result }

-- ---- the whole

-- the names that a subroutine sees stand in the place of the others, and its frame is empty
unfoldable pub turned_inside : ℕ → State → State
turned_inside slots s = record s { names = s.inside; inside = s.names; slots = slots }

abbrev pub finished : List TypedParameter → Option ValueType → Body → Typing TypedSubroutine
finished parameters result body = λ s. Ok (record { parameters = parameters; result = result; body = body.statements; slots = s.slots }, s)

unfoldable pub body_of : List Statement → ℕ → List TypedParameter → Option ValueType → Typing TypedSubroutine
body_of body known parameters result = λ s.
    (inside (around_body result) (map statement_typing body) s.slots known >>= finished parameters result) s

unfoldable pub result_and_body : Place → Option Scalar → List Statement → ℕ → List TypedParameter → Typing TypedSubroutine
result_and_body place result body known parameters =
    seen (result_type_at place result) >>= body_of body known parameters

unfoldable pub typed_inside : Definition → Typing TypedSubroutine
typed_inside d = λ s.
    (enter >>= (λ _.
    parameters_from d.place [] d.parameters >>= result_and_body d.place d.result d.body (length s.names.consts))) s

-- the subroutine in a frame of its own. Behind it the names and slots are those before it
unfoldable pub subroutine_of : Definition → Typing TypedSubroutine
subroutine_of d = λ s.
    and_then (typed_inside d (turned_inside (result_slots d.result) s)) (λ r. Ok (r.0, turned_inside s.slots r.1))

abbrev pub subroutine_named : ℕ → Named
subroutine_named number = record { what = what.Subroutine; of = None; lengths = []; places = places.Number number }

unfoldable pub declare_subroutine : Place → Name → TypedSubroutine → Typing (Unit {0})
declare_subroutine place name subroutine = λ s.
    declare_in_both place name (subroutine_named (length s.subroutines)) known.Subroutine
    (record s { subroutines = s.subroutines ++ subroutine ∷ [] })

unfoldable pub definition : Definition → Typing (Unit {0})
definition d = seen (new_name d.place d.name) >>= (λ _. subroutine_of d >>= declare_subroutine d.place d.name)
