-- Steps of the typing of a program that the check takes one by one.
use Rattle.std.specs.Prelude.{ℕ, false, List, [], Ok}
use Rattle.qt_gate_calls.specs.declared.body.GateBody.{GateBody}
use Rattle.qt_tree.specs.declared.label.Setting.{Setting}
use Rattle.qt_tree.specs.declared.place.Place.{Place}
use Rattle.qt_tree.specs.declared.program.Definition.{Definition}
use Rattle.qt_tree.specs.declared.program.Item.{Item}
use Rattle.qt_typed.specs.declared.program.Typed.{Typed}
use Rattle.qt_typed.specs.declared.program.TypedSubroutine.{TypedSubroutine}
use Rattle.qt_typing.specs.declared.state.State.{State}
use Rattle.qt_typed.specs.declared.statement.TypedStatement.{TypedStatement}
use Rattle.qt_typing.specs.Checked.{Checked, and_then}
use Rattle.qt_typing.specs.Environment.{Typing, ◌>>=◌}
use Rattle.qt_typing.specs.Inputs.{inputs_fit}
use Rattle.qt_typing.specs.Programs.{no_names, items_from, numbers_fit, program_at}
use Rattle.qt_typing.specs.Subroutines.{parameters_from, result_and_body, subroutine_of, declare_subroutine}

-- the parameters of a subroutine, and what stands behind them, in its scope
unfoldable pub parameters_and_body : Definition → ℕ → Typing TypedSubroutine
parameters_and_body d known = parameters_from d.place [] d.parameters >>= result_and_body d.place d.result d.body known

-- a subroutine whose name is new
unfoldable pub new_subroutine : Definition → Typing (Unit {0})
new_subroutine d = subroutine_of d >>= declare_subroutine d.place d.name

-- what stands before the first item of a program, where so many gates are known from the start
abbrev pub starting : List GateBody → List GateBody → State
starting gates all = record {
  names = no_names;
  inside = no_names;
  slots = 0;
  qubits = 0;
  subroutines = [];
  gates = gates;
  all_gates = all;
  inputs = [];
  outputs = [];
  variables = [];
  tokens = 0;
  included = false;
}

-- a program behind its items
unfoldable pub ended : List Setting → Place → List TypedStatement → State → Checked Typed
ended settings end body s =
    and_then (numbers_fit s) (λ _. and_then (inputs_fit settings s.inputs) (λ start. Ok (program_at end s body start)))

-- a program of these items, from what stands before them
unfoldable pub typed_after : List Setting → List Item → Place → State → Checked Typed
typed_after settings items end s = and_then (items_from [] items s) (λ r. ended settings end r.0 r.1)
