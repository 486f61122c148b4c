-- The typing of a program (OpenQASM 3.0 live specification, "Version string", "Input/output", "Included files" and "Scoping of
-- variables"; Cross et al. 2022): its versions, then its items in the order of text, then how many qubits and slots it has. `items_built`
-- says of which programs.
use Rattle.std.specs.Prelude.{ℕ, ◌+◌, nat_eq, nat_lt, ◌&&◌, Bool, true, false, not, codes, if◌then◌else◌, List, [], ◌∷◌, ◌++◌, Option, Some, None, Ok, Err}
use Rattle.std.specs.Cmp.Lexicographic.{pointwise}
use Rattle.qt_gate_calls.specs.Standard.{standard_bodies}
use Rattle.qt_gate_calls.specs.declared.body.GateBody.{GateBody}
use Rattle.qt_names.specs.Entries.{Name}
use Rattle.qt_tree.specs.declared.expression.Scalar.{Scalar}
use Rattle.qt_tree.specs.declared.place.Place.{Place}
use Rattle.qt_tree.specs.declared.program.ArrayItem.{ArrayItem}
use Rattle.qt_tree.specs.declared.program.Definition.{Definition}
use Rattle.qt_tree.specs.declared.program.Item.{Item}
use Rattle.qt_tree.specs.declared.program.Item.TheVariants as item
use Rattle.qt_tree.specs.declared.program.Program.{Program}
use Rattle.qt_tree.specs.declared.program.Version.{Version}
use Rattle.qt_tree.specs.declared.program.VersionNumber.{VersionNumber}
use Rattle.qt_tree.specs.declared.program.VersionNumber.TheVariants as version
use Rattle.qt_tree.specs.declared.label.Setting.{Setting}
use Rattle.qt_tree.specs.declared.refusal.TextRefusal.TheVariants as refusal
use Rattle.qt_typed.specs.Size.{size_of}
use Rattle.qt_typed.specs.declared.program.Typed.{Typed}
use Rattle.qt_typed.specs.declared.program.StartValue.{StartValue}
use Rattle.qt_typed.specs.declared.program.TypedOutput.{TypedOutput}
use Rattle.qt_typed.specs.declared.statement.TypedStatement.{TypedStatement}
use Rattle.qt_typed.specs.declared.statement.TypedStatement.TheVariants as typed
use Rattle.qt_value.specs.declared.types.ValueType.{ValueType}
use Rattle.qt_typing.specs.declared.names.Names.{Names}
use Rattle.qt_typing.specs.declared.state.Around.{Around}
use Rattle.qt_typing.specs.declared.state.Returns.TheVariants as returns
use Rattle.qt_typing.specs.declared.state.State.{State}
use Rattle.qt_typing.specs.Checked.{Checked, and_then, unless, told}
use Rattle.qt_typing.specs.Environment.{Typing, ◌>>=◌, pure, seen, take_slots}
use Rattle.qt_typing.specs.Declarations.{qubit_declaration, qubit_register, typed_name, declare_variable, told_at_end, array_of}
use Rattle.qt_typing.specs.Tokens.{qubit_tokens, io_tokens, array_tokens}
use Rattle.qt_typing.specs.Statements.{added, not_yet, silent, simple, statement_typing}
use Rattle.qt_typing.specs.GateItems.{gate_item}
use Rattle.qt_typing.specs.Inputs.{input_of, inputs_fit}
use Rattle.qt_typing.specs.Subroutines.{definition}

-- ---- of which programs the typing is defined so far: no other text is included

abbrev pub is_standard : Name → Bool
is_standard name = pointwise nat_eq name (codes "stdgates.inc")

abbrev pub item_built : Item → Bool
item_built (item.Include place name) = is_standard name
item_built _ = true

unfoldable pub items_built : List Item → Bool
items_built [] = true
items_built (it ∷ rest) = item_built it && items_built rest

-- ---- versions

abbrev pub is_version : VersionNumber → Bool
is_version (version.Integer value) = nat_eq value 3
is_version (version.Decimal text) = pointwise nat_eq text (codes "3.0")

unfoldable pub versions_fit : List Version → Checked (Unit {0})
versions_fit [] = Ok tt
versions_fit (v ∷ rest) = and_then (unless (not (is_version v.number)) (refusal.E7 v.place)) (λ _. versions_fit rest)

-- ---- items

-- tokens that count though nothing runs
unfoldable pub count_tokens : ℕ → Typing (Unit {0})
count_tokens n = λ s. Ok (tt, record s { tokens = s.tokens + n })

unfoldable pub include_standard : Typing (Unit {0})
include_standard = λ s. Ok (tt, record s { included = true })

unfoldable pub keep_output : TypedOutput → Typing (Unit {0})
keep_output output = λ s. Ok (tt, record s { outputs = s.outputs ++ output ∷ [] })

unfoldable pub output_at : Place → Name → ValueType → ℕ → Typing (Unit {0})
output_at place name kind slot =
    declare_variable place name kind [] slot >>= (λ _. keep_output (told_at_end name kind [] slot))

unfoldable pub output_of : Place → Scalar → Name → Typing (Unit {0})
output_of place scalar name = seen (typed_name place scalar name) >>= (λ kind. take_slots 1 >>= output_at place name kind)

abbrev pub counted : ℕ → Typing (Unit {0}) → Typing (Option TypedStatement)
counted n typing = silent (typing >>= (λ _. count_tokens n))

-- outside of loops and subroutines
abbrev pub at_top : Around
at_top = record { in_loop = false; returns = returns.Nowhere }

abbrev pub array_typing : ArrayItem → Typing (Option TypedStatement)
array_typing a =
    simple (record { place = a.place; tokens = array_tokens a.scalar a.dimensions a.value })
    (array_of a.place a.scalar a.dimensions a.name a.value)

unfoldable pub item_typing : Item → Typing (Option TypedStatement)
item_typing (item.Include place name) = if is_standard name then silent include_standard else not_yet place
item_typing (item.Input place scalar name) = counted (io_tokens scalar) (input_of place scalar name)
item_typing (item.Output place scalar name) = counted (io_tokens scalar) (output_of place scalar name)
item_typing (item.Qubit place size name) = counted (qubit_tokens size) (qubit_declaration place size name)
item_typing (item.QubitRegister place name size) = counted (qubit_tokens size) (qubit_register place name size)
item_typing (item.Array a) = array_typing a
item_typing (item.Gate gate) = silent (gate_item gate)
item_typing (item.Definition d) = silent (definition d)
item_typing (item.Statement statement) = statement_typing statement at_top

unfoldable pub items_from : List TypedStatement → List Item → Typing (List TypedStatement)
items_from done [] = pure done
items_from done (it ∷ rest) = item_typing it >>= (λ t. items_from (added done t) rest)

-- ---- programs

abbrev pub no_names : Names
no_names = record { scopes = [] ∷ []; consts = [] }

-- `all` are the gates of the whole program
unfoldable pub beginning : List GateBody → State
beginning all = record {
  names = no_names;
  inside = no_names;
  slots = 0;
  qubits = 0;
  subroutines = [];
  gates = standard_bodies;
  all_gates = all;
  inputs = [];
  outputs = [];
  variables = [];
  tokens = 0;
  included = false;
}

-- the limits of the profile
abbrev pub most_qubits : ℕ
most_qubits = 16

abbrev pub most_slots : ℕ
most_slots = 1024

-- the global variables are the outputs where none is declared
abbrev pub outputs_of : List TypedOutput → List TypedOutput → List TypedOutput
outputs_of [] variables = variables
outputs_of (output ∷ rest) variables = output ∷ rest

abbrev pub without_size : Place → State → List TypedStatement → List StartValue → Typed
without_size end s body start = record {
  qubits = told s.qubits;
  slots = s.slots;
  size = 0;
  gates = s.gates;
  subroutines = s.subroutines;
  body = body;
  outputs = outputs_of s.outputs s.variables;
  start = start;
  end = end;
}

-- the size counts the tokens of declarations that don't run as well
unfoldable pub program_at : Place → State → List TypedStatement → List StartValue → Typed
program_at end s body start = record (without_size end s body start) { size = told (s.tokens + size_of (without_size end s body start)) }

unfoldable pub numbers_fit : State → Checked (Unit {0})
numbers_fit s =
    and_then (unless (nat_lt most_qubits s.qubits) (refusal.E15 (told s.qubits))) (λ _. unless (nat_lt most_slots s.slots) (refusal.E16
    s.slots))

unfoldable pub typing_of : List Setting → Program → Checked Typed
typing_of settings program =
    and_then (versions_fit program.versions) (λ _.
    and_then (items_from [] program.items (beginning [])) (λ first.
    and_then (items_from [] program.items (beginning first.1.gates)) (λ r.
    and_then (numbers_fit r.1) (λ _.
    and_then (inputs_fit settings r.1.inputs) (λ start. Ok (program_at program.end r.1 r.0 start))))))
