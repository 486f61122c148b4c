-- When two programs are the same but for their places: with each place put to the beginning of a text, they are equal.
use Rattle.std.specs.Prelude.{◌≡◌, map}
use Rattle.qt_tree.specs.declared.place.Place.{Place}
use Rattle.qt_tree.specs.declared.statement.Statement.{Statement}
use Rattle.qt_tree.specs.declared.statement.StatementForm.{StatementForm, roll-StatementForm}
use Rattle.qt_tree.specs.declared.statement.StatementForm.TheOpen.{Statement-F}
use Rattle.qt_tree.specs.declared.statement.StatementForm.TheFolds.{fold-StatementForm, fold-Statement}
use Rattle.qt_tree.specs.declared.program.Program.{Program}
use Rattle.qt_tree.specs.declared.program.Version.{Version}
use Rattle.qt_tree.specs.declared.program.Item.{Item}
use Rattle.qt_tree.specs.declared.program.Item.TheVariants as i
use Rattle.qt_tree.specs.declared.program.GateStatement.{GateStatement}

abbrev pub origin : Place
origin = record { file = 0; line = 1; column = 1 }

abbrev pub bare_step : Statement-F StatementForm Statement → Statement
bare_step statement = record { place = origin; form = statement.form }

-- a statement, and a statement's form, without places
abbrev pub bare_statement : Statement → Statement
bare_statement = fold-Statement StatementForm Statement roll-StatementForm bare_step

abbrev pub bare_form : StatementForm → StatementForm
bare_form = fold-StatementForm StatementForm Statement roll-StatementForm bare_step

abbrev pub bare_gate_statement : GateStatement → GateStatement
bare_gate_statement statement = record { place = origin; form = statement.form }

abbrev pub bare_item : Item → Item
bare_item (i.Include place name) = i.Include origin name
bare_item (i.Input place scalar name) = i.Input origin scalar name
bare_item (i.Output place scalar name) = i.Output origin scalar name
bare_item (i.Qubit place size name) = i.Qubit origin size name
bare_item (i.QubitRegister place name size) = i.QubitRegister origin name size
bare_item (i.Array array) =
    i.Array (record { place = origin; scalar = array.scalar; dimensions = array.dimensions; name = array.name; value = array.value })
bare_item (i.Gate gate) = i.Gate (record {
  place = origin;
  name = gate.name;
  parameters = gate.parameters;
  qubits = gate.qubits;
  body = map bare_gate_statement gate.body;
})
bare_item (i.Definition definition) =
    i.Definition (record {
      place = origin;
      name = definition.name;
      parameters = definition.parameters;
      result = definition.result;
      body = map bare_statement definition.body;
    })
bare_item (i.Statement statement) = i.Statement (bare_statement statement)

abbrev pub bare_version : Version → Version
bare_version version = record { place = origin; number = version.number }

abbrev pub bare : Program → Program
bare program = record { versions = map bare_version program.versions; items = map bare_item program.items; end = origin }

abbrev pub SameButPlaces : Program → Program → Type 0
SameButPlaces p q = bare p ≡ bare q
