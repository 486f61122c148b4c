-- The lines of a program, in the order of the grammar. OpenQASM 3.0 live specification, "Version string", "Included files",
-- "Input/output", "Types and Casting", "Gates" and "Subroutines".
use Rattle.std.specs.Prelude.{ℕ, List, [], ◌∷◌, ◌++◌, map, Option, codes}
use Rattle.qt_tree.specs.declared.expression.Expr.{Expr}
use Rattle.qt_tree.specs.declared.expression.Scalar.{Scalar}
use Rattle.qt_tree.specs.declared.label.Label.{Label}
use Rattle.qt_tree.specs.declared.program.Program.{Program}
use Rattle.qt_tree.specs.declared.program.Version.{Version}
use Rattle.qt_tree.specs.declared.program.VersionNumber.{VersionNumber}
use Rattle.qt_tree.specs.declared.program.VersionNumber.TheVariants as version
use Rattle.qt_tree.specs.declared.program.Item.{Item}
use Rattle.qt_tree.specs.declared.program.Item.TheVariants as i
use Rattle.qt_tree.specs.declared.program.ArrayItem.{ArrayItem}
use Rattle.qt_tree.specs.declared.program.ListItem.{ListItem}
use Rattle.qt_tree.specs.declared.program.ListItem.TheOpen as l
use Rattle.qt_tree.specs.declared.program.ListItem.TheOpen.{ListItem-F}
use Rattle.qt_tree.specs.declared.program.ListItem.TheFolds.{fold-ListItem}
use Rattle.qt_tree.specs.declared.program.GateItem.{GateItem}
use Rattle.qt_tree.specs.declared.program.GateStatement.{GateStatement}
use Rattle.qt_tree.specs.declared.program.GateForm.{GateForm}
use Rattle.qt_tree.specs.declared.program.GateForm.TheVariants as g
use Rattle.qt_tree.specs.declared.program.Definition.{Definition}
use Rattle.qt_tree.specs.declared.program.Parameter.{Parameter}
use Rattle.qt_tree.specs.declared.program.Parameter.TheVariants as parameter
use Rattle.qt_lexemes.specs.declared.role.Role.TheVariants as r
use Rattle.qt_lexemes.specs.Lexemes.{Lexeme, lexeme, name, keyword, integer, quotation, operator, comma}
use Rattle.qt_lexemes.specs.Lexemes.{each_behind, parenthesized, bracketed, braced, separated, optional}
use Rattle.qt_print.specs.Expressions.{expr_lexemes, scalar_lexemes, size_lexemes}
use Rattle.qt_print.specs.Statements.{Line, sentence, block, all_lines, call_lexemes, register_lexemes, statement_lines}

abbrev pub number_lexeme : VersionNumber → Lexeme
number_lexeme (version.Integer value) = integer value
number_lexeme (version.Decimal text) = lexeme r.Decimal text

abbrev pub version_lines : Version → List Line
version_lines version = sentence (keyword (codes "OPENQASM") ∷ number_lexeme version.number ∷ [])

-- a keyword, a type and a name
abbrev pub typed : List ℕ → Scalar → List ℕ → List Line
typed head scalar text = sentence (keyword head ∷ (scalar_lexemes scalar ++ name text ∷ []))

abbrev pub list_step : ListItem-F (List Lexeme) → List Lexeme
list_step (l.List items) = braced (separated comma items)
list_step (l.Value value) = expr_lexemes value

abbrev pub item_lexemes : ListItem → List Lexeme
item_lexemes = fold-ListItem (List Lexeme) list_step

abbrev pub values_lexemes : List ListItem → List Lexeme
values_lexemes items = braced (separated comma (map item_lexemes items))

abbrev pub valued : List ListItem → List Lexeme
valued items = operator (codes "=") ∷ values_lexemes items

-- the type of an array's elements and its dimensions
abbrev pub shape_lexemes : Scalar → List Expr → List Lexeme
shape_lexemes scalar dimensions = bracketed (scalar_lexemes scalar ++ each_behind comma (map expr_lexemes dimensions))

abbrev pub array_lexemes : ArrayItem → List Lexeme
array_lexemes array =
    keyword (codes "array") ∷ (shape_lexemes array.scalar array.dimensions ++ name array.name ∷ optional valued array.value)

abbrev pub name_lexemes : List ℕ → List Lexeme
name_lexemes text = name text ∷ []

abbrev pub names_lexemes : List Label → List Lexeme
names_lexemes names = separated comma (map name_lexemes names)

abbrev pub parameters_lexemes : List Label → List Lexeme
parameters_lexemes names = parenthesized (names_lexemes names)

abbrev pub gate_barrier_lexemes : List Label → List Lexeme
gate_barrier_lexemes qubits = keyword (codes "barrier") ∷ names_lexemes qubits

abbrev pub gate_form_lexemes : GateForm → List Lexeme
gate_form_lexemes (g.Call call) = call_lexemes call
gate_form_lexemes (g.Barrier qubits) = gate_barrier_lexemes qubits

abbrev pub gate_statement_lines : GateStatement → List Line
gate_statement_lines statement = sentence (gate_form_lexemes statement.form)

abbrev pub gate_head : GateItem → List Lexeme
gate_head gate = keyword (codes "gate") ∷ name gate.name ∷ (optional parameters_lexemes gate.parameters ++ names_lexemes gate.qubits)

abbrev pub gate_lines : GateItem → List Line
gate_lines gate = block (gate_head gate) (map gate_statement_lines gate.body)

abbrev pub qubit_lexemes : Option Expr → List ℕ → List Lexeme
qubit_lexemes size text = keyword (codes "qubit") ∷ (size_lexemes size ++ name text ∷ [])

abbrev pub parameter_lexemes : Parameter → List Lexeme
parameter_lexemes (parameter.Classical scalar text) = scalar_lexemes scalar ++ name text ∷ []
parameter_lexemes (parameter.Qubits size text) = qubit_lexemes size text

abbrev pub result_lexemes : Scalar → List Lexeme
result_lexemes scalar = operator (codes "->") ∷ scalar_lexemes scalar

abbrev pub listed_parameters : List Parameter → List Lexeme
listed_parameters parameters = separated comma (map parameter_lexemes parameters)

abbrev pub all_parameters : List Parameter → List Lexeme
all_parameters parameters = parenthesized (listed_parameters parameters)

abbrev pub definition_head : Definition → List Lexeme
definition_head definition =
    keyword (codes "def") ∷ name definition.name ∷ (all_parameters definition.parameters ++ optional result_lexemes definition.result)

abbrev pub definition_lines : Definition → List Line
definition_lines definition = block (definition_head definition) (map statement_lines definition.body)

abbrev pub include_lines : List ℕ → List Line
include_lines text = sentence (keyword (codes "include") ∷ quotation text ∷ [])

abbrev pub qubit_register_lines : List ℕ → Option Expr → List Line
qubit_register_lines text size = sentence (register_lexemes (codes "qreg") text size)

abbrev pub item_lines : Item → List Line
item_lines (i.Include place text) = include_lines text
item_lines (i.Input place scalar text) = typed (codes "input") scalar text
item_lines (i.Output place scalar text) = typed (codes "output") scalar text
item_lines (i.Qubit place size text) = sentence (qubit_lexemes size text)
item_lines (i.QubitRegister place text size) = qubit_register_lines text size
item_lines (i.Array array) = sentence (array_lexemes array)
item_lines (i.Gate gate) = gate_lines gate
item_lines (i.Definition definition) = definition_lines definition
item_lines (i.Statement statement) = statement_lines statement

abbrev pub program_lines : Program → List Line
program_lines program = all_lines (map version_lines program.versions) ++ all_lines (map item_lines program.items)
