-- What the forms of the grammar read: the sort of each form, the values of each sort, and the forms with names.
use Rattle.std.specs.Prelude.{ℕ, List, Option}
use Rattle.qt_tree.specs.declared.place.Place.{Place}
use Rattle.qt_tree.specs.declared.expression.Expr.{Expr}
use Rattle.qt_tree.specs.declared.expression.Scalar.{Scalar}
use Rattle.qt_tree.specs.declared.expression.Index.{Index}
use Rattle.qt_tree.specs.declared.expression.Range.{Range}
use Rattle.qt_tree.specs.declared.statement.Operand.{Operand}
use Rattle.qt_tree.specs.declared.statement.Target.{Target}
use Rattle.qt_tree.specs.declared.statement.Right.{Right}
use Rattle.qt_tree.specs.declared.statement.Modifier.{Modifier}
use Rattle.qt_tree.specs.declared.statement.GateCall.{GateCall}
use Rattle.qt_tree.specs.declared.statement.Sequence.{Sequence}
use Rattle.qt_tree.specs.declared.statement.Statement.{Statement}
use Rattle.qt_tree.specs.declared.statement.StatementForm.{StatementForm}
use Rattle.qt_tree.specs.declared.program.Program.{Program}
use Rattle.qt_tree.specs.declared.program.Version.{Version}
use Rattle.qt_tree.specs.declared.program.VersionNumber.{VersionNumber}
use Rattle.qt_tree.specs.declared.program.Item.{Item}
use Rattle.qt_tree.specs.declared.program.ListItem.{ListItem}
use Rattle.qt_tree.specs.declared.program.GateStatement.{GateStatement}
use Rattle.qt_tree.specs.declared.program.GateForm.{GateForm}
use Rattle.qt_tree.specs.declared.program.Parameter.{Parameter}
use Rattle.qt_terminals.specs.Terminals.{PlacedTerminal}

-- what a form reads. Where a form is a tail, whose tree needs what stands before it, it reads a function of that
pub data Sort : Type 0 where
  token : Sort
  place : Sort
  nothing : Sort
  label : Sort
  expr : Sort
  scalar : Sort
  index : Sort
  range : Sort
  operand : Sort
  target : Sort
  right : Sort
  modifier : Sort
  call : Sort
  sequence : Sort
  form : Sort
  statement : Sort
  entry : Sort
  gate_form : Sort
  gate_line : Sort
  parameter : Sort
  item : Sort
  version_number : Sort
  version : Sort
  program : Sort
  -- behind a name in an expression
  name_tail : Sort
  -- behind the start of a range
  range_tail : Sort
  -- behind a target
  target_tail : Sort
  -- behind a name that begins a statement
  statement_tail : Sort
  -- behind the place of an item
  item_tail : Sort
  optional : Sort → Sort
  several : Sort → Sort
  both : Sort → Sort → Sort

abbrev pub Value : Sort → Type 0
Value token = PlacedTerminal
Value place = Place
Value nothing = Unit {0}
Value label = List ℕ
Value expr = Expr
Value scalar = Scalar
Value index = Index
Value range = Range
Value operand = Operand
Value target = Target
Value right = Right
Value modifier = Modifier
Value call = GateCall
Value sequence = Sequence
Value form = StatementForm
Value statement = Statement
Value entry = ListItem
Value gate_form = GateForm
Value gate_line = GateStatement
Value parameter = Parameter
Value item = Item
Value version_number = VersionNumber
Value version = Version
Value program = Program
Value name_tail = List ℕ → Expr
Value range_tail = Option Expr → Range
Value target_tail = Target → StatementForm
Value statement_tail = List ℕ → StatementForm
Value item_tail = Place → Item
Value (optional s) = Option (Value s)
Value (several s) = List (Value s)
Value (both s t) = Value s × Value t

-- the forms that have a name; each stands one level deeper than the form that names it
pub data Name : Type 0 where
  -- an expression in parentheses or brackets
  any : Name
  -- the operand of a unary operator, and the right side of `**`
  unary : Name
  -- the statements in the braces of a body
  block : Name
  -- the single statement that is a body
  single : Name
  -- what stands in the brackets of an operand, a target or a name
  an_index : Name
  -- what stands in the brackets of a `for`
  a_range : Name
  -- what stands in the braces of a set
  a_set : Name
  -- what stands in the braces of an array's value
  an_entry : Name
  -- what stands in the parentheses of `sizeof`
  in_sizeof : Name
  -- what stands in the brackets of an array
  in_array : Name
  -- what stands in the parentheses of a subroutine
  parameters : Name
  -- what stands in the braces of a gate
  gate_block : Name

abbrev pub sort : Name → Sort
sort any = expr
sort unary = expr
sort block = several statement
sort single = several statement
sort an_index = index
sort a_range = range
sort a_set = several expr
sort an_entry = several entry
sort in_sizeof = both label (optional expr)
sort in_array = both scalar (several expr)
sort parameters = several parameter
sort gate_block = several gate_line
