-- How many tokens stand in a statement without its bodies (OpenQASM 3.0 live specification, "Classical instructions"; the size of a
-- program, which counts them, is this profile's).
use Rattle.std.specs.Prelude.{ℕ, ◌+◌, List, [], ◌∷◌, map, Option, Some, None}
use Rattle.qt_tree.specs.declared.expression.Expr.{Expr}
use Rattle.qt_tree.specs.declared.expression.Expr.TheOpen as e
use Rattle.qt_tree.specs.declared.expression.Expr.TheOpen.{Expr-F, Index-F, Scalar-F, Range-F}
use Rattle.qt_tree.specs.declared.expression.Expr.TheFolds.{fold-Expr, fold-Index, fold-Scalar, fold-Range}
use Rattle.qt_tree.specs.declared.expression.Index.{Index}
use Rattle.qt_tree.specs.declared.expression.Range.{Range}
use Rattle.qt_tree.specs.declared.expression.Scalar.{Scalar}
use Rattle.qt_tree.specs.declared.program.ArrayItem.{ArrayItem}
use Rattle.qt_tree.specs.declared.program.ListItem.{ListItem, Row_of-ListItem, end_of-ListItem, more_of-ListItem}
use Rattle.qt_tree.specs.declared.program.ListItem.TheVariants.{List', Value}
use Rattle.qt_tree.specs.declared.statement.CalledGate.{CalledGate}
use Rattle.qt_tree.specs.declared.statement.CalledGate.TheVariants as gate
use Rattle.qt_tree.specs.declared.statement.GateCall.{GateCall}
use Rattle.qt_tree.specs.declared.statement.Modifier.{Modifier}
use Rattle.qt_tree.specs.declared.statement.Modifier.TheVariants as modifier
use Rattle.qt_tree.specs.declared.statement.Operand.{Operand}
use Rattle.qt_tree.specs.declared.statement.Right.{Right}
use Rattle.qt_tree.specs.declared.statement.Right.TheVariants as right
use Rattle.qt_tree.specs.declared.statement.Sequence.{Sequence}
use Rattle.qt_tree.specs.declared.statement.Sequence.TheVariants as over
use Rattle.qt_tree.specs.declared.statement.StatementForm.TheOpen as s
use Rattle.qt_tree.specs.declared.statement.StatementForm.TheOpen.{StatementForm-F}
use Rattle.qt_tree.specs.declared.statement.Target.{Target}

-- ---- lists with commas, and parts that may be left out

abbrev pub more : List ℕ → ℕ
more [] = 0
more (n ∷ rest) = 1 + n + more rest

abbrev pub separated : List ℕ → ℕ
separated [] = 0
separated (n ∷ rest) = n + more rest

abbrev pub in_all : List ℕ → ℕ
in_all [] = 0
in_all (n ∷ rest) = n + in_all rest

-- a part with so many tokens around it
abbrev pub optional : ℕ → Option ℕ → ℕ
optional around None = 0
optional around (Some n) = around + n

-- ---- expressions

abbrev pub brackets_tokens : List (List ℕ) → ℕ
brackets_tokens [] = 0
brackets_tokens (indexes ∷ rest) = 2 + separated indexes + brackets_tokens rest

abbrev pub expr_step : Expr-F ℕ ℕ ℕ ℕ → ℕ
expr_step (e.Parenthesized inner) = 2 + inner
expr_step (e.Name name brackets) = 1 + brackets_tokens brackets
expr_step (e.Call name arguments) = 3 + separated arguments
expr_step (e.Cast to operand) = to + 2 + operand
expr_step (e.SizeOf name dimension) = 4 + optional 1 dimension
expr_step (e.Unary operator operand) = 1 + operand
expr_step (e.Binary operator left right) = left + 1 + right
expr_step _ = 1

abbrev pub index_step : Index-F ℕ ℕ ℕ ℕ → ℕ
index_step (e.At place) = place
index_step (e.Range range) = range
index_step (e.Set places) = 2 + separated places

abbrev pub scalar_step : Scalar-F ℕ ℕ ℕ ℕ → ℕ
scalar_step e.Scalar::Bool = 1
scalar_step (e.Bit size) = 1 + optional 2 size
scalar_step (e.Int size) = 1 + optional 2 size
scalar_step (e.Uint size) = 1 + optional 2 size
scalar_step (e.Angle size) = 1 + optional 2 size

abbrev pub range_step : Range-F ℕ ℕ ℕ ℕ → ℕ
range_step range = optional 0 range.start + 1 + optional 1 range.step + optional 0 range.end

abbrev pub expr_tokens : Expr → ℕ
expr_tokens = fold-Expr ℕ ℕ ℕ ℕ expr_step index_step scalar_step range_step

abbrev pub index_tokens : Index → ℕ
index_tokens = fold-Index ℕ ℕ ℕ ℕ expr_step index_step scalar_step range_step

abbrev pub scalar_tokens : Scalar → ℕ
scalar_tokens = fold-Scalar ℕ ℕ ℕ ℕ expr_step index_step scalar_step range_step

abbrev pub range_tokens : Range → ℕ
range_tokens = fold-Range ℕ ℕ ℕ ℕ expr_step index_step scalar_step range_step

abbrev pub exprs_tokens : List Expr → ℕ
exprs_tokens exprs = separated (map expr_tokens exprs)

abbrev pub optional_expr : ℕ → Option Expr → ℕ
optional_expr around None = 0
optional_expr around (Some expr) = around + expr_tokens expr

-- ---- parts of statements

abbrev pub operand_tokens : Operand → ℕ
operand_tokens operand = 1 + bracketed operand.index where
  bracketed : Option Index → ℕ
  bracketed None = 0
  bracketed (Some index) = 2 + index_tokens index

abbrev pub target_tokens : Target → ℕ
target_tokens target = 1 + brackets_tokens (map (map index_tokens) target.brackets)

abbrev pub right_tokens : Right → ℕ
right_tokens (right.Measure qubits) = 1 + operand_tokens qubits
right_tokens (right.Value value) = expr_tokens value

abbrev pub optional_right : ℕ → Option Right → ℕ
optional_right around None = 0
optional_right around (Some value) = around + right_tokens value

abbrev pub optional_target : Option Target → ℕ
optional_target None = 0
optional_target (Some target) = 1 + target_tokens target

abbrev pub modifier_tokens : Modifier → ℕ
modifier_tokens modifier.Inv = 2
modifier_tokens (modifier.Pow exponent) = 4 + expr_tokens exponent
modifier_tokens (modifier.Ctrl count) = 2 + optional_expr 2 count
modifier_tokens (modifier.NegCtrl count) = 2 + optional_expr 2 count

abbrev pub gate_tokens : CalledGate → ℕ
gate_tokens (gate.Named name None) = 1
gate_tokens (gate.Named name (Some arguments)) = 3 + exprs_tokens arguments
gate_tokens (gate.GlobalPhase angle) = 3 + expr_tokens angle

abbrev pub call_tokens : GateCall → ℕ
call_tokens call = in_all (map modifier_tokens call.modifiers) + gate_tokens call.gate + separated (map operand_tokens call.operands) + 1

abbrev pub sequence_tokens : Sequence → ℕ
sequence_tokens (over.Range range) = 2 + range_tokens range
sequence_tokens (over.Set members) = 2 + exprs_tokens members
sequence_tokens (over.Name name) = 1

abbrev pub else_tokens : {A : Type 0} → Option A → ℕ
else_tokens None = 0
else_tokens (Some body) = 1

-- ---- statements: those of their bodies don't count, nor do those of constants and aliases

abbrev pub statement_tokens : {A B : Type 0} → StatementForm-F A B → ℕ
statement_tokens (s.Declaration scalar name value) = scalar_tokens scalar + 2 + optional_right 1 value
statement_tokens (s.BitRegister name size) = 3 + optional_expr 2 size
statement_tokens (s.Constant scalar name value) = 0
statement_tokens (s.Alias name parts) = 0
statement_tokens (s.Assignment target value) = target_tokens target + 2 + right_tokens value
statement_tokens (s.CompoundAssignment target operator value) = target_tokens target + 2 + expr_tokens value
statement_tokens (s.Measure qubits target) = 2 + operand_tokens qubits + optional_target target
statement_tokens (s.Reset qubits) = 2 + operand_tokens qubits
statement_tokens (s.Barrier qubits) = 2 + separated (map operand_tokens qubits)
statement_tokens (s.Gate call) = call_tokens call
statement_tokens (s.Call name arguments) = 4 + exprs_tokens arguments
statement_tokens (s.If condition body otherwise) = 3 + expr_tokens condition + else_tokens otherwise
statement_tokens (s.While condition body) = 3 + expr_tokens condition
statement_tokens (s.For scalar name values body) = 3 + scalar_tokens scalar + sequence_tokens values
statement_tokens s.Break = 2
statement_tokens s.Continue = 2
statement_tokens (s.Return value) = 2 + optional_right 0 value
statement_tokens s.End = 2

-- ---- declarations of the whole program

abbrev mutual
  pub item_tokens : ListItem → ℕ
  item_tokens (Value expr) = expr_tokens expr
  item_tokens (List' k items) = 2 + row_tokens items

  pub row_tokens : {k : _} → Row_of-ListItem k → ℕ
  row_tokens end_of-ListItem = 0
  row_tokens (more_of-ListItem item end_of-ListItem) = item_tokens item
  row_tokens (more_of-ListItem item (more_of-ListItem next rest)) = item_tokens item + 1 + row_tokens (more_of-ListItem next rest)

abbrev pub list_tokens : Option (List ListItem) → ℕ
list_tokens None = 0
list_tokens (Some items) = 3 + separated (map item_tokens items)

abbrev pub array_tokens : Scalar → List Expr → Option (List ListItem) → ℕ
array_tokens scalar dimensions value = 5 + scalar_tokens scalar + more (map expr_tokens dimensions) + list_tokens value

-- `qubit q;` and `qreg q;`
abbrev pub qubit_tokens : Option Expr → ℕ
qubit_tokens size = 3 + optional_expr 2 size

-- `output bit c;`
abbrev pub io_tokens : Scalar → ℕ
io_tokens scalar = 3 + scalar_tokens scalar
