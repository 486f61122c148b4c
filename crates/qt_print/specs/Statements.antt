-- The lines of statements, in the order of the grammar: one statement a line, and each body in braces. OpenQASM 3.0 live
-- specification, "Types and Casting", "Gates", "Built-in quantum instructions" and "Classical instructions".
use Rattle.std.specs.Prelude.{ℕ, ◌+◌, List, [], ◌∷◌, ◌++◌, map, Option, Some, None, codes}
use Rattle.qt_tree.specs.declared.expression.Expr.{Expr}
use Rattle.qt_tree.specs.declared.expression.CompoundOperator.{CompoundOperator}
use Rattle.qt_tree.specs.declared.expression.Scalar.{Scalar}
use Rattle.qt_tree.specs.declared.statement.Operand.{Operand}
use Rattle.qt_tree.specs.declared.statement.Target.{Target}
use Rattle.qt_tree.specs.declared.statement.Right.{Right}
use Rattle.qt_tree.specs.declared.statement.Right.TheVariants as right
use Rattle.qt_tree.specs.declared.statement.Modifier.{Modifier}
use Rattle.qt_tree.specs.declared.statement.Modifier.TheVariants as modifier
use Rattle.qt_tree.specs.declared.statement.CalledGate.{CalledGate}
use Rattle.qt_tree.specs.declared.statement.CalledGate.TheVariants as called
use Rattle.qt_tree.specs.declared.statement.GateCall.{GateCall}
use Rattle.qt_tree.specs.declared.statement.Sequence.{Sequence}
use Rattle.qt_tree.specs.declared.statement.Sequence.TheVariants as sequence
use Rattle.qt_tree.specs.declared.statement.Statement.{Statement}
use Rattle.qt_tree.specs.declared.statement.StatementForm.{StatementForm}
use Rattle.qt_tree.specs.declared.statement.StatementForm.TheOpen as s
use Rattle.qt_tree.specs.declared.statement.StatementForm.TheOpen.{StatementForm-F, Statement-F}
use Rattle.qt_tree.specs.declared.statement.StatementForm.TheFolds.{fold-StatementForm, fold-Statement}
use Rattle.qt_lexemes.specs.declared.role.Role.TheVariants as r
use Rattle.qt_lexemes.specs.Lexemes.{Lexeme, lexeme, name, keyword, operator, comma, semicolon}
use Rattle.qt_lexemes.specs.Lexemes.{parenthesized, bracketed, braced, separated, joined, optional}
use Rattle.qt_lexemes.specs.Operators.{compound_text}
use Rattle.qt_print.specs.Expressions.{expr_lexemes, index_lexemes, scalar_lexemes, range_lexemes}
use Rattle.qt_print.specs.Expressions.{list_lexemes, size_lexemes, brackets_lexemes}

-- a line: in how many bodies of what is printed it stands, and its lexemes
pub record Line : Type 0 where
  pub depth : ℕ
  pub lexemes : List Lexeme

abbrev pub line : List Lexeme → List Line
line lexemes = record { depth = 0; lexemes = lexemes } ∷ []

abbrev pub indented : List Line → List Line
indented [] = []
indented (first ∷ rest) = record { depth = first.depth + 1; lexemes = first.lexemes } ∷ indented rest

abbrev pub all_lines : List (List Line) → List Line
all_lines [] = []
all_lines (part ∷ parts) = part ++ all_lines parts

-- a statement on a line of its own
abbrev pub sentence : List Lexeme → List Line
sentence lexemes = line (lexemes ++ semicolon ∷ [])

abbrev pub body_start : Lexeme
body_start = lexeme r.BodyStart (codes "{")

abbrev pub body_end : Lexeme
body_end = lexeme r.BodyEnd (codes "}")

abbrev pub else_lexeme : Lexeme
else_lexeme = lexeme r.Else (codes "else")

-- a body: its `{` ends the head's line, and its `}` has a line of its own
abbrev pub block : List Lexeme → List (List Line) → List Line
block head body = line (head ++ body_start ∷ []) ++ (indented (all_lines body) ++ line (body_end ∷ []))

-- `} else {` stands on one line
abbrev pub two_blocks : List Lexeme → List (List Line) → List (List Line) → List Line
two_blocks head body other =
    line (head ++ body_start ∷ [])
    ++ (indented (all_lines body) ++ block (body_end ∷ else_lexeme ∷ []) other)

abbrev pub operand_lexemes : Operand → List Lexeme
operand_lexemes operand = name operand.name ∷ optional (λ index. bracketed (index_lexemes index)) operand.index

abbrev pub operands_lexemes : List Operand → List Lexeme
operands_lexemes operands = separated comma (map operand_lexemes operands)

abbrev pub target_lexemes : Target → List Lexeme
target_lexemes target = name target.name ∷ brackets_lexemes target.brackets

abbrev pub right_lexemes : Right → List Lexeme
right_lexemes (right.Measure qubits) = keyword (codes "measure") ∷ operand_lexemes qubits
right_lexemes (right.Value value) = expr_lexemes value

abbrev pub assigned : Right → List Lexeme
assigned value = operator (codes "=") ∷ right_lexemes value

abbrev pub count_lexemes : Option Expr → List Lexeme
count_lexemes = optional (λ count. parenthesized (expr_lexemes count))

abbrev pub modifier_lexemes : Modifier → List Lexeme
modifier_lexemes modifier.Inv = keyword (codes "inv") ∷ []
modifier_lexemes (modifier.Pow exponent) = keyword (codes "pow") ∷ parenthesized (expr_lexemes exponent)
modifier_lexemes (modifier.Ctrl count) = keyword (codes "ctrl") ∷ count_lexemes count
modifier_lexemes (modifier.NegCtrl count) = keyword (codes "negctrl") ∷ count_lexemes count

abbrev pub modifying : Modifier → List Lexeme
modifying it = modifier_lexemes it ++ operator (codes "@") ∷ []

abbrev pub gate_lexemes : CalledGate → List Lexeme
gate_lexemes (called.Named text arguments) = name text ∷ optional (λ all. parenthesized (list_lexemes all)) arguments
gate_lexemes (called.GlobalPhase angle) = keyword (codes "gphase") ∷ parenthesized (expr_lexemes angle)

abbrev pub call_lexemes : GateCall → List Lexeme
call_lexemes call = joined (map modifying call.modifiers) ++ (gate_lexemes call.gate ++ operands_lexemes call.operands)

abbrev pub sequence_lexemes : Sequence → List Lexeme
sequence_lexemes (sequence.Range range) = bracketed (range_lexemes range)
sequence_lexemes (sequence.Set members) = braced (list_lexemes members)
sequence_lexemes (sequence.Name text) = name text ∷ []

abbrev pub stored : Target → List Lexeme
stored target = operator (codes "->") ∷ target_lexemes target

abbrev pub declaration_lexemes : Scalar → List ℕ → Option Right → List Lexeme
declaration_lexemes scalar text value = scalar_lexemes scalar ++ name text ∷ optional assigned value

abbrev pub register_lexemes : List ℕ → List ℕ → Option Expr → List Lexeme
register_lexemes head text size = keyword head ∷ name text ∷ size_lexemes size

abbrev pub named_value : List ℕ → Expr → List Lexeme
named_value text value = name text ∷ operator (codes "=") ∷ expr_lexemes value

abbrev pub constant_lexemes : Scalar → List ℕ → Expr → List Lexeme
constant_lexemes scalar text value = keyword (codes "const") ∷ (scalar_lexemes scalar ++ named_value text value)

abbrev pub plus_plus : Lexeme
plus_plus = operator (codes "++")

abbrev pub parts_lexemes : List Operand → List Lexeme
parts_lexemes parts = separated plus_plus (map operand_lexemes parts)

abbrev pub named_parts : List ℕ → List Operand → List Lexeme
named_parts text parts = name text ∷ operator (codes "=") ∷ parts_lexemes parts

abbrev pub alias_lexemes : List ℕ → List Operand → List Lexeme
alias_lexemes text parts = keyword (codes "let") ∷ named_parts text parts

abbrev pub assignment_lexemes : Target → Right → List Lexeme
assignment_lexemes target value = target_lexemes target ++ assigned value

abbrev pub compound_lexemes : Target → CompoundOperator → Expr → List Lexeme
compound_lexemes target op value = target_lexemes target ++ operator (compound_text op) ∷ expr_lexemes value

abbrev pub measurement_lexemes : Operand → Option Target → List Lexeme
measurement_lexemes qubits target = keyword (codes "measure") ∷ (operand_lexemes qubits ++ optional stored target)

abbrev pub reset_lexemes : Operand → List Lexeme
reset_lexemes qubits = keyword (codes "reset") ∷ operand_lexemes qubits

abbrev pub barrier_lexemes : List Operand → List Lexeme
barrier_lexemes qubits = keyword (codes "barrier") ∷ operands_lexemes qubits

abbrev pub subroutine_lexemes : List ℕ → List Expr → List Lexeme
subroutine_lexemes text arguments = name text ∷ parenthesized (list_lexemes arguments)

-- `break`, `continue` and `end`
abbrev pub single_lexemes : List ℕ → List Lexeme
single_lexemes head = keyword head ∷ []

abbrev pub return_lexemes : Option Right → List Lexeme
return_lexemes value = keyword (codes "return") ∷ optional right_lexemes value

abbrev pub condition_lexemes : List ℕ → Expr → List Lexeme
condition_lexemes head condition = lexeme r.Head head ∷ parenthesized (expr_lexemes condition)

abbrev pub name_in : List ℕ → Sequence → List Lexeme
name_in text values = name text ∷ lexeme r.In (codes "in") ∷ sequence_lexemes values

abbrev pub for_lexemes : Scalar → List ℕ → Sequence → List Lexeme
for_lexemes scalar text values = lexeme r.Head (codes "for") ∷ (scalar_lexemes scalar ++ name_in text values)

-- each layer of the tree, where the statements of bodies are their lines already
abbrev pub form_step : StatementForm-F (List Line) (List Line) → List Line
form_step (s.Declaration scalar text value) = sentence (declaration_lexemes scalar text value)
form_step (s.BitRegister text size) = sentence (register_lexemes (codes "creg") text size)
form_step (s.Constant scalar text value) = sentence (constant_lexemes scalar text value)
form_step (s.Alias text parts) = sentence (alias_lexemes text parts)
form_step (s.Assignment target value) = sentence (assignment_lexemes target value)
form_step (s.CompoundAssignment target op value) = sentence (compound_lexemes target op value)
form_step (s.Measure qubits target) = sentence (measurement_lexemes qubits target)
form_step (s.Reset qubits) = sentence (reset_lexemes qubits)
form_step (s.Barrier qubits) = sentence (barrier_lexemes qubits)
form_step (s.Gate call) = sentence (call_lexemes call)
form_step (s.Call text arguments) = sentence (subroutine_lexemes text arguments)
form_step (s.If condition body None) = block (condition_lexemes (codes "if") condition) body
form_step (s.If condition body (Some otherwise)) = two_blocks (condition_lexemes (codes "if") condition) body otherwise
form_step (s.While condition body) = block (condition_lexemes (codes "while") condition) body
form_step (s.For scalar text values body) = block (for_lexemes scalar text values) body
form_step s.Break = sentence (single_lexemes (codes "break"))
form_step s.Continue = sentence (single_lexemes (codes "continue"))
form_step (s.Return value) = sentence (return_lexemes value)
form_step s.End = sentence (single_lexemes (codes "end"))

abbrev pub statement_step : Statement-F (List Line) (List Line) → List Line
statement_step statement = statement.form

abbrev pub form_lines : StatementForm → List Line
form_lines = fold-StatementForm (List Line) (List Line) form_step statement_step

abbrev pub statement_lines : Statement → List Line
statement_lines = fold-Statement (List Line) (List Line) form_step statement_step
