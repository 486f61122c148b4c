-- The lines of each form of a statement: the steps of the definition, read at the forms.
use Rattle.std.proofs.Common.{◌≡◌, List, map, Option, Some, None, codes, ap, sym, ◌∙◌}
use Rattle.qt_tree.specs.declared.expression.CompoundOperator.{CompoundOperator}
use Rattle.qt_tree.specs.declared.expression.Expr.{Expr}
use Rattle.qt_tree.specs.declared.expression.Scalar.{Scalar}
use Rattle.qt_tree.specs.declared.label.Label.{Label}
use Rattle.qt_tree.specs.declared.statement.Operand.{Operand}
use Rattle.qt_tree.specs.declared.statement.Target.{Target}
use Rattle.qt_tree.specs.declared.statement.Right.{Right}
use Rattle.qt_tree.specs.declared.statement.GateCall.{GateCall}
use Rattle.qt_tree.specs.declared.statement.Sequence.{Sequence}
use Rattle.qt_tree.specs.declared.statement.Statement.{Statement}
use Rattle.qt_tree.specs.declared.statement.StatementForm.{StatementForm, roll-StatementForm}
use Rattle.qt_tree.specs.declared.statement.StatementForm.TheVariants as s
use Rattle.qt_tree.specs.declared.statement.StatementForm.TheOpen as o
use Rattle.qt_tree.specs.declared.statement.StatementForm.TheFolds.{fold-roll-StatementForm, map-StatementForm}
use Rattle.qt_print.specs.Statements.{Line, sentence, block, two_blocks, form_step, statement_step, form_lines, statement_lines, declaration_lexemes, register_lexemes, constant_lexemes, alias_lexemes, assignment_lexemes, compound_lexemes, measurement_lexemes, reset_lexemes, barrier_lexemes, call_lexemes, subroutine_lexemes, condition_lexemes, for_lexemes, single_lexemes, return_lexemes}

-- the lines of one layer, where the forms in it are the trees
abbrev pub lined : o.StatementForm-F StatementForm Statement → o.StatementForm-F (List Line) (List Line)
lined = map-StatementForm StatementForm Statement (List Line) (List Line) form_lines statement_lines

pub form_rolls : (layer : o.StatementForm-F StatementForm Statement) → form_lines (roll-StatementForm layer) ≡ form_step (lined layer)
form_rolls = fold-roll-StatementForm (List Line) (List Line) form_step statement_step

pub declaration_lines : (scalar : Scalar) (text : Label) (value : Option Right) → form_lines (s.Declaration scalar text value) ≡ sentence (declaration_lexemes scalar text value)
declaration_lines scalar text value = ap form_lines (sym (s.rolls-Declaration scalar text value)) ∙ form_rolls (o.Declaration scalar text value)

pub register_lines : (text : Label) (size : Option Expr) → form_lines (s.BitRegister text size) ≡ sentence (register_lexemes (codes "creg") text size)
register_lines text size = ap form_lines (sym (s.rolls-BitRegister text size)) ∙ form_rolls (o.BitRegister text size)

pub constant_lines : (scalar : Scalar) (text : Label) (value : Expr) → form_lines (s.Constant scalar text value) ≡ sentence (constant_lexemes scalar text value)
constant_lines scalar text value = ap form_lines (sym (s.rolls-Constant scalar text value)) ∙ form_rolls (o.Constant scalar text value)

pub alias_lines : (text : Label) (parts : List Operand) → form_lines (s.Alias text parts) ≡ sentence (alias_lexemes text parts)
alias_lines text parts = ap form_lines (sym (s.rolls-Alias text parts)) ∙ form_rolls (o.Alias text parts)

pub assignment_lines : (target : Target) (value : Right) → form_lines (s.Assignment target value) ≡ sentence (assignment_lexemes target value)
assignment_lines target value = ap form_lines (sym (s.rolls-Assignment target value)) ∙ form_rolls (o.Assignment target value)

pub compound_lines : (target : Target) (op : CompoundOperator) (value : Expr) → form_lines (s.CompoundAssignment target op value) ≡ sentence (compound_lexemes target op value)
compound_lines target op value = ap form_lines (sym (s.rolls-CompoundAssignment target op value)) ∙ form_rolls (o.CompoundAssignment target op value)

pub measurement_lines : (qubits : Operand) (target : Option Target) → form_lines (s.Measure qubits target) ≡ sentence (measurement_lexemes qubits target)
measurement_lines qubits target = ap form_lines (sym (s.rolls-Measure qubits target)) ∙ form_rolls (o.Measure qubits target)

pub reset_lines : (qubits : Operand) → form_lines (s.Reset qubits) ≡ sentence (reset_lexemes qubits)
reset_lines qubits = ap form_lines (sym (s.rolls-Reset qubits)) ∙ form_rolls (o.Reset qubits)

pub barrier_lines : (qubits : List Operand) → form_lines (s.Barrier qubits) ≡ sentence (barrier_lexemes qubits)
barrier_lines qubits = ap form_lines (sym (s.rolls-Barrier qubits)) ∙ form_rolls (o.Barrier qubits)

pub gate_lines : (call : GateCall) → form_lines (s.Gate call) ≡ sentence (call_lexemes call)
gate_lines call = ap form_lines (sym (s.rolls-Gate call)) ∙ form_rolls (o.Gate call)

pub subroutine_lines : (text : Label) (arguments : List Expr) → form_lines (s.Call text arguments) ≡ sentence (subroutine_lexemes text arguments)
subroutine_lines text arguments = ap form_lines (sym (s.rolls-Call text arguments)) ∙ form_rolls (o.Call text arguments)

pub break_lines : form_lines s.Break ≡ sentence (single_lexemes (codes "break"))
break_lines = ap form_lines (sym s.rolls-Break) ∙ form_rolls o.Break

pub continue_lines : form_lines s.Continue ≡ sentence (single_lexemes (codes "continue"))
continue_lines = ap form_lines (sym s.rolls-Continue) ∙ form_rolls o.Continue

pub return_lines : (value : Option Right) → form_lines (s.Return value) ≡ sentence (return_lexemes value)
return_lines value = ap form_lines (sym (s.rolls-Return value)) ∙ form_rolls (o.Return value)

pub end_lines : form_lines s.End ≡ sentence (single_lexemes (codes "end"))
end_lines = ap form_lines (sym s.rolls-End) ∙ form_rolls o.End

pub while_lines : (condition : Expr) (body : List Statement) → form_lines (s.While condition body) ≡ block (condition_lexemes (codes "while") condition) (map statement_lines body)
while_lines condition body = ap form_lines (sym (s.rolls-While condition body)) ∙ form_rolls (o.While condition body)

pub for_lines : (scalar : Scalar) (text : Label) (values : Sequence) (body : List Statement) → form_lines (s.For scalar text values body) ≡ block (for_lexemes scalar text values) (map statement_lines body)
for_lines scalar text values body = ap form_lines (sym (s.rolls-For scalar text values body)) ∙ form_rolls (o.For scalar text values body)

pub if_lines : (condition : Expr) (body : List Statement) → form_lines (s.If condition body None) ≡ block (condition_lexemes (codes "if") condition) (map statement_lines body)
if_lines condition body = ap form_lines (sym (s.rolls-If condition body None)) ∙ form_rolls (o.If condition body None)

pub if_else_lines : (condition : Expr) (body other : List Statement) → form_lines (s.If condition body (Some other)) ≡ two_blocks (condition_lexemes (codes "if") condition) (map statement_lines body) (map statement_lines other)
if_else_lines condition body other = ap form_lines (sym (s.rolls-If condition body (Some other))) ∙ form_rolls (o.If condition body (Some other))
