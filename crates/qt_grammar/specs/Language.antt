-- The grammar of the profile, a production a definition, in the order of the OpenQASM 3.0 live specification: "Types and Casting",
-- "Gates", "Built-in quantum instructions", "Classical instructions", "Subroutines", and the grammar in its appendix.
-- Productions that share their beginning are written as one, so that the next token decides at each place how to go on.
use Rattle.std.specs.Prelude.{ℕ, zero, suc, ◌%◌, ◌^◌, true, false, List, [], ◌∷◌, ◌++◌, Option, Some, None}
use Rattle.qt_tree.specs.declared.place.Place.{Place}
use Rattle.qt_tree.specs.declared.expression.InfixOperator.{InfixOperator}
use Rattle.qt_tree.specs.declared.expression.InfixOperator.TheVariants as b
use Rattle.qt_tree.specs.declared.expression.CompoundOperator.{CompoundOperator}
use Rattle.qt_tree.specs.declared.expression.CompoundOperator.TheVariants as compound
use Rattle.qt_tree.specs.declared.expression.PrefixOperator.{PrefixOperator}
use Rattle.qt_tree.specs.declared.expression.PrefixOperator.TheVariants as u
use Rattle.qt_tree.specs.declared.expression.Expr.{Expr}
use Rattle.qt_tree.specs.declared.expression.Expr.TheVariants as e
use Rattle.qt_tree.specs.declared.expression.Scalar.{Scalar}
use Rattle.qt_tree.specs.declared.expression.Scalar.TheVariants as t
use Rattle.qt_tree.specs.declared.expression.Index.{Index}
use Rattle.qt_tree.specs.declared.expression.Index.TheVariants as ix
use Rattle.qt_tree.specs.declared.expression.Range.{Range}
use Rattle.qt_tree.specs.declared.statement.Operand.{Operand}
use Rattle.qt_tree.specs.declared.statement.Right.TheVariants as r
use Rattle.qt_tree.specs.declared.statement.Modifier.{Modifier}
use Rattle.qt_tree.specs.declared.statement.Modifier.TheVariants as m
use Rattle.qt_tree.specs.declared.statement.CalledGate.TheVariants as g
use Rattle.qt_tree.specs.declared.statement.GateCall.{GateCall}
use Rattle.qt_tree.specs.declared.statement.Sequence.TheVariants as q
use Rattle.qt_tree.specs.declared.statement.StatementForm.{StatementForm}
use Rattle.qt_tree.specs.declared.statement.StatementForm.TheVariants as s
use Rattle.qt_tree.specs.declared.program.Version.{Version}
use Rattle.qt_tree.specs.declared.program.VersionNumber.TheVariants as v
use Rattle.qt_tree.specs.declared.program.Item.{Item}
use Rattle.qt_tree.specs.declared.program.Item.TheVariants as i
use Rattle.qt_tree.specs.declared.program.ListItem.TheVariants as l
use Rattle.qt_tree.specs.declared.program.GateForm.TheVariants as f
use Rattle.qt_tree.specs.declared.program.Parameter.TheVariants as p
use Rattle.qt_terminals.specs.declared.terminal.Terminal.{Terminal}
use Rattle.qt_terminals.specs.declared.terminal.Terminal.TheVariants as w
use Rattle.qt_terminals.specs.Alphabet.{code}
use Rattle.qt_terminals.specs.Terminals.{PlacedTerminal}
use Rattle.qt_terminals.specs.Literals.{integer_of, bits_of, bit_count, inside_quotes}
use Rattle.qt_grammar.specs.Sorts.{Sort, token, place, nothing, label, expr, scalar, index, range, operand, target, right, modifier, call, sequence, form, statement, entry, gate_form, gate_line, parameter, item, version_number, version, program, name_tail, range_tail, target_tail, statement_tail, item_tail, optional, several, both, Name, any, unary, block, single, an_index, a_range, a_set, an_entry, in_sizeof, in_array, parameters, gate_block, sort}
use Rattle.qt_grammar.specs.Form.{Form, one, operator, here, empty, as_tree, then_, either, maybe, nearest, chain, counted, named}

-- ---- how forms are joined

-- one after the other: both trees, the second, the first
infixr 9 ◌⊗◌
abbrev pub ◌⊗◌ : {s t : Sort} → Form s → Form t → Form (both s t)
◌⊗◌ {s} {t} f g = then_ {s = s} {t = t} {u = both s t} (λ x y. (x, y)) f g

infixr 9 ◌⊳◌
abbrev pub ◌⊳◌ : {s t : Sort} → Form s → Form t → Form t
◌⊳◌ {s} {t} f g = then_ {s = s} {t = t} {u = t} (λ x y. y) f g

infixr 9 ◌⊲◌
abbrev pub ◌⊲◌ : {s t : Sort} → Form s → Form t → Form s
◌⊲◌ {s} {t} f g = then_ {s = s} {t = t} {u = s} (λ x y. x) f g

infixr 8 ◌⊕◌
abbrev pub ◌⊕◌ : {s : Sort} → Form s → Form s → Form s
f ⊕ g = either f g

-- what a tail reads, of what stands before it
abbrev pub of_which : {A B : Type 0} → A → (A → B) → B
of_which x f = f x

abbrev pub exactly : Terminal → Form token
exactly k = one (code k ∷ [])

abbrev pub exactly_operator : Terminal → Form token
exactly_operator k = operator (code k ∷ [])

abbrev pub parens : {s : Sort} → Form s → Form s
parens f = exactly w.LeftParen ⊳ f ⊲ exactly w.RightParen

abbrev pub brackets : {s : Sort} → Form s → Form s
brackets f = exactly w.LeftBracket ⊳ f ⊲ exactly w.RightBracket

abbrev pub braces : {s : Sort} → Form s → Form s
braces f = exactly w.LeftBrace ⊳ f ⊲ exactly w.RightBrace

abbrev pub ended : {s : Sort} → Form s → Form s
ended f = f ⊲ exactly w.Semicolon

abbrev pub listed : {A : Type 0} → Option (List A) → List A
listed None = []
listed (Some xs) = xs

-- one or more, with commas between, with this sign between, with nothing between
abbrev pub separated : {s : Sort} → Terminal → Form s → Form (several s)
separated {s} k f = chain {s = s} {t = token} {u = several s} (λ x. x ∷ []) (λ xs c x. xs ++ x ∷ []) f (exactly k)

abbrev pub commas : {s : Sort} → Form s → Form (several s)
commas f = separated w.Comma f

abbrev pub some : {s : Sort} → Form s → Form (several s)
some {s} f = chain {s = s} {t = nothing} {u = several s} (λ x. x ∷ []) (λ xs c x. xs ++ x ∷ []) f (empty {s = nothing} tt)

-- a list, or nothing for the empty one
abbrev pub or_none : {s : Sort} → Form (several s) → Form (several s)
or_none {s} f = as_tree {s = optional (several s)} {t = several s} listed (maybe f)

-- Name
abbrev pub a_label : Form label
a_label = as_tree {s = token} {t = label} (λ k. k.spelling) (exactly w.Name)

-- names = Name { "," Name }
abbrev pub names : Form (several label)
names = commas a_label

-- ---- expressions

abbrev pub binary_op : Terminal → InfixOperator
binary_op w.OrOr = b.LogicalOr
binary_op w.AndAnd = b.LogicalAnd
binary_op w.Or = b.Or
binary_op w.Caret = b.Xor
binary_op w.And = b.And
binary_op w.EqualEqual = b.Eq
binary_op w.NotEqual = b.Ne
binary_op w.Less = b.Lt
binary_op w.LessEqual = b.Le
binary_op w.Greater = b.Gt
binary_op w.GreaterEqual = b.Ge
binary_op w.ShiftLeft = b.Shl
binary_op w.ShiftRight = b.Shr
binary_op w.Plus = b.Add
binary_op w.Minus = b.Sub
binary_op w.Star = b.Mul
binary_op w.Slash = b.Div
binary_op w.Percent = b.Rem
binary_op _ = b.Pow

abbrev pub unary_op : Terminal → PrefixOperator
unary_op w.Bang = u.Not
unary_op w.Tilde = u.Turn
unary_op _ = u.Neg

abbrev pub joined : Expr → PlacedTerminal → Expr → Expr
joined before k behind = e.Binary (binary_op k.terminal) before behind

abbrev pub powered : Expr → Option Expr → Expr
powered base None = base
powered base (Some exponent) = e.Binary b.Pow base exponent

abbrev pub signed : PlacedTerminal → Expr → Expr
signed k x = e.Unary (unary_op k.terminal) x

-- exprs = expr { "," expr }, each in parentheses or brackets
abbrev pub arguments : Form (several expr)
arguments = parens (or_none {s = expr} (commas {s = expr} (named any)))

-- "[" index { "," index } "]"
abbrev pub indexes : Form (several index)
indexes = brackets (commas {s = index} (named an_index))

-- { "[" index { "," index } "]" }, at least one
abbrev pub all_indexes : Form (several (several index))
all_indexes = some {s = several index} indexes

-- "[" expr "]"
abbrev pub size : Form expr
size = brackets {s = expr} (named any)

-- scalar = "bool" | ( "bit" | "int" | "uint" | "angle" ) [ "[" expr "]" ]
abbrev pub sized : Terminal → (Option Expr → Scalar) → Form scalar
sized k make = as_tree {s = optional expr} {t = scalar} make (exactly k ⊳ maybe size)

abbrev pub a_scalar : Form scalar
a_scalar = as_tree {s = token} {t = scalar} (λ k. t.Bool) (exactly w.Bool) ⊕ sized w.Bit t.Bit ⊕ sized w.Int t.Int ⊕ sized w.Uint t.Uint ⊕ sized w.Angle t.Angle

-- Integer | BitText | Constant | "true" | "false"
abbrev pub literal : Terminal → (List ℕ → Expr) → Form expr
literal k make = as_tree {s = token} {t = expr} (λ c. make c.spelling) (exactly k)

abbrev pub literals : Form expr
literals = literal w.Integer (λ c. e.Whole (integer_of c % 2 ^ 64)) ⊕ literal w.BitText (λ c. e.BitText (bits_of c) (bit_count c))
    ⊕ literal w.Pi (λ c. e.Pi) ⊕ literal w.Tau (λ c. e.Tau) ⊕ literal w.True (λ c. e.Bool true) ⊕ literal w.False (λ c. e.Bool false)

-- Name { "[" index { "," index } "]" } | Name "(" [ exprs ] ")"
abbrev pub name_alone : List ℕ → Option (List ℕ → Expr) → Expr
name_alone name None = e.Name name []
name_alone name (Some tail) = tail name

abbrev pub behind_name : Form name_tail
behind_name = as_tree {s = several expr} {t = name_tail} (λ xs name. e.Call name xs) arguments
    ⊕ as_tree {s = several (several index)} {t = name_tail} (λ xs name. e.Name name xs) all_indexes

abbrev pub name_expr : Form expr
name_expr = then_ {s = label} {t = optional name_tail} {u = expr} name_alone a_label (maybe behind_name)

-- scalar "(" expr ")"
abbrev pub cast : Form expr
cast = then_ {s = scalar} {t = expr} {u = expr} (λ to x. e.Cast to x) a_scalar (parens {s = expr} (named any))

-- "sizeof" "(" Name [ "," expr ] ")"
abbrev pub size_of : Form expr
size_of = as_tree {s = both label (optional expr)} {t = expr} (λ c. e.SizeOf c.0 c.1) (exactly w.SizeOf ⊳ parens {s = both label (optional expr)} (named in_sizeof))

abbrev pub parenthesized : Form expr
parenthesized = as_tree {s = expr} {t = expr} e.Parenthesized (parens {s = expr} (named any))

abbrev pub primary : Form expr
primary = literals ⊕ parenthesized ⊕ name_expr ⊕ cast ⊕ size_of

-- a unary operator and its operand, or a primary with its exponent if there is one
abbrev pub negated : Form expr
negated = then_ {s = token} {t = expr} {u = expr} signed (operator (code w.Minus ∷ code w.Bang ∷ code w.Tilde ∷ [])) (named unary)

abbrev pub power : Form expr
power = then_ {s = expr} {t = optional expr} {u = expr} powered primary (maybe {s = expr} (exactly_operator w.StarStar ⊳ named unary))

abbrev pub factor : Form expr
factor = negated ⊕ power

-- the operators of each level, from the weakest on
abbrev pub ops_at : ℕ → List ℕ
ops_at zero = code w.OrOr ∷ []
ops_at (suc zero) = code w.AndAnd ∷ []
ops_at (suc (suc zero)) = code w.Or ∷ []
ops_at (suc (suc (suc zero))) = code w.Caret ∷ []
ops_at (suc (suc (suc (suc zero)))) = code w.And ∷ []
ops_at (suc (suc (suc (suc (suc zero))))) = code w.EqualEqual ∷ code w.NotEqual ∷ []
ops_at (suc (suc (suc (suc (suc (suc zero)))))) = code w.Less ∷ code w.LessEqual ∷ code w.Greater ∷ code w.GreaterEqual ∷ []
ops_at (suc (suc (suc (suc (suc (suc (suc zero))))))) = code w.ShiftLeft ∷ code w.ShiftRight ∷ []
ops_at (suc (suc (suc (suc (suc (suc (suc (suc zero)))))))) = code w.Plus ∷ code w.Minus ∷ []
ops_at _ = code w.Star ∷ code w.Slash ∷ code w.Percent ∷ []

abbrev pub levels : List (List ℕ)
levels = ops_at 0 ∷ ops_at 1 ∷ ops_at 2 ∷ ops_at 3 ∷ ops_at 4 ∷ ops_at 5 ∷ ops_at 6 ∷ ops_at 7 ∷ ops_at 8 ∷ ops_at 9 ∷ []

-- operands of the next level with these operators between, grouped to the left
abbrev pub level : List ℕ → Form expr → Form expr
level ops next = chain {s = expr} {t = token} {u = expr} (λ x. x) joined next (operator ops)

abbrev pub tower : List (List ℕ) → Form expr
tower [] = factor
tower (ops ∷ more) = level ops (tower more)

-- expr
abbrev pub expression : Form expr
expression = counted (tower levels)

-- exprs
abbrev pub expressions : Form (several expr)
expressions = commas expression

-- range = [ expr ] ":" [ expr ] | [ expr ] ":" expr ":" [ expr ], from its colon on
abbrev pub range_of : Option (Expr × Option (Option Expr)) → Option Expr → Range
range_of None start = record { start = start; step = None; end = None }
range_of (Some (x, None)) start = record { start = start; step = None; end = Some x }
range_of (Some (x, Some last)) start = record { start = start; step = Some x; end = last }

abbrev pub behind_start : Form range_tail
behind_start = as_tree {s = optional (both expr (optional (optional expr)))} {t = range_tail} range_of
    (exactly w.Colon ⊳ maybe (expression ⊗ maybe (exactly w.Colon ⊳ maybe expression)))

abbrev pub range_form : Form range
range_form = as_tree {s = range_tail} {t = range} (λ tail. tail None) behind_start
    ⊕ then_ {s = expr} {t = range_tail} {u = range} (λ x tail. tail (Some x)) expression behind_start

-- index = expr | range | "{" exprs "}"
abbrev pub place_or_range : Expr → Option (Option Expr → Range) → Index
place_or_range x None = ix.At x
place_or_range x (Some tail) = ix.Range (tail (Some x))

abbrev pub set : Form (several expr)
set = braces {s = several expr} (named a_set)

abbrev pub index_form : Form index
index_form = as_tree {s = several expr} {t = index} ix.Set set
    ⊕ as_tree {s = range_tail} {t = index} (λ tail. ix.Range (tail None)) behind_start
    ⊕ then_ {s = expr} {t = optional range_tail} {u = index} place_or_range expression (maybe behind_start)

-- ---- operands, targets, gate calls

-- operand = Name [ "[" index "]" ]
abbrev pub an_operand : Form operand
an_operand = then_ {s = label} {t = optional index} {u = operand} (λ name at. record { name = name; index = at }) a_label (maybe (brackets {s = index} (named an_index)))

-- operands = operand { "," operand }
abbrev pub operands : Form (several operand)
operands = commas an_operand

-- target = Name { "[" index { "," index } "]" }
abbrev pub a_target : Form target
a_target = then_ {s = label} {t = several (several index)} {u = target} (λ name at. record { name = name; brackets = at }) a_label (or_none {s = several index} all_indexes)

-- "measure" operand
abbrev pub measured : Form operand
measured = exactly w.Measure ⊳ an_operand

-- right = "measure" operand | expr
abbrev pub a_right : Form right
a_right = as_tree {s = operand} {t = right} r.Measure measured ⊕ as_tree {s = expr} {t = right} r.Value expression

-- "=" right
abbrev pub first_value : Form right
first_value = exactly w.Assign ⊳ a_right

-- modifier = "inv" | "pow" "(" expr ")" | ( "ctrl" | "negctrl" ) [ "(" expr ")" ]
abbrev pub controls : Terminal → (Option Expr → Modifier) → Form modifier
controls k make = as_tree {s = optional expr} {t = modifier} make (exactly k ⊳ maybe (parens {s = expr} (named any)))

abbrev pub a_modifier : Form modifier
a_modifier = as_tree {s = token} {t = modifier} (λ k. m.Inv) (exactly w.Inv)
    ⊕ as_tree {s = expr} {t = modifier} m.Pow (exactly w.Pow ⊳ parens {s = expr} (named any))
    ⊕ controls w.Ctrl m.Ctrl ⊕ controls w.NegCtrl m.NegCtrl

-- "gphase" "(" expr ")" [ operands ]
abbrev pub phase_call : Form call
phase_call = as_tree {s = both expr (several operand)} {t = call} (λ c. record { modifiers = []; gate = g.GlobalPhase c.0; operands = c.1 })
    (exactly w.GPhase ⊳ parens {s = expr} (named any) ⊗ or_none {s = operand} operands)

-- Name [ "(" [ exprs ] ")" ] operands
abbrev pub named_call : Form call
named_call = as_tree {s = both label (both (optional (several expr)) (several operand))} {t = call} (λ c. record { modifiers = []; gate = g.Named c.0 c.1.0; operands = c.1.1 })
    (a_label ⊗ maybe arguments ⊗ operands)

-- { modifier "@" }, at least one, and the call
abbrev pub under : List Modifier → GateCall → GateCall
under ms c = record { modifiers = ms; gate = c.gate; operands = c.operands }

abbrev pub modified_call : Form call
modified_call = then_ {s = several modifier} {t = call} {u = call} under (some {s = modifier} (a_modifier ⊲ exactly w.At)) (phase_call ⊕ named_call)

-- gatecall, but for its semicolon
abbrev pub gate_call : Form call
gate_call = modified_call ⊕ phase_call ⊕ named_call

-- ---- statements

-- scalar Name [ "=" right ] ";"
abbrev pub declaration : Form form
declaration = as_tree {s = both scalar (both label (optional right))} {t = form} (λ c. s.Declaration c.0 c.1.0 c.1.1) (ended (a_scalar ⊗ a_label ⊗ maybe first_value))

-- "creg" Name [ "[" expr "]" ] ";"
abbrev pub bit_register : Form form
bit_register = as_tree {s = both label (optional expr)} {t = form} (λ c. s.BitRegister c.0 c.1) (ended (exactly w.Creg ⊳ a_label ⊗ maybe size))

-- "const" scalar Name "=" expr ";"
abbrev pub constant : Form form
constant = as_tree {s = both scalar (both label expr)} {t = form} (λ c. s.Constant c.0 c.1.0 c.1.1) (ended (exactly w.Const ⊳ a_scalar ⊗ a_label ⊗ (exactly w.Assign ⊳ expression)))

-- "let" Name "=" operand { "++" operand } ";"
abbrev pub alias : Form form
alias = as_tree {s = both label (several operand)} {t = form} (λ c. s.Alias c.0 c.1) (ended (exactly w.Let ⊳ a_label ⊗ (exactly w.Assign ⊳ separated w.PlusPlus an_operand)))

-- "=" right | compound expr, behind a target
abbrev pub compound_op : Terminal → CompoundOperator
compound_op w.PlusAssign = compound.Add
compound_op w.MinusAssign = compound.Sub
compound_op w.StarAssign = compound.Mul
compound_op w.SlashAssign = compound.Div
compound_op w.PercentAssign = compound.Rem
compound_op w.StarStarAssign = compound.Pow
compound_op w.AndAssign = compound.And
compound_op w.OrAssign = compound.Or
compound_op w.CaretAssign = compound.Xor
compound_op w.ShiftLeftAssign = compound.Shl
compound_op _ = compound.Shr

abbrev pub compounds : List ℕ
compounds = code w.PlusAssign ∷ code w.MinusAssign ∷ code w.StarAssign ∷ code w.SlashAssign ∷ code w.PercentAssign ∷ code w.StarStarAssign
    ∷ code w.AndAssign ∷ code w.OrAssign ∷ code w.CaretAssign ∷ code w.ShiftLeftAssign ∷ code w.ShiftRightAssign ∷ []

abbrev pub behind_target : Form target_tail
behind_target = as_tree {s = right} {t = target_tail} (λ x to. s.Assignment to x) first_value
    ⊕ then_ {s = token} {t = expr} {u = target_tail} (λ k x to. s.CompoundAssignment to (compound_op k.terminal) x) (one compounds) expression

-- Name "(" [ exprs ] ")" [ operands ]: a subroutine's call, or a gate's where operands follow
abbrev pub call_of : List Expr → Option (List Operand) → List ℕ → StatementForm
call_of xs None name = s.Call name xs
call_of xs (Some qs) name = s.Gate (record { modifiers = []; gate = g.Named name (Some xs); operands = qs })

-- what stands behind a name that begins a statement: an assignment, a call of a subroutine or of a gate
abbrev pub behind_first_name : Form statement_tail
behind_first_name = then_ {s = several (several index)} {t = target_tail} {u = statement_tail} (λ at tail name. tail (record { name = name; brackets = at })) all_indexes behind_target
    ⊕ as_tree {s = target_tail} {t = statement_tail} (λ tail name. tail (record { name = name; brackets = [] })) behind_target
    ⊕ then_ {s = several expr} {t = optional (several operand)} {u = statement_tail} call_of arguments (maybe operands)
    ⊕ as_tree {s = several operand} {t = statement_tail} (λ qs name. s.Gate (record { modifiers = []; gate = g.Named name None; operands = qs })) operands

abbrev pub by_name : Form form
by_name = then_ {s = label} {t = statement_tail} {u = form} of_which a_label (ended behind_first_name)

-- gatecall with a modifier, or of gphase
abbrev pub gate_statement : Form form
gate_statement = as_tree {s = call} {t = form} s.Gate (ended (modified_call ⊕ phase_call))

-- "measure" operand [ "->" target ] ";"
abbrev pub measurement : Form form
measurement = as_tree {s = both operand (optional target)} {t = form} (λ c. s.Measure c.0 c.1) (ended (measured ⊗ maybe (exactly w.Arrow ⊳ a_target)))

-- "reset" operand ";"
abbrev pub reset : Form form
reset = as_tree {s = operand} {t = form} s.Reset (ended (exactly w.Reset ⊳ an_operand))

-- "barrier" [ operands ] ";"
abbrev pub barrier : Form form
barrier = as_tree {s = several operand} {t = form} s.Barrier (ended (exactly w.Barrier ⊳ or_none {s = operand} operands))

-- block = "{" { statement } "}"
abbrev pub a_block : Form (several statement)
a_block = braces (or_none {s = statement} (named block))

-- body = block | statement
abbrev pub body : Form (several statement)
body = a_block ⊕ named single

-- "(" expr ")" behind `if` and `while`
abbrev pub condition : Form expr
condition = parens {s = expr} (named any)

-- "if" "(" expr ")" body [ "else" body ], where an `else` belongs to the nearest `if`
abbrev pub if_else : Form form
if_else = as_tree {s = both expr (both (several statement) (optional (several statement)))} {t = form} (λ c. s.If c.0 c.1.0 c.1.1)
    (exactly w.If ⊳ condition ⊗ body ⊗ nearest (code w.Else ∷ []) (exactly w.Else ⊳ body))

-- "while" "(" expr ")" body
abbrev pub while_loop : Form form
while_loop = as_tree {s = both expr (several statement)} {t = form} (λ c. s.While c.0 c.1) (exactly w.While ⊳ condition ⊗ body)

-- "[" range "]" | "{" exprs "}" | Name
abbrev pub a_sequence : Form sequence
a_sequence = as_tree {s = range} {t = sequence} q.Range (brackets {s = range} (named a_range))
    ⊕ as_tree {s = several expr} {t = sequence} q.Set set ⊕ as_tree {s = label} {t = sequence} q.Name a_label

-- "for" scalar Name "in" ( .. ) body
abbrev pub for_loop : Form form
for_loop = as_tree {s = both scalar (both label (both sequence (several statement)))} {t = form} (λ c. s.For c.0 c.1.0 c.1.1.0 c.1.1.1)
    (exactly w.For ⊳ a_scalar ⊗ a_label ⊗ (exactly w.In ⊳ a_sequence) ⊗ body)

-- "break" ";" | "continue" ";" | "end" ";"
abbrev pub keyword_alone : Terminal → StatementForm → Form form
keyword_alone k x = as_tree {s = token} {t = form} (λ c. x) (ended (exactly k))

-- "return" [ right ] ";"
abbrev pub return : Form form
return = as_tree {s = optional right} {t = form} s.Return (ended (exactly w.Return ⊳ maybe a_right))

abbrev pub statement_form : Form form
statement_form = declaration ⊕ bit_register ⊕ constant ⊕ alias ⊕ by_name ⊕ gate_statement ⊕ measurement ⊕ reset ⊕ barrier ⊕ if_else ⊕ while_loop ⊕ for_loop
    ⊕ keyword_alone w.Break s.Break ⊕ keyword_alone w.Continue s.Continue ⊕ return ⊕ keyword_alone w.EndWord s.End

abbrev pub a_statement : Form statement
a_statement = then_ {s = place} {t = form} {u = statement} (λ at x. record { place = at; form = x }) here statement_form

-- ---- programs

-- include = "include" Text ";"
abbrev pub include : Form item_tail
include = as_tree {s = token} {t = item_tail} (λ k at. i.Include at (inside_quotes k.spelling)) (ended (exactly w.Include ⊳ one (code w.Text ∷ code w.BitText ∷ [])))

-- io = ( "input" | "output" ) scalar Name ";"
abbrev pub interface : Terminal → (Place → Scalar → List ℕ → Item) → Form item_tail
interface k make = as_tree {s = both scalar label} {t = item_tail} (λ c at. make at c.0 c.1) (ended (exactly k ⊳ a_scalar ⊗ a_label))

-- "qubit" [ "[" expr "]" ] Name
abbrev pub qubits : Form (both (optional expr) label)
qubits = exactly w.Qubit ⊳ maybe size ⊗ a_label

-- qubits = "qubit" [ "[" expr "]" ] Name ";" | "qreg" Name [ "[" expr "]" ] ";"
abbrev pub qubit_item : Form item_tail
qubit_item = as_tree {s = both (optional expr) label} {t = item_tail} (λ c at. i.Qubit at c.0 c.1) (ended qubits)

abbrev pub register_item : Form item_tail
register_item = as_tree {s = both label (optional expr)} {t = item_tail} (λ c at. i.QubitRegister at c.0 c.1) (ended (exactly w.Qreg ⊳ a_label ⊗ maybe size))

-- list = "{" item { "," item } "}"   item = list | expr
abbrev pub list : Form (several entry)
list = braces {s = several entry} (named an_entry)

abbrev pub entry_form : Form entry
entry_form = as_tree {s = several entry} {t = entry} l.List list ⊕ as_tree {s = expr} {t = entry} l.Value expression

-- arrays = "array" "[" scalar "," expr { "," expr } "]" Name [ "=" list ] ";"
abbrev pub array_item : Form item_tail
array_item = as_tree {s = both (both scalar (several expr)) (both label (optional (several entry)))} {t = item_tail}
    (λ c at. i.Array (record { place = at; scalar = c.0.0; dimensions = c.0.1; name = c.1.0; value = c.1.1 }))
    (ended (exactly w.Array ⊳ brackets {s = both scalar (several expr)} (named in_array) ⊗ a_label ⊗ maybe (exactly w.Assign ⊳ list)))

-- gatecall | "barrier" [ names ] ";"
abbrev pub gate_line_form : Form gate_form
gate_line_form = as_tree {s = call} {t = gate_form} f.Call (ended gate_call)
    ⊕ as_tree {s = several label} {t = gate_form} f.Barrier (ended (exactly w.Barrier ⊳ or_none {s = label} names))

abbrev pub a_gate_line : Form gate_line
a_gate_line = then_ {s = place} {t = gate_form} {u = gate_line} (λ at x. record { place = at; form = x }) here gate_line_form

-- gate = "gate" Name [ "(" [ names ] ")" ] names "{" { gatecall | "barrier" [ names ] ";" } "}"
abbrev pub gate_item : Form item_tail
gate_item = as_tree {s = both label (both (optional (several label)) (both (several label) (several gate_line)))} {t = item_tail}
    (λ c at. i.Gate (record { place = at; name = c.0; parameters = c.1.0; qubits = c.1.1.0; body = c.1.1.1 }))
    (exactly w.Gate ⊳ a_label ⊗ maybe (parens (or_none {s = label} names)) ⊗ names ⊗ braces (or_none {s = gate_line} (named gate_block)))

-- param = scalar Name | "qubit" [ "[" expr "]" ] Name
abbrev pub a_parameter : Form parameter
a_parameter = then_ {s = scalar} {t = label} {u = parameter} (λ x name. p.Classical x name) a_scalar a_label
    ⊕ as_tree {s = both (optional expr) label} {t = parameter} (λ c. p.Qubits c.0 c.1) qubits

-- def = "def" Name "(" [ param { "," param } ] ")" [ "->" scalar ] block
abbrev pub definition : Form item_tail
definition = as_tree {s = both label (both (several parameter) (both (optional scalar) (several statement)))} {t = item_tail}
    (λ c at. i.Definition (record { place = at; name = c.0; parameters = c.1.0; result = c.1.1.0; body = c.1.1.1 }))
    (exactly w.Def ⊳ a_label ⊗ parens (or_none {s = parameter} (named parameters)) ⊗ maybe (exactly w.Arrow ⊳ a_scalar) ⊗ a_block)

abbrev pub statement_item : Form item_tail
statement_item = as_tree {s = form} {t = item_tail} (λ x at. i.Statement (record { place = at; form = x })) statement_form

-- global = include | io | qubits | arrays | gate | def | statement
abbrev pub global : Form item
global = then_ {s = place} {t = item_tail} {u = item} of_which here
    (include ⊕ interface w.Input i.Input ⊕ interface w.Output i.Output ⊕ qubit_item ⊕ register_item ⊕ array_item ⊕ gate_item ⊕ definition ⊕ statement_item)

-- version = "OPENQASM" ( Integer | Decimal ) ";"
abbrev pub number_form : Form version_number
number_form = as_tree {s = token} {t = version_number} (λ k. v.Integer (integer_of k.spelling % 2 ^ 64)) (exactly w.Integer)
    ⊕ as_tree {s = token} {t = version_number} (λ k. v.Decimal k.spelling) (exactly w.Decimal)

abbrev pub version_form : Form version
version_form = then_ {s = place} {t = version_number} {u = version} (λ at x. record { place = at; number = x }) here (ended (exactly w.OpenQasm ⊳ number_form))

-- the versions of a text: one, or none
abbrev pub versions_of : Option Version → List Version
versions_of None = []
versions_of (Some x) = x ∷ []

-- program = [ version ] { global }, and then the end of the text
abbrev pub whole : Form program
whole = as_tree {s = both (optional version) (both (several item) token)} {t = program} (λ c. record { versions = versions_of c.0; items = c.1.0; end = c.1.1.place })
    (maybe version_form ⊗ or_none {s = item} (some global) ⊗ exactly w.End)

-- ---- the forms with names

abbrev pub rule : (n : Name) → Form (sort n)
rule any = expression
rule unary = factor
rule block = some a_statement
rule single = as_tree {s = statement} {t = several statement} (λ x. x ∷ []) a_statement
rule an_index = index_form
rule a_range = range_form
rule a_set = expressions
rule an_entry = commas entry_form
rule in_sizeof = a_label ⊗ maybe (exactly w.Comma ⊳ expression)
rule in_array = a_scalar ⊗ (exactly w.Comma ⊳ expressions)
rule parameters = commas a_parameter
rule gate_block = some a_gate_line
