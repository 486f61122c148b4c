-- Each form of statements.
use Rattle.std.proofs.Common.{◌≡◌, ℕ, ◌+◌, ◌≤◌, List, [], ◌∷◌, ◌++◌, map, Option, Some, None, codes, refl, arith}
use Rattle.qt_tree.specs.declared.expression.Expr.{Expr}
use Rattle.qt_tree.specs.declared.statement.Operand.{Operand}
use Rattle.qt_tree.specs.declared.statement.Target.{Target}
use Rattle.qt_tree.specs.declared.statement.Statement.{Statement}
use Rattle.qt_tree.specs.declared.statement.StatementForm.{StatementForm}
use Rattle.qt_tree.specs.declared.statement.StatementForm.TheVariants as s
use Rattle.qt_grammar.specs.Sorts.{Sort, Value, form}
use Rattle.qt_grammar.specs.Form.{Form, as_tree}
use Rattle.qt_grammar.specs.Language.{ended, declaration, bit_register, constant, alias, compound_op, behind_target, call_of, behind_first_name, by_name, gate_statement, measurement, reset, barrier, a_block, body, condition, if_else, while_loop, for_loop, return, statement_form, a_statement}
use Rattle.qt_lexemes.specs.declared.role.Role.TheVariants as r
use Rattle.qt_lexemes.specs.Lexemes.{Lexeme, lexeme, keyword, operator, semicolon, parenthesized}
use Rattle.qt_print.specs.Expressions.{expr_lexemes, list_lexemes}
use Rattle.qt_print.specs.Programs.{name_lexemes}
use Rattle.qt_print.specs.Statements.{Line, sentence, block, two_blocks, else_lexeme, plus_plus, form_lines, statement_lines, target_lexemes, condition_lexemes}
use Rattle.qt_print.proofs.Lines.{statement_is}
use Rattle.qt_round_trip.proofs.extent.Costs.{Fit, fit_both, fit_more, Paid, paid_is, paid_more, paid_sentence, paid_block, paid_two}
use Rattle.qt_round_trip.proofs.extent.Combinators.{Setting, Pays, Of, pays_here, pays_tree, pays_either, pays_then, pays_maybe, pays_nearest, pays_pair, pays_optional}
use Rattle.qt_round_trip.proofs.extent.Tokens.{pays_fixed, pays_behind, pays_parens, pays_ended, pays_label, pays_compound}
use Rattle.qt_round_trip.proofs.extent.Lists.{pays_separated}
use Rattle.qt_round_trip.proofs.extent.Expressions.{pays_size, pays_scalar, pays_arguments, pays_all_indexes, pays_expression}
use Rattle.qt_print.proofs.Forms.{declaration_lines, register_lines, constant_lines, alias_lines, assignment_lines, compound_lines, measurement_lines, reset_lines, barrier_lines, gate_lines, subroutine_lines, break_lines, continue_lines, return_lines, end_lines, while_lines, for_lines, if_lines, if_else_lines}
use Rattle.qt_round_trip.proofs.extent.Operands.{pays_operand, pays_operands, pays_any_operands, pays_target, pays_measured, pays_right, pays_first_value, pays_phase_call, pays_modified_call, pays_sequence}
use Rattle.qt_round_trip.proofs.extent.Bodies.{Named, Body, OfLines, pays_in_braces, pays_head, pays_in_head, pays_headed}

-- a statement on one line, but for its semicolon
record Sentence (x : StatementForm) (n : ℕ) : Type 0 where
  lexemes : List Lexeme
  is : form_lines x ≡ sentence lexemes
  fit : Fit lexemes n

-- tails, behind the lexemes of what stands before them
abbrev TargetTail : (Target → StatementForm) → ℕ → Type 0
TargetTail tail n = (to : Target) (m : ℕ) → Fit (target_lexemes to) m → Sentence (tail to) (m + n)

abbrev StatementTail : (List ℕ → StatementForm) → ℕ → Type 0
StatementTail tail n = (text : List ℕ) (m : ℕ) → Fit (name_lexemes text) m → Sentence (tail text) (m + n)

abbrev EndedTail : ℕ → (List ℕ → StatementForm) → ℕ → Type 0
EndedTail d tail n = (text : List ℕ) (m : ℕ) → Fit (name_lexemes text) m → Paid d (form_lines (tail text)) (m + n)

sentence_more : {x : StatementForm} {m n : ℕ} → Sentence x m → m ≤ n → Sentence x n
sentence_more a h = record { lexemes = a.lexemes; is = a.is; fit = fit_more a.fit h }

-- the lines of a conditional, behind its head
abbrev conditional : List Lexeme → List Statement → Option (List Statement) → List Line
conditional head x None = block head (map statement_lines x)
conditional head x (Some other) = two_blocks head (map statement_lines x) (map statement_lines other)

conditional_lines : (condition : Expr) (x : List Statement) (other : Option (List Statement)) → form_lines (s.If condition x other) ≡ conditional (condition_lexemes (codes "if") condition) x other
conditional_lines condition x None = if_lines condition x
conditional_lines condition x (Some other) = if_else_lines condition x other

-- the second body, or none, behind a head and the first body; both bodies; the condition and both bodies
abbrev OtherTail : ℕ → Option (List Statement) → ℕ → Type 0
OtherTail d other n = (k : Lexeme) (ks : List Lexeme) (x : List Statement) (m b : ℕ) → Fit (k ∷ ks) m → Body d x b → Paid d (conditional (k ∷ ks) x other) (m + (b + n))

abbrev ElseTail : ℕ → List Statement → ℕ → Type 0
ElseTail d other n = OtherTail d (Some other) n

abbrev BodiesTail : ℕ → List Statement × Option (List Statement) → ℕ → Type 0
BodiesTail d v n = (k : Lexeme) (ks : List Lexeme) (m : ℕ) → Fit (k ∷ ks) m → Paid d (conditional (k ∷ ks) v.0 v.1) (m + n)

abbrev IfTail : ℕ → Expr × (List Statement × Option (List Statement)) → ℕ → Type 0
IfTail d v n = (k : Lexeme) (m : ℕ) → Fit (k ∷ []) m → Paid d (conditional (k ∷ parenthesized (expr_lexemes v.0)) v.1.0 v.1.1) (m + n)

-- behind a name and arguments in parentheses
abbrev CallTail : Option (List Operand) → ℕ → Type 0
CallTail qubits n = (text : List ℕ) (xs : List Expr) (m : ℕ) → Fit (name_lexemes text ++ parenthesized (list_lexemes xs)) m → Sentence (call_of xs qubits text) (m + n)

module _ {z : Setting} {s : Sort} {f : Form s} {x : Value s → List Lexeme} where
  pub pays_sentence : {k : Value s → StatementForm} → Pays z f (Of x) → ((v : Value s) → form_lines (k v) ≡ sentence (x v)) → Pays z (as_tree {s = s} {t = form} k (ended f)) (OfLines z.level form_lines)
  pays_sentence a e = pays_tree (pays_ended a) (λ v n p. paid_is (e v) (paid_sentence (x v) p))

module _ {z : Setting} (h : Named z) where
  abbrev Statements : Form form → Type 0
  Statements f = Pays z f (OfLines z.level form_lines)

  pays_declaration : Statements declaration
  pays_declaration = pays_sentence (pays_pair (pays_scalar h) (pays_pair pays_label (pays_optional (pays_first_value h)))) (λ c. declaration_lines c.0 c.1.0 c.1.1)

  pays_bit_register : Statements bit_register
  pays_bit_register = pays_sentence (pays_behind (keyword (codes "creg")) refl (pays_pair pays_label (pays_optional (pays_size h)))) (λ c. register_lines c.0 c.1)

  pays_constant : Statements constant
  pays_constant = pays_sentence (pays_behind (keyword (codes "const")) refl (pays_pair (pays_scalar h) (pays_pair pays_label (pays_behind (operator (codes "=")) refl (pays_expression h))))) (λ c. constant_lines c.0 c.1.0 c.1.1)

  pays_alias : Statements alias
  pays_alias = pays_sentence (pays_behind (keyword (codes "let")) refl (pays_pair pays_label (pays_behind (operator (codes "=")) refl (pays_separated plus_plus refl (pays_operand h))))) (λ c. alias_lines c.0 c.1)

  -- ---- statements that begin with a name

  pays_behind_target : Pays z behind_target TargetTail
  pays_behind_target = pays_either (pays_tree (pays_first_value h) (λ x n p to m q. record { lexemes = _; is = assignment_lines to x; fit = fit_both q p }))
      (pays_then (pays_compound refl) (pays_expression h) (λ k x m n p q to c o. record { lexemes = _; is = compound_lines to (compound_op k.terminal) x; fit = fit_more (fit_both o (fit_both p q)) (omega arith) }))

  pays_behind_first_name : Pays z behind_first_name StatementTail
  pays_behind_first_name = pays_either (pays_then (pays_all_indexes h) pays_behind_target (λ at tail m n p q text c o. sentence_more (q (record { name = text; brackets = at }) (c + m) (fit_both o p)) (omega arith)))
      (pays_either (pays_tree pays_behind_target (λ tail n p text m q. p (record { name = text; brackets = [] }) m q))
      (pays_either (pays_then (pays_arguments h) (pays_maybe {G = CallTail} (pays_operands h) (λ text xs m o. record { lexemes = _; is = subroutine_lines text xs; fit = fit_more o (omega arith) })
      (λ qs n q text xs m o. record { lexemes = _; is = gate_lines _; fit = fit_both o q })) (λ xs qs m n p q text c o. sentence_more (q text xs (c + m) (fit_both o p)) (omega arith)))
      (pays_tree (pays_operands h) (λ qs n p text m q. record { lexemes = _; is = gate_lines _; fit = fit_both q p }))))

  pays_by_name : Statements by_name
  pays_by_name = pays_then pays_label (pays_then {H = EndedTail z.level} pays_behind_first_name (pays_fixed semicolon refl) (λ tail t m n p q text c o. let a = p text c o in paid_is a.is (paid_sentence a.lexemes (fit_more (fit_both a.fit q) (omega arith)))))
      (λ text tail m n o p. p text m o)

  -- ---- statements of one line

  pays_gate_statement : Statements gate_statement
  pays_gate_statement = pays_sentence (pays_either (pays_modified_call h) (pays_phase_call h)) gate_lines

  pays_measurement : Statements measurement
  pays_measurement = pays_sentence (pays_pair (pays_measured h) (pays_optional (pays_behind (operator (codes "->")) refl (pays_target h)))) (λ c. measurement_lines c.0 c.1)

  pays_reset : Statements reset
  pays_reset = pays_sentence (pays_behind (keyword (codes "reset")) refl (pays_operand h)) reset_lines

  pays_barrier : Statements barrier
  pays_barrier = pays_sentence (pays_behind (keyword (codes "barrier")) refl (pays_any_operands h)) barrier_lines

  pays_return : Statements return
  pays_return = pays_sentence (pays_behind (keyword (codes "return")) refl (pays_optional (pays_right h))) return_lines

  -- ---- statements with bodies

  pub pays_a_block : Pays z a_block (Body z.level)
  pays_a_block = pays_in_braces h.of_block

  pays_body : Pays z body (Body z.level)
  pays_body = pays_either pays_a_block h.of_single

  pays_while : Statements while_loop
  pays_while = pays_tree (pays_headed (lexeme r.Head (codes "while")) refl (pays_head (pays_parens h.of_any) pays_body)) (λ c n p. paid_is (while_lines c.0 c.1) p)

  pays_for : Statements for_loop
  pays_for = pays_tree (pays_headed (lexeme r.Head (codes "for")) refl (pays_in_head (pays_scalar h) (pays_in_head pays_label (pays_head (pays_behind (lexeme r.In (codes "in")) refl (pays_sequence h)) pays_body))))
      (λ c n p. paid_is (for_lines c.0 c.1.0 c.1.1.0 c.1.1.1) p)

  pays_if : Statements if_else
  pays_if = pays_tree (pays_then (pays_fixed (lexeme r.Head (codes "if")) refl) (pays_then {H = IfTail z.level} (pays_parens h.of_any) (pays_then {H = BodiesTail z.level} pays_body
      (pays_nearest {G = OtherTail z.level} (pays_then {H = ElseTail z.level} (pays_fixed else_lexeme refl) pays_body
      (λ t other c e p q k ks x m n o b. paid_more (paid_two (map statement_lines x) (map statement_lines other) o b p q) (omega arith)))
      (λ k ks x m n o b. paid_more (paid_block (map statement_lines x) o b) (omega arith)) (λ other n p. p))
      (λ x other m n p q k ks c o. q k ks x c m o p))
      (λ x v m n p q k c o. paid_more (q k (parenthesized (expr_lexemes x)) (c + m) (fit_both o p)) (omega arith)))
      (λ t v m n p q. q (lexeme r.Head (codes "if")) m p)) (λ c n p. paid_is (conditional_lines c.0 c.1.0 c.1.1) p)

  -- ---- all statements

  pub pays_form : Statements statement_form
  pays_form = pays_either pays_declaration (pays_either pays_bit_register (pays_either pays_constant (pays_either pays_alias (pays_either pays_by_name (pays_either pays_gate_statement
      (pays_either pays_measurement (pays_either pays_reset (pays_either pays_barrier (pays_either pays_if (pays_either pays_while (pays_either pays_for
      (pays_either (pays_sentence (pays_fixed (keyword (codes "break")) refl) (λ t. break_lines)) (pays_either (pays_sentence (pays_fixed (keyword (codes "continue")) refl) (λ t. continue_lines))
      (pays_either pays_return (pays_sentence (pays_fixed (keyword (codes "end")) refl) (λ t. end_lines))))))))))))))))

  pub pays_statement : Pays z a_statement (OfLines z.level statement_lines)
  pays_statement = pays_then pays_here pays_form (λ at x m n p q. paid_is (statement_is _) (paid_more q (omega arith)))
