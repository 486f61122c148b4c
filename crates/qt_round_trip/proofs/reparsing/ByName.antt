-- The statements that begin with a name: assignments, calls of subroutines and calls of gates.
use Rattle.std.proofs.Common.{◌≡◌, ℕ, List, [], ◌∷◌, ◌++◌, Option, Some, None, refl, sym, ◌∙◌, ap, append_assoc}
use Rattle.std.proofs.lemmas.List.{append-nil}
use Rattle.qt_tree.specs.declared.expression.Expr.{Expr}
use Rattle.qt_tree.specs.declared.statement.GateCall.{GateCall}
use Rattle.qt_tree.specs.declared.statement.Operand.{Operand}
use Rattle.qt_tree.specs.declared.statement.Target.{Target}
use Rattle.qt_tree.specs.declared.statement.CalledGate.TheVariants as g
use Rattle.qt_tree.specs.declared.statement.StatementForm.{StatementForm}
use Rattle.qt_tree.specs.declared.statement.StatementForm.TheVariants as form_of
use Rattle.qt_terminals.specs.declared.terminal.Terminal.TheVariants as w
use Rattle.qt_grammar.specs.Language.{ended, of_which, compounds, compound_op, behind_target, call_of, behind_first_name, by_name}
use Rattle.qt_lexemes.specs.Lexemes.{Lexeme, name, semicolon, parenthesized, optional as optional_lexemes}
use Rattle.qt_print.specs.Expressions.{expr_lexemes, list_lexemes}
use Rattle.qt_print.specs.Statements.{target_lexemes, assigned, operands_lexemes, assignment_lexemes, compound_lexemes, call_lexemes, subroutine_lexemes}
use Rattle.qt_print.proofs.Forms.{assignment_lines, compound_lines, gate_lines, subroutine_lines}
use Rattle.qt_round_trip.proofs.reparsing.Operators.{printed_compound, compound_means}
use Rattle.qt_round_trip.proofs.reparsing.Again.{Any}
use Rattle.qt_round_trip.proofs.reparsing.Plain.{lexemes_both}
use Rattle.qt_round_trip.proofs.reparsing.Setting.{Setting, Reader, Rereads}
use Rattle.qt_round_trip.proofs.reparsing.Forms.{form-one, form-maybe, form-either, form-exactly, form-as, form-then}
use Rattle.qt_round_trip.proofs.reparsing.Literals.{label-again}
use Rattle.qt_round_trip.proofs.reparsing.Scalars.{arguments-again, all_indexes-again}
use Rattle.qt_round_trip.proofs.reparsing.Expressions.{expression-again}
use Rattle.qt_round_trip.proofs.reparsing.Operands.{first_value-again, operands-again}
use Rattle.qt_round_trip.proofs.reparsing.Sentences.{form_lexemes, sentence_lexemes}

-- what was read behind a target, and behind a name, by the lexemes of the whole, whose last is a `;`
abbrev BehindTarget : (Target → StatementForm) → List Lexeme → Type 0
BehindTarget tail l = (to : Target) → form_lexemes (tail to) ≡ target_lexemes to ++ (l ++ semicolon ∷ [])

abbrev BehindName : (List ℕ → StatementForm) → List Lexeme → Type 0
BehindName tail l = (text : List ℕ) → form_lexemes (tail text) ≡ name text ∷ (l ++ semicolon ∷ [])

gate_is : (call : GateCall) → form_lexemes (form_of.Gate call) ≡ call_lexemes call ++ semicolon ∷ []
gate_is call = sentence_lexemes (call_lexemes call) (gate_lines call)

call_of_lexemes : (xs : List Expr) (o : Option (List Operand)) (text : List ℕ) → form_lexemes (call_of xs o text) ≡ name text ∷ ((parenthesized (list_lexemes xs) ++ optional_lexemes operands_lexemes o) ++ semicolon ∷ [])
call_of_lexemes xs None text = sentence_lexemes (subroutine_lexemes text xs) (subroutine_lines text xs) ∙ ap (λ t. name text ∷ (t ++ semicolon ∷ [])) (sym (append-nil (parenthesized (list_lexemes xs))))
call_of_lexemes xs (Some qs) text = gate_is (record { modifiers = []; gate = g.Named text (Some xs); operands = qs })

module _ (s : Setting) (outer : Option ℕ) where
  behind_target-again : Reader s outer behind_target behind_target BehindTarget (λ x y. x ≡ y) Any
  behind_target-again = form-either
      (form-as (first_value-again s outer) (λ x to. form_of.Assignment to x) BehindTarget (λ x y. x ≡ y)
      (λ x l h to. sentence_lexemes (assignment_lexemes to x) (assignment_lines to x) ∙ (append_assoc (target_lexemes to) (assigned x) (semicolon ∷ []) ∙ ap (λ t. target_lexemes to ++ (t ++ semicolon ∷ [])) h))
      (λ x y same. ap (λ z (to : Target). form_of.Assignment to z) same))
      (form-then (form-one compounds (λ t. printed_compound t.terminal) refl (λ t h. compound_means t.terminal h)) (expression-again s outer) (λ k x to. form_of.CompoundAssignment to (compound_op k.terminal) x) BehindTarget (λ x y. x ≡ y)
      (λ k x l m h i to.
      sentence_lexemes (compound_lexemes to (compound_op k.terminal) x) (compound_lines to (compound_op k.terminal) x)
      ∙ (append_assoc (target_lexemes to) (printed_compound k.terminal ∷ expr_lexemes x) (semicolon ∷ [])
      ∙ ap (λ t. target_lexemes to ++ (t ++ semicolon ∷ [])) (lexemes_both (printed_compound k.terminal ∷ []) (expr_lexemes x) l m h i)))
      (λ k k' x x' same alike. ap (λ t (to : Target). form_of.CompoundAssignment to (compound_op t) x) same ∙ ap (λ t (to : Target). form_of.CompoundAssignment to (compound_op k'.terminal) t) alike)
      (λ y l h m j has f. tt))

  behind_first_name-again : Reader s outer behind_first_name behind_first_name BehindName (λ x y. x ≡ y) Any
  behind_first_name-again = form-either
      (form-then (all_indexes-again s outer) behind_target-again (λ at tail name. tail (record { name = name; brackets = at })) BehindName (λ x y. x ≡ y)
      (λ at tail l m h i text. i (record { name = text; brackets = at }) ∙ ap (λ t. name text ∷ t) (ap (λ t. t ++ (m ++ semicolon ∷ [])) h ∙ sym (append_assoc l m (semicolon ∷ []))))
      (λ at at' tail tail' same alike. ap {B = List ℕ → StatementForm} (λ x (text : List ℕ). tail (record { name = text; brackets = x })) same ∙ ap {B = List ℕ → StatementForm} (λ (t : Target → StatementForm) (text : List ℕ). t (record { name = text; brackets = at' })) alike)
      (λ y l h m j has f. tt))
      (form-either
      (form-as behind_target-again (λ tail name. tail (record { name = name; brackets = [] })) BehindName (λ x y. x ≡ y) (λ tail l h text. h (record { name = text; brackets = [] }))
      (λ x y same. ap {B = List ℕ → StatementForm} (λ (t : Target → StatementForm) (text : List ℕ). t (record { name = text; brackets = [] })) same))
      (form-either
      (form-then (arguments-again s outer) (form-maybe (operands-again s outer)) call_of BehindName (λ x y. x ≡ y)
      (λ xs o l m h i text. call_of_lexemes xs o text ∙ ap (λ t. name text ∷ (t ++ semicolon ∷ [])) (lexemes_both (parenthesized (list_lexemes xs)) (optional_lexemes operands_lexemes o) l m h i))
      (λ x x' y y' same alike. ap (λ t. call_of t y) same ∙ ap (call_of x') alike) (λ y l h m j has f. tt))
      (form-as (operands-again s outer) (λ qs name. form_of.Gate (record { modifiers = []; gate = g.Named name None; operands = qs })) BehindName (λ x y. x ≡ y)
      (λ qs l h text. gate_is (record { modifiers = []; gate = g.Named text None; operands = qs }) ∙ ap (λ t. name text ∷ (t ++ semicolon ∷ [])) h)
      (λ x y same. ap {B = List ℕ → StatementForm} (λ qs (text : List ℕ). form_of.Gate (record { modifiers = []; gate = g.Named text None; operands = qs })) same))))

  ended-again : Reader s outer (ended behind_first_name) (ended behind_first_name) (λ tail l. (text : List ℕ) → form_lexemes (tail text) ≡ name text ∷ l) (λ x y. x ≡ y) Any
  ended-again = form-then behind_first_name-again (form-exactly semicolon w.Semicolon refl) (λ x y. x) (λ tail l. (text : List ℕ) → form_lexemes (tail text) ≡ name text ∷ l) (λ x y. x ≡ y)
      (λ tail t l m h i text. h text ∙ ap (λ x. name text ∷ (l ++ x)) i) (λ x x' y y' same alike. same) (λ y l h m j has f. tt)

  pub by_name-again : Rereads s outer by_name form_lexemes
  by_name-again = form-then (label-again s outer) ended-again of_which (λ v l. form_lexemes v ≡ l) (λ x y. x ≡ y)
      (λ text tail l m h i. i text ∙ ap (λ t. t ++ m) h) (λ x x' y y' same alike. ap (λ t. of_which t y) same ∙ ap (λ (t : List ℕ → StatementForm). of_which x' t) alike) (λ y l h m j has f. tt)
