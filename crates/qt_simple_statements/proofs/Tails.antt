-- Tails: what stands behind a name or a target reads a function of it.
use Rattle.std.proofs.Common.{◌≡◌, ℕ, ◌+◌, List, [], ◌∷◌, Bool, true, false, if◌then◌else◌, None, Ok, Err, ◌∙◌, refl}
use Rattle.qt_tree.specs.declared.expression.Expr.{Expr}
use Rattle.qt_tree.specs.declared.expression.Index.{Index}
use Rattle.qt_tree.specs.declared.statement.CalledGate.TheVariants as gate
use Rattle.qt_tree.specs.declared.statement.Target.{Target}
use Rattle.qt_tree.specs.declared.statement.StatementForm.{StatementForm}
use Rattle.qt_tree.specs.declared.statement.StatementForm.TheVariants as s
use Rattle.qt_terminals.specs.declared.terminal.Terminal.TheVariants as w
use Rattle.qt_terminals.specs.Alphabet.{code}
use Rattle.qt_terminals.specs.Terminals.{PlacedTerminal, stream}
use Rattle.qt_grammar.specs.Sorts.{expr, index, operand, optional, several, target_tail, statement_tail}
use Rattle.qt_grammar.specs.Form.{Form, as_tree, then_, maybe, member, terminal_at}
use Rattle.qt_grammar.specs.declared.refusal.Refusal.TheVariants.{Syntax}
use Rattle.qt_grammar.specs.Outcome.{Outcome, and_then}
use Rattle.qt_grammar.specs.Language.{◌⊕◌}
use Rattle.qt_grammar.specs.Language as g
use Rattle.qt_lookahead.specs.OneToken.{read_exactly}
use Rattle.qt_expr.specs.Parser.{reading, read_label, read_expression, read_all_indexes}
use Rattle.qt_expr.specs.HandedOn.{then_token}
use Rattle.qt_simple_statements.specs.Parser.{applied, read_assigned, read_compound, read_behind_first_name, read_by_name}

-- ---- behind a name at the beginning of a statement

module _ {A B C : Type 0} where
  -- a tail and one token more
  ended : (name : A) (out : Outcome (A → B)) (q : ℕ → Outcome C)
      → and_then {A = A → B} {B = B} (and_then {A = A → B} {B = A → B} out (λ f m. and_then {A = C} {B = A → B} (q m) (λ c j. Ok (f, j)))) (λ f j. Ok (f name, j))
      ≡ and_then {A = B} {B = B} (applied name out) (λ x m. and_then {A = C} {B = B} (q m) (λ c j. Ok (x, j)))
  ended name (Ok z) q = last (q z.1)
    where
      last : (out : Outcome C) → and_then {A = A → B} {B = B} (and_then {A = C} {B = A → B} out (λ c j. Ok (z.0, j))) (λ f j. Ok (f name, j)) ≡ and_then {A = C} {B = B} out (λ c j. Ok (z.0 name, j))
      last (Ok y) = refl
      last (Err x) = refl
  ended name (Err x) q = refl

  named_and_ended : (label : Outcome A) (tail : ℕ → Outcome (A → B)) (q : ℕ → Outcome C)
      → and_then {A = A} {B = B} label (λ name m. and_then {A = A → B} {B = B} (and_then {A = A → B} {B = A → B} (tail m) (λ f i. and_then {A = C} {B = A → B} (q i) (λ c j. Ok (f, j)))) (λ f j. Ok (f name, j)))
      ≡ and_then {A = A} {B = B} label (λ name m. and_then {A = B} {B = B} (applied name (tail m)) (λ x i. and_then {A = C} {B = B} (q i) (λ c j. Ok (x, j))))
  named_and_ended (Ok z) tail q = ended z.0 (tail z.1) q
  named_and_ended (Err x) tail q = refl

  -- brackets behind a name, and a tail of both
  bracketed : (make : A → B) (brackets : A) (out : Outcome (B → C)) → applied brackets (and_then {A = B → C} {B = A → C} out (λ f j. Ok ((λ x. f (make x)), j))) ≡ applied (make brackets) out
  bracketed make brackets (Ok z) = refl
  bracketed make brackets (Err x) = refl

pub by_name_is : (tokens : List PlacedTerminal) (levels at : ℕ) → read_by_name tokens levels at ≡ and_then (read_label tokens at) (λ name m. then_token tokens (code w.Semicolon) (read_behind_first_name tokens levels name m))
unfolding read_by_name read_label read_behind_first_name read_exactly
by_name_is tokens levels at = named_and_ended (reading tokens levels g.a_label None at) (λ m. reading tokens levels g.behind_first_name None m) (λ i. reading tokens levels (g.exactly w.Semicolon) None i)

-- what may stand behind a name: brackets first, or something else
abbrev indexed_tail : Form statement_tail
indexed_tail = then_ {s = several (several index)} {t = target_tail} {u = statement_tail} (λ at tail name. tail (record { name = name; brackets = at })) g.all_indexes g.behind_target

abbrev other_tails : Form statement_tail
other_tails = as_tree {s = target_tail} {t = statement_tail} (λ tail name. tail (record { name = name; brackets = [] })) g.behind_target
    ⊕ then_ {s = several expr} {t = optional (several operand)} {u = statement_tail} g.call_of g.arguments (maybe {s = several operand} g.operands)
    ⊕ as_tree {s = several operand} {t = statement_tail} (λ qs name. s.Gate (record { modifiers = []; gate = gate.Named name None; operands = qs })) g.operands

indexed : (name : List ℕ) (brackets : Outcome (List (List Index))) (tail : ℕ → Outcome (Target → StatementForm))
    → applied name (and_then {A = List (List Index)} {B = List ℕ → StatementForm} brackets (λ at m. and_then {A = Target → StatementForm} {B = List ℕ → StatementForm} (tail m) (λ f j. Ok ((λ name. f (record { name = name; brackets = at })), j))))
    ≡ and_then brackets (λ at m. applied {A = Target} {B = StatementForm} (record { name = name; brackets = at }) (tail m))
indexed name (Ok z) tail = last (tail z.1)
  where
    last : (out : Outcome (Target → StatementForm)) → applied name (and_then {A = Target → StatementForm} {B = List ℕ → StatementForm} out (λ f j. Ok ((λ name. f (record { name = name; brackets = z.0 })), j))) ≡ applied {A = Target} {B = StatementForm} (record { name = name; brackets = z.0 }) out
    last (Ok y) = refl
    last (Err x) = refl
indexed name (Err x) tail = refl

picks_first : {A B : Type 0} (x : A) (b : Bool) (p q : Outcome (A → B)) → b ≡ true → applied x (if b then p else q) ≡ applied x p
picks_first x true p q e = refl
picks_first x false p q e = cc e

pub indexed_is : (tokens : List PlacedTerminal) (levels : ℕ) (name : List ℕ) (at : ℕ) → member (terminal_at (stream tokens) at) (code w.LeftBracket ∷ []) ≡ true
    → read_behind_first_name tokens levels name at ≡ and_then (read_all_indexes tokens levels None at) (λ brackets m. read_assigned tokens levels (record { name = name; brackets = brackets }) m)
unfolding read_behind_first_name read_all_indexes read_assigned
indexed_is tokens levels name at e =
    picks_first name (member (terminal_at (stream tokens) at) (code w.LeftBracket ∷ [])) (reading tokens {s = statement_tail} levels indexed_tail None at) (reading tokens {s = statement_tail} levels other_tails None at) e
    ∙ indexed name (reading tokens levels g.all_indexes None at) (λ m. reading tokens levels g.behind_target None m)

-- a compound assignment
pub compound_is : (tokens : List PlacedTerminal) (levels : ℕ) (to : Target) (at : ℕ) → member (terminal_at (stream tokens) at) g.compounds ≡ true
    → read_compound tokens levels to at ≡ and_then (read_expression tokens levels None (at + 1)) (λ x j. Ok (s.CompoundAssignment to (g.compound_op (stream tokens at).terminal) x, j))
unfolding read_compound read_expression
compound_is tokens levels to at e = made (member (terminal_at (stream tokens) at) g.compounds) e (reading tokens levels g.expression None)
  where
    last : (out : Outcome Expr) → applied to (and_then {A = Expr} {B = Target → StatementForm} out (λ x j. Ok ((λ to. s.CompoundAssignment to (g.compound_op (stream tokens at).terminal) x), j))) ≡ and_then {A = Expr} {B = StatementForm} out (λ x j. Ok (s.CompoundAssignment to (g.compound_op (stream tokens at).terminal) x, j))
    last (Ok z) = refl
    last (Err x) = refl

    made : (b : Bool) → b ≡ true → (E : ℕ → Outcome Expr)
        → applied to (and_then {A = PlacedTerminal} {B = Target → StatementForm} (if b then Ok (stream tokens at, at + 1) else Err (Syntax at)) (λ k m. and_then {A = Expr} {B = Target → StatementForm} (E m) (λ x j. Ok ((λ to. s.CompoundAssignment to (g.compound_op k.terminal) x), j))))
        ≡ and_then {A = Expr} {B = StatementForm} (E (at + 1)) (λ x j. Ok (s.CompoundAssignment to (g.compound_op (stream tokens at).terminal) x, j))
    made true e E = last (E (at + 1))
    made false e E = cc e

pub no_compound : (tokens : List PlacedTerminal) (levels : ℕ) (to : Target) (at : ℕ) → member (terminal_at (stream tokens) at) g.compounds ≡ false → read_compound tokens levels to at ≡ Err (Syntax at)
unfolding read_compound
no_compound tokens levels to at e = refused (member (terminal_at (stream tokens) at) g.compounds) e (reading tokens levels g.expression None)
  where
    refused : (b : Bool) → b ≡ false → (E : ℕ → Outcome Expr)
        → applied to (and_then {A = PlacedTerminal} {B = Target → StatementForm} (if b then Ok (stream tokens at, at + 1) else Err (Syntax at)) (λ k m. and_then {A = Expr} {B = Target → StatementForm} (E m) (λ x j. Ok ((λ to. s.CompoundAssignment to (g.compound_op k.terminal) x), j))))
        ≡ Err (Syntax at)
    refused true e E = cc e
    refused false e E = refl
