-- Statements: the next terminal decides which form is read.
use Rattle.std.proofs.Common.{◌≡◌, ℕ, ◌⊎◌, inl, inr, List, [], ◌∷◌, true, false, None, ◌∙◌, refl, sym, subst, Result}
use Rattle.qt_tree.specs.declared.statement.StatementForm.{StatementForm}
use Rattle.qt_tree.specs.declared.statement.StatementForm.TheVariants as s
use Rattle.qt_terminals.specs.declared.terminal.Terminal.{Terminal}
use Rattle.qt_terminals.specs.declared.terminal.Terminal.TheVariants as w
use Rattle.qt_terminals.specs.Alphabet.{code}
use Rattle.qt_terminals.specs.Terminals.{PlacedTerminal, stream}
use Rattle.qt_grammar.specs.Sorts.{form}
use Rattle.qt_grammar.specs.Form.{Form, member}
use Rattle.qt_grammar.specs.Lookahead.{first}
use Rattle.qt_grammar.specs.declared.refusal.Refusal.{Refusal}
use Rattle.qt_grammar.specs.Outcome.{Says}
use Rattle.qt_grammar.specs.Language as g
use Rattle.qt_expr.proofs.Alternatives.{DiffersFrom, none_of, alternative, last_alternative, nth, before}
use Rattle.qt_expr.specs.Parser.{reading}
use Rattle.qt_simple_statements.specs.Parser.{read_statement_form, read_keyword_alone, read_declaration, read_gate_statement}

-- the statements but for `end`
abbrev pub others : List (Form form)
others = g.declaration ∷ g.bit_register ∷ g.constant ∷ g.alias ∷ g.by_name ∷ g.gate_statement ∷ g.measurement ∷ g.reset ∷ g.barrier
    ∷ g.if_else ∷ g.while_loop ∷ g.for_loop ∷ g.keyword_alone w.Break s.Break ∷ g.keyword_alone w.Continue s.Continue ∷ g.return ∷ []

-- the terminals that they begin with
abbrev pub other_terminals : List Terminal
other_terminals = w.Bool ∷ w.Bit ∷ w.Int ∷ w.Uint ∷ w.Angle ∷ w.Creg ∷ w.Const ∷ w.Let ∷ w.Name ∷ w.Inv ∷ w.Pow ∷ w.Ctrl ∷ w.NegCtrl ∷ w.GPhase ∷ w.Measure
    ∷ w.Reset ∷ w.Barrier ∷ w.If ∷ w.While ∷ w.For ∷ w.Break ∷ w.Continue ∷ w.Return ∷ []

module _ (tokens : List PlacedTerminal) (levels at : ℕ) where
  pub end_is : DiffersFrom ((stream tokens at).terminal) other_terminals → read_statement_form tokens levels at ≡ read_keyword_alone tokens w.EndWord s.End at
  unfolding read_statement_form read_keyword_alone
  end_is d = last_alternative tokens levels None at {s = form} others (g.keyword_alone w.EndWord s.End) (none_of ((stream tokens at).terminal) other_terminals d)

  -- the statement with that number, by the terminal that begins it
  pub statement_is : (n : ℕ) (k : Terminal) → (stream tokens at).terminal ≡ k
      → member (code k) (before n others) ≡ false → member (code k) (first (nth n others (g.keyword_alone w.EndWord s.End))) ≡ true
      → read_statement_form tokens levels at ≡ reading tokens levels (nth n others (g.keyword_alone w.EndWord s.End)) None at
  unfolding read_statement_form
  statement_is n k e p q = alternative tokens levels None at {s = form} others (g.keyword_alone w.EndWord s.End) n k e p q

  -- the same of what was read, where the terminal that stands there is given
  pub chosen_says : (n : ℕ) (k stands : Terminal) (r : Result (StatementForm × ℕ) Refusal) → stands ≡ (stream tokens at).terminal → stands ≡ k → member (code k) (before n others) ≡ false → member (code k) (first (nth n others (g.keyword_alone w.EndWord s.End))) ≡ true
      → Says (reading tokens levels (nth n others (g.keyword_alone w.EndWord s.End)) None at) r → Says (read_statement_form tokens levels at) r
  chosen_says n k stands r here same p q h = subst (λ out. Says out r) (sym (statement_is n k (sym here ∙ same) p q)) h

  declaration_is : (k : Terminal) → (stream tokens at).terminal ≡ k → member (code k) (first g.declaration) ≡ true → read_statement_form tokens levels at ≡ read_declaration tokens levels at
  unfolding read_declaration
  declaration_is k e q = statement_is 0 k e refl q

  -- a terminal that begins a scalar type
  pub declares : (k : Terminal) → (stream tokens at).terminal ≡ k → (k ≡ w.Bool) ⊎ (k ≡ w.Bit) ⊎ (k ≡ w.Int) ⊎ (k ≡ w.Uint) ⊎ (k ≡ w.Angle) → read_statement_form tokens levels at ≡ read_declaration tokens levels at
  declares k e (inl h) = declaration_is w.Bool (e ∙ h) refl
  declares k e (inr (inl h)) = declaration_is w.Bit (e ∙ h) refl
  declares k e (inr (inr (inl h))) = declaration_is w.Int (e ∙ h) refl
  declares k e (inr (inr (inr (inl h)))) = declaration_is w.Uint (e ∙ h) refl
  declares k e (inr (inr (inr (inr h)))) = declaration_is w.Angle (e ∙ h) refl

  gate_statement_is : (k : Terminal) → (stream tokens at).terminal ≡ k → member (code k) (before 5 others) ≡ false → member (code k) (first g.gate_statement) ≡ true
      → read_statement_form tokens levels at ≡ read_gate_statement tokens levels at
  unfolding read_gate_statement
  gate_statement_is k e p q = statement_is 5 k e p q

  -- a terminal that begins a gate call and is no name
  pub calls : (k : Terminal) → (stream tokens at).terminal ≡ k → (k ≡ w.Inv) ⊎ (k ≡ w.Pow) ⊎ (k ≡ w.Ctrl) ⊎ (k ≡ w.NegCtrl) ⊎ (k ≡ w.GPhase) → read_statement_form tokens levels at ≡ read_gate_statement tokens levels at
  calls k e (inl h) = gate_statement_is w.Inv (e ∙ h) refl refl
  calls k e (inr (inl h)) = gate_statement_is w.Pow (e ∙ h) refl refl
  calls k e (inr (inr (inl h))) = gate_statement_is w.Ctrl (e ∙ h) refl refl
  calls k e (inr (inr (inr (inl h)))) = gate_statement_is w.NegCtrl (e ∙ h) refl refl
  calls k e (inr (inr (inr (inr h)))) = gate_statement_is w.GPhase (e ∙ h) refl refl
