-- Each form of statements that has no body, but for those that begin with a name.
use Rattle.std.proofs.Common.{◌≡◌, ℕ, List, [], ◌∷◌, Option, codes, refl, ◌∙◌}
use Rattle.qt_tree.specs.declared.statement.StatementForm.{StatementForm}
use Rattle.qt_tree.specs.declared.statement.StatementForm.TheVariants as form_of
use Rattle.qt_terminals.specs.declared.terminal.Terminal.{Terminal}
use Rattle.qt_terminals.specs.declared.terminal.Terminal.TheVariants as w
use Rattle.qt_grammar.specs.Sorts.{Sort, Value, form}
use Rattle.qt_grammar.specs.Form.{Form, as_tree}
use Rattle.qt_grammar.specs.Language.{ended, declaration, bit_register, constant, alias, gate_statement, measurement, reset, barrier, keyword_alone, return}
use Rattle.qt_lexemes.specs.Lexemes.{Lexeme, keyword, operator, semicolon}
use Rattle.qt_print.specs.Statements.{sentence, plus_plus, form_lines}
use Rattle.qt_print.proofs.Forms.{declaration_lines, register_lines, constant_lines, alias_lines, gate_lines, measurement_lines, reset_lines, barrier_lines, return_lines}
use Rattle.qt_round_trip.proofs.reparsing.Fixed.{IsRow}
use Rattle.qt_round_trip.proofs.reparsing.Plain.{lexemes_both}
use Rattle.qt_round_trip.proofs.reparsing.Setting.{Setting, Rereads}
use Rattle.qt_round_trip.proofs.reparsing.Forms.{form-behind, form-maybe, form-separated, form-or_none, form-tree, form-pair, form-either, form-exactly, form-as, form-then, form-ended}
use Rattle.qt_round_trip.proofs.reparsing.Literals.{label-again}
use Rattle.qt_round_trip.proofs.reparsing.Scalars.{size-again, scalar-again}
use Rattle.qt_round_trip.proofs.reparsing.Expressions.{expression-again}
use Rattle.qt_round_trip.proofs.reparsing.Operands.{operand-again, operands-again, target-again, measured-again, right-again, first_value-again, phase_call-again, modified_call-again}
use Rattle.qt_round_trip.proofs.reparsing.Sentences.{form_lexemes, sentence_lexemes}

module _ {s : Setting} {outer : Option ℕ} {t : Sort} {f : Form t} {lexemes : Value t → List Lexeme} where
  -- a form of one line
  form-sentence : Rereads s outer f lexemes → (k : Value t → StatementForm) → ((v : Value t) → form_lines (k v) ≡ sentence (lexemes v)) → Rereads s outer (as_tree {s = t} {t = form} k (ended f)) form_lexemes
  form-sentence a k e = form-tree (form-ended a) k form_lexemes (λ v. sentence_lexemes (lexemes v) (e v))

module _ (s : Setting) (outer : Option ℕ) where
  pub declaration-again : Rereads s outer declaration form_lexemes
  declaration-again = form-sentence (form-pair (scalar-again s outer) (form-pair (label-again s outer) (form-maybe (first_value-again s outer)))) (λ c. form_of.Declaration c.0 c.1.0 c.1.1) (λ c. declaration_lines c.0 c.1.0 c.1.1)

  pub bit_register-again : Rereads s outer bit_register form_lexemes
  bit_register-again = form-sentence (form-behind (keyword (codes "creg")) w.Creg refl (form-pair (label-again s outer) (form-maybe (size-again s outer)))) (λ c. form_of.BitRegister c.0 c.1) (λ c. register_lines c.0 c.1)

  pub constant-again : Rereads s outer constant form_lexemes
  constant-again = form-sentence (form-behind (keyword (codes "const")) w.Const refl (form-pair (scalar-again s outer) (form-pair (label-again s outer) (form-behind (operator (codes "=")) w.Assign refl (expression-again s outer)))))
      (λ c. form_of.Constant c.0 c.1.0 c.1.1) (λ c. constant_lines c.0 c.1.0 c.1.1)

  pub alias-again : Rereads s outer alias form_lexemes
  alias-again = form-sentence (form-behind (keyword (codes "let")) w.Let refl (form-pair (label-again s outer) (form-behind (operator (codes "=")) w.Assign refl (form-separated plus_plus w.PlusPlus refl (operand-again s outer))))) (λ c. form_of.Alias c.0 c.1) (λ c. alias_lines c.0 c.1)

  pub gate_statement-again : Rereads s outer gate_statement form_lexemes
  gate_statement-again = form-sentence (form-either (modified_call-again s outer) (phase_call-again s outer)) form_of.Gate gate_lines

  pub measurement-again : Rereads s outer measurement form_lexemes
  measurement-again = form-sentence (form-pair (measured-again s outer) (form-maybe (form-behind (operator (codes "->")) w.Arrow refl (target-again s outer)))) (λ c. form_of.Measure c.0 c.1) (λ c. measurement_lines c.0 c.1)

  pub reset-again : Rereads s outer reset form_lexemes
  reset-again = form-sentence (form-behind (keyword (codes "reset")) w.Reset refl (operand-again s outer)) form_of.Reset reset_lines

  pub barrier-again : Rereads s outer barrier form_lexemes
  barrier-again = form-sentence (form-behind (keyword (codes "barrier")) w.Barrier refl (form-or_none (operands-again s outer) refl)) form_of.Barrier barrier_lines

  pub return-again : Rereads s outer return form_lexemes
  return-again = form-sentence (form-behind (keyword (codes "return")) w.Return refl (form-maybe (right-again s outer))) form_of.Return return_lines

  -- a lexeme by itself
  pub keyword_alone-again : (m : Lexeme) (k : Terminal) → IsRow m k → (x : StatementForm) → form_lines x ≡ sentence (m ∷ []) → Rereads s outer (keyword_alone k x) form_lexemes
  keyword_alone-again m k row x e = form-as (form-then (form-exactly m k row) (form-exactly semicolon w.Semicolon refl) (λ t u. t) (λ t l. m ∷ semicolon ∷ [] ≡ l) (λ t u. Unit {0})
      (λ t u l n h g. lexemes_both (m ∷ []) (semicolon ∷ []) l n h g) (λ t t' u u' h g. tt) (λ u l h n j has f. tt))
      (λ c. x) (λ v l. form_lexemes v ≡ l) (λ a b. a ≡ b) (λ t l h. sentence_lexemes (m ∷ []) e ∙ h) (λ t u h. refl)
