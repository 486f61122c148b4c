-- Statements, and the statements of a body.
use Rattle.std.proofs.Common.{◌≡◌, ℕ, [], ◌∷◌, ◌++◌, Option, refl, sym, ◌∙◌, ap, codes}
use Rattle.qt_tree.specs.declared.statement.Statement.{Statement}
use Rattle.qt_tree.specs.declared.statement.StatementForm.TheVariants as form_of
use Rattle.qt_terminals.specs.declared.terminal.Terminal.TheVariants as w
use Rattle.qt_grammar.specs.Sorts.{form, block, single}
use Rattle.qt_grammar.specs.Form.{Form, Reading, ReadsChain}
use Rattle.qt_grammar.specs.Language.{statement_form, a_statement, rule}
use Rattle.qt_print.specs.Statements.{statement_lines}
use Rattle.qt_round_trip.specs.Places.{origin, bare_statement, bare_form}
use Rattle.qt_lexemes.specs.Lexemes.{keyword}
use Rattle.qt_round_trip.proofs.reparsing.Streams.{Streams}
use Rattle.qt_round_trip.proofs.Bare.{bare_statement_is}
use Rattle.qt_print.proofs.Forms.{break_lines, continue_lines, end_lines}
use Rattle.qt_round_trip.proofs.reparsing.Again.{Again, again-tree, again-into}
use Rattle.qt_round_trip.proofs.reparsing.Plain.{lexemes_both}
use Rattle.qt_round_trip.proofs.reparsing.Setting.{Setting, Reader, Rereads, NoElse, SameStatements, statements_lexemes}
use Rattle.qt_round_trip.proofs.reparsing.Forms.{form-told, form-weaken, form-either, form-here, form-then}
use Rattle.qt_round_trip.proofs.reparsing.Sentences.{form_lexemes, statement_lexemes, statement_lexemes_is}
use Rattle.qt_round_trip.proofs.reparsing.Beginnings.{no_else, statement_starts}
use Rattle.qt_round_trip.proofs.reparsing.Parts.{one_part, form-parts}
use Rattle.qt_round_trip.proofs.reparsing.Simple.{declaration-again, bit_register-again, constant-again, alias-again, gate_statement-again, measurement-again, reset-again, barrier-again, keyword_alone-again, return-again}
use Rattle.qt_round_trip.proofs.reparsing.ByName.{by_name-again}
use Rattle.qt_round_trip.proofs.reparsing.Bodies.{SameForm, if-again, while-again, for-again}

-- what is read alone is read again as a list of one
alone : (z : Streams) {r c : Reading Statement} → Again z r c (λ x l. statement_lexemes x ≡ l) (λ x y. bare_statement x ≡ bare_statement y) (NoElse z)
    → Again z (λ i v j. (x : Statement) × r i x j × (v ≡ x ∷ [])) (ReadsChain (λ x. x ∷ []) (λ xs c x. xs ++ x ∷ []) c (λ i v j. (v ≡ tt {0}) × (j ≡ i))) (λ xs l. statements_lexemes xs ≡ l) SameStatements (NoElse z)
alone z a = again-into (again-tree a (λ x. x ∷ []) (λ xs l. statements_lexemes xs ≡ l) SameStatements (λ x l h. one_part statement_lines x ∙ h) (λ x y same. ap (λ t. t ∷ []) same)) (λ i v j h. (h.0, j, 0, h.1, (h.2, refl)))

module _ (s : Setting) (outer : Option ℕ) where
  -- a form with no place in it
  placeless : (f : Form form) → Rereads s outer f form_lexemes → Reader s outer f f (λ x l. form_lexemes x ≡ l) SameForm (NoElse s.streams)
  placeless f a = form-weaken (NoElse s.streams) (form-told a (λ x l. form_lexemes x ≡ l) SameForm (λ v l h. h) (λ x y same. ap bare_form same))

  pub statement_form-again : Reader s outer statement_form statement_form (λ x l. form_lexemes x ≡ l) SameForm (NoElse s.streams)
  statement_form-again = form-either (placeless _ (declaration-again s outer)) (form-either (placeless _ (bit_register-again s outer)) (form-either (placeless _ (constant-again s outer)) (form-either (placeless _ (alias-again s outer))
      (form-either (placeless _ (by_name-again s outer)) (form-either (placeless _ (gate_statement-again s outer)) (form-either (placeless _ (measurement-again s outer)) (form-either (placeless _ (reset-again s outer))
      (form-either (placeless _ (barrier-again s outer)) (form-either (if-again s outer) (form-either (form-weaken (NoElse s.streams) (while-again s outer)) (form-either (form-weaken (NoElse s.streams) (for-again s outer))
      (form-either (placeless _ (keyword_alone-again s outer (keyword (codes "break")) w.Break refl form_of.Break break_lines)) (form-either (placeless _ (keyword_alone-again s outer (keyword (codes "continue")) w.Continue refl form_of.Continue continue_lines)) (form-either (placeless _ (return-again s outer))
      (placeless _ (keyword_alone-again s outer (keyword (codes "end")) w.EndWord refl form_of.End end_lines))))))))))))))))

  pub statement-again : Reader s outer a_statement a_statement (λ x l. statement_lexemes x ≡ l) (λ x y. bare_statement x ≡ bare_statement y) (NoElse s.streams)
  statement-again = form-then form-here statement_form-again (λ at x. record { place = at; form = x }) (λ x l. statement_lexemes x ≡ l) (λ x y. bare_statement x ≡ bare_statement y)
      (λ at x l m h g. statement_lexemes_is (record { place = at; form = x }) ∙ lexemes_both [] (form_lexemes x) l m h g)
      (λ at at' x x' same alike. bare_statement_is (record { place = at; form = x }) ∙ (ap (λ t. record { place = origin; form = t }) alike ∙ sym (bare_statement_is (record { place = at'; form = x' }))))
      (λ y l h m j has f. tt)

  pub block_rule-again : Reader s outer (rule block) (rule block) (λ xs l. statements_lexemes xs ≡ l) SameStatements (NoElse s.streams)
  block_rule-again = form-parts statement_lines bare_statement statement-again (λ x i j has next. no_else s.streams (statement_lexemes x) i j (statement_starts x) has)

  -- a statement as a body is read again as one of a body with braces
  pub single_rule-again : Reader s outer (rule single) (rule block) (λ xs l. statements_lexemes xs ≡ l) SameStatements (NoElse s.streams)
  single_rule-again = record { reads = alone s.streams statement-again.reads }
