-- Ranges, indexes, and what stands in the parentheses of `sizeof`.
use Rattle.std.proofs.Common.{◌≡◌, ℕ, List, [], ◌∷◌, ◌++◌, Option, Some, None, refl, ◌∙◌, ap, append_assoc, sym}
use Rattle.std.proofs.lemmas.List.{append-nil}
use Rattle.qt_tree.specs.declared.expression.Expr.{Expr}
use Rattle.qt_tree.specs.declared.expression.Index.TheVariants as ix
use Rattle.qt_grammar.specs.Sorts.{in_sizeof}
use Rattle.qt_terminals.specs.declared.terminal.Terminal.TheVariants as w
use Rattle.qt_grammar.specs.Form.{maybe}
use Rattle.qt_grammar.specs.Language.{◌⊗◌, ◌⊳◌, exactly, expression, range_of, behind_start, range_form, set, place_or_range, index_form, rule}
use Rattle.qt_lexemes.specs.Lexemes.{Lexeme, colon, comma, braced, optional as optional_lexemes}
use Rattle.qt_print.specs.Expressions.{expr_lexemes, index_lexemes, range_lexemes, list_lexemes, end_lexemes}
use Rattle.qt_print.proofs.Equations.{at_lexemes, index-range_lexemes, set_lexemes, range-parts_lexemes}
use Rattle.qt_round_trip.proofs.lexemes.NamedForms.{in_sizeof_lexemes}
use Rattle.qt_round_trip.proofs.reparsing.Again.{Any}
use Rattle.qt_round_trip.proofs.reparsing.Setting.{Setting, Reader, Rereads}
use Rattle.qt_round_trip.proofs.reparsing.Forms.{form-behind, form-maybe, form-tree, form-pair, form-as, form-perhaps, form-either, form-then, form-braces}
use Rattle.qt_round_trip.proofs.reparsing.Named.{set-again}
use Rattle.qt_round_trip.proofs.reparsing.Literals.{label-again}
use Rattle.qt_round_trip.proofs.reparsing.Expressions.{expression-again}

-- the lexemes of a range from its colon on
abbrev last_lexemes : Option (Option Expr) → List Lexeme
last_lexemes = optional_lexemes (λ last. colon ∷ end_lexemes last)

abbrev rest_lexemes : Option (Expr × Option (Option Expr)) → List Lexeme
rest_lexemes o = colon ∷ optional_lexemes (λ v. expr_lexemes v.0 ++ last_lexemes v.1) o

range_of_lexemes : (o : Option (Expr × Option (Option Expr))) (start : Option Expr) → range_lexemes (range_of o start) ≡ end_lexemes start ++ rest_lexemes o
range_of_lexemes None start = range-parts_lexemes (range_of None start)
range_of_lexemes (Some (x, None)) start = range-parts_lexemes (range_of (Some (x, None)) start) ∙ ap (λ t. end_lexemes start ++ colon ∷ t) (sym (append-nil (expr_lexemes x)))
range_of_lexemes (Some (x, Some last)) start = range-parts_lexemes (range_of (Some (x, Some last)) start) ∙ ap (λ t. end_lexemes start ++ colon ∷ t) (append_assoc (expr_lexemes x) (colon ∷ []) (end_lexemes last))

module _ (s : Setting) (outer : Option ℕ) where
  rest-again : Rereads s outer (exactly w.Colon ⊳ maybe (expression ⊗ maybe (exactly w.Colon ⊳ maybe expression))) rest_lexemes
  rest-again = form-behind colon w.Colon refl (form-maybe (form-pair (expression-again s outer) (form-maybe (form-behind colon w.Colon refl (form-maybe (expression-again s outer))))))

  -- behind the start of a range, by the lexemes of the whole
  behind_start-again : Reader s outer behind_start behind_start (λ tail l. (start : Option Expr) → range_lexemes (tail start) ≡ end_lexemes start ++ l) (λ x y. x ≡ y) Any
  behind_start-again = form-as rest-again range_of (λ tail l. (start : Option Expr) → range_lexemes (tail start) ≡ end_lexemes start ++ l) (λ x y. x ≡ y)
      (λ o l h start. range_of_lexemes o start ∙ ap (λ t. end_lexemes start ++ t) h) (λ x y same. ap range_of same)

  pub range_form-again : Rereads s outer range_form range_lexemes
  range_form-again = form-either
      (form-as behind_start-again (λ tail. tail None) (λ v l. range_lexemes v ≡ l) (λ x y. x ≡ y) (λ tail l h. h None) (λ x y same. ap (λ tail. tail None) same))
      (form-then (expression-again s outer) behind_start-again (λ x tail. tail (Some x)) (λ v l. range_lexemes v ≡ l) (λ x y. x ≡ y) (λ x tail l m h g. g (Some x) ∙ ap (λ t. t ++ m) h)
      (λ x x' y y' same alike. ap (λ t. y (Some t)) same ∙ ap (λ tail. tail (Some x')) alike) (λ y l h m j has f. tt))

  pub in_set-again : Rereads s outer set (λ xs. braced (list_lexemes xs))
  in_set-again = form-braces (set-again s outer)

  pub index_form-again : Rereads s outer index_form index_lexemes
  index_form-again = form-either (form-tree in_set-again ix.Set index_lexemes set_lexemes)
      (form-either
      (form-as behind_start-again (λ tail. ix.Range (tail None)) (λ v l. index_lexemes v ≡ l) (λ x y. x ≡ y) (λ tail l h. index-range_lexemes (tail None) ∙ h None) (λ x y same. ap (λ tail. ix.Range (tail None)) same))
      (form-then (expression-again s outer)
      (form-perhaps behind_start-again (λ o l. (x : Expr) → index_lexemes (place_or_range x o) ≡ expr_lexemes x ++ l) (λ x y. x ≡ y) (λ x. at_lexemes x ∙ sym (append-nil (expr_lexemes x)))
      (λ tail l h x. index-range_lexemes (tail (Some x)) ∙ h (Some x)) refl (λ x y same. ap Some same))
      place_or_range (λ v l. index_lexemes v ≡ l) (λ x y. x ≡ y) (λ x o l m h g. g x ∙ ap (λ t. t ++ m) h)
      (λ x x' y y' same alike. ap (λ t. place_or_range t y) same ∙ ap (place_or_range x') alike) (λ y l h m j has f. tt)))

  pub in_sizeof_rule-again : Rereads s outer (rule in_sizeof) in_sizeof_lexemes
  in_sizeof_rule-again = form-pair (label-again s outer) (form-maybe (form-behind comma w.Comma refl (expression-again s outer)))
