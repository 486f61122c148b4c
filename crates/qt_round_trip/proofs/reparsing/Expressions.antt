-- Each form of expressions.
use Rattle.std.proofs.Common.{◌≡◌, ℕ, List, [], ◌∷◌, ◌++◌, Option, Some, None, false, IsTrue, codes, refl, ◌∙◌, ap, sym}
use Rattle.std.proofs.lemmas.List.{append-nil}
use Rattle.qt_tree.specs.declared.expression.Expr.{Expr}
use Rattle.qt_tree.specs.declared.expression.Expr.TheVariants as e
use Rattle.qt_tree.specs.declared.expression.InfixOperator.TheVariants as b
use Rattle.qt_terminals.specs.declared.terminal.Terminal.TheVariants as w
use Rattle.qt_terminals.specs.Alphabet.{code}
use Rattle.qt_terminals.specs.Terminals.{PlacedTerminal}
use Rattle.qt_grammar.specs.Sorts.{expr}
use Rattle.qt_grammar.specs.Form.{Form, member}
use Rattle.qt_grammar.specs.Language.{behind_name, name_alone, name_expr, cast, size_of, parenthesized, primary, signed, negated, powered, power, factor, joined, level, tower, levels, expression, expressions, binary_op, unary_op}
use Rattle.qt_grammar.proofs.LookaheadTests.{subset_sound}
use Rattle.qt_lexemes.specs.Lexemes.{name, operator, optional as optional_lexemes, keyword}
use Rattle.qt_print.specs.Expressions.{expr_lexemes, list_lexemes}
use Rattle.qt_print.proofs.Equations.{parenthesized_lexemes, name_lexemes, call_lexemes, cast_lexemes, sizeof_lexemes, unary_lexemes, binary_lexemes}
use Rattle.qt_round_trip.proofs.reparsing.Operators.{printed_binary, printed_unary, binary_ops, unary_ops, binary_means, unary_means, power_means, AreOperators, levels_operators}
use Rattle.qt_round_trip.proofs.reparsing.Setting.{Setting, Reader, Rereads}
use Rattle.qt_round_trip.proofs.reparsing.Literals.{label-again, literals-again}
use Rattle.qt_round_trip.proofs.reparsing.Scalars.{arguments-again, all_indexes-again, scalar-again}
use Rattle.qt_round_trip.proofs.reparsing.Again.{Any}
use Rattle.qt_round_trip.proofs.reparsing.Plain.{lexemes_both}
use Rattle.qt_round_trip.proofs.reparsing.Forms.{form-as, form-behind, form-chain, form-counted, form-either, form-maybe, form-operator, form-perhaps, form-plain, form-then, form-tree, form-parens, form-commas}
use Rattle.qt_round_trip.proofs.reparsing.Named.{any-again, unary-again, in_sizeof-again}

module _ (s : Setting) (outer : Option ℕ) where
  -- what stands behind a name, by the lexemes of the whole
  behind_name-again : Reader s outer behind_name behind_name (λ tail l. (text : List ℕ) → expr_lexemes (tail text) ≡ name text ∷ l) (λ x y. x ≡ y) Any
  behind_name-again = form-either
      (form-as (arguments-again s outer) (λ xs text. e.Call text xs) (λ tail l. (text : List ℕ) → expr_lexemes (tail text) ≡ name text ∷ l) (λ x y. x ≡ y)
      (λ xs l h text. call_lexemes text xs ∙ ap (λ t. name text ∷ t) h) (λ xs ys same. ap (λ zs (text : List ℕ). e.Call text zs) same))
      (form-as (all_indexes-again s outer) (λ xs text. e.Name text xs) (λ tail l. (text : List ℕ) → expr_lexemes (tail text) ≡ name text ∷ l) (λ x y. x ≡ y)
      (λ xs l h text. name_lexemes text xs ∙ ap (λ t. name text ∷ t) h) (λ xs ys same. ap (λ zs (text : List ℕ). e.Name text zs) same))

  name_expr-again : Rereads s outer name_expr expr_lexemes
  name_expr-again = form-then (label-again s outer)
      (form-perhaps behind_name-again (λ tail l. (text : List ℕ) → expr_lexemes (name_alone text tail) ≡ name text ∷ l) (λ x y. x ≡ y) (λ text. name_lexemes text []) (λ x l h. h) refl (λ x y same. ap Some same))
      name_alone (λ v l. expr_lexemes v ≡ l) (λ x y. x ≡ y)
      (λ text tail l m h g. g text ∙ lexemes_both (name text ∷ []) m l m h refl)
      (λ x x' y y' same alike. ap (λ t. name_alone t y) same ∙ ap (name_alone x') alike) (λ y l h m j has f. tt)

  cast-again : Rereads s outer cast expr_lexemes
  cast-again = form-plain (scalar-again s outer) (form-parens (any-again s outer)) (λ to x. e.Cast to x) expr_lexemes cast_lexemes

  size_of-again : Rereads s outer size_of expr_lexemes
  size_of-again = form-tree (form-behind (keyword (codes "sizeof")) w.SizeOf refl (form-parens (in_sizeof-again s outer))) (λ c. e.SizeOf c.0 c.1) expr_lexemes (λ c. sizeof_lexemes c.0 c.1)

  parenthesized-again : Rereads s outer parenthesized expr_lexemes
  parenthesized-again = form-tree (form-parens (any-again s outer)) e.Parenthesized expr_lexemes parenthesized_lexemes

  primary-again : Rereads s outer primary expr_lexemes
  primary-again = form-either (literals-again s outer) (form-either parenthesized-again (form-either name_expr-again (form-either cast-again size_of-again)))

  negated-again : Rereads s outer negated expr_lexemes
  negated-again = form-then (form-operator unary_ops (λ t. printed_unary t.terminal) refl (λ t h. unary_means t.terminal h)) (unary-again s outer)
      signed (λ v l. expr_lexemes v ≡ l) (λ x y. x ≡ y)
      (λ k x l m h g. unary_lexemes (unary_op k.terminal) x ∙ lexemes_both (printed_unary k.terminal ∷ []) (expr_lexemes x) l m h g)
      (λ k k' x x' same alike. ap (λ t. e.Unary (unary_op t) x) same ∙ ap (signed k') alike) (λ y l h m j has f. tt)

  powered_lexemes : (x : Expr) (o : Option Expr) → expr_lexemes (powered x o) ≡ expr_lexemes x ++ optional_lexemes (λ y. operator (codes "**") ∷ expr_lexemes y) o
  powered_lexemes x None = sym (append-nil (expr_lexemes x))
  powered_lexemes x (Some y) = binary_lexemes b.Pow x y

  power-again : Rereads s outer power expr_lexemes
  power-again = form-plain primary-again (form-maybe
      (form-then (form-operator (code w.StarStar ∷ []) (λ t. operator (codes "**")) refl (λ t h. power_means t.terminal h)) (unary-again s outer)
      (λ x y. y) (λ v l. operator (codes "**") ∷ expr_lexemes v ≡ l) (λ x y. x ≡ y) (λ k x l m h g. lexemes_both (operator (codes "**") ∷ []) (expr_lexemes x) l m h g)
      (λ k k' x x' same alike. alike) (λ y l h m j has f. tt))) powered expr_lexemes powered_lexemes

  pub factor-again : Rereads s outer factor expr_lexemes
  factor-again = form-either negated-again power-again

  level-again : (ops : List ℕ) (next : Form expr) → member 0 ops ≡ false → ((k : PlacedTerminal) → IsTrue (member (code k.terminal) ops) → IsTrue (member (code k.terminal) binary_ops)) → Rereads s outer next expr_lexemes → Rereads s outer (level ops next) expr_lexemes
  level-again ops next free among a = form-chain a (form-operator ops (λ t. printed_binary t.terminal) free (λ t h. binary_means t.terminal (among t h)))
      (λ x. x) joined (λ v l. expr_lexemes v ≡ l) (λ x y. x ≡ y) (λ x l h. h)
      (λ left k right l m n h g i. binary_lexemes (binary_op k.terminal) left right ∙ lexemes_both (expr_lexemes left) (printed_binary k.terminal ∷ expr_lexemes right) l (m ++ n) h (lexemes_both (printed_binary k.terminal ∷ []) (expr_lexemes right) m n g i))
      (λ x x' same. same) (λ left left' k k' right right' same alike like. ap (λ t. joined t k right) same ∙ (ap (λ t. e.Binary (binary_op t) left' right) alike ∙ ap (joined left' k') like))
      (λ y x m n h g i j has f. tt)

  tower-again : (all : List (List ℕ)) → AreOperators all → Rereads s outer (tower all) expr_lexemes
  tower-again [] h = factor-again
  tower-again (ops ∷ more) h = level-again ops (tower more) h.0 (λ k g. subset_sound ops binary_ops h.1 (code k.terminal) g) (tower-again more h.2)

module _ (s : Setting) (outer : Option ℕ) where
  pub expression-again : Rereads s outer expression expr_lexemes
  expression-again = form-counted (λ from. tower-again s from levels levels_operators) outer

  pub expressions-again : Rereads s outer expressions list_lexemes
  expressions-again = form-commas expression-again
