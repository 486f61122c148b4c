-- Each form of expressions, types, indexes and ranges.
use Rattle.std.proofs.Common.{◌≡◌, ℕ, ◌+◌, List, [], ◌∷◌, ◌++◌, Option, Some, None, codes, true, false, refl, sym, ◌∙◌, ap, arith, append_assoc}
use Rattle.std.proofs.lemmas.List.{append-nil}
use Rattle.qt_tree.specs.declared.expression.InfixOperator.TheVariants as b
use Rattle.qt_tree.specs.declared.expression.Expr.{Expr}
use Rattle.qt_tree.specs.declared.expression.Range.{Range}
use Rattle.qt_grammar.specs.Sorts.{expr}
use Rattle.qt_grammar.specs.Form.{Form, member}
use Rattle.qt_grammar.specs.Language.{powered, arguments, all_indexes, size, a_scalar, literals, name_alone, behind_name, name_expr, cast, size_of, primary, negated, power, factor, level, expression, expressions, range_of, behind_start, range_form, place_or_range, set, index_form}
use Rattle.qt_lexemes.specs.declared.role.Role.TheVariants as r
use Rattle.qt_lexemes.specs.Lexemes.{Lexeme, lexeme, keyword, operator as operator_lexeme, comma, colon, parenthesized, bracketed, braced, optional as lexemes_if}
use Rattle.qt_print.specs.Expressions.{expr_lexemes, index_lexemes, scalar_lexemes, range_lexemes, brackets_lexemes, list_lexemes, end_lexemes}
use Rattle.qt_print.specs.Programs.{name_lexemes}
use Rattle.qt_print.proofs.Equations.{whole_lexemes, bits_lexemes, pi_lexemes, tau_lexemes, truth_lexemes, parenthesized_lexemes, name_lexemes as name_is, call_lexemes, cast_lexemes, sizeof_lexemes, unary_lexemes, binary_lexemes, at_lexemes, index-range_lexemes, set_lexemes, bool_lexemes, bit_lexemes, int_lexemes, uint_lexemes, angle_lexemes, range-parts_lexemes}
use Rattle.qt_round_trip.proofs.extent.Costs.{Fit, fit_nothing, fit_both, fit_is, fit_more}
use Rattle.qt_round_trip.proofs.extent.Combinators.{Setting, Pays, Of, pays_counted, pays_tree, pays_either, pays_then, pays_maybe, pays_chain, pays_lexemes, pays_made, pays_pair, pays_optional}
use Rattle.qt_round_trip.proofs.extent.Tokens.{pays_fixed, pays_fixed_operator, pays_behind, pays_parens, pays_brackets, pays_braces, pays_label, pays_number, pays_bits, pays_binary, pays_unary}
use Rattle.qt_round_trip.proofs.extent.Lists.{Row, pays_row, pays_separated, pays_some, pays_or_none}
use Rattle.qt_round_trip.proofs.extent.Bodies.{Named}

pub pays_literals : {z : Setting} → Pays z literals (Of expr_lexemes)
pays_literals = pays_either (pays_made pays_number (λ t. whole_lexemes _)) (pays_either (pays_made pays_bits (λ t. bits_lexemes _ _))
    (pays_either (pays_made (pays_fixed (lexeme r.Constant (codes "pi")) refl) (λ t. pi_lexemes)) (pays_either (pays_made (pays_fixed (lexeme r.Constant (codes "tau")) refl) (λ t. tau_lexemes))
    (pays_either (pays_made (pays_fixed (keyword (codes "true")) refl) (λ t. truth_lexemes true)) (pays_made (pays_fixed (keyword (codes "false")) refl) (λ t. truth_lexemes false))))))

-- a tail, behind the lexemes of what stands before it
abbrev NameTail : (List ℕ → Expr) → ℕ → Type 0
NameTail tail n = (text : List ℕ) (m : ℕ) → Fit (name_lexemes text) m → Fit (expr_lexemes (tail text)) (m + n)

abbrev RangeTail : (Option Expr → Range) → ℕ → Type 0
RangeTail tail n = (start : Option Expr) (m : ℕ) → Fit (end_lexemes start) m → Fit (range_lexemes (tail start)) (m + n)

abbrev exponent_lexemes : Expr → List Lexeme
exponent_lexemes x = operator_lexeme (codes "**") ∷ expr_lexemes x

powered_lexemes : (x : Expr) (o : Option Expr) → expr_lexemes (powered x o) ≡ expr_lexemes x ++ lexemes_if exponent_lexemes o
powered_lexemes x None = sym (append-nil (expr_lexemes x))
powered_lexemes x (Some y) = binary_lexemes b.Pow x y

abbrev last_lexemes : Option Expr → List Lexeme
last_lexemes last = colon ∷ lexemes_if expr_lexemes last

abbrev rest_lexemes : Expr × Option (Option Expr) → List Lexeme
rest_lexemes v = expr_lexemes v.0 ++ lexemes_if last_lexemes v.1

range_of_lexemes : (v : Option (Expr × Option (Option Expr))) (start : Option Expr) → range_lexemes (range_of v start) ≡ end_lexemes start ++ (colon ∷ lexemes_if rest_lexemes v)
range_of_lexemes None start = range-parts_lexemes (range_of None start)
range_of_lexemes (Some (x, None)) start = range-parts_lexemes (range_of (Some (x, None)) start) ∙ ap (λ t. end_lexemes start ++ (colon ∷ t)) (sym (append-nil (expr_lexemes x)))
range_of_lexemes (Some (x, Some last)) start = range-parts_lexemes (range_of (Some (x, Some last)) start) ∙ ap (λ t. end_lexemes start ++ (colon ∷ t)) (append_assoc (expr_lexemes x) (colon ∷ []) (end_lexemes last))

module _ {z : Setting} (h : Named z) where
  pub pays_size : Pays z size (Of (λ x. bracketed (expr_lexemes x)))
  pays_size = pays_brackets h.of_any

  pub pays_scalar : Pays z a_scalar (Of scalar_lexemes)
  pays_scalar = pays_either (pays_made (pays_fixed (keyword (codes "bool")) refl) (λ t. bool_lexemes))
      (pays_either (pays_made (pays_behind (keyword (codes "bit")) refl (pays_optional pays_size)) bit_lexemes)
      (pays_either (pays_made (pays_behind (keyword (codes "int")) refl (pays_optional pays_size)) int_lexemes)
      (pays_either (pays_made (pays_behind (keyword (codes "uint")) refl (pays_optional pays_size)) uint_lexemes)
      (pays_made (pays_behind (keyword (codes "angle")) refl (pays_optional pays_size)) angle_lexemes))))

  pub pays_arguments : Pays z arguments (Of (λ xs. parenthesized (list_lexemes xs)))
  pays_arguments = pays_parens (pays_or_none refl (pays_separated comma refl h.of_any))

  pub pays_all_indexes : Pays z all_indexes (Of brackets_lexemes)
  pays_all_indexes = pays_some (pays_brackets (pays_separated comma refl h.of_index))

  -- ---- names, casts and sizes

  pays_behind_name : Pays z behind_name NameTail
  pays_behind_name = pays_either (pays_tree pays_arguments (λ xs n p text m q. fit_is (call_lexemes text xs) (fit_both q p)))
      (pays_tree pays_all_indexes (λ xs n p text m q. fit_is (name_is text xs) (fit_both q p)))

  pays_name : Pays z name_expr (Of expr_lexemes)
  pays_name = pays_then pays_label (pays_maybe {G = λ o n. (text : List ℕ) (m : ℕ) → Fit (name_lexemes text) m → Fit (expr_lexemes (name_alone text o)) (m + n)} pays_behind_name
      (λ text m q. fit_is (name_is text []) (fit_more q (omega arith))) (λ tail n p. p)) (λ text o m n q p. p text m q)

  pays_cast : Pays z cast (Of expr_lexemes)
  pays_cast = pays_lexemes pays_scalar (pays_parens h.of_any) cast_lexemes

  pays_size_of : Pays z size_of (Of expr_lexemes)
  pays_size_of = pays_made (pays_behind (keyword (codes "sizeof")) refl (pays_parens h.of_sizeof)) (λ c. sizeof_lexemes c.0 c.1)

  pays_primary : Pays z primary (Of expr_lexemes)
  pays_primary = pays_either pays_literals (pays_either (pays_made (pays_parens h.of_any) parenthesized_lexemes) (pays_either pays_name (pays_either pays_cast pays_size_of)))

  -- ---- operators

  pays_negated : Pays z negated (Of expr_lexemes)
  pays_negated = pays_lexemes (pays_unary refl) h.of_unary (λ t x. unary_lexemes _ x)

  pays_power : Pays z power (Of expr_lexemes)
  pays_power = pays_lexemes pays_primary (pays_optional (pays_lexemes {c = exponent_lexemes} (pays_fixed_operator (operator_lexeme (codes "**")) refl) h.of_unary (λ t x. refl))) powered_lexemes

  pub pays_factor : Pays z factor (Of expr_lexemes)
  pays_factor = pays_either pays_negated pays_power

  pays_level : {ops : List ℕ} {next : Form expr} → member 0 ops ≡ false → Pays z next (Of expr_lexemes) → Pays z (level ops next) (Of expr_lexemes)
  pays_level some a = pays_chain a (pays_binary some) (λ x n p. p) (λ c y x k m n p q r. fit_is (binary_lexemes _ c x) (fit_both p (fit_both q r)))

  pub pays_expression : Pays z expression (Of expr_lexemes)
  pays_expression = pays_counted (pays_level refl (pays_level refl (pays_level refl (pays_level refl (pays_level refl (pays_level refl (pays_level refl (pays_level refl (pays_level refl (pays_level refl pays_factor))))))))))

  pub pays_expressions : Pays z expressions (Row comma expr_lexemes)
  pays_expressions = pays_row comma refl pays_expression

  -- ---- ranges and indexes

  pays_behind_start : Pays z behind_start RangeTail
  pays_behind_start = pays_tree (pays_behind colon refl (pays_optional (pays_pair pays_expression (pays_optional (pays_behind colon refl (pays_optional pays_expression))))))
      (λ v n p start m q. fit_is (range_of_lexemes v start) (fit_both q p))

  pub pays_range : Pays z range_form (Of range_lexemes)
  pays_range = pays_either (pays_tree pays_behind_start (λ tail n p. fit_more (p None 0 fit_nothing) (omega arith)))
      (pays_then pays_expression pays_behind_start (λ x tail m n q p. p (Some x) m q))

  pub pays_set : Pays z set (Of (λ xs. braced (list_lexemes xs)))
  pays_set = pays_braces h.of_set

  pub pays_index : Pays z index_form (Of index_lexemes)
  pays_index = pays_either (pays_made pays_set set_lexemes)
      (pays_either (pays_tree pays_behind_start (λ tail n p. fit_is (index-range_lexemes _) (fit_more (p None 0 fit_nothing) (omega arith))))
      (pays_then pays_expression (pays_maybe {G = λ o n. (x : Expr) (m : ℕ) → Fit (expr_lexemes x) m → Fit (index_lexemes (place_or_range x o)) (m + n)} pays_behind_start
      (λ x m q. fit_is (at_lexemes x) (fit_more q (omega arith))) (λ tail n p x m q. fit_is (index-range_lexemes _) (p (Some x) m q))) (λ x o m n q p. p x m q)))
