-- Lists of expressions and of indexes in parentheses and brackets, and types.
use Rattle.std.proofs.Common.{ℕ, Option, refl, codes}
use Rattle.qt_tree.specs.declared.expression.Scalar.TheVariants as t
use Rattle.qt_terminals.specs.declared.terminal.Terminal.TheVariants as w
use Rattle.qt_grammar.specs.Language.{arguments, indexes, all_indexes, size, a_scalar}
use Rattle.qt_lexemes.specs.Lexemes.{parenthesized, bracketed, keyword}
use Rattle.qt_print.specs.Expressions.{expr_lexemes, scalar_lexemes, list_lexemes, bracket_lexemes, brackets_lexemes}
use Rattle.qt_print.proofs.Equations.{bool_lexemes, bit_lexemes, int_lexemes, uint_lexemes, angle_lexemes}
use Rattle.qt_round_trip.proofs.reparsing.Setting.{Setting, Rereads}
use Rattle.qt_round_trip.proofs.reparsing.Forms.{form-behind, form-either, form-maybe, form-or_none, form-some, form-tree, form-lexeme, form-parens, form-brackets, form-commas}
use Rattle.qt_round_trip.proofs.reparsing.Named.{any-again, index-again}

module _ (s : Setting) (outer : Option ℕ) where
  pub arguments-again : Rereads s outer arguments (λ xs. parenthesized (list_lexemes xs))
  arguments-again = form-parens (form-or_none (form-commas (any-again s outer)) refl)

  pub indexes-again : Rereads s outer indexes bracket_lexemes
  indexes-again = form-brackets (form-commas (index-again s outer))

  pub all_indexes-again : Rereads s outer all_indexes brackets_lexemes
  all_indexes-again = form-some indexes-again

  pub size-again : Rereads s outer size (λ x. bracketed (expr_lexemes x))
  size-again = form-brackets (any-again s outer)

  pub scalar-again : Rereads s outer a_scalar scalar_lexemes
  scalar-again = form-either (form-lexeme (keyword (codes "bool")) w.Bool refl t.Bool scalar_lexemes bool_lexemes)
      (form-either (form-tree (form-behind (keyword (codes "bit")) w.Bit refl (form-maybe size-again)) t.Bit scalar_lexemes bit_lexemes)
      (form-either (form-tree (form-behind (keyword (codes "int")) w.Int refl (form-maybe size-again)) t.Int scalar_lexemes int_lexemes)
      (form-either (form-tree (form-behind (keyword (codes "uint")) w.Uint refl (form-maybe size-again)) t.Uint scalar_lexemes uint_lexemes)
      (form-tree (form-behind (keyword (codes "angle")) w.Angle refl (form-maybe size-again)) t.Angle scalar_lexemes angle_lexemes))))
