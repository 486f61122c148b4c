-- The lexemes of what the forms with names read, where the printer has no name for them.
use Rattle.std.proofs.Common.{ℕ, List, ◌∷◌, ◌++◌, map, Option}
use Rattle.qt_tree.specs.declared.expression.Expr.{Expr}
use Rattle.qt_tree.specs.declared.expression.Scalar.{Scalar}
use Rattle.qt_tree.specs.declared.program.ListItem.{ListItem}
use Rattle.qt_tree.specs.declared.program.Parameter.{Parameter}
use Rattle.qt_lexemes.specs.Lexemes.{Lexeme, name, comma, each_behind, separated}
use Rattle.qt_print.specs.Expressions.{expr_lexemes, scalar_lexemes, second_lexemes}
use Rattle.qt_print.specs.Programs.{item_lexemes, parameter_lexemes}

-- the values of an array, parameters
abbrev pub entries_lexemes : List ListItem → List Lexeme
entries_lexemes all = separated comma (map item_lexemes all)

abbrev pub all_parameters_lexemes : List Parameter → List Lexeme
all_parameters_lexemes all = separated comma (map parameter_lexemes all)

-- what stands in the parentheses of `sizeof`, in the brackets of an array
abbrev pub in_sizeof_lexemes : List ℕ × Option Expr → List Lexeme
in_sizeof_lexemes v = name v.0 ∷ second_lexemes v.1

abbrev pub in_array_lexemes : Scalar × List Expr → List Lexeme
in_array_lexemes v = scalar_lexemes v.0 ++ each_behind comma (map expr_lexemes v.1)
