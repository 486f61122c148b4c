-- Which expressions are phases and angles, by their names and operators, and which are constant as a whole (OpenQASM 3.0 live
-- specification, "Types and Casting", angles and compile-time constants; Cross et al. 2022). Neither is a judgement: both are told of
-- every expression.
use Rattle.std.specs.Prelude.{ℕ, nat_eq, ◌&&◌, Bool, true, false, not, List, [], ◌∷◌, length, Option, Some, None}
use Rattle.qt_const.specs.Value.{count_of}
use Rattle.qt_const_rules.specs.Sorts.{sort_of_type, sort_of_infix, sort_of_prefix}
use Rattle.qt_const_rules.specs.declared.sorts.Sort.{Sort}
use Rattle.qt_const_rules.specs.declared.sorts.Sort.TheVariants as sort
use Rattle.qt_names.specs.Scopes.{found}
use Rattle.qt_names.specs.declared.named.Named.{Named}
use Rattle.qt_names.specs.declared.named.Places.{Places}
use Rattle.qt_names.specs.declared.named.Places.TheVariants as places
use Rattle.qt_names.specs.declared.named.What.{What}
use Rattle.qt_names.specs.declared.named.What.TheVariants as what
use Rattle.qt_tree.specs.declared.expression.Expr.{Expr}
use Rattle.qt_tree.specs.declared.expression.Index.{Index}
use Rattle.qt_tree.specs.declared.expression.Scalar.{Scalar}
use Rattle.qt_tree.specs.declared.expression.Expr.TheOpen as e
use Rattle.qt_tree.specs.declared.expression.Expr.TheOpen.{Expr-F, Index-F, Scalar-F, Range-F}
use Rattle.qt_tree.specs.declared.expression.Expr.TheFolds.{fold-Expr, fold-Index, fold-Scalar}
use Rattle.qt_value.specs.declared.types.ValueType.{ValueType}
use Rattle.qt_typing.specs.declared.names.Names.{Names}

-- ---- sorts: a phase, an angle, or a whole number

-- all indexes of an array's element, or none of a scalar: bits are no angles
abbrev pub sort_at_indexes : ℕ → List ℕ → Option ValueType → Sort
sort_at_indexes indexes lengths None = sort.Whole
sort_at_indexes indexes lengths (Some kind) = sort_given (nat_eq indexes (length lengths)) kind where
  sort_given : Bool → ValueType → Sort
  sort_given true kind = sort_of_type kind
  sort_given false kind = sort.Whole

unfoldable pub sort_of_named : ℕ → Option Named → Sort
sort_of_named indexes None = sort.Whole
sort_of_named indexes (Some it) = sort_at_indexes indexes it.lengths it.of

abbrev pub expr_sort : Names → Expr-F Sort (Unit {0}) Sort (Unit {0}) → Sort
expr_sort names e.Pi = sort.Phase
expr_sort names e.Tau = sort.Phase
expr_sort names (e.Parenthesized inner) = inner
expr_sort names (e.Name name brackets) = sort_of_named (count_of brackets) (found names.scopes name)
expr_sort names (e.Cast to operand) = to
expr_sort names (e.Unary operator operand) = sort_of_prefix operator operand
expr_sort names (e.Binary operator left right) = sort_of_infix operator left right
expr_sort names _ = sort.Whole

abbrev pub scalar_sort : Scalar-F Sort (Unit {0}) Sort (Unit {0}) → Sort
scalar_sort (e.Angle size) = sort.Angle
scalar_sort _ = sort.Whole

abbrev pub sort_at : Names → Expr → Sort
sort_at names = fold-Expr Sort (Unit {0}) Sort (Unit {0}) (expr_sort names) (λ index. tt) scalar_sort (λ range. tt)

abbrev pub scalar_sort_at : Names → Scalar → Sort
scalar_sort_at names = fold-Scalar Sort (Unit {0}) Sort (Unit {0}) (expr_sort names) (λ index. tt) scalar_sort (λ range. tt)

-- ---- constant as a whole: no name in it is that of a variable

abbrev pub has_type : Option ValueType → Bool
has_type None = false
has_type (Some kind) = true

-- a constant with a slot is an input
abbrev pub has_slot : Places → Bool
has_slot (places.Number slot) = true
has_slot _ = false

abbrev pub is_variable_kind : What → Named → Bool
is_variable_kind what.Variable it = has_type it.of
is_variable_kind what.Parameter it = has_type it.of
is_variable_kind what.Constant it = has_slot it.places
is_variable_kind _ it = false

unfoldable pub is_variable : Option Named → Bool
is_variable None = false
is_variable (Some it) = is_variable_kind it.what it

abbrev pub all_fixed : List Bool → Bool
all_fixed [] = true
all_fixed (fixed ∷ rest) = fixed && all_fixed rest

abbrev pub each_fixed : List (List Bool) → Bool
each_fixed [] = true
each_fixed (fixed ∷ rest) = all_fixed fixed && each_fixed rest

-- the sizes of types, the dimensions of `sizeof` and the bounds of slices are constant in any case
abbrev pub expr_fixed : Names → Expr-F Bool Bool (Unit {0}) (Unit {0}) → Bool
expr_fixed names (e.Parenthesized inner) = inner
expr_fixed names (e.Name name brackets) = not (is_variable (found names.scopes name)) && each_fixed brackets
expr_fixed names (e.Call name arguments) = all_fixed arguments
expr_fixed names (e.Cast to operand) = operand
expr_fixed names (e.Unary operator operand) = operand
expr_fixed names (e.Binary operator left right) = left && right
expr_fixed names _ = true

abbrev pub index_fixed : Index-F Bool Bool (Unit {0}) (Unit {0}) → Bool
index_fixed (e.At place) = place
index_fixed _ = true

abbrev pub is_fixed : Names → Expr → Bool
is_fixed names = fold-Expr Bool Bool (Unit {0}) (Unit {0}) (expr_fixed names) index_fixed (λ scalar. tt) (λ range. tt)

abbrev pub index_fixed_at : Names → Index → Bool
index_fixed_at names = fold-Index Bool Bool (Unit {0}) (Unit {0}) (expr_fixed names) index_fixed (λ scalar. tt) (λ range. tt)
