-- The lexemes of expressions, types, indexes and ranges, in the order of the grammar. OpenQASM 3.0 live specification, "Types
-- and Casting", "Index sets and slicing" and "Classical instructions".
use Rattle.std.specs.Prelude.{ℕ, List, [], ◌∷◌, ◌++◌, map, Option, codes}
use Rattle.qt_tree.specs.declared.expression.Expr.{Expr}
use Rattle.qt_tree.specs.declared.expression.Scalar.{Scalar}
use Rattle.qt_tree.specs.declared.expression.Index.{Index}
use Rattle.qt_tree.specs.declared.expression.Range.{Range}
use Rattle.qt_tree.specs.declared.expression.Expr.TheOpen as e
use Rattle.qt_tree.specs.declared.expression.Expr.TheOpen.{Expr-F, Index-F, Scalar-F, Range-F}
use Rattle.qt_tree.specs.declared.expression.Expr.TheFolds.{fold-Expr, fold-Index, fold-Scalar, fold-Range}
use Rattle.qt_lexemes.specs.declared.role.Role.TheVariants as r
use Rattle.qt_lexemes.specs.Operators.{operator_text, sign_text, truth_text}
use Rattle.qt_lexemes.specs.Lexemes.{Lexeme, lexeme, name, keyword, integer, bits, operator, comma, colon}
use Rattle.qt_lexemes.specs.Lexemes.{parenthesized, bracketed, braced, separated, joined, optional, itself}

-- the indexes of one pair of brackets
abbrev pub indexed : List (List Lexeme) → List Lexeme
indexed indexes = bracketed (separated comma indexes)

-- a type's keyword, and its size where it stands
abbrev pub sized : List ℕ → Option (List Lexeme) → List Lexeme
sized type size = keyword type ∷ optional bracketed size

-- the second part of `sizeof`, where it stands
abbrev pub second : List Lexeme → List Lexeme
second part = comma ∷ part

-- what stands before a colon
abbrev pub before_colon : List Lexeme → List Lexeme
before_colon part = part ++ colon ∷ []

-- each layer of the tree, whose children are their lexemes already
abbrev pub scalar_step : Scalar-F (List Lexeme) (List Lexeme) (List Lexeme) (List Lexeme) → List Lexeme
scalar_step e.Scalar::Bool = keyword (codes "bool") ∷ []
scalar_step (e.Bit size) = sized (codes "bit") size
scalar_step (e.Int size) = sized (codes "int") size
scalar_step (e.Uint size) = sized (codes "uint") size
scalar_step (e.Angle size) = sized (codes "angle") size

abbrev pub expr_step : Expr-F (List Lexeme) (List Lexeme) (List Lexeme) (List Lexeme) → List Lexeme
expr_step (e.Whole value) = integer value ∷ []
expr_step (e.BitText value length) = bits value length ∷ []
expr_step e.Pi = lexeme r.Constant (codes "pi") ∷ []
expr_step e.Tau = lexeme r.Constant (codes "tau") ∷ []
expr_step (e.Expr::Bool value) = keyword (truth_text value) ∷ []
expr_step (e.Parenthesized inner) = parenthesized inner
expr_step (e.Name text brackets) = name text ∷ joined (map indexed brackets)
expr_step (e.Call text arguments) = name text ∷ parenthesized (separated comma arguments)
expr_step (e.Cast to operand) = to ++ parenthesized operand
expr_step (e.SizeOf text dimension) = keyword (codes "sizeof") ∷ parenthesized (name text ∷ optional second dimension)
expr_step (e.Unary operator operand) = lexeme r.Sign (sign_text operator) ∷ operand
expr_step (e.Binary op left right) = left ++ operator (operator_text op) ∷ right

abbrev pub index_step : Index-F (List Lexeme) (List Lexeme) (List Lexeme) (List Lexeme) → List Lexeme
index_step (e.At place) = place
index_step (e.Range range) = range
index_step (e.Set places) = braced (separated comma places)

abbrev pub range_step : Range-F (List Lexeme) (List Lexeme) (List Lexeme) (List Lexeme) → List Lexeme
range_step range = optional itself range.start ++ colon ∷ (optional before_colon range.step ++ optional itself range.end)

abbrev pub expr_lexemes : Expr → List Lexeme
expr_lexemes = fold-Expr (List Lexeme) (List Lexeme) (List Lexeme) (List Lexeme) expr_step index_step scalar_step range_step

abbrev pub index_lexemes : Index → List Lexeme
index_lexemes = fold-Index (List Lexeme) (List Lexeme) (List Lexeme) (List Lexeme) expr_step index_step scalar_step range_step

abbrev pub scalar_lexemes : Scalar → List Lexeme
scalar_lexemes = fold-Scalar (List Lexeme) (List Lexeme) (List Lexeme) (List Lexeme) expr_step index_step scalar_step range_step

abbrev pub range_lexemes : Range → List Lexeme
range_lexemes = fold-Range (List Lexeme) (List Lexeme) (List Lexeme) (List Lexeme) expr_step index_step scalar_step range_step

-- the indexes of one pair of brackets, and of each pair
abbrev pub bracket_lexemes : List Index → List Lexeme
bracket_lexemes indexes = indexed (map index_lexemes indexes)

abbrev pub brackets_lexemes : List (List Index) → List Lexeme
brackets_lexemes brackets = joined (map bracket_lexemes brackets)

-- expressions with commas between
abbrev pub list_lexemes : List Expr → List Lexeme
list_lexemes all = separated comma (map expr_lexemes all)

-- parts that stand or don't: a size in brackets, the second part of `sizeof`, an end and the step of a range
abbrev pub size_lexemes : Option Expr → List Lexeme
size_lexemes = optional (λ size. bracketed (expr_lexemes size))

abbrev pub type_lexemes : List ℕ → Option Expr → List Lexeme
type_lexemes type size = keyword type ∷ size_lexemes size

abbrev pub second_lexemes : Option Expr → List Lexeme
second_lexemes = optional (λ part. second (expr_lexemes part))

abbrev pub size_arguments : List ℕ → Option Expr → List Lexeme
size_arguments text dimension = parenthesized (name text ∷ second_lexemes dimension)

abbrev pub end_lexemes : Option Expr → List Lexeme
end_lexemes = optional expr_lexemes

abbrev pub step_lexemes : Option Expr → List Lexeme
step_lexemes = optional (λ step. before_colon (expr_lexemes step))
