-- Whether an expression is constant as a whole, at its forms, as the program matches on them.
use Rattle.std.proofs.Common.{◌≡◌, ℕ, Bool, true, not, ◌&&◌, List, Option, Some, None, map, ap, sym, ◌∙◌}
use Rattle.qt_names.specs.Scopes.{found}
use Rattle.qt_tree.specs.declared.expression.PrefixOperator.{PrefixOperator}
use Rattle.qt_tree.specs.declared.expression.InfixOperator.{InfixOperator}
use Rattle.qt_tree.specs.declared.expression.Expr.{Expr, roll-Expr}
use Rattle.qt_tree.specs.declared.expression.Scalar.{Scalar}
use Rattle.qt_tree.specs.declared.expression.Index.{Index, roll-Index}
use Rattle.qt_tree.specs.declared.expression.Range.{Range}
use Rattle.qt_tree.specs.declared.expression.Expr.TheVariants as e
use Rattle.qt_tree.specs.declared.expression.Index.TheVariants as x
use Rattle.qt_tree.specs.declared.expression.Expr.TheOpen as o
use Rattle.qt_tree.specs.declared.expression.Expr.TheFolds.{fold-Scalar, fold-Range, fold-roll-Expr, fold-roll-Index, map-Expr, map-Index}
use Rattle.qt_tree.specs.declared.label.Label.{Label}
use Rattle.qt_typing.specs.declared.names.Names.{Names}
use Rattle.qt_typing.specs.Sorts.{is_fixed, index_fixed_at, expr_fixed, index_fixed, is_variable, all_fixed, each_fixed}

abbrev scalar_tt : Names → Scalar → Unit {0}
scalar_tt names = fold-Scalar Bool Bool (Unit {0}) (Unit {0}) (expr_fixed names) index_fixed (λ scalar. tt) (λ range. tt)

abbrev range_tt : Names → Range → Unit {0}
range_tt names = fold-Range Bool Bool (Unit {0}) (Unit {0}) (expr_fixed names) index_fixed (λ scalar. tt) (λ range. tt)

expr_rolls : (names : Names) (layer : o.Expr-F Expr Index Scalar Range) → is_fixed names (roll-Expr layer)
    ≡ expr_fixed names (map-Expr Expr Index Scalar Range Bool Bool (Unit {0}) (Unit {0}) (is_fixed names) (index_fixed_at names)
    (scalar_tt names) (range_tt names) layer)
expr_rolls names = fold-roll-Expr Bool Bool (Unit {0}) (Unit {0}) (expr_fixed names) index_fixed (λ scalar. tt) (λ range. tt)

index_rolls : (names : Names) (layer : o.Index-F Expr Index Scalar Range) → index_fixed_at names (roll-Index layer)
    ≡ index_fixed (map-Index Expr Index Scalar Range Bool Bool (Unit {0}) (Unit {0}) (is_fixed names) (index_fixed_at names) (scalar_tt
    names) (range_tt names) layer)
index_rolls names = fold-roll-Index Bool Bool (Unit {0}) (Unit {0}) (expr_fixed names) index_fixed (λ scalar. tt) (λ range. tt)

pub whole_fixed : (names : Names) (n : ℕ) → is_fixed names (e.Whole n) ≡ true
whole_fixed names n = ap (is_fixed names) (sym (e.rolls-Whole n)) ∙ expr_rolls names (o.Whole n)

pub digits_fixed : (names : Names) (bits : ℕ) (length : ℕ) → is_fixed names (e.BitText bits length) ≡ true
digits_fixed names bits length = ap (is_fixed names) (sym (e.rolls-BitText bits length)) ∙ expr_rolls names (o.BitText bits length)

pub pi_fixed : (names : Names) → is_fixed names e.Pi ≡ true
pi_fixed names = ap (is_fixed names) (sym e.rolls-Pi) ∙ expr_rolls names o.Pi

pub tau_fixed : (names : Names) → is_fixed names e.Tau ≡ true
tau_fixed names = ap (is_fixed names) (sym e.rolls-Tau) ∙ expr_rolls names o.Tau

pub truth_fixed : (names : Names) (b : Bool) → is_fixed names (e.Bool b) ≡ true
truth_fixed names b = ap (is_fixed names) (sym (e.rolls-Bool b)) ∙ expr_rolls names (o.Expr::Bool b)

pub parenthesized_fixed : (names : Names) (inner : Expr) → is_fixed names (e.Parenthesized inner) ≡ is_fixed names inner
parenthesized_fixed names inner = ap (is_fixed names) (sym (e.rolls-Parenthesized inner)) ∙ expr_rolls names (o.Parenthesized inner)

pub name_fixed : (names : Names) (name : Label) (brackets : List (List Index)) → is_fixed names (e.Name name brackets)
    ≡ not (is_variable (found names.scopes name)) && each_fixed (map (map (index_fixed_at names)) brackets)
name_fixed names name brackets = ap (is_fixed names) (sym (e.rolls-Name name brackets)) ∙ expr_rolls names (o.Name name brackets)

pub call_fixed : (names : Names) (name : Label) (arguments : List Expr) → is_fixed names (e.Call name arguments)
    ≡ all_fixed (map (is_fixed names) arguments)
call_fixed names name arguments = ap (is_fixed names) (sym (e.rolls-Call name arguments)) ∙ expr_rolls names (o.Call name arguments)

pub cast_fixed : (names : Names) (to : Scalar) (operand : Expr) → is_fixed names (e.Cast to operand) ≡ is_fixed names operand
cast_fixed names to operand = ap (is_fixed names) (sym (e.rolls-Cast to operand)) ∙ expr_rolls names (o.Cast to operand)

pub sizeof_fixed : (names : Names) (name : Label) (dimension : Option Expr) → is_fixed names (e.SizeOf name dimension) ≡ true
sizeof_fixed names name None = ap (is_fixed names) (sym (e.rolls-SizeOf name None)) ∙ expr_rolls names (o.SizeOf name None)
sizeof_fixed names name (Some d) = ap (is_fixed names) (sym (e.rolls-SizeOf name (Some d))) ∙ expr_rolls names (o.SizeOf name (Some d))

pub unary_fixed : (names : Names) (op : PrefixOperator) (operand : Expr) → is_fixed names (e.Unary op operand) ≡ is_fixed names operand
unary_fixed names op operand = ap (is_fixed names) (sym (e.rolls-Unary op operand)) ∙ expr_rolls names (o.Unary op operand)

pub binary_fixed : (names : Names) (op : InfixOperator) (left : Expr) (right : Expr) → is_fixed names (e.Binary op left right)
    ≡ is_fixed names left && is_fixed names right
binary_fixed names op left right = ap (is_fixed names) (sym (e.rolls-Binary op left right)) ∙ expr_rolls names (o.Binary op left right)

pub at_fixed : (names : Names) (place : Expr) → index_fixed_at names (x.At place) ≡ is_fixed names place
at_fixed names place = ap (index_fixed_at names) (sym (x.rolls-At place)) ∙ index_rolls names (o.At place)

pub range_fixed : (names : Names) (range : Range) → index_fixed_at names (x.Range range) ≡ true
range_fixed names range = ap (index_fixed_at names) (sym (x.rolls-Range range)) ∙ index_rolls names (o.Range range)

pub set_fixed : (names : Names) (places : List Expr) → index_fixed_at names (x.Set places) ≡ true
set_fixed names places = ap (index_fixed_at names) (sym (x.rolls-Set places)) ∙ index_rolls names (o.Set places)

pub ruleset expressions = (
  whole_fixed,
  digits_fixed,
  pi_fixed,
  tau_fixed,
  truth_fixed,
  parenthesized_fixed,
  name_fixed,
  call_fixed,
  cast_fixed,
  sizeof_fixed,
  unary_fixed,
  binary_fixed,
)

pub ruleset indexes = (at_fixed, range_fixed, set_fixed)
