-- The sort of an expression at its forms, as the program matches on them.
use Rattle.std.proofs.Common.{◌≡◌, ℕ, Bool, List, [], ◌∷◌, ◌+◌, length, Option, Some, None, map, option_map, refl, ap, sym, ◌∙◌}
use Rattle.std.proofs.lemmas.List.{length-map}
use Rattle.qt_const.specs.Value.{count_of}
use Rattle.qt_const_rules.specs.declared.sorts.Sort.{Sort}
use Rattle.qt_const_rules.specs.declared.sorts.Sort.TheVariants as sort
use Rattle.qt_const_rules.specs.Sorts.{sort_of_prefix, sort_of_infix}
use Rattle.qt_names.specs.Scopes.{found}
use Rattle.qt_tree.specs.declared.expression.PrefixOperator.{PrefixOperator}
use Rattle.qt_tree.specs.declared.expression.InfixOperator.{InfixOperator}
use Rattle.qt_tree.specs.declared.expression.Expr.{Expr, roll-Expr}
use Rattle.qt_tree.specs.declared.expression.Scalar.{Scalar, roll-Scalar}
use Rattle.qt_tree.specs.declared.expression.Index.{Index}
use Rattle.qt_tree.specs.declared.expression.Range.{Range}
use Rattle.qt_tree.specs.declared.expression.Expr.TheVariants as e
use Rattle.qt_tree.specs.declared.expression.Scalar.TheVariants as c
use Rattle.qt_tree.specs.declared.expression.Expr.TheOpen as o
use Rattle.qt_tree.specs.declared.expression.Expr.TheFolds.{fold-Index, fold-Range, fold-roll-Expr, fold-roll-Scalar, map-Expr, map-Scalar}
use Rattle.qt_tree.specs.declared.label.Label.{Label}
use Rattle.qt_typing.specs.declared.names.Names.{Names}
use Rattle.qt_typing.specs.Sorts.{sort_at, scalar_sort_at, expr_sort, scalar_sort, sort_of_named}

abbrev index_sort : Names → Index → Unit {0}
index_sort names = fold-Index Sort (Unit {0}) Sort (Unit {0}) (expr_sort names) (λ index. tt) scalar_sort (λ range. tt)

abbrev range_sort : Names → Range → Unit {0}
range_sort names = fold-Range Sort (Unit {0}) Sort (Unit {0}) (expr_sort names) (λ index. tt) scalar_sort (λ range. tt)

expr_rolls : (names : Names) (layer : o.Expr-F Expr Index Scalar Range) → sort_at names (roll-Expr layer)
    ≡ expr_sort names (map-Expr Expr Index Scalar Range Sort (Unit {0}) Sort (Unit {0}) (sort_at names) (index_sort names)
    (scalar_sort_at names) (range_sort names) layer)
expr_rolls names = fold-roll-Expr Sort (Unit {0}) Sort (Unit {0}) (expr_sort names) (λ index. tt) scalar_sort (λ range. tt)

scalar_rolls : (names : Names) (layer : o.Scalar-F Expr Index Scalar Range) → scalar_sort_at names (roll-Scalar layer)
    ≡ scalar_sort (map-Scalar Expr Index Scalar Range Sort (Unit {0}) Sort (Unit {0}) (sort_at names) (index_sort names)
    (scalar_sort_at names) (range_sort names) layer)
scalar_rolls names = fold-roll-Scalar Sort (Unit {0}) Sort (Unit {0}) (expr_sort names) (λ index. tt) scalar_sort (λ range. tt)

-- how many indexes there are doesn't depend on what they are
pub count_of_map : {X Y : Type 0} (f : X → Y) (brackets : List (List X)) → count_of (map (map f) brackets) ≡ count_of brackets
count_of_map f [] = refl
count_of_map f (indexes ∷ rest) =
    ap (λ n. n + count_of (map (map f) rest)) (length-map indexes f) ∙ ap (λ n. length indexes + n) (count_of_map f rest)

pub whole_sort : (names : Names) (n : ℕ) → sort_at names (e.Whole n) ≡ sort.Whole
whole_sort names n = ap (sort_at names) (sym (e.rolls-Whole n)) ∙ expr_rolls names (o.Whole n)

pub digits_sort : (names : Names) (bits length : ℕ) → sort_at names (e.BitText bits length) ≡ sort.Whole
digits_sort names bits length = ap (sort_at names) (sym (e.rolls-BitText bits length)) ∙ expr_rolls names (o.BitText bits length)

pub pi_sort : (names : Names) → sort_at names e.Pi ≡ sort.Phase
pi_sort names = ap (sort_at names) (sym e.rolls-Pi) ∙ expr_rolls names o.Pi

pub tau_sort : (names : Names) → sort_at names e.Tau ≡ sort.Phase
tau_sort names = ap (sort_at names) (sym e.rolls-Tau) ∙ expr_rolls names o.Tau

pub truth_sort : (names : Names) (b : Bool) → sort_at names (e.Bool b) ≡ sort.Whole
truth_sort names b = ap (sort_at names) (sym (e.rolls-Bool b)) ∙ expr_rolls names (o.Expr::Bool b)

pub parenthesized_sort : (names : Names) (inner : Expr) → sort_at names (e.Parenthesized inner) ≡ sort_at names inner
parenthesized_sort names inner = ap (sort_at names) (sym (e.rolls-Parenthesized inner)) ∙ expr_rolls names (o.Parenthesized inner)

pub name_sort : (names : Names) (name : Label) (brackets : List (List Index)) → sort_at names (e.Name name brackets)
    ≡ sort_of_named (count_of brackets) (found names.scopes name)
name_sort names name brackets =
    ap (sort_at names) (sym (e.rolls-Name name brackets))
    ∙ (expr_rolls names (o.Name name brackets) ∙ ap (λ n. sort_of_named n (found names.scopes name)) (count_of_map (index_sort names)
    brackets))

pub call_sort : (names : Names) (name : Label) (arguments : List Expr) → sort_at names (e.Call name arguments) ≡ sort.Whole
call_sort names name arguments = ap (sort_at names) (sym (e.rolls-Call name arguments)) ∙ expr_rolls names (o.Call name arguments)

pub cast_sort : (names : Names) (to : Scalar) (operand : Expr) → sort_at names (e.Cast to operand) ≡ scalar_sort_at names to
cast_sort names to operand = ap (sort_at names) (sym (e.rolls-Cast to operand)) ∙ expr_rolls names (o.Cast to operand)

pub sizeof_sort : (names : Names) (name : Label) (dimension : Option Expr) → sort_at names (e.SizeOf name dimension) ≡ sort.Whole
sizeof_sort names name None = ap (sort_at names) (sym (e.rolls-SizeOf name None)) ∙ expr_rolls names (o.SizeOf name None)
sizeof_sort names name (Some d) = ap (sort_at names) (sym (e.rolls-SizeOf name (Some d))) ∙ expr_rolls names (o.SizeOf name (Some d))

pub unary_sort : (names : Names) (op : PrefixOperator) (operand : Expr) → sort_at names (e.Unary op operand)
    ≡ sort_of_prefix op (sort_at names operand)
unary_sort names op operand = ap (sort_at names) (sym (e.rolls-Unary op operand)) ∙ expr_rolls names (o.Unary op operand)

pub binary_sort : (names : Names) (op : InfixOperator) (left right : Expr) → sort_at names (e.Binary op left right)
    ≡ sort_of_infix op (sort_at names left) (sort_at names right)
binary_sort names op left right = ap (sort_at names) (sym (e.rolls-Binary op left right)) ∙ expr_rolls names (o.Binary op left right)

pub bool_type_sort : (names : Names) → scalar_sort_at names c.Bool ≡ sort.Whole
bool_type_sort names = ap (scalar_sort_at names) (sym c.rolls-Bool) ∙ scalar_rolls names o.Scalar::Bool

pub bit_type_sort : (names : Names) (size : Option Expr) → scalar_sort_at names (c.Bit size) ≡ sort.Whole
bit_type_sort names None = ap (scalar_sort_at names) (sym (c.rolls-Bit None)) ∙ scalar_rolls names (o.Bit None)
bit_type_sort names (Some n) = ap (scalar_sort_at names) (sym (c.rolls-Bit (Some n))) ∙ scalar_rolls names (o.Bit (Some n))

pub int_type_sort : (names : Names) (size : Option Expr) → scalar_sort_at names (c.Int size) ≡ sort.Whole
int_type_sort names None = ap (scalar_sort_at names) (sym (c.rolls-Int None)) ∙ scalar_rolls names (o.Int None)
int_type_sort names (Some n) = ap (scalar_sort_at names) (sym (c.rolls-Int (Some n))) ∙ scalar_rolls names (o.Int (Some n))

pub uint_type_sort : (names : Names) (size : Option Expr) → scalar_sort_at names (c.Uint size) ≡ sort.Whole
uint_type_sort names None = ap (scalar_sort_at names) (sym (c.rolls-Uint None)) ∙ scalar_rolls names (o.Uint None)
uint_type_sort names (Some n) = ap (scalar_sort_at names) (sym (c.rolls-Uint (Some n))) ∙ scalar_rolls names (o.Uint (Some n))

pub angle_type_sort : (names : Names) (size : Option Expr) → scalar_sort_at names (c.Angle size) ≡ sort.Angle
angle_type_sort names None = ap (scalar_sort_at names) (sym (c.rolls-Angle None)) ∙ scalar_rolls names (o.Angle None)
angle_type_sort names (Some n) = ap (scalar_sort_at names) (sym (c.rolls-Angle (Some n))) ∙ scalar_rolls names (o.Angle (Some n))

pub ruleset sorts = (
  whole_sort,
  digits_sort,
  pi_sort,
  tau_sort,
  truth_sort,
  parenthesized_sort,
  name_sort,
  call_sort,
  cast_sort,
  sizeof_sort,
  unary_sort,
  binary_sort,
)

pub ruleset scalars = (bool_type_sort, bit_type_sort, int_type_sort, uint_type_sort, angle_type_sort)
