-- How many tokens each form of an expression has: the steps of the definition, read at the forms.
use Rattle.std.proofs.Common.{◌≡◌, ℕ, ◌+◌, List, map, Option, Some, None, Bool, refl, ap, sym, ◌∙◌}
use Rattle.qt_tree.specs.declared.label.Label.{Label}
use Rattle.qt_tree.specs.declared.expression.PrefixOperator.{PrefixOperator}
use Rattle.qt_tree.specs.declared.expression.InfixOperator.{InfixOperator}
use Rattle.qt_tree.specs.declared.expression.Expr.{Expr, roll-Expr}
use Rattle.qt_tree.specs.declared.expression.Scalar.{Scalar, roll-Scalar}
use Rattle.qt_tree.specs.declared.expression.Index.{Index, roll-Index}
use Rattle.qt_tree.specs.declared.expression.Range.{Range, out-Range}
use Rattle.qt_tree.specs.declared.expression.Expr.TheVariants as e
use Rattle.qt_tree.specs.declared.expression.Scalar.TheVariants as c
use Rattle.qt_tree.specs.declared.expression.Index.TheVariants as x
use Rattle.qt_tree.specs.declared.expression.Expr.TheOpen as o
use Rattle.qt_tree.specs.declared.expression.Expr.TheFolds.{fold-roll-Expr, fold-roll-Index, fold-roll-Scalar, fold_out-Range}
use Rattle.qt_tree.specs.declared.expression.Expr.TheFolds.{map-Expr, map-Index, map-Scalar, map-Range}
use Rattle.qt_typing.specs.Tokens.{expr_tokens, index_tokens, scalar_tokens, range_tokens, exprs_tokens, optional_expr, brackets_tokens}
use Rattle.qt_typing.specs.Tokens.{expr_step, index_step, scalar_step, range_step}

expr_rolls : (layer : o.Expr-F Expr Index Scalar Range) → expr_tokens (roll-Expr layer)
    ≡ expr_step (map-Expr Expr Index Scalar Range ℕ ℕ ℕ ℕ expr_tokens index_tokens scalar_tokens range_tokens layer)
expr_rolls = fold-roll-Expr ℕ ℕ ℕ ℕ expr_step index_step scalar_step range_step

index_rolls : (layer : o.Index-F Expr Index Scalar Range) → index_tokens (roll-Index layer)
    ≡ index_step (map-Index Expr Index Scalar Range ℕ ℕ ℕ ℕ expr_tokens index_tokens scalar_tokens range_tokens layer)
index_rolls = fold-roll-Index ℕ ℕ ℕ ℕ expr_step index_step scalar_step range_step

scalar_rolls : (layer : o.Scalar-F Expr Index Scalar Range) → scalar_tokens (roll-Scalar layer)
    ≡ scalar_step (map-Scalar Expr Index Scalar Range ℕ ℕ ℕ ℕ expr_tokens index_tokens scalar_tokens range_tokens layer)
scalar_rolls = fold-roll-Scalar ℕ ℕ ℕ ℕ expr_step index_step scalar_step range_step

pub whole_tokens : (n : ℕ) → expr_tokens (e.Whole n) ≡ 1
whole_tokens n = ap expr_tokens (sym (e.rolls-Whole n)) ∙ expr_rolls (o.Whole n)

pub digits_tokens : (bits length : ℕ) → expr_tokens (e.BitText bits length) ≡ 1
digits_tokens bits length = ap expr_tokens (sym (e.rolls-BitText bits length)) ∙ expr_rolls (o.BitText bits length)

pub pi_tokens : expr_tokens e.Pi ≡ 1
pi_tokens = ap expr_tokens (sym e.rolls-Pi) ∙ expr_rolls o.Pi

pub tau_tokens : expr_tokens e.Tau ≡ 1
tau_tokens = ap expr_tokens (sym e.rolls-Tau) ∙ expr_rolls o.Tau

pub truth_tokens : (b : Bool) → expr_tokens (e.Bool b) ≡ 1
truth_tokens b = ap expr_tokens (sym (e.rolls-Bool b)) ∙ expr_rolls (o.Expr::Bool b)

pub parenthesized_tokens : (inner : Expr) → expr_tokens (e.Parenthesized inner) ≡ 2 + expr_tokens inner
parenthesized_tokens inner = ap expr_tokens (sym (e.rolls-Parenthesized inner)) ∙ expr_rolls (o.Parenthesized inner)

pub name_tokens : (name : Label) (brackets : List (List Index)) → expr_tokens (e.Name name brackets)
    ≡ 1 + brackets_tokens (map (map index_tokens) brackets)
name_tokens name brackets = ap expr_tokens (sym (e.rolls-Name name brackets)) ∙ expr_rolls (o.Name name brackets)

pub call_tokens : (name : Label) (arguments : List Expr) → expr_tokens (e.Call name arguments) ≡ 3 + exprs_tokens arguments
call_tokens name arguments = ap expr_tokens (sym (e.rolls-Call name arguments)) ∙ expr_rolls (o.Call name arguments)

pub cast_tokens : (to : Scalar) (operand : Expr) → expr_tokens (e.Cast to operand) ≡ scalar_tokens to + 2 + expr_tokens operand
cast_tokens to operand = ap expr_tokens (sym (e.rolls-Cast to operand)) ∙ expr_rolls (o.Cast to operand)

pub sizeof_tokens : (name : Label) (dimension : Option Expr) → expr_tokens (e.SizeOf name dimension) ≡ 4 + optional_expr 1 dimension
sizeof_tokens name None = ap expr_tokens (sym (e.rolls-SizeOf name None)) ∙ expr_rolls (o.SizeOf name None)
sizeof_tokens name (Some d) = ap expr_tokens (sym (e.rolls-SizeOf name (Some d))) ∙ expr_rolls (o.SizeOf name (Some d))

pub unary_tokens : (op : PrefixOperator) (operand : Expr) → expr_tokens (e.Unary op operand) ≡ 1 + expr_tokens operand
unary_tokens op operand = ap expr_tokens (sym (e.rolls-Unary op operand)) ∙ expr_rolls (o.Unary op operand)

pub binary_tokens : (op : InfixOperator) (left right : Expr) → expr_tokens (e.Binary op left right)
    ≡ expr_tokens left + 1 + expr_tokens right
binary_tokens op left right = ap expr_tokens (sym (e.rolls-Binary op left right)) ∙ expr_rolls (o.Binary op left right)

pub at_tokens : (place : Expr) → index_tokens (x.At place) ≡ expr_tokens place
at_tokens place = ap index_tokens (sym (x.rolls-At place)) ∙ index_rolls (o.At place)

pub index_range_tokens : (range : Range) → index_tokens (x.Range range) ≡ range_tokens range
index_range_tokens range = ap index_tokens (sym (x.rolls-Range range)) ∙ index_rolls (o.Range range)

pub set_tokens : (places : List Expr) → index_tokens (x.Set places) ≡ 2 + exprs_tokens places
set_tokens places = ap index_tokens (sym (x.rolls-Set places)) ∙ index_rolls (o.Set places)

pub bit_tokens : (size : Option Expr) → scalar_tokens (c.Bit size) ≡ 1 + optional_expr 2 size
bit_tokens None = ap scalar_tokens (sym (c.rolls-Bit None)) ∙ scalar_rolls (o.Bit None)
bit_tokens (Some n) = ap scalar_tokens (sym (c.rolls-Bit (Some n))) ∙ scalar_rolls (o.Bit (Some n))

pub int_tokens : (size : Option Expr) → scalar_tokens (c.Int size) ≡ 1 + optional_expr 2 size
int_tokens None = ap scalar_tokens (sym (c.rolls-Int None)) ∙ scalar_rolls (o.Int None)
int_tokens (Some n) = ap scalar_tokens (sym (c.rolls-Int (Some n))) ∙ scalar_rolls (o.Int (Some n))

pub uint_tokens : (size : Option Expr) → scalar_tokens (c.Uint size) ≡ 1 + optional_expr 2 size
uint_tokens None = ap scalar_tokens (sym (c.rolls-Uint None)) ∙ scalar_rolls (o.Uint None)
uint_tokens (Some n) = ap scalar_tokens (sym (c.rolls-Uint (Some n))) ∙ scalar_rolls (o.Uint (Some n))

pub angle_tokens : (size : Option Expr) → scalar_tokens (c.Angle size) ≡ 1 + optional_expr 2 size
angle_tokens None = ap scalar_tokens (sym (c.rolls-Angle None)) ∙ scalar_rolls (o.Angle None)
angle_tokens (Some n) = ap scalar_tokens (sym (c.rolls-Angle (Some n))) ∙ scalar_rolls (o.Angle (Some n))

pub bool_tokens : scalar_tokens c.Bool ≡ 1
bool_tokens = ap scalar_tokens (sym c.rolls-Bool) ∙ scalar_rolls o.Scalar::Bool

range_parts : (start step end : Option Expr)
    → range_step (map-Range Expr Index Scalar Range ℕ ℕ ℕ ℕ expr_tokens index_tokens scalar_tokens range_tokens
    (record { start = start; step = step; end = end })) ≡ optional_expr 0 start + 1 + optional_expr 1 step + optional_expr 0 end
range_parts None None None = refl
range_parts None None (Some end) = refl
range_parts None (Some step) None = refl
range_parts None (Some step) (Some end) = refl
range_parts (Some start) None None = refl
range_parts (Some start) None (Some end) = refl
range_parts (Some start) (Some step) None = refl
range_parts (Some start) (Some step) (Some end) = refl

pub range_is : (range : Range) → range_tokens range
    ≡ optional_expr 0 (out-Range range).start + 1 + optional_expr 1 (out-Range range).step + optional_expr 0 (out-Range range).end
range_is range =
    fold_out-Range ℕ ℕ ℕ ℕ expr_step index_step scalar_step range_step range
    ∙ range_parts (out-Range range).start (out-Range range).step (out-Range range).end

pub ruleset expressions = (
  whole_tokens,
  digits_tokens,
  pi_tokens,
  tau_tokens,
  truth_tokens,
  parenthesized_tokens,
  name_tokens,
  call_tokens,
  cast_tokens,
  sizeof_tokens,
  unary_tokens,
  binary_tokens,
)

pub ruleset indexes = (at_tokens, index_range_tokens, set_tokens)

pub ruleset scalars = (bit_tokens, int_tokens, uint_tokens, angle_tokens, bool_tokens)
