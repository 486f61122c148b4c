-- The lexemes of each form of the tree: the steps of the definitions, read at the forms.
use Rattle.std.proofs.Common.{◌≡◌, ℕ, Bool, List, [], ◌∷◌, ◌++◌, map, Option, Some, None, codes, refl, ap, sym, ◌∙◌}
use Rattle.qt_tree.specs.declared.expression.InfixOperator.{InfixOperator}
use Rattle.qt_tree.specs.declared.expression.PrefixOperator.{PrefixOperator}
use Rattle.qt_tree.specs.declared.expression.Expr.{Expr, roll-Expr}
use Rattle.qt_tree.specs.declared.expression.Scalar.{Scalar, roll-Scalar}
use Rattle.qt_tree.specs.declared.expression.Index.{Index, roll-Index}
use Rattle.qt_tree.specs.declared.expression.Range.{Range, out-Range}
use Rattle.qt_tree.specs.declared.expression.Expr.TheVariants as e
use Rattle.qt_tree.specs.declared.expression.Scalar.TheVariants as c
use Rattle.qt_tree.specs.declared.expression.Index.TheVariants as x
use Rattle.qt_tree.specs.declared.expression.Expr.TheOpen as o
use Rattle.qt_tree.specs.declared.expression.Expr.TheFolds.{fold-roll-Expr, fold-roll-Index, fold-roll-Scalar, fold_out-Range, map-Expr, map-Index, map-Scalar, map-Range}
use Rattle.qt_tree.specs.declared.label.Label.{Label}
use Rattle.qt_lexemes.specs.declared.role.Role.TheVariants as r
use Rattle.qt_print.proofs.Puts.{puts_both}
use Rattle.qt_lexemes.specs.Lexemes.{Lexeme, lexeme, name, keyword, integer, bits, operator, colon, parenthesized, braced, joined}
use Rattle.qt_lexemes.specs.Operators.{operator_text, sign_text, truth_text}
use Rattle.qt_print.specs.Expressions.{indexed, expr_step, index_step, scalar_step, range_step, expr_lexemes, index_lexemes, scalar_lexemes, range_lexemes, bracket_lexemes, brackets_lexemes, list_lexemes, second_lexemes, end_lexemes, step_lexemes, type_lexemes}

abbrev L : Type 0
L = List Lexeme

pub brackets-map : (brackets : List (List Index)) → joined (map indexed (map (map index_lexemes) brackets)) ≡ brackets_lexemes brackets
brackets-map [] = refl
brackets-map (first ∷ rest) = ap (λ t. bracket_lexemes first ++ t) (brackets-map rest)

expr_rolls : (layer : o.Expr-F Expr Index Scalar Range) → expr_lexemes (roll-Expr layer) ≡ expr_step (map-Expr Expr Index Scalar Range L L L L expr_lexemes index_lexemes scalar_lexemes range_lexemes layer)
expr_rolls = fold-roll-Expr L L L L expr_step index_step scalar_step range_step

index_rolls : (layer : o.Index-F Expr Index Scalar Range) → index_lexemes (roll-Index layer) ≡ index_step (map-Index Expr Index Scalar Range L L L L expr_lexemes index_lexemes scalar_lexemes range_lexemes layer)
index_rolls = fold-roll-Index L L L L expr_step index_step scalar_step range_step

scalar_rolls : (layer : o.Scalar-F Expr Index Scalar Range) → scalar_lexemes (roll-Scalar layer) ≡ scalar_step (map-Scalar Expr Index Scalar Range L L L L expr_lexemes index_lexemes scalar_lexemes range_lexemes layer)
scalar_rolls = fold-roll-Scalar L L L L expr_step index_step scalar_step range_step

pub whole_lexemes : (value : ℕ) → expr_lexemes (e.Whole value) ≡ integer value ∷ []
whole_lexemes value = ap expr_lexemes (sym (e.rolls-Whole value)) ∙ expr_rolls (o.Whole value)

pub bits_lexemes : (value : ℕ) (length : ℕ) → expr_lexemes (e.BitText value length) ≡ bits value length ∷ []
bits_lexemes value length = ap expr_lexemes (sym (e.rolls-BitText value length)) ∙ expr_rolls (o.BitText value length)

pub pi_lexemes : expr_lexemes e.Pi ≡ lexeme r.Constant (codes "pi") ∷ []
pi_lexemes = ap expr_lexemes (sym e.rolls-Pi) ∙ expr_rolls o.Pi

pub tau_lexemes : expr_lexemes e.Tau ≡ lexeme r.Constant (codes "tau") ∷ []
tau_lexemes = ap expr_lexemes (sym e.rolls-Tau) ∙ expr_rolls o.Tau

pub truth_lexemes : (value : Bool) → expr_lexemes (e.Bool value) ≡ keyword (truth_text value) ∷ []
truth_lexemes value = ap expr_lexemes (sym (e.rolls-Bool value)) ∙ expr_rolls (o.Expr::Bool value)

pub parenthesized_lexemes : (inner : Expr) → expr_lexemes (e.Parenthesized inner) ≡ parenthesized (expr_lexemes inner)
parenthesized_lexemes inner = ap expr_lexemes (sym (e.rolls-Parenthesized inner)) ∙ expr_rolls (o.Parenthesized inner)

pub name_lexemes : (text : Label) (brackets : List (List Index)) → expr_lexemes (e.Name text brackets) ≡ name text ∷ brackets_lexemes brackets
name_lexemes text brackets = ap expr_lexemes (sym (e.rolls-Name text brackets)) ∙ expr_rolls (o.Name text brackets) ∙ ap (λ t. name text ∷ t) (brackets-map brackets)

pub call_lexemes : (text : Label) (arguments : List Expr) → expr_lexemes (e.Call text arguments) ≡ name text ∷ parenthesized (list_lexemes arguments)
call_lexemes text arguments = ap expr_lexemes (sym (e.rolls-Call text arguments)) ∙ expr_rolls (o.Call text arguments)

pub cast_lexemes : (to : Scalar) (operand : Expr) → expr_lexemes (e.Cast to operand) ≡ scalar_lexemes to ++ parenthesized (expr_lexemes operand)
cast_lexemes to operand = ap expr_lexemes (sym (e.rolls-Cast to operand)) ∙ expr_rolls (o.Cast to operand)

pub sizeof_lexemes : (text : Label) (dimension : Option Expr) → expr_lexemes (e.SizeOf text dimension) ≡ keyword (codes "sizeof") ∷ parenthesized (name text ∷ second_lexemes dimension)
sizeof_lexemes text None = ap expr_lexemes (sym (e.rolls-SizeOf text None)) ∙ expr_rolls (o.SizeOf text None)
sizeof_lexemes text (Some it) = ap expr_lexemes (sym (e.rolls-SizeOf text (Some it))) ∙ expr_rolls (o.SizeOf text (Some it))

pub unary_lexemes : (op : PrefixOperator) (operand : Expr) → expr_lexemes (e.Unary op operand) ≡ lexeme r.Sign (sign_text op) ∷ expr_lexemes operand
unary_lexemes op operand = ap expr_lexemes (sym (e.rolls-Unary op operand)) ∙ expr_rolls (o.Unary op operand)

pub binary_lexemes : (op : InfixOperator) (left : Expr) (right : Expr) → expr_lexemes (e.Binary op left right) ≡ expr_lexemes left ++ operator (operator_text op) ∷ expr_lexemes right
binary_lexemes op left right = ap expr_lexemes (sym (e.rolls-Binary op left right)) ∙ expr_rolls (o.Binary op left right)

pub at_lexemes : (place : Expr) → index_lexemes (x.At place) ≡ expr_lexemes place
at_lexemes place = ap index_lexemes (sym (x.rolls-At place)) ∙ index_rolls (o.At place)

pub index-range_lexemes : (range : Range) → index_lexemes (x.Range range) ≡ range_lexemes range
index-range_lexemes range = ap index_lexemes (sym (x.rolls-Range range)) ∙ index_rolls (o.Range range)

pub set_lexemes : (places : List Expr) → index_lexemes (x.Set places) ≡ braced (list_lexemes places)
set_lexemes places = ap index_lexemes (sym (x.rolls-Set places)) ∙ index_rolls (o.Set places)

pub bool_lexemes : scalar_lexemes c.Bool ≡ keyword (codes "bool") ∷ []
bool_lexemes = ap scalar_lexemes (sym c.rolls-Bool) ∙ scalar_rolls o.Scalar::Bool

pub bit_lexemes : (size : Option Expr) → scalar_lexemes (c.Bit size) ≡ type_lexemes (codes "bit") size
bit_lexemes None = ap scalar_lexemes (sym (c.rolls-Bit None)) ∙ scalar_rolls (o.Bit None)
bit_lexemes (Some it) = ap scalar_lexemes (sym (c.rolls-Bit (Some it))) ∙ scalar_rolls (o.Bit (Some it))

pub int_lexemes : (size : Option Expr) → scalar_lexemes (c.Int size) ≡ type_lexemes (codes "int") size
int_lexemes None = ap scalar_lexemes (sym (c.rolls-Int None)) ∙ scalar_rolls (o.Int None)
int_lexemes (Some it) = ap scalar_lexemes (sym (c.rolls-Int (Some it))) ∙ scalar_rolls (o.Int (Some it))

pub uint_lexemes : (size : Option Expr) → scalar_lexemes (c.Uint size) ≡ type_lexemes (codes "uint") size
uint_lexemes None = ap scalar_lexemes (sym (c.rolls-Uint None)) ∙ scalar_rolls (o.Uint None)
uint_lexemes (Some it) = ap scalar_lexemes (sym (c.rolls-Uint (Some it))) ∙ scalar_rolls (o.Uint (Some it))

pub angle_lexemes : (size : Option Expr) → scalar_lexemes (c.Angle size) ≡ type_lexemes (codes "angle") size
angle_lexemes None = ap scalar_lexemes (sym (c.rolls-Angle None)) ∙ scalar_rolls (o.Angle None)
angle_lexemes (Some it) = ap scalar_lexemes (sym (c.rolls-Angle (Some it))) ∙ scalar_rolls (o.Angle (Some it))

range-out_lexemes : (start step end : Option Expr) → range_step (map-Range Expr Index Scalar Range L L L L expr_lexemes index_lexemes scalar_lexemes range_lexemes (record { start = start; step = step; end = end })) ≡ end_lexemes start ++ colon ∷ (step_lexemes step ++ end_lexemes end)
range-out_lexemes None None None = refl
range-out_lexemes None None (Some end) = refl
range-out_lexemes None (Some step) None = refl
range-out_lexemes None (Some step) (Some end) = refl
range-out_lexemes (Some start) None None = refl
range-out_lexemes (Some start) None (Some end) = refl
range-out_lexemes (Some start) (Some step) None = refl
range-out_lexemes (Some start) (Some step) (Some end) = refl

pub range-parts_lexemes : (range : Range) → range_lexemes range ≡ end_lexemes (out-Range range).start ++ colon ∷ (step_lexemes (out-Range range).step ++ end_lexemes (out-Range range).end)
range-parts_lexemes range = fold_out-Range L L L L expr_step index_step scalar_step range_step range ∙ range-out_lexemes (out-Range range).start (out-Range range).step (out-Range range).end

pub ruleset expressions = (puts_both, whole_lexemes, bits_lexemes, pi_lexemes, tau_lexemes, truth_lexemes, parenthesized_lexemes, name_lexemes, call_lexemes, cast_lexemes, sizeof_lexemes, unary_lexemes, binary_lexemes)

pub ruleset indexes = (puts_both, at_lexemes, index-range_lexemes, set_lexemes)

pub ruleset scalars = (puts_both, bool_lexemes, bit_lexemes, int_lexemes, uint_lexemes, angle_lexemes)

pub ruleset ranges = (puts_both, range-parts_lexemes)
