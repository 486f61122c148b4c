-- The typing of an expression at its forms, as the program matches on them.
use Rattle.std.proofs.Common.{◌≡◌, ℕ, Bool, List, Option, Some, None, Ok, map, ap, sym, ◌∙◌}
use Rattle.qt_const.specs.Operators.{op_of_infix, op_of_prefix}
use Rattle.qt_const_rules.specs.declared.modes.Mode.{Mode}
use Rattle.qt_names.specs.Scopes.{found, or_unknown}
use Rattle.qt_tree.specs.declared.expression.PrefixOperator.{PrefixOperator}
use Rattle.qt_tree.specs.declared.expression.InfixOperator.{InfixOperator}
use Rattle.qt_tree.specs.declared.expression.Expr.{Expr, roll-Expr}
use Rattle.qt_tree.specs.declared.expression.Scalar.{Scalar}
use Rattle.qt_tree.specs.declared.expression.Index.{Index}
use Rattle.qt_tree.specs.declared.expression.Range.{Range}
use Rattle.qt_tree.specs.declared.expression.Expr.TheVariants as e
use Rattle.qt_tree.specs.declared.expression.Index.TheVariants as x
use Rattle.qt_tree.specs.declared.expression.Expr.TheOpen as o
use Rattle.qt_tree.specs.declared.label.Label.{Label}
use Rattle.qt_tree.specs.declared.place.Place.{Place}
use Rattle.qt_typing.specs.declared.names.Names.{Names}
use Rattle.qt_typing.specs.declared.operand.Operand.TheVariants as operand
use Rattle.qt_typing.specs.Checked.{and_then}
use Rattle.qt_typing.specs.declared.way.Way.TheVariants as way
use Rattle.qt_typing.specs.Conversions.{wanted}
use Rattle.qt_typing.specs.Environment.{type_at}
use Rattle.qt_typing.specs.Indexes.{Part, IndexPart, Single, Bounds, Several, all_indexes}
use Rattle.qt_typing.specs.Operators.{before_operand}
use Rattle.qt_typing.specs.Expressions.{form_typed, part_of, index_part, typed_of, constant_operand, name_operand, builtin_at}
use Rattle.qt_typing.specs.Expressions.{builtin_call, between_operands, inner_mode}
use Rattle.qt_check_operands.specs.Parts.{index_parts}
use Rattle.qt_check_operands.proofs.EveryIndex.{all_of_map}
use Rattle.qt_check_operands.proofs.Written.{expr_rolls, index_rolls, parts, expr_written, scalar_written, range_written}

-- a part as it is written
abbrev pub part : Names → Place → Expr → Part
part names place expr = record { written = expr; typed = λ m. typed_of names m place expr }

pub part_is : (names : Names) (place : Place) (expr : Expr) → part_of names place expr ≡ part names place expr
part_is names place expr = ap (λ t. record { written = t; typed = λ m. typed_of names m place expr }) (expr_written names place expr)

module _ (names : Names) (m : Mode) (place : Place) where
  typed_rolls : (layer : o.Expr-F Expr Index Scalar Range) → typed_of names m place (roll-Expr layer)
      ≡ form_typed names m place (roll-Expr layer) (parts names place layer)
  typed_rolls layer =
      ap (λ (p : Part). p.typed m) (expr_rolls names place layer)
      ∙ ap (λ t. form_typed names m place t (parts names place layer))
      (sym (ap (λ (p : Part). p.written) (expr_rolls names place layer)) ∙ expr_written names place (roll-Expr layer))

  pub whole_typed : (n : ℕ) → typed_of names m place (e.Whole n) ≡ constant_operand names m place (e.Whole n)
  whole_typed n =
      ap (typed_of names m place) (sym (e.rolls-Whole n))
      ∙ (typed_rolls (o.Whole n) ∙ ap (constant_operand names m place) (e.rolls-Whole n))

  pub digits_typed : (bits length : ℕ) → typed_of names m place (e.BitText bits length) ≡ constant_operand names m place
      (e.BitText bits length)
  digits_typed bits length =
      ap (typed_of names m place) (sym (e.rolls-BitText bits length))
      ∙ (typed_rolls (o.BitText bits length) ∙ ap (constant_operand names m place) (e.rolls-BitText bits length))

  pub truth_typed : (b : Bool) → typed_of names m place (e.Bool b) ≡ constant_operand names m place (e.Bool b)
  truth_typed b =
      ap (typed_of names m place) (sym (e.rolls-Bool b))
      ∙ (typed_rolls (o.Expr::Bool b) ∙ ap (constant_operand names m place) (e.rolls-Bool b))

  pub pi_typed : typed_of names m place e.Pi ≡ form_typed names m place e.Pi o.Pi
  pi_typed = ap (typed_of names m place) (sym e.rolls-Pi) ∙ typed_rolls o.Pi

  pub tau_typed : typed_of names m place e.Tau ≡ form_typed names m place e.Tau o.Tau
  tau_typed = ap (typed_of names m place) (sym e.rolls-Tau) ∙ typed_rolls o.Tau

  pub parenthesized_typed : (inner : Expr) → typed_of names m place (e.Parenthesized inner) ≡ typed_of names m place inner
  parenthesized_typed inner = ap (typed_of names m place) (sym (e.rolls-Parenthesized inner)) ∙ typed_rolls (o.Parenthesized inner)

  pub name_typed : (name : Label) (brackets : List (List Index)) → typed_of names m place (e.Name name brackets)
      ≡ and_then (or_unknown name place (found names.scopes name))
      (λ it. name_operand names m place name (index_parts names place (all_indexes brackets)) it.what it)
  name_typed name brackets =
      ap (typed_of names m place) (sym (e.rolls-Name name brackets))
      ∙ (typed_rolls (o.Name name brackets)
      ∙ ap (λ t. and_then (or_unknown name place (found names.scopes name)) (λ it. name_operand names m place name t it.what it))
      (all_of_map (index_part names place) brackets))

  pub call_typed : (name : Label) (arguments : List Expr) → typed_of names m place (e.Call name arguments)
      ≡ and_then (builtin_at place name (found names.scopes name)) (builtin_call m place (map (part_of names place) arguments))
  call_typed name arguments = ap (typed_of names m place) (sym (e.rolls-Call name arguments)) ∙ typed_rolls (o.Call name arguments)

  pub cast_typed : (to : Scalar) (of : Expr) → typed_of names m place (e.Cast to of)
      ≡ and_then (type_at names m place to) (λ kind. and_then (typed_of names m place of)
      (λ y. and_then (wanted way.Written names m place kind of y) (λ form. Ok (operand.Value kind form))))
  cast_typed to of =
      ap (typed_of names m place) (sym (e.rolls-Cast to of))
      ∙ (typed_rolls (o.Cast to of)
      ∙ (ap (λ t. and_then (type_at names m place t)
      (λ kind. and_then (typed_of names m place of)
      (λ y. and_then (wanted way.Written names m place kind (part_of names place of).written y)
      (λ form. Ok (operand.Value kind form))))) (scalar_written names place to)
      ∙ ap (λ t. and_then (type_at names m place to)
      (λ kind. and_then (typed_of names m place of)
      (λ y. and_then (wanted way.Written names m place kind t y) (λ form. Ok (operand.Value kind form)))))
      (expr_written names place of)))

  pub sizeof_typed : (name : Label) (dimension : Option Expr) → typed_of names m place (e.SizeOf name dimension)
      ≡ constant_operand names m place (e.SizeOf name dimension)
  sizeof_typed name None =
      ap (typed_of names m place) (sym (e.rolls-SizeOf name None))
      ∙ (typed_rolls (o.SizeOf name None) ∙ ap (constant_operand names m place) (e.rolls-SizeOf name None))
  sizeof_typed name (Some d) =
      ap (typed_of names m place) (sym (e.rolls-SizeOf name (Some d)))
      ∙ (typed_rolls (o.SizeOf name (Some d)) ∙ ap (constant_operand names m place) (e.rolls-SizeOf name (Some d)))

  pub unary_typed : (op : PrefixOperator) (of : Expr) → typed_of names m place (e.Unary op of) ≡ and_then (typed_of names m place of)
      (before_operand place (op_of_prefix op))
  unary_typed op of = ap (typed_of names m place) (sym (e.rolls-Unary op of)) ∙ typed_rolls (o.Unary op of)

  pub binary_typed : (op : InfixOperator) (left right : Expr) → typed_of names m place (e.Binary op left right)
      ≡ between_operands names (inner_mode names m op (part names place left) (part names place right)) place op (op_of_infix op)
      (part names place left) (part names place right)
  binary_typed op left right =
      ap (typed_of names m place) (sym (e.rolls-Binary op left right))
      ∙ (typed_rolls (o.Binary op left right)
      ∙ (ap (λ t. between_operands names (inner_mode names m op t (part_of names place right)) place op (op_of_infix op) t
      (part_of names place right)) (part_is names place left)
      ∙ ap (λ t. between_operands names (inner_mode names m op (part names place left) t) place op (op_of_infix op)
      (part names place left) t) (part_is names place right)))

-- ---- the shapes of indexes

pub at_shape : (names : Names) (place : Place) (at : Expr) → (index_part names place (x.At at)).shape ≡ Single (part names place at)
at_shape names place at =
    ap (λ i. (index_part names place i).shape) (sym (x.rolls-At at))
    ∙ (ap (λ (p : IndexPart). p.shape) (index_rolls names place (o.At at)) ∙ ap Single (part_is names place at))

pub range_shape : (names : Names) (place : Place) (range : Range) → (index_part names place (x.Range range)).shape ≡ Bounds range
range_shape names place range =
    ap (λ i. (index_part names place i).shape) (sym (x.rolls-Range range))
    ∙ (ap (λ (p : IndexPart). p.shape) (index_rolls names place (o.Range range)) ∙ ap Bounds (range_written names place range))

pub set_shape : (names : Names) (place : Place) (places : List Expr) → (index_part names place (x.Set places)).shape ≡ Several
set_shape names place places =
    ap (λ i. (index_part names place i).shape) (sym (x.rolls-Set places)) ∙ ap (λ (p : IndexPart). p.shape)
    (index_rolls names place (o.Set places))

pub ruleset expressions = (
  whole_typed,
  digits_typed,
  truth_typed,
  pi_typed,
  tau_typed,
  parenthesized_typed,
  name_typed,
  call_typed,
  cast_typed,
  sizeof_typed,
  unary_typed,
  binary_typed,
)

pub ruleset indexes = (at_shape, range_shape, set_shape)
