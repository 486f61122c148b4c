-- Constants that are values have types with sizes.
use Rattle.std.proofs.Common.{◌≡◌, ℕ, suc, ◌-◌, ◌/◌, ◌<◌, ◌≤◌, Bool, true, false, ◌&&◌, nat_eq, nat_le, nat_lt, ◌^◌, List, [], ◌∷◌, map, slice_get, Option, Some, None, Result, Ok, Err, refl, sym, subst, arith}
use Rattle.std.specs.Prelude.{ℤ, pos, negsuc, if◌then◌else◌}
use Rattle.std.proofs.lemmas.Bool.{leb-true}
use Rattle.std.specs.Cmp.Lexicographic.{pointwise}
use Rattle.std.specs.Option.{option_or}
use Rattle.qt_phase.specs.declared.phase.PhaseFault.{PhaseFault}
use Rattle.qt_ring.proofs.RingLaws.{and_left, and_right}
use Rattle.qt_tree.specs.declared.expression.Expr.{Expr, roll-Expr}
use Rattle.qt_tree.specs.declared.expression.Scalar.{Scalar, roll-Scalar}
use Rattle.qt_tree.specs.declared.expression.Index.{Index, roll-Index}
use Rattle.qt_tree.specs.declared.expression.Range.{Range, roll-Range}
use Rattle.qt_tree.specs.declared.expression.InfixOperator.{InfixOperator}
use Rattle.qt_tree.specs.declared.expression.Expr.TheOpen as o
use Rattle.qt_tree.specs.declared.expression.Expr.TheFolds.{fold-roll-Expr, fold-roll-Index, fold-roll-Scalar, fold-roll-Range}
use Rattle.qt_tree.specs.declared.expression.Expr.TheFolds.{ind-Expr, ind-Scalar, map-Expr, map-Index, map-Scalar, map-Range}
use Rattle.qt_value.specs.Casts.{converted}
use Rattle.qt_value.specs.Numbers.{Datum}
use Rattle.qt_value.specs.OpTypes.{result_type}
use Rattle.qt_value.specs.Results.{result_of, unary_result_of}
use Rattle.qt_value.specs.Types.{has_size, width_of}
use Rattle.qt_value.specs.declared.constant.ConstValue.{ConstValue}
use Rattle.qt_value.specs.declared.constant.ConstValue.TheVariants as constant
use Rattle.qt_value.specs.declared.operators.Op.{Op}
use Rattle.qt_value.specs.declared.operators.Op.TheVariants as op
use Rattle.qt_value.specs.declared.operators.UnaryOp.{UnaryOp}
use Rattle.qt_value.specs.declared.operators.UnaryOp.TheVariants as unary
use Rattle.qt_value.specs.declared.types.ValueType.{ValueType}
use Rattle.qt_value.specs.declared.types.ValueType.TheVariants as kind
use Rattle.qt_phase.specs.Phase.{exact_quotient}
use Rattle.qt_const_rules.specs.Answers.{Answer, whole_number, truth_of_constant}
use Rattle.qt_const_rules.specs.Angles.{angle_at, angle_of, step_of}
use Rattle.qt_const_rules.specs.Modes.{decides, right_mode}
use Rattle.qt_const_rules.specs.Names.{known_of, said_of}
use Rattle.qt_const_rules.specs.Rests.{is_inexact}
use Rattle.qt_const_rules.specs.declared.builtins.Builtin.{Builtin}
use Rattle.qt_const_rules.specs.declared.builtins.Builtin.TheVariants as builtin
use Rattle.qt_const_rules.specs.declared.consts.Entry.{Entry}
use Rattle.qt_const_rules.specs.declared.consts.Known.{Known}
use Rattle.qt_const_rules.specs.declared.consts.Known.TheVariants as known
use Rattle.qt_const_rules.specs.declared.fault.ConstFault.TheVariants as fault
use Rattle.qt_const_rules.specs.declared.modes.Mode.{Mode}
use Rattle.qt_const_rules.specs.declared.modes.Mode.TheVariants as mode
use Rattle.qt_const_rules.specs.declared.modes.Way.{Way}
use Rattle.qt_const_rules.specs.declared.modes.Way.TheVariants as way
use Rattle.qt_const.specs.Constants.{is_whole_zero, lengths_of, digits, truth, cast_to, cast_or, cast_by_phase, named, dimension, length_answer, phase_answer}
use Rattle.qt_const.specs.Indexes.{bit_of, has_places, slice, slice_if, slice_of, from_to, place_in, step_in}
use Rattle.qt_const.specs.Operators.{applied, by_row, beside_left, beside_right, combined, left_angle, left_phase, no_angle, of_phases, of_values, op_of_infix, op_of_prefix, or_divide, phase_and_whole, phase_left, phase_right, right_angle, right_phase, row, row_or_angles, unary_answer, whole_and_phase}
use Rattle.qt_const.specs.Value.{Reading, TypeReading, IndexReading, by_operator, call_of, dimension_or_first, expr_step, in_brackets, index_reading, index_step, indexed, logical_answer, number_in, operand_in, operated, or_else, range_reading, range_step, reading_of, rotated, scalar_step, size_in, size_or, sized_type, type_reading, typed_first, unless_zero, value_of, values_in, with_rest}
use Rattle.qt_flat_expressions.proofs.Slices.{register_sized}
use Rattle.qt_typing_laws.specs.Fits.{ConstantFits, KnownFits, ConstantsFit}
use Rattle.qt_typing_laws.proofs.Holding.{Holds, ok_holds, err_holds, any_holds, next_holds, if_holds, IfSome, some_is, none_is}
use Rattle.qt_typing_laws.proofs.Sizes.{few_between, IsSized, DatumFits, IsOf, result_is_sized, result_of_sized, unary_of_sized, converted_is, place_below}

abbrev pub AnswerFits : Answer ConstValue → Type 0
AnswerFits answer = Holds ConstantFits answer

-- ---- literals

literal_fits : (b : Bool) (n : ℕ) → IsSized (if b then kind.Int 64 else kind.Uint 64)
literal_fits true n = refl
literal_fits false n = refl

truth_fits : (b : Bool) → ConstantFits (truth b)
truth_fits true = refl
truth_fits false = refl

digits_fit : (bits length : ℕ) → AnswerFits (digits bits length)
digits_fit bits length =
    if_holds _ (λ e. ok_holds (and_left (has_size (kind.Bit length)) (nat_lt bits (2 ^ length)) e)) (λ e. err_holds)

-- ---- operators

phase_answer_fits : (r : Result ℤ PhaseFault) → AnswerFits (phase_answer r)
phase_answer_fits (Ok p) = ok_holds tt
phase_answer_fits (Err e) = err_holds

or_divide_fits : (m : Mode) (k : ValueType) (x : Option Datum) → IsSized k → IfSome DatumFits x → AnswerFits (or_divide m k x)
or_divide_fits m k (Some x) h g = ok_holds (g.by x refl)
or_divide_fits mode.Unevaluated k None h g = ok_holds h
or_divide_fits m k None h g = err_holds

row_fits : (m : Mode) (op : Op) (x y : Datum) (t : Option ValueType) → DatumFits x → DatumFits y → IfSome IsSized t
    → AnswerFits (row m op x y t)
row_fits m op x y None h g s = err_holds
row_fits m op x y (Some k) h g s =
    if_holds (is_inexact m op x y) (λ e. err_holds)
    (λ e. or_divide_fits m k (result_of op x y) (s.by k refl) (result_of_sized op x y h g))

by_row_fits : (m : Mode) (op : Op) (x y : Datum) → DatumFits x → DatumFits y → AnswerFits (by_row m op x y)
by_row_fits m op x y h g = row_fits m op x y (result_type op x.kind y.kind) h g (result_is_sized op x.kind y.kind h g)

beside_left_fits : (m : Mode) (op : Op) (x y : Datum) (k : ValueType) → DatumFits x → IsSized k → AnswerFits (beside_left m op x y k)
beside_left_fits m op x y (kind.Angle n) h g =
    if_holds (is_whole_zero y) (λ e. by_row_fits m op x (no_angle n) h g) (λ e. err_holds)
beside_left_fits m op x y _ h g = err_holds

beside_right_fits : (m : Mode) (op : Op) (x y : Datum) (k : ValueType) → DatumFits x → DatumFits y → IsSized k
    → AnswerFits (beside_right m op x y k)
beside_right_fits m op x y (kind.Angle n) h g s =
    if_holds (is_whole_zero x) (λ e. by_row_fits m op (no_angle n) y s g) (λ e. beside_left_fits m op x y x.kind h h)
beside_right_fits m op x y _ h g s = beside_left_fits m op x y x.kind h h

of_values_fit : (m : Mode) (op : Op) (x y : Datum) → DatumFits x → DatumFits y → AnswerFits (of_values m op x y)
unfolding of_values
of_values_fit m op x y h g = by_type (result_type op x.kind y.kind) (result_is_sized op x.kind y.kind h g)
  where
    by_type : (t : Option ValueType) → IfSome IsSized t → AnswerFits (row_or_angles m op x y t)
    by_type None s = beside_right_fits m op x y y.kind h g g
    by_type (Some k) s = row_fits m op x y (Some k) h g s

of_phases_fit : (op : Op) (p q : ℤ) → AnswerFits (of_phases op p q)
unfolding of_phases
of_phases_fit op.Add p q = phase_answer_fits _
of_phases_fit op.Sub p q = phase_answer_fits _
of_phases_fit _ p q = err_holds

pub angle_fits : (n : ℕ) (p : ℤ) → Holds (λ x. x.kind ≡ kind.Angle n) (angle_of n p)
unfolding angle_of
angle_fits n p = by_steps (exact_quotient p (step_of n))
  where
    by_steps : (r : Result ℤ PhaseFault) → Holds (λ (x : Datum). x.kind ≡ kind.Angle n) (angle_at n r)
    by_steps (Ok steps) = ok_holds refl
    by_steps (Err e) = err_holds

angle_sized : (n : ℕ) (x : Datum) → IsSized (kind.Angle n) → x.kind ≡ kind.Angle n → DatumFits x
angle_sized n x h e = subst (λ k. has_size k ≡ true) (sym e) h

left_angle_fits : (m : Mode) (op : Op) (n : ℕ) (p : ℤ) (y : Datum) (t : Option ValueType) → IsSized (kind.Angle n) → DatumFits y
    → AnswerFits (left_angle m op n p y t)
left_angle_fits m op n p y None h g = err_holds
left_angle_fits m op n p y (Some k) h g = next_holds (angle_fits n p) (λ x e. by_row_fits m op x y (angle_sized n x h e) g)

right_angle_fits : (m : Mode) (op : Op) (n : ℕ) (x : Datum) (q : ℤ) (t : Option ValueType) → IsSized (kind.Angle n) → DatumFits x
    → AnswerFits (right_angle m op n x q t)
right_angle_fits m op n x q None h g = err_holds
right_angle_fits m op n x q (Some k) h g = next_holds (angle_fits n q) (λ y e. by_row_fits m op x y g (angle_sized n y h e))

phase_and_whole_fits : (op : Op) (p : ℤ) (y : Datum) → AnswerFits (phase_and_whole op p y)
phase_and_whole_fits op.Mul p y = phase_answer_fits _
phase_and_whole_fits op.Div p y = phase_answer_fits _
phase_and_whole_fits o p y = if_holds (is_whole_zero y) (λ e. of_phases_fit _ p _) (λ e. err_holds)

whole_and_phase_fits : (op : Op) (x : Datum) (q : ℤ) → AnswerFits (whole_and_phase op x q)
whole_and_phase_fits op.Mul x q = phase_answer_fits _
whole_and_phase_fits o x q = if_holds (is_whole_zero x) (λ e. of_phases_fit _ _ q) (λ e. err_holds)

phase_left_fits : (m : Mode) (op : Op) (p : ℤ) (y : Datum) (k : ValueType) → DatumFits y → IsSized k → AnswerFits (phase_left m op p y k)
phase_left_fits m op p y (kind.Angle n) h g = left_angle_fits m op n p y (result_type op (kind.Angle n) (kind.Angle n)) g h
phase_left_fits m op p y _ h g = phase_and_whole_fits op p y

phase_right_fits : (m : Mode) (op : Op) (x : Datum) (q : ℤ) (k : ValueType) → DatumFits x → IsSized k → AnswerFits (phase_right m op x q k)
phase_right_fits m op x q (kind.Angle n) h g = right_angle_fits m op n x q (result_type op (kind.Angle n) (kind.Angle n)) g h
phase_right_fits m op x q _ h g = whole_and_phase_fits op x q

combined_fits : (m : Mode) (op : Op) (a b : ConstValue) → ConstantFits a → ConstantFits b → AnswerFits (combined m op a b)
unfolding combined left_phase right_phase
combined_fits m op (constant.Value x) (constant.Value y) h g = of_values_fit m op x y h g
combined_fits m op (constant.Value x) (constant.Phase q) h g = phase_right_fits m op x q x.kind h h
combined_fits m op (constant.Phase p) (constant.Value y) h g = phase_left_fits m op p y y.kind g g
combined_fits m op (constant.Phase p) (constant.Phase q) h g = of_phases_fit op p q

unary_answer_fits : (x : Option Datum) → IfSome DatumFits x → AnswerFits (unary_answer x)
unary_answer_fits None h = err_holds
unary_answer_fits (Some x) h = ok_holds (h.by x refl)

applied_fits : (op : UnaryOp) (c : ConstValue) → ConstantFits c → AnswerFits (applied op c)
unfolding applied
applied_fits op (constant.Value x) h = unary_answer_fits (unary_result_of op x) (unary_of_sized op x h)
applied_fits unary.Neg (constant.Phase p) h = ok_holds tt
applied_fits _ (constant.Phase p) h = err_holds

-- ---- casts

-- a value is of that type
abbrev pub ConstantIs : ValueType → ConstValue → Type 0
ConstantIs to (constant.Value x) = x.kind ≡ to
ConstantIs to (constant.Phase p) = Unit {0}

by_phase_is : (to : ValueType) (x : Datum) → Holds (ConstantIs to) (cast_by_phase to x)
by_phase_is (kind.Angle n) x = if_holds (is_whole_zero x) (λ e. ok_holds refl) (λ e. err_holds)
by_phase_is _ x = err_holds

cast_or_is : (to : ValueType) (x : Datum) (y : Option Datum) → IfSome (IsOf to) y → Holds (ConstantIs to) (cast_or to x y)
cast_or_is to x (Some y) h = ok_holds ((h.by y refl).0)
cast_or_is to x None h = by_phase_is to x

phase_cast_is : (to : ValueType) (p : ℤ) → Holds (ConstantIs to) (cast_to to (constant.Phase p))
unfolding cast_to
phase_cast_is (kind.Angle n) p = next_holds (angle_fits n p) (λ x e. ok_holds e)
phase_cast_is _ p = err_holds

pub cast_is : (to : ValueType) (c : ConstValue) → Holds (ConstantIs to) (cast_to to c)
unfolding cast_to
cast_is to (constant.Value x) = cast_or_is to x (converted x to) (converted_is x to)
cast_is to (constant.Phase p) = phase_cast_is to p

sized_cast : (to : ValueType) (c : ConstValue) → IsSized to → ConstantIs to c → ConstantFits c
sized_cast to (constant.Value x) h e = subst (λ k. has_size k ≡ true) (sym e) h
sized_cast to (constant.Phase p) h e = tt

pub cast_fits : (to : ValueType) (c : ConstValue) → IsSized to → AnswerFits (cast_to to c)
cast_fits to c h = record { by = λ d e. sized_cast to d h ((cast_is to c).by d e) }

-- ---- places

bit_fits : (c : ConstValue) (i : ℤ) → AnswerFits (bit_of c i)
unfolding bit_of
bit_fits (constant.Value x) i =
    if_holds (has_places x.kind) (λ e. next_holds {r = place_in (width_of x.kind) i} any_holds (λ place _. ok_holds refl)) (λ e. err_holds)
bit_fits (constant.Phase p) i = err_holds

from_to_fits : (n bits start step end : ℕ) → n ≤ 64 → end < n → AnswerFits (from_to bits start step end)
from_to_fits n bits start step end narrow l =
    if_holds (nat_le start end)
    (λ e. ok_holds (let few = few_between start step end n (leb-true start end e) l in
    register_sized (suc ((end - start) / step)) (omega arith) (omega arith)))
    (λ e. err_holds)

slice_of_fits : (n bits : ℕ) (start step end : ℤ) → n ≤ 64 → AnswerFits (slice_of n bits start step end)
slice_of_fits n bits start step end narrow =
    next_holds {r = place_in n start} any_holds (λ first _.
    next_holds {r = step_in step} any_holds (λ by _.
    next_holds (place_below n end) (λ last l. from_to_fits n bits first by last narrow l)))

slice_if_fits : (k : ValueType) (bits : ℕ) (start step end : ℤ) → IsSized k → AnswerFits (slice_if k bits start step end)
slice_if_fits (kind.Bit n) bits start step end h =
    slice_of_fits n bits start step end (leb-true n 64 (and_right (nat_le 1 n) (nat_le n 64) h))
slice_if_fits _ bits start step end h = err_holds

slice_fits : (c : ConstValue) (start step end : ℤ) → ConstantFits c → AnswerFits (slice c start step end)
unfolding slice
slice_fits (constant.Value x) start step end h = slice_if_fits x.kind x.bits start step end h
slice_fits (constant.Phase p) start step end h = err_holds

-- ---- names

pub or_is : {A : Type 0} {P : A → Type 0} (a b : Option A) → IfSome P a → IfSome P b → IfSome P (option_or a b)
or_is None b h g = g
or_is (Some x) b h g = h

said_fits : (b : Bool) (it : Known) → KnownFits it → IfSome KnownFits (if b then Some it else None)
said_fits true it h = some_is h
said_fits false it h = none_is

pub known_fits : (k : List Entry) (name : List ℕ) → ConstantsFit k → IfSome KnownFits (known_of k name)
known_fits [] name h = none_is
known_fits (entry ∷ later) name h =
    or_is (known_of later name) (said_of entry name) (known_fits later name h.1)
    (said_fits (pointwise nat_eq entry.name name) entry.known h.0)

pub named_fits : (name : List ℕ) (n : ℕ) (t : Option Known) → IfSome KnownFits t → AnswerFits (named name n t)
named_fits name n None h = err_holds
named_fits name n (Some (known.Constant c)) h = ok_holds (h.by (known.Constant c) refl)
named_fits name n (Some (known.Lengths lengths)) h = err_holds
named_fits name n (Some known.Other) h = err_holds
named_fits name n (Some known.Subroutine) h = err_holds
named_fits name n (Some known.Hidden) h = err_holds

length_fits : (o : Option ℕ) → AnswerFits (length_answer o)
length_fits None = err_holds
length_fits (Some n) = ok_holds refl

dimension_fits : (lengths : List ℕ) (d : ℤ) → AnswerFits (dimension lengths d)
unfolding dimension
dimension_fits lengths (pos d) = length_fits (slice_get lengths d)
dimension_fits lengths (negsuc d) = err_holds

wanted_fits : (lengths : List ℕ) (d : Option ℤ) → AnswerFits (dimension_or_first lengths d)
wanted_fits lengths None = dimension_fits lengths (pos 0)
wanted_fits lengths (Some d) = dimension_fits lengths d

-- ---- what the parts mean

abbrev ReadingFits : Reading → Type 0
ReadingFits r = (m : Mode) → AnswerFits (r.value m)

abbrev TypeFits : TypeReading → Type 0
TypeFits t = (m : Mode) → Holds IsSized (t.kind m)

abbrev IndexFits : IndexReading → Type 0
IndexFits f = (m : Mode) (c : ConstValue) → ConstantFits c → AnswerFits (f m c)

abbrev ReadingsFit : List Reading → Type 0
ReadingsFit [] = Unit {0}
ReadingsFit (r ∷ rest) = ReadingFits r × ReadingsFit rest

abbrev IndexesFit : List IndexReading → Type 0
IndexesFit [] = Unit {0}
IndexesFit (f ∷ rest) = IndexFits f × IndexesFit rest

abbrev BracketsFit : List (List IndexReading) → Type 0
BracketsFit [] = Unit {0}
BracketsFit (fs ∷ rest) = IndexesFit fs × BracketsFit rest

indexed_fits : (m : Mode) (fs : List IndexReading) (c : ConstValue) → IndexesFit fs → ConstantFits c → AnswerFits (indexed m fs c)
indexed_fits m [] c h g = ok_holds g
indexed_fits m (f ∷ rest) c h g = next_holds (h.0 m c g) (λ d s. indexed_fits m rest d h.1 s)

brackets_fit : (m : Mode) (fs : List (List IndexReading)) (c : ConstValue) → BracketsFit fs → ConstantFits c → AnswerFits (in_brackets m fs c)
brackets_fit m [] c h g = ok_holds g
brackets_fit m (fs ∷ rest) c h g = next_holds (indexed_fits m fs c h.0 g) (λ d s. brackets_fit m rest d h.1 s)

operated_fits : (m : Mode) (op : Op) (a b : Answer ConstValue) → AnswerFits a → AnswerFits b → AnswerFits (operated m op a b)
operated_fits m op a b h g = next_holds h (λ x s. next_holds g (λ y t. combined_fits m op x y s t))

rotated_fits : (m : Mode) (op : Op) (rs : List Reading) → ReadingsFit rs → AnswerFits (rotated m op (values_in m rs))
rotated_fits m op [] h = err_holds
rotated_fits m op (a ∷ []) h = err_holds
rotated_fits m op (a ∷ b ∷ []) h = operated_fits m op (a.value m) (b.value m) (h.0 m) (h.1.0 m)
rotated_fits m op (a ∷ b ∷ c ∷ rest) h = err_holds

call_fits : (m : Mode) (rs : List Reading) (b : Builtin) → ReadingsFit rs → AnswerFits (call_of m (values_in m rs) b)
call_fits m [] builtin.Popcount h = err_holds
call_fits m (a ∷ []) builtin.Popcount h = next_holds (h.0 m) (λ x s. applied_fits unary.Popcount x s)
call_fits m (a ∷ b ∷ rest) builtin.Popcount h = err_holds
call_fits m rs builtin.Rotl h = rotated_fits m op.Rotl rs h
call_fits m rs builtin.Rotr h = rotated_fits m op.Rotr rs h

unless_zero_fits : (c : ConstValue) → ConstantFits c → AnswerFits (unless_zero c)
unless_zero_fits (constant.Value x) h = if_holds (is_whole_zero x) (λ e. err_holds) (λ e. ok_holds h)
unless_zero_fits (constant.Phase p) h = ok_holds tt

with_rest_fits : (a : Answer ConstValue) → AnswerFits a → AnswerFits (with_rest a)
with_rest_fits (Ok c) h = unless_zero_fits c (h.by c refl)
with_rest_fits (Err fault.Rest) h = err_holds
with_rest_fits (Err (fault.Name name)) h = err_holds
with_rest_fits (Err fault.Type) h = err_holds
with_rest_fits (Err fault.Call) h = err_holds
with_rest_fits (Err (fault.Arity wanted given)) h = err_holds
with_rest_fits (Err (fault.Const cause)) h = err_holds

typed_first_fits : (a b : Answer ConstValue) → AnswerFits a → AnswerFits b → AnswerFits (typed_first a b)
typed_first_fits (Ok c) b h g = ok_holds (h.by c refl)
typed_first_fits (Err fault.Rest) b h g = with_rest_fits b g
typed_first_fits (Err (fault.Name name)) b h g = err_holds
typed_first_fits (Err fault.Type) b h g = err_holds
typed_first_fits (Err fault.Call) b h g = err_holds
typed_first_fits (Err (fault.Arity wanted given)) b h g = err_holds
typed_first_fits (Err (fault.Const cause)) b h g = err_holds

operand_fits : (w : Way) (r : Reading) → ReadingFits r → AnswerFits (operand_in w r.value)
operand_fits (way.In m) r h = h m
operand_fits way.BesidePhase r h = typed_first_fits (r.value mode.Exact) (r.value mode.Plain) (h mode.Exact) (h mode.Plain)

logical_fits : (operator : InfixOperator) (a b : ConstValue) → AnswerFits (logical_answer operator a b)
logical_fits operator a b =
    next_holds {r = truth_of_constant a} any_holds (λ left _.
    next_holds {r = truth_of_constant b} any_holds (λ right _. ok_holds (truth_fits (if decides operator left then left else right))))

between_fits : (m : Mode) (operator : InfixOperator) (op : Option Op) (left right : Reading) → ReadingFits left → ReadingFits right
    → AnswerFits (by_operator m operator op left right)
between_fits m operator (Some op) left right h g =
    operated_fits m op _ _ (operand_fits _ left h) (operand_fits _ right g)
between_fits m operator None left right h g =
    next_holds {r = left.value m} any_holds (λ a _.
    next_holds {r = right.value (right_mode m operator a)} any_holds (λ b _. logical_fits operator a b))

abbrev IsWithin : ℕ → ℕ → Type 0
IsWithin largest n = (nat_le 1 n && nat_le n largest) ≡ true

size_fits : (default largest : ℕ) (z : Option ℤ) → IsWithin largest default → Holds (IsWithin largest) (size_or default largest z)
size_fits default largest None h = ok_holds h
size_fits default largest (Some (pos n)) h = if_holds (nat_le 1 n && nat_le n largest) (λ e. ok_holds e) (λ e. err_holds)
size_fits default largest (Some (negsuc n)) h = err_holds

size_in_fits : (default largest : ℕ) (size : Option Reading) (m : Mode) → IsWithin largest default
    → Holds (IsWithin largest) (size_in m default largest size)
size_in_fits default largest size m h = next_holds {r = number_in m size} any_holds (λ z _. size_fits default largest z h)

sized_fits : (of : ℕ → ValueType) (default largest : ℕ) (size : Option Reading) (m : Mode) → IsWithin largest default
    → ((n : ℕ) → IsWithin largest n → IsSized (of n)) → Holds IsSized (sized_type of default largest size m)
sized_fits of default largest size m h g = next_holds (size_in_fits default largest size m h) (λ n l. ok_holds (g n l))

-- ---- whole trees

module _ (k : List Entry) (fits : ConstantsFit k) where
  abbrev readings : o.Expr-F Expr Index Scalar Range → o.Expr-F Reading IndexReading TypeReading IndexReading
  readings = map-Expr Expr Index Scalar Range Reading IndexReading TypeReading IndexReading (reading_of k) (index_reading k) (type_reading k) (range_reading k)

  expr_rolls : (layer : o.Expr-F Expr Index Scalar Range) → reading_of k (roll-Expr layer) ≡ expr_step k (readings layer)
  expr_rolls = fold-roll-Expr Reading IndexReading TypeReading IndexReading (expr_step k) index_step scalar_step range_step

  index_rolls : (layer : o.Index-F Expr Index Scalar Range) → index_reading k (roll-Index layer)
      ≡ index_step (map-Index Expr Index Scalar Range Reading IndexReading TypeReading IndexReading (reading_of k) (index_reading k) (type_reading k) (range_reading k) layer)
  index_rolls = fold-roll-Index Reading IndexReading TypeReading IndexReading (expr_step k) index_step scalar_step range_step

  scalar_rolls : (layer : o.Scalar-F Expr Index Scalar Range) → type_reading k (roll-Scalar layer)
      ≡ scalar_step (map-Scalar Expr Index Scalar Range Reading IndexReading TypeReading IndexReading (reading_of k) (index_reading k) (type_reading k) (range_reading k) layer)
  scalar_rolls = fold-roll-Scalar Reading IndexReading TypeReading IndexReading (expr_step k) index_step scalar_step range_step

  range_rolls : (layer : o.Range-F Expr Index Scalar Range) → range_reading k (roll-Range layer)
      ≡ range_step (map-Range Expr Index Scalar Range Reading IndexReading TypeReading IndexReading (reading_of k) (index_reading k) (type_reading k) (range_reading k) layer)
  range_rolls = fold-roll-Range Reading IndexReading TypeReading IndexReading (expr_step k) index_step scalar_step range_step

  abbrev ExprFits : Expr → Type 0
  ExprFits e = ReadingFits (reading_of k e)

  abbrev AtFits : Index → Type 0
  AtFits i = IndexFits (index_reading k i)

  abbrev ScalarFits : Scalar → Type 0
  ScalarFits s = TypeFits (type_reading k s)

  abbrev BoundsFit : Range → Type 0
  BoundsFit r = IndexFits (range_reading k r)

  module _ {A B C D : Type 0} (fa : A → Expr) (fb : B → Index) (fc : C → Scalar) (fd : D → Range) (ka : (a : A) → ExprFits (fa a))
      (kb : (b : B) → AtFits (fb b)) (kc : (c : C) → ScalarFits (fc c)) (kd : (d : D) → BoundsFit (fd d)) where
    each_expr : (es : List A) → ReadingsFit (map (reading_of k) (map fa es))
    each_expr [] = tt
    each_expr (a ∷ es) = (ka a, each_expr es)

    each_index : (bs : List B) → IndexesFit (map (index_reading k) (map fb bs))
    each_index [] = tt
    each_index (b ∷ bs) = (kb b, each_index bs)

    each_bracket : (bs : List (List B)) → BracketsFit (map (map (index_reading k)) (map (map fb) bs))
    each_bracket [] = tt
    each_bracket (b ∷ bs) = (each_index b, each_bracket bs)

    expr_layer : (y : o.Expr-F A B C D) → ReadingFits (expr_step k (readings (map-Expr A B C D Expr Index Scalar Range fa fb fc fd y)))
    expr_layer (o.Whole n) m = ok_holds (literal_fits (nat_lt n (2 ^ 63)) n)
    expr_layer (o.BitText bits length) m = digits_fit bits length
    expr_layer o.Pi m = ok_holds tt
    expr_layer o.Tau m = ok_holds tt
    expr_layer (o.Expr::Bool b) m = ok_holds (truth_fits b)
    expr_layer (o.Parenthesized inner) m = ka inner m
    expr_layer (o.Name name brackets) m =
        next_holds (named_fits name _ (known_of k name) (known_fits k name fits)) (λ c s. brackets_fit m _ c (each_bracket brackets) s)
    expr_layer (o.Call name arguments) m = next_holds any_holds (λ b _. call_fits m _ b (each_expr arguments))
    expr_layer (o.Cast to a) m = next_holds (kc to m) (λ t h. next_holds (ka a m) (λ c g. cast_fits t c h))
    expr_layer (o.SizeOf name None) m =
        next_holds {r = lengths_of name (known_of k name)} any_holds (λ lengths _.
        next_holds {r = number_in m None} any_holds (λ d _. wanted_fits lengths d))
    expr_layer (o.SizeOf name (Some a)) m =
        next_holds {r = lengths_of name (known_of k name)} any_holds (λ lengths _.
        next_holds {r = number_in m (Some (reading_of k (fa a)))} any_holds (λ d _. wanted_fits lengths d))
    expr_layer (o.Unary operator a) m = next_holds (ka a m) (λ c h. applied_fits (op_of_prefix operator) c h)
    expr_layer (o.Binary operator a b) m = between_fits m operator (op_of_infix operator) _ _ (ka a) (ka b)

    index_layer : (y : o.Index-F A B C D) → IndexFits (index_step (map-Index Expr Index Scalar Range Reading IndexReading TypeReading IndexReading (reading_of k) (index_reading k) (type_reading k) (range_reading k) (map-Index A B C D Expr Index Scalar Range fa fb fc fd y)))
    index_layer (o.At a) m c h =
        next_holds {r = (reading_of k (fa a)).value m} any_holds (λ d _.
        next_holds {r = whole_number d} any_holds (λ i _. bit_fits c i))
    index_layer (o.Range d) m c h = kd d m c h
    index_layer (o.Set es) m c h = err_holds

    scalar_layer : (y : o.Scalar-F A B C D) → TypeFits (scalar_step (map-Scalar Expr Index Scalar Range Reading IndexReading TypeReading IndexReading (reading_of k) (index_reading k) (type_reading k) (range_reading k) (map-Scalar A B C D Expr Index Scalar Range fa fb fc fd y)))
    scalar_layer o.Scalar::Bool m = ok_holds refl
    scalar_layer (o.Bit None) m = sized_fits kind.Bit 1 64 None m refl (λ n h. h)
    scalar_layer (o.Bit (Some a)) m = sized_fits kind.Bit 1 64 (Some (reading_of k (fa a))) m refl (λ n h. h)
    scalar_layer (o.Int None) m = sized_fits kind.Int 64 64 None m refl (λ n h. h)
    scalar_layer (o.Int (Some a)) m = sized_fits kind.Int 64 64 (Some (reading_of k (fa a))) m refl (λ n h. h)
    scalar_layer (o.Uint None) m = sized_fits kind.Uint 64 64 None m refl (λ n h. h)
    scalar_layer (o.Uint (Some a)) m = sized_fits kind.Uint 64 64 (Some (reading_of k (fa a))) m refl (λ n h. h)
    scalar_layer (o.Angle None) m = sized_fits kind.Angle 32 32 None m refl (λ n h. h)
    scalar_layer (o.Angle (Some a)) m = sized_fits kind.Angle 32 32 (Some (reading_of k (fa a))) m refl (λ n h. h)

    abbrev bounds : o.Range-F A B C D → o.Range-F Reading IndexReading TypeReading IndexReading
    bounds y = map-Range Expr Index Scalar Range Reading IndexReading TypeReading IndexReading (reading_of k) (index_reading k) (type_reading k) (range_reading k) (map-Range A B C D Expr Index Scalar Range fa fb fc fd y)

    range_layer : (y : o.Range-F A B C D) → IndexFits (range_step (bounds y))
    range_layer y m c h =
        next_holds {r = number_in m (bounds y).start} any_holds (λ start _.
        next_holds {r = number_in m (bounds y).step} any_holds (λ step _.
        next_holds {r = number_in m (bounds y).end} any_holds (λ end _.
        slice_fits c (or_else start (pos 0)) (or_else step (pos 1)) (or_else end (negsuc 0)) h)))

  -- ---- the induction

  abbrev ShownExpr : Type 0
  ShownExpr = (expr : Expr) × ExprFits expr

  abbrev ShownIndex : Type 0
  ShownIndex = (index : Index) × AtFits index

  abbrev ShownScalar : Type 0
  ShownScalar = (scalar : Scalar) × ScalarFits scalar

  abbrev ShownRange : Type 0
  ShownRange = (range : Range) × BoundsFit range

  expr_shown : (y : o.Expr-F Expr Index Scalar Range) (z : o.Expr-F ShownExpr ShownIndex ShownScalar ShownRange)
      → map-Expr ShownExpr ShownIndex ShownScalar ShownRange Expr Index Scalar Range (λ p. p.0) (λ p. p.0) (λ p. p.0) (λ p. p.0) z ≡ y
      → ExprFits (roll-Expr y)
  expr_shown y z is =
      subst (λ t. ReadingFits t) (sym (expr_rolls y)) (subst (λ t. ReadingFits (expr_step k (readings t))) is
      (expr_layer (λ p. p.0) (λ p. p.0) (λ p. p.0) (λ p. p.0) (λ p. p.1) (λ p. p.1) (λ p. p.1) (λ p. p.1) z))

  index_shown : (y : o.Index-F Expr Index Scalar Range) (z : o.Index-F ShownExpr ShownIndex ShownScalar ShownRange)
      → map-Index ShownExpr ShownIndex ShownScalar ShownRange Expr Index Scalar Range (λ p. p.0) (λ p. p.0) (λ p. p.0) (λ p. p.0) z ≡ y
      → AtFits (roll-Index y)
  index_shown y z is =
      subst (λ t. IndexFits t) (sym (index_rolls y)) (subst (λ t. IndexFits (index_step (map-Index Expr Index Scalar Range Reading IndexReading TypeReading IndexReading (reading_of k) (index_reading k) (type_reading k) (range_reading k) t))) is
      (index_layer (λ p. p.0) (λ p. p.0) (λ p. p.0) (λ p. p.0) (λ p. p.1) (λ p. p.1) (λ p. p.1) (λ p. p.1) z))

  scalar_shown : (y : o.Scalar-F Expr Index Scalar Range) (z : o.Scalar-F ShownExpr ShownIndex ShownScalar ShownRange)
      → map-Scalar ShownExpr ShownIndex ShownScalar ShownRange Expr Index Scalar Range (λ p. p.0) (λ p. p.0) (λ p. p.0) (λ p. p.0) z ≡ y
      → ScalarFits (roll-Scalar y)
  scalar_shown y z is =
      subst (λ t. TypeFits t) (sym (scalar_rolls y)) (subst (λ t. TypeFits (scalar_step (map-Scalar Expr Index Scalar Range Reading IndexReading TypeReading IndexReading (reading_of k) (index_reading k) (type_reading k) (range_reading k) t))) is
      (scalar_layer (λ p. p.0) (λ p. p.0) (λ p. p.0) (λ p. p.0) (λ p. p.1) (λ p. p.1) (λ p. p.1) (λ p. p.1) z))

  range_shown : (y : o.Range-F Expr Index Scalar Range) (z : o.Range-F ShownExpr ShownIndex ShownScalar ShownRange)
      → map-Range ShownExpr ShownIndex ShownScalar ShownRange Expr Index Scalar Range (λ p. p.0) (λ p. p.0) (λ p. p.0) (λ p. p.0) z ≡ y
      → BoundsFit (roll-Range y)
  range_shown y z is =
      subst (λ t. IndexFits t) (sym (range_rolls y)) (subst (λ t. IndexFits (range_step (map-Range Expr Index Scalar Range Reading IndexReading TypeReading IndexReading (reading_of k) (index_reading k) (type_reading k) (range_reading k) t))) is
      (range_layer (λ p. p.0) (λ p. p.0) (λ p. p.0) (λ p. p.0) (λ p. p.1) (λ p. p.1) (λ p. p.1) (λ p. p.1) z))

  pub value_fits : (expr : Expr) (m : Mode) → AnswerFits (value_of k m expr)
  value_fits expr = ind-Expr ExprFits AtFits ScalarFits BoundsFit expr_shown index_shown scalar_shown range_shown expr

  pub type_fits : (scalar : Scalar) (m : Mode) → Holds IsSized ((type_reading k scalar).kind m)
  type_fits scalar = ind-Scalar ExprFits AtFits ScalarFits BoundsFit expr_shown index_shown scalar_shown range_shown scalar
