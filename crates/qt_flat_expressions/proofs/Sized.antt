-- What fits has a type with a size.
use Rattle.std.proofs.Common.{◌≡◌, ℕ, ◌≤◌, Bool, true, false, ◌&&◌, ◌||◌, ◌==◌, cond, max, nat_le, IsTrue, Option, Some, None, option_map, refl, ap, subst, ◌∙◌, arith}
use Rattle.std.proofs.lemmas.Bool.{le-leb, leb-true, false≢true}
use Rattle.std.specs.Option.{option_or}
use Rattle.std.specs.Prelude.{is_some}
use Rattle.qt_ring.proofs.RingLaws.{and_left, and_right}
use Rattle.qt_value.specs.Casts.{converted, row}
use Rattle.qt_value.specs.Numbers.{Datum}
use Rattle.qt_value.specs.OpTypes.{angle_and_whole, angles, bits, bitwise_type, can_rotate, can_shift, common_type, counted, is_uint_at, negated, product_type, quotient_type, ratio, result_type, sum_type, type_row, unary_result_type, unary_row, wholes}
use Rattle.qt_value.specs.Types.{given, has_size, is_whole, width_of}
use Rattle.qt_value.specs.declared.operators.Op.{Op}
use Rattle.qt_value.specs.declared.operators.Op.TheVariants as op
use Rattle.qt_value.specs.declared.operators.UnaryOp.{UnaryOp}
use Rattle.qt_value.specs.declared.operators.UnaryOp.TheVariants as unary
use Rattle.qt_value.specs.declared.types.ValueType.{ValueType}
use Rattle.qt_value.specs.declared.types.ValueType.TheVariants as kind
use Rattle.qt_typed.specs.Types.{or_bool, type_of}
use Rattle.qt_typed.specs.declared.expression.TypedExpr.{TypedExpr, end_of-TypedExpr, more_of-TypedExpr}
use Rattle.qt_typed.specs.declared.expression.TypedExpr.TheVariants.{Constant, Slot, Element', Bit', Slice', Convert', Unary', Binary', ExactQuotient', Logical'}
use Rattle.qt_code.specs.Ranges.{can_convert}
use Rattle.qt_flat_expressions.specs.Fits.{ExpressionFits}
use Rattle.qt_flat_expressions.proofs.Slices.{register_sized}

-- ---- types that tables give

pub record IsSized (type : Option ValueType) : Type 0 where
  pub by : (kind : ValueType) → type ≡ Some kind → IsTrue (has_size kind)

none_sized : IsSized None
none_sized = record { by = λ k e. cc }

some_sized : (k : ValueType) → has_size k ≡ true → IsSized (Some k)
some_sized k h = record { by = λ j e. let same : k ≡ j = cc in subst (λ t. has_size t ≡ true) same h }

given_sized : (b : Bool) (k : ValueType) → (b ≡ true → has_size k ≡ true) → IsSized (given b k)
given_sized true k h = some_sized k (h refl)
given_sized false k h = none_sized

or_sized : (a b : Option ValueType) → IsSized a → IsSized b → IsSized (option_or a b)
or_sized None b h g = g
or_sized (Some k) b h g = h

-- a width from 1 to 64
abbrev is_width : ℕ → Bool
is_width n = nat_le 1 n && nat_le n 64

widths : (n m : ℕ) → is_width n ≡ true → is_width m ≡ true → is_width (max n m) ≡ true
widths n m h g =
    let a = leb-true 1 n (and_left (nat_le 1 n) (nat_le n 64) h) in
    let b = leb-true n 64 (and_right (nat_le 1 n) (nat_le n 64) h) in
    let c = leb-true m 64 (and_right (nat_le 1 m) (nat_le m 64) g) in
    let l : 1 ≤ max n m = omega arith in
    let u : max n m ≤ 64 = omega arith in
    ap (λ t. t && nat_le (max n m) 64) (le-leb 1 (max n m) l) ∙ le-leb (max n m) 64 u

whole_width : (k : ValueType) → is_whole k ≡ true → has_size k ≡ true → is_width (width_of k) ≡ true
whole_width kind.Bool h g = refl
whole_width (kind.Bit n) h g = g
whole_width (kind.Int n) h g = g
whole_width (kind.Uint n) h g = g
whole_width (kind.Angle n) h g = absurd (false≢true h)
whole_width kind.Phase h g = absurd (false≢true h)

chosen_sized : (b : Bool) (n : ℕ) → is_width n ≡ true → has_size (cond b (kind.Uint n) (kind.Int n)) ≡ true
chosen_sized true n h = h
chosen_sized false n h = h

module _ (left right : ValueType) (l : has_size left ≡ true) (r : has_size right ≡ true) where
  wholes_sized : IsSized (wholes left right)
  wholes_sized = given_sized (is_whole left && is_whole right) (common_type left right) (λ h.
      let n = max (width_of left) (width_of right) in
      chosen_sized (is_uint_at n left || is_uint_at n right) n
      (widths (width_of left) (width_of right) (whole_width left (and_left (is_whole left) (is_whole right) h) l)
      (whole_width right (and_right (is_whole left) (is_whole right) h) r)))

bits_sized : (left right : ValueType) → has_size left ≡ true → IsSized (bits left right)
bits_sized (kind.Bit n) (kind.Bit m) l = given_sized (n == m) (kind.Bit n) (λ _. l)
bits_sized _ _ l = none_sized

angles_sized : (left right : ValueType) → has_size left ≡ true → IsSized (angles left right)
angles_sized (kind.Angle n) (kind.Angle m) l = given_sized (n == m) (kind.Angle n) (λ _. l)
angles_sized _ _ l = none_sized

angle_sized : (left right : ValueType) → has_size left ≡ true → IsSized (angle_and_whole left right)
angle_sized (kind.Angle n) right l = given_sized (is_whole right) (kind.Angle n) (λ _. l)
angle_sized _ right l = none_sized

angle_width : (n : ℕ) → (nat_le 1 n && nat_le n 32) ≡ true → is_width n ≡ true
angle_width n h =
    let a = and_left (nat_le 1 n) (nat_le n 32) h in
    let b = leb-true n 32 (and_right (nat_le 1 n) (nat_le n 32) h) in
    let u : n ≤ 64 = omega arith in
    ap (λ t. t && nat_le n 64) a ∙ le-leb n 64 u

ratio_sized : (left right : ValueType) → has_size left ≡ true → IsSized (ratio left right)
ratio_sized (kind.Angle n) (kind.Angle m) l = given_sized (n == m) (kind.Uint n) (λ _. angle_width n l)
ratio_sized _ _ l = none_sized

truth_sized : (type : Option ValueType) → IsSized (option_map (λ _. kind.Bool) type)
truth_sized None = none_sized
truth_sized (Some k) = some_sized kind.Bool refl

module _ (left right : ValueType) (l : has_size left ≡ true) (r : has_size right ≡ true) where
  sum_sized : IsSized (sum_type left right)
  sum_sized = or_sized (wholes left right) (angles left right) (wholes_sized left right l r) (angles_sized left right l)

  bitwise_sized : IsSized (bitwise_type left right)
  bitwise_sized =
      or_sized (bits left right) (option_or (angles left right) (wholes left right)) (bits_sized left right l)
      (or_sized (angles left right) (wholes left right) (angles_sized left right l) (wholes_sized left right l r))

  product_sized : IsSized (product_type left right)
  product_sized =
      or_sized (wholes left right) (option_or (angle_and_whole left right) (angle_and_whole right left)) (wholes_sized left right l r)
      (or_sized (angle_and_whole left right) (angle_and_whole right left) (angle_sized left right l) (angle_sized right left r))

  quotient_sized : IsSized (quotient_type left right)
  quotient_sized =
      or_sized (wholes left right) (option_or (angle_and_whole left right) (ratio left right)) (wholes_sized left right l r)
      (or_sized (angle_and_whole left right) (ratio left right) (angle_sized left right l) (ratio_sized left right l))

  row_sized : (o : Op) → IsSized (type_row o left right)
  row_sized op.Or = bitwise_sized
  row_sized op.Xor = bitwise_sized
  row_sized op.And = bitwise_sized
  row_sized op.Eq = truth_sized (option_or (wholes left right) (angles left right))
  row_sized op.Ne = truth_sized (option_or (wholes left right) (angles left right))
  row_sized op.Lt = truth_sized (option_or (wholes left right) (angles left right))
  row_sized op.Le = truth_sized (option_or (wholes left right) (angles left right))
  row_sized op.Gt = truth_sized (option_or (wholes left right) (angles left right))
  row_sized op.Ge = truth_sized (option_or (wholes left right) (angles left right))
  row_sized op.Shl = given_sized (can_shift left && is_whole right) left (λ _. l)
  row_sized op.Shr = given_sized (can_shift left && is_whole right) left (λ _. l)
  row_sized op.Add = sum_sized
  row_sized op.Sub = sum_sized
  row_sized op.Mul = product_sized
  row_sized op.Div = quotient_sized
  row_sized op.Rem = wholes_sized left right l r
  row_sized op.Pow = wholes_sized left right l r
  row_sized op.Rotl = given_sized (can_rotate left && is_whole right) left (λ _. l)
  row_sized op.Rotr = given_sized (can_rotate left && is_whole right) left (λ _. l)

negated_sized : (of : ValueType) → has_size of ≡ true → IsSized (negated of)
negated_sized kind.Bool h = some_sized (kind.Uint 1) refl
negated_sized (kind.Bit n) h = some_sized (kind.Uint n) h
negated_sized (kind.Int n) h = some_sized (kind.Int n) h
negated_sized (kind.Uint n) h = some_sized (kind.Uint n) h
negated_sized (kind.Angle n) h = some_sized (kind.Angle n) h
negated_sized kind.Phase h = none_sized

counted_sized : (of : ValueType) → IsSized (counted of)
counted_sized (kind.Bit n) = some_sized (kind.Uint 64) refl
counted_sized _ = none_sized

unary_sized : (o : UnaryOp) (of : ValueType) → has_size of ≡ true → IsSized (unary_row o of)
unary_sized unary.Not of h = given_sized (is_whole of) kind.Bool (λ _. refl)
unary_sized unary.Turn of h = given_sized (can_shift of) of (λ _. h)
unary_sized unary.Neg of h = negated_sized of h
unary_sized unary.Popcount of h = counted_sized of

-- a type that is given has a size, and else it is bool
or_bool_sized : (type : Option ValueType) → IsSized type → has_size (or_bool type) ≡ true
or_bool_sized None h = refl
or_bool_sized (Some k) h = h.by k refl

pub result_sized : (o : Op) (left right : ValueType) → has_size left ≡ true → has_size right ≡ true
    → has_size (or_bool (result_type o left right)) ≡ true
result_sized o left right l r = by_test (has_size left && has_size right)
  where
    by_test : (b : Bool) → has_size (or_bool (cond b (type_row o left right) None)) ≡ true
    by_test true = or_bool_sized (type_row o left right) (row_sized left right l r o)
    by_test false = refl

pub unary_result_sized : (o : UnaryOp) (of : ValueType) → has_size of ≡ true → has_size (or_bool (unary_result_type o of)) ≡ true
unary_result_sized o of h = by_test (has_size of)
  where
    by_test : (b : Bool) → has_size (or_bool (cond b (unary_row o of) None)) ≡ true
    by_test true = or_bool_sized (unary_row o of) (unary_sized o of h)
    by_test false = refl

-- what can be converted to a type gives that it has a size
convertible_sized : (from to : ValueType) → IsTrue (can_convert from to) → has_size to ≡ true
convertible_sized from to h =
    let zero_of : Datum = record { kind = from; bits = 0 } in
    by_test (has_size to) (and_right (has_size from) (is_some (converted zero_of to)) h)
  where
    by_test : (b : Bool) → is_some {T = Datum} (cond b (option_map (λ bits. record { kind = to; bits = bits }) (row from 0 to)) None) ≡ true → b ≡ true
    by_test true e = refl
    by_test false e = e

-- ---- expressions

pub type_sized : (slots : ℕ) (e : TypedExpr) → ExpressionFits slots e → has_size (type_of e) ≡ true
type_sized slots (Constant value) fits = fits
type_sized slots (Slot kind slot) fits = fits.0
type_sized slots (Element' kind slot lengths k indexes) fits = fits.0
type_sized slots (Bit' k (more_of-TypedExpr of end_of-TypedExpr) m (more_of-TypedExpr index end_of-TypedExpr)) fits = refl
type_sized slots (Slice' k (more_of-TypedExpr of end_of-TypedExpr) start step count) fits = register_sized count fits.1.0 fits.1.1
type_sized slots (Convert' to k (more_of-TypedExpr of end_of-TypedExpr)) fits = convertible_sized (type_of of) to fits.1
type_sized slots (Unary' operator k (more_of-TypedExpr of end_of-TypedExpr)) fits =
    unary_result_sized operator (type_of of) (type_sized slots of fits.0)
type_sized slots (Binary' operator k (more_of-TypedExpr left end_of-TypedExpr) m (more_of-TypedExpr right end_of-TypedExpr)) fits =
    result_sized operator (type_of left) (type_of right) (type_sized slots left fits.0) (type_sized slots right fits.1)
type_sized slots (ExactQuotient' k (more_of-TypedExpr left end_of-TypedExpr) m (more_of-TypedExpr right end_of-TypedExpr)) fits =
    result_sized op.Div (type_of left) (type_of right) (type_sized slots left fits.0) (type_sized slots right fits.1)
type_sized slots (Logical' operator k (more_of-TypedExpr left end_of-TypedExpr) m (more_of-TypedExpr right end_of-TypedExpr)) fits = refl

-- and so a width of at most 64
pub narrow : (k : ValueType) → has_size k ≡ true → width_of k ≤ 64
narrow kind.Bool h = omega arith
narrow (kind.Bit n) h = leb-true n 64 (and_right (nat_le 1 n) (nat_le n 64) h)
narrow (kind.Int n) h = leb-true n 64 (and_right (nat_le 1 n) (nat_le n 64) h)
narrow (kind.Uint n) h = leb-true n 64 (and_right (nat_le 1 n) (nat_le n 64) h)
narrow (kind.Angle n) h = let l = leb-true n 32 (and_right (nat_le 1 n) (nat_le n 32) h) in omega arith
narrow kind.Phase h = omega arith
