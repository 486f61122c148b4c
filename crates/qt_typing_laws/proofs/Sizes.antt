-- Types that tables give have sizes.
use Rattle.std.proofs.Common.{◌≡◌, ℕ, suc, ◌+◌, ◌*◌, ◌-◌, ◌/◌, ◌<◌, ◌≤◌, Bool, true, false, nat_lt, cond, IsTrue, Option, Some, None, Ok, Err, refl, subst, arith}
use Rattle.std.specs.Prelude.{ℤ, pos, negsuc, option_map, Result}
use Rattle.std.proofs.Math.Nat.{div-le_self, div-mul-le_self, mul-le-mul_right}
use borrow.Author.Tests.{ltb-true}
use Rattle.qt_value.specs.Casts.{converted, row}
use Rattle.qt_value.specs.Numbers.{Datum}
use Rattle.qt_value.specs.OpTypes.{result_type, unary_result_type}
use Rattle.qt_value.specs.Places.{place_of}
use Rattle.qt_value.specs.Results.{is_divide, result_bits, result_of, unary_bits, unary_result_of}
use Rattle.qt_value.specs.Types.{has_size, width_of}
use Rattle.qt_value.specs.declared.operators.Op.{Op}
use Rattle.qt_value.specs.declared.operators.UnaryOp.{UnaryOp}
use Rattle.qt_value.specs.declared.types.ValueType.{ValueType}
use Rattle.qt_value.specs.declared.fault.ValueFault.{ValueFault}
use Rattle.qt_const.specs.Indexes.{or_out_of_range, place_in}
use Rattle.qt_flat_expressions.proofs.Sized.{result_sized, unary_result_sized}
use Rattle.qt_typed.specs.Types.{or_bool}
use Rattle.qt_typing_laws.proofs.Holding.{Holds, ok_holds, err_holds, if_holds, IfSome, some_is, none_is}

abbrev pub IsSized : ValueType → Type 0
IsSized kind = IsTrue (has_size kind)

pub result_is_sized : (op : Op) (l r : ValueType) → IsSized l → IsSized r → IfSome IsSized (result_type op l r)
result_is_sized op l r h g =
    record { by = λ k e. subst (λ t. has_size (or_bool t) ≡ true) e (result_sized op l r h g) }

pub unary_is_sized : (op : UnaryOp) (of : ValueType) → IsSized of → IfSome IsSized (unary_result_type op of)
unary_is_sized op of h = record { by = λ k e. subst (λ t. has_size (or_bool t) ≡ true) e (unary_result_sized op of h) }

abbrev pub DatumFits : Datum → Type 0
DatumFits x = IsTrue (has_size x.kind)

mapped : (t : Option ValueType) (bits : ValueType → ℕ) → IfSome IsSized t
    → IfSome DatumFits (option_map (λ kind. record { kind = kind; bits = bits kind }) t)
mapped (Some k) bits h = some_is (h.by k refl)
mapped None bits h = none_is

unless_divide : (b : Bool) (o : Option Datum) → IfSome DatumFits o → IfSome DatumFits (cond b None o)
unless_divide true o h = none_is
unless_divide false o h = h

pub result_of_sized : (op : Op) (x y : Datum) → DatumFits x → DatumFits y → IfSome DatumFits (result_of op x y)
result_of_sized op x y h g =
    unless_divide (is_divide op x y) _
    (mapped (result_type op x.kind y.kind) (λ kind. result_bits op (width_of kind) x y) (result_is_sized op x.kind y.kind h g))

pub unary_of_sized : (op : UnaryOp) (x : Datum) → DatumFits x → IfSome DatumFits (unary_result_of op x)
unary_of_sized op x h =
    mapped (unary_result_type op x.kind) (λ kind. unary_bits op (width_of kind) x) (unary_is_sized op x.kind h)

-- what is converted has the type that is wanted, which has a size
abbrev pub IsOf : ValueType → Datum → Type 0
IsOf to x = (x.kind ≡ to) × IsSized to

converted_bits : (to : ValueType) (o : Option ℕ) → IsSized to
    → IfSome (IsOf to) (option_map (λ bits. record { kind = to; bits = bits }) o)
converted_bits to (Some bits) h = some_is (refl, h)
converted_bits to None h = none_is

pub converted_is : (x : Datum) (to : ValueType) → IfSome (IsOf to) (converted x to)
converted_is x to = by_test (has_size to) refl
  where
    by_test : (b : Bool) → has_size to ≡ b
        → IfSome (IsOf to) (cond b (option_map (λ bits. record { kind = to; bits = bits }) (row x.kind x.bits to)) None)
    by_test true e = converted_bits to (row x.kind x.bits to) e
    by_test false e = none_is

-- ---- places

number_below : (n : ℕ) (i : ℤ) → Holds (λ p. p < n) (place_of i n)
number_below n (pos i) = if_holds (nat_lt i n) (λ e. ok_holds (ltb-true i n e)) (λ e. err_holds)
number_below n (negsuc i) =
    if_holds (nat_lt i n) (λ e. ok_holds (let l : i < n = ltb-true i n e in omega arith)) (λ e. err_holds)

in_range : (n : ℕ) (r : Result ℕ ValueFault) → Holds (λ p. p < n) r → Holds (λ p. p < n) (or_out_of_range r)
in_range n (Ok p) h = ok_holds (h.by p refl)
in_range n (Err e) h = err_holds

pub place_below : (n : ℕ) (i : ℤ) → Holds (λ p. p < n) (place_in n i)
place_below n i = in_range n (place_of i n) (number_below n i)

-- ---- every so many places, from a start up to an end

pub few_between : (start step end n : ℕ) → start ≤ end → end < n → suc ((end - start) / step) ≤ n
few_between start step end n l g = let d = div-le_self (end - start) step in omega arith

pub all_between : (start step end n i : ℕ) → start ≤ end → end < n → i < suc ((end - start) / step) → start + i * step < n
all_between start step end n i l g h =
    let d = div-mul-le_self (end - start) step in
    let few : i ≤ (end - start) / step = omega arith in
    let far : i * step ≤ (end - start) / step * step = mul-le-mul_right step few in
    omega arith
