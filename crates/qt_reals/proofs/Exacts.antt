-- Exact real numbers as a type of their own, whose values are the numbers in least form: equal numbers are equal values, and
-- the laws of a commutative semiring hold without a premise.
use Rattle.std.proofs.Common.{◌≡◌, ap, subst}
use lib.IntN.{ℤ_set}
use native.Mathlib.Nat.{ℕ_set}
use Rattle.qt_root2.specs.Real.{Real, zero_real, one_real, plus_real}
use Rattle.qt_root2.proofs.Reals.{IsLeast, zero_real_is_least, plus_real_is_least, plus_real_comm, plus_real_assoc, plus_real-zero, zero_real-plus}
use Rattle.qt_reals.specs.Product.{times_real}
use Rattle.qt_reals.proofs.Products.{
  times_real_is_least,
  times_real_comm,
  times_real_assoc,
  times_real_plus,
  plus_real_times,
  zero_real-times,
  times_real-zero,
  one_real-times,
  times_real-one,
  one_real_is_least,
}

pub record Exact : Type 0 where
  pub number : Real
  pub least : IsLeast number

least_prop : (x : Real) → IsProp (IsLeast x)
least_prop x = hlevel (ℕ_set, ℤ_set)

abbrev pub exact : (x : Real) → IsLeast x → Exact
exact x l = record { number = x; least = l }

-- values with one number are equal
pub exact_same : (x y : Exact) → x.number ≡ y.number → x ≡ y
exact_same x y e = subst (λ r. (l : IsLeast r) → x ≡ exact r l) e (λ l. ap (exact x.number) (least_prop x.number x.least l)) y.least

abbrev pub exact_zero : Exact
exact_zero = exact zero_real zero_real_is_least

abbrev pub exact_one : Exact
exact_one = exact one_real one_real_is_least

abbrev pub exact_plus : Exact → Exact → Exact
exact_plus x y = exact (plus_real x.number y.number) (plus_real_is_least x.number y.number)

abbrev pub exact_times : Exact → Exact → Exact
exact_times x y = exact (times_real x.number y.number) (times_real_is_least x.number y.number)

pub exact_plus_comm : (x y : Exact) → exact_plus x y ≡ exact_plus y x
exact_plus_comm x y = exact_same (exact_plus x y) (exact_plus y x) (plus_real_comm x.number y.number)

pub exact_plus_assoc : (x y z : Exact) → exact_plus (exact_plus x y) z ≡ exact_plus x (exact_plus y z)
exact_plus_assoc x y z = exact_same (exact_plus (exact_plus x y) z) (exact_plus x (exact_plus y z)) (plus_real_assoc x.number y.number z.number)

pub exact_zero-plus : (x : Exact) → exact_plus exact_zero x ≡ x
exact_zero-plus x = exact_same (exact_plus exact_zero x) x (zero_real-plus x.number x.least)

pub exact_plus-zero : (x : Exact) → exact_plus x exact_zero ≡ x
exact_plus-zero x = exact_same (exact_plus x exact_zero) x (plus_real-zero x.number x.least)

pub exact_times_comm : (x y : Exact) → exact_times x y ≡ exact_times y x
exact_times_comm x y = exact_same (exact_times x y) (exact_times y x) (times_real_comm x.number y.number)

pub exact_times_assoc : (x y z : Exact) → exact_times (exact_times x y) z ≡ exact_times x (exact_times y z)
exact_times_assoc x y z = exact_same (exact_times (exact_times x y) z) (exact_times x (exact_times y z)) (times_real_assoc x.number y.number z.number)

pub exact_times_plus : (x y z : Exact) → exact_times x (exact_plus y z) ≡ exact_plus (exact_times x y) (exact_times x z)
exact_times_plus x y z = exact_same (exact_times x (exact_plus y z)) (exact_plus (exact_times x y) (exact_times x z)) (times_real_plus x.number y.number z.number)

pub exact_plus_times : (x y z : Exact) → exact_times (exact_plus x y) z ≡ exact_plus (exact_times x z) (exact_times y z)
exact_plus_times x y z = exact_same (exact_times (exact_plus x y) z) (exact_plus (exact_times x z) (exact_times y z)) (plus_real_times x.number y.number z.number)

pub exact_zero-times : (x : Exact) → exact_times exact_zero x ≡ exact_zero
exact_zero-times x = exact_same (exact_times exact_zero x) exact_zero (zero_real-times x.number)

pub exact_times-zero : (x : Exact) → exact_times x exact_zero ≡ exact_zero
exact_times-zero x = exact_same (exact_times x exact_zero) exact_zero (times_real-zero x.number)

pub exact_one-times : (x : Exact) → exact_times exact_one x ≡ x
exact_one-times x = exact_same (exact_times exact_one x) x (one_real-times x.number x.least)

pub exact_times-one : (x : Exact) → exact_times x exact_one ≡ x
exact_times-one x = exact_same (exact_times x exact_one) x (times_real-one x.number x.least)
