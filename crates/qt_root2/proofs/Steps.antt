-- What the code's steps on a numerator come to: times ε², times 2 − √2, half of that, twice, half.
use Rattle.std.proofs.Common.{◌≡◌, ◌^◌, arith, ℤ, pos, ◌+ℤ◌, ◌-ℤ◌, ◌*ℤ◌, ◌≤ℤ◌, ◌<ℤ◌, FitsSigned}
use mir.Syntax.{w128}
use Rattle.std.proofs.lemmas.Int.{ints}
use Rattle.qt_root2.specs.Root2.{Root2, IsGood, times_root2}
use Rattle.qt_root2.specs.Scaling.{unit, prime}
use Rattle.qt_root2.proofs.Good.{narrow, good_times, good_half}
use Rattle.qt_root2.proofs.Ring.{same_root2}
use Rattle.qt_root2.proofs.Words.{word, word-fits}

abbrev pub pair : ℤ → ℤ → Root2
pair a b = record { a = a; b = b }

-- ---- times a good factor

-- what is the product with a good factor, part by part, is good and is that product
product_by : (p : Root2) (a b whole root : ℤ) → IsGood a b → IsGood p.a p.b → whole ≡ (times_root2 (pair a b) p).a → root ≡ (times_root2 (pair a b) p).b → IsGood whole root × (pair whole root ≡ times_root2 (pair a b) p)
product_by p a b whole root good factor e f = (rw (e, f) (good_times a b p.a p.b good factor), same_root2 (pair whole root) (times_root2 (pair a b) p) e f)

-- ---- times ε²

pub record UnitFits (a b : ℤ) : Type 0 where
  pub left : FitsSigned w128 a
  pub right : FitsSigned w128 b
  pub first : FitsSigned w128 (a +ℤ b)
  pub second : FitsSigned w128 (a +ℤ b +ℤ b)
  pub root : FitsSigned w128 (a +ℤ b +ℤ (a +ℤ b +ℤ b))
  pub whole : FitsSigned w128 (a +ℤ b +ℤ (a +ℤ b +ℤ (a +ℤ b +ℤ b)))

pub unit_fits : (a b : ℤ) → FitsSigned w128 a → FitsSigned w128 b → IsGood a b → (pos 3 *ℤ a +ℤ pos 4 *ℤ b) <ℤ pos (2 ^ 127) → UnitFits a b
unit_fits a b f g good h =
    let n = narrow a b good in
    record {
      left = f;
      right = g;
      first = omega (arith, ints);
      second = omega (arith, ints);
      root = omega (arith, ints);
      whole = omega (arith, ints);
    }

abbrev first : ℤ → ℤ → ℤ
first a b = word (word a +ℤ word b)

abbrev second : ℤ → ℤ → ℤ
second a b = word (first a b +ℤ word b)

abbrev pub unit_root : ℤ → ℤ → ℤ
unit_root a b = word (first a b +ℤ second a b)

abbrev pub unit_whole : ℤ → ℤ → ℤ
unit_whole a b = word (first a b +ℤ unit_root a b)

pub unit_first-fits : (a b : ℤ) → UnitFits a b → FitsSigned w128 (word a +ℤ word b)
unit_first-fits a b u = rw (word-fits a u.left, word-fits b u.right) u.first

pub unit_second-fits : (a b : ℤ) → UnitFits a b → FitsSigned w128 (first a b +ℤ word b)
unit_second-fits a b u = rw (word-fits a u.left, word-fits b u.right, word-fits (a +ℤ b) u.first) u.second

pub unit_root-fits : (a b : ℤ) → UnitFits a b → FitsSigned w128 (first a b +ℤ second a b)
unit_root-fits a b u = rw (word-fits a u.left, word-fits b u.right, word-fits (a +ℤ b) u.first, word-fits (a +ℤ b +ℤ b) u.second) u.root

pub unit_whole-fits : (a b : ℤ) → UnitFits a b → FitsSigned w128 (first a b +ℤ unit_root a b)
unit_whole-fits a b u = rw (word-fits a u.left, word-fits b u.right, word-fits (a +ℤ b) u.first, word-fits (a +ℤ b +ℤ b) u.second, word-fits (a +ℤ b +ℤ (a +ℤ b +ℤ b)) u.root) u.whole

unit_root_sum : (a b : ℤ) → a +ℤ b +ℤ (a +ℤ b +ℤ b) ≡ (times_root2 (pair a b) unit).b
unit_root_sum a b = omega (arith, ints)

unit_whole_sum : (a b : ℤ) → a +ℤ b +ℤ (a +ℤ b +ℤ (a +ℤ b +ℤ b)) ≡ (times_root2 (pair a b) unit).a
unit_whole_sum a b = omega (arith, ints)

unit_root_is : (a b : ℤ) → UnitFits a b → unit_root a b ≡ (times_root2 (pair a b) unit).b
unit_root_is a b u = rw (word-fits a u.left, word-fits b u.right, word-fits (a +ℤ b) u.first, word-fits (a +ℤ b +ℤ b) u.second, word-fits (a +ℤ b +ℤ (a +ℤ b +ℤ b)) u.root) (unit_root_sum a b)

unit_whole_is : (a b : ℤ) → UnitFits a b → unit_whole a b ≡ (times_root2 (pair a b) unit).a
unit_whole_is a b u = rw (word-fits a u.left, word-fits b u.right, word-fits (a +ℤ b) u.first, word-fits (a +ℤ b +ℤ b) u.second, word-fits (a +ℤ b +ℤ (a +ℤ b +ℤ b)) u.root, word-fits (a +ℤ b +ℤ (a +ℤ b +ℤ (a +ℤ b +ℤ b))) u.whole) (unit_whole_sum a b)

pub unit_step : (a b : ℤ) → IsGood a b → UnitFits a b → IsGood (unit_whole a b) (unit_root a b) × (pair (unit_whole a b) (unit_root a b) ≡ times_root2 (pair a b) unit)
unit_step a b good u = product_by unit a b (unit_whole a b) (unit_root a b) good (omega (arith, ints), omega (arith, ints)) (unit_whole_is a b u) (unit_root_is a b u)

-- ---- times 2 − √2

pub record PrimeFits (a b : ℤ) : Type 0 where
  pub left : FitsSigned w128 a
  pub right : FitsSigned w128 b
  pub difference : FitsSigned w128 (a -ℤ b)
  pub whole : FitsSigned w128 (a -ℤ b +ℤ (a -ℤ b))
  pub root : FitsSigned w128 (b -ℤ (a -ℤ b))

pub prime_fits : (a b : ℤ) → FitsSigned w128 a → FitsSigned w128 b → IsGood a b → a <ℤ pos (2 ^ 101) → PrimeFits a b
prime_fits a b f g good h =
    let n = narrow a b good in
    record {
      left = f;
      right = g;
      difference = omega (arith, ints);
      whole = omega (arith, ints);
      root = omega (arith, ints);
    }

abbrev difference : ℤ → ℤ → ℤ
difference a b = word (word a -ℤ word b)

abbrev pub prime_whole : ℤ → ℤ → ℤ
prime_whole a b = word (difference a b +ℤ difference a b)

abbrev pub prime_root : ℤ → ℤ → ℤ
prime_root a b = word (word b -ℤ difference a b)

difference_is : (a b : ℤ) → FitsSigned w128 a → FitsSigned w128 b → FitsSigned w128 (a -ℤ b) → difference a b ≡ a -ℤ b
difference_is a b f g h = rw (word-fits a f, word-fits b g, word-fits (a -ℤ b) h)

pub prime_whole-fits : (a b : ℤ) → PrimeFits a b → FitsSigned w128 (difference a b +ℤ difference a b)
prime_whole-fits a b u = rw (difference_is a b u.left u.right u.difference) u.whole

pub prime_root-fits : (a b : ℤ) → PrimeFits a b → FitsSigned w128 (word b -ℤ difference a b)
prime_root-fits a b u = rw (difference_is a b u.left u.right u.difference, word-fits b u.right) u.root

prime_whole_sum : (a b : ℤ) → a -ℤ b +ℤ (a -ℤ b) ≡ (times_root2 (pair a b) prime).a
prime_whole_sum a b = omega (arith, ints)

prime_root_sum : (a b : ℤ) → b -ℤ (a -ℤ b) ≡ (times_root2 (pair a b) prime).b
prime_root_sum a b = omega (arith, ints)

prime_whole_is : (a b : ℤ) → PrimeFits a b → prime_whole a b ≡ (times_root2 (pair a b) prime).a
prime_whole_is a b u = rw (difference_is a b u.left u.right u.difference, word-fits (a -ℤ b +ℤ (a -ℤ b)) u.whole) (prime_whole_sum a b)

prime_root_is : (a b : ℤ) → PrimeFits a b → prime_root a b ≡ (times_root2 (pair a b) prime).b
prime_root_is a b u = rw (difference_is a b u.left u.right u.difference, word-fits b u.right, word-fits (b -ℤ (a -ℤ b)) u.root) (prime_root_sum a b)

prime_good : IsGood prime.a prime.b
prime_good = (omega (arith, ints), omega (arith, ints))

pub prime_step : (a b : ℤ) → IsGood a b → PrimeFits a b → IsGood (prime_whole a b) (prime_root a b) × (pair (prime_whole a b) (prime_root a b) ≡ times_root2 (pair a b) prime)
prime_step a b good u = product_by prime a b (prime_whole a b) (prime_root a b) good prime_good (prime_whole_is a b u) (prime_root_is a b u)

-- ---- half of it times 2 − √2

-- h is half of a
pub record HalfFits (a b h : ℤ) : Type 0 where
  pub left : FitsSigned w128 a
  pub right : FitsSigned w128 b
  pub twice : h +ℤ h ≡ a
  pub difference : FitsSigned w128 (a -ℤ b)
  pub root : FitsSigned w128 (b -ℤ h)

pub half_fits : (a b h : ℤ) → FitsSigned w128 a → FitsSigned w128 b → h +ℤ h ≡ a → IsGood a b → a ≤ℤ pos (2 ^ 126) → HalfFits a b h
half_fits a b h f g e good l =
    let n = narrow a b good in
    record {
      left = f;
      right = g;
      twice = e;
      difference = omega (arith, ints);
      root = omega (arith, ints);
    }

pub half_whole-fits : (a b h : ℤ) → HalfFits a b h → FitsSigned w128 (word a -ℤ word b)
half_whole-fits a b h u = rw (word-fits a u.left, word-fits b u.right) u.difference

pub half_root-fits : (a b h : ℤ) → HalfFits a b h → FitsSigned w128 (word b -ℤ h)
half_root-fits a b h u = rw (word-fits b u.right) u.root

half_root_sum : (a b h : ℤ) → h +ℤ h ≡ a → b -ℤ h +ℤ (b -ℤ h) ≡ (times_root2 (pair a b) prime).b
half_root_sum a b h e = omega (arith, ints)

pub half_whole_is : (a b h : ℤ) → HalfFits a b h → difference a b +ℤ difference a b ≡ (times_root2 (pair a b) prime).a
half_whole_is a b h u = rw (difference_is a b u.left u.right u.difference) (prime_whole_sum a b)

pub half_root_is : (a b h : ℤ) → HalfFits a b h → word (word b -ℤ h) +ℤ word (word b -ℤ h) ≡ (times_root2 (pair a b) prime).b
half_root_is a b h u = rw (word-fits b u.right, word-fits (b -ℤ h) u.root) (half_root_sum a b h u.twice)

pub half_good : (a b h : ℤ) → IsGood a b → HalfFits a b h → IsGood (difference a b) (word (word b -ℤ h))
half_good a b h good u =
    good_half (difference a b) (word (word b -ℤ h)) (rw (half_whole_is a b h u, half_root_is a b h u) (good_times a b prime.a prime.b good prime_good))

-- if a is odd, no half of the product is whole
pub half_odd : (a b : ℤ) → ((h : ℤ) → h +ℤ h ≡ a → ⊥) → (y : Root2) → y.b +ℤ y.b ≡ (times_root2 (pair a b) prime).b → ⊥
half_odd a b odd y e = odd (b -ℤ y.b) (omega (arith, ints, e))
