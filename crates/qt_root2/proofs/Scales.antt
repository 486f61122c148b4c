-- A number scaled, from what the steps of the scaling give.
use Rattle.std.proofs.Common.{◌≡◌, ℕ, zero, suc, ◌+◌, ◌-◌, ◌<◌, ◌≤◌, sym, ap, ◌∙◌, subst, arith, ℤ, pos, negsuc, ◌+ℤ◌, ◌≤ℤ◌, ◌<ℤ◌, FitsSigned}
use lib.IntN.{neg_ℤ}
use mir.Syntax.{w32}
use Rattle.std.specs.Prelude.{unsigned_abs}
use Rattle.std.proofs.lemmas.Int.{ints}
use Rattle.qt_root2.specs.declared.scale.Scale.{Scale}
use Rattle.qt_root2.specs.Root2.{Root2, IsGood, times_root2, power}
use Rattle.qt_root2.specs.Scaling.{unit, unit_inverse, prime, unit_power, factor, lifted_root2, IsTimesTwos, IsScaled}
use Rattle.qt_root2.proofs.Good.{narrow, good_times}
use Rattle.qt_root2.proofs.Loops.{lifted_least}
use Rattle.qt_root2.proofs.Reals.{lifted-lifted}
use Rattle.qt_root2.proofs.Ring.{same_root2, times_comm, times_assoc, times-one, lifted-times, lifted_root2_same, unit_power_inverse}
use Rattle.qt_root2.proofs.Words.{short, short-fits, short_size}

-- ---- powers of 2 − √2

pub prime_power_none : (x : Root2) (n : ℕ) → n ≡ 0 → x ≡ times_root2 x (power prime n)
prime_power_none x n e = sym (times-one x) ∙ ap (λ k. times_root2 x (power prime k)) (sym e)

pub prime_power_one : (n : ℕ) → n ≤ 1 → (n ≡ 0 → ⊥) → prime ≡ power prime n
prime_power_one n h g = let e : 1 ≡ n = omega arith in sym (times-one prime) ∙ ap (power prime) e

-- ---- good numbers

power_good : (x : Root2) (n : ℕ) → IsGood x.a x.b → (let p = power x n in IsGood p.a p.b)
power_good x zero h = (omega (arith, ints), omega (arith, ints))
power_good x (suc n) h = let p = power x n in good_times x.a x.b p.a p.b h (power_good x n h)

unit_power_good : (z : ℤ) → (let p = unit_power z in IsGood p.a p.b)
unit_power_good (pos n) = power_good unit n (omega (arith, ints), omega (arith, ints))
unit_power_good (negsuc n) = power_good unit_inverse (suc n) (omega (arith, ints), omega (arith, ints))

-- times 2 − √2 at least half of a stays
prime_keeps : (a b m : ℤ) → IsGood a b → (m +ℤ m) ≤ℤ a → (let x : Root2 = record { a = a; b = b } in m ≤ℤ (times_root2 x prime).a)
prime_keeps a b m good h = let n = narrow a b good in omega (arith, ints)

pub factor_fault : (x : Root2) (z m : ℤ) (n : ℕ) → IsGood x.a x.b → n ≤ 1 → (n ≡ 0 → ⊥) → (m +ℤ m) ≤ℤ (times_root2 x (unit_power z)).a → m ≤ℤ (times_root2 x (times_root2 (unit_power z) (power prime n))).a
factor_fault x z m n good h g l =
    let u = unit_power z in
    let y = times_root2 x u in
    let k = prime_keeps y.a y.b m (good_times x.a x.b u.a u.b good (unit_power_good z)) l in
    let P = λ (w : Root2). m ≤ℤ w.a in
    subst P (times_assoc x u prime ∙ ap (λ p. times_root2 x (times_root2 u p)) (prime_power_one n h g)) k

pub factor_ok : (x w r : Root2) (z : ℤ) (n : ℕ) → n ≤ 1 → (n ≡ 0 → ⊥) → w ≡ times_root2 x (unit_power z) → r ≡ times_root2 w prime → r ≡ times_root2 x (times_root2 (unit_power z) (power prime n))
factor_ok x w r z n h g e f =
    f ∙ ap (λ u. times_root2 u prime) e ∙ times_assoc x (unit_power z) prime ∙ ap (λ p. times_root2 x (times_root2 (unit_power z) p)) (prime_power_one n h g)

-- ---- quotients

-- y · 2^n is (y · 2^(n − 1)) · 2
pub lifted_last : (y : Root2) (n : ℕ) → 0 < n → lifted_root2 (lifted_root2 y (n - 1)) 1 ≡ lifted_root2 y n
lifted_last y n l =
    let e : 1 + (n - 1) ≡ n = omega arith in
    same_root2 _ _ (lifted-lifted y.a (n - 1) 1) (lifted-lifted y.b (n - 1) 1) ∙ ap (lifted_root2 y) e

-- ---- the two signs of the exponent of 2

pub times_twos_down : (z : ℤ) (n : ℕ) (x y : Root2) → z <ℤ pos 0 → n ≡ unsigned_abs z → lifted_root2 y n ≡ x → IsTimesTwos z x y
times_twos_down (pos m) n x y l e h = absurd (omega (arith, ints, l))
times_twos_down (negsuc m) n x y l e h = ap (lifted_root2 y) (sym e) ∙ h

pub times_twos_up : (z : ℤ) (n : ℕ) (x y : Root2) → pos 0 ≤ℤ z → n ≡ unsigned_abs z → y ≡ lifted_root2 x n → IsTimesTwos z x y
times_twos_up (pos m) n x y l e h = h ∙ ap (lifted_root2 x) e
times_twos_up (negsuc m) n x y l e h = absurd (omega (arith, ints, l))

pub from_times_twos_down : (z : ℤ) (n : ℕ) (x y : Root2) → z <ℤ pos 0 → n ≡ unsigned_abs z → IsTimesTwos z x y → lifted_root2 y n ≡ x
from_times_twos_down (pos m) n x y l e h = absurd (omega (arith, ints, l))
from_times_twos_down (negsuc m) n x y l e h = ap (lifted_root2 y) e ∙ h

pub from_times_twos_up : (z : ℤ) (n : ℕ) (x y : Root2) → pos 0 ≤ℤ z → n ≡ unsigned_abs z → IsTimesTwos z x y → y ≡ lifted_root2 x n
from_times_twos_up (pos m) n x y l e h = h ∙ ap (lifted_root2 x) (sym e)
from_times_twos_up (negsuc m) n x y l e h = absurd (omega (arith, ints, l))

-- ---- the division before the power of ε²

-- if q · 2^n = x·p, then (q·u) · 2^n = x·(u·p)
pub quotient_times : (x q p u : Root2) (n : ℕ) → lifted_root2 q n ≡ times_root2 x p → lifted_root2 (times_root2 q u) n ≡ times_root2 x (times_root2 u p)
quotient_times x q p u n h =
    sym (lifted-times q u n) ∙ ap (λ w. times_root2 w u) h ∙ times_assoc x p u ∙ ap (times_root2 x) (times_comm p u)

-- if x·p is no multiple of 2^n, then x·(u·p) is none, for a unit u
pub quotient_none : (x p : Root2) (z : ℤ) (n : ℕ) → ((y : Root2) → lifted_root2 y n ≡ times_root2 x p → ⊥) → (y : Root2) → lifted_root2 y n ≡ times_root2 x (times_root2 (unit_power z) p) → ⊥
quotient_none x p z n odd y h =
    let u = unit_power z in
    let v = unit_power (neg_ℤ z) in
    let whole = quotient_times (times_root2 x u) y p v n (h ∙ sym (times_assoc x u p)) in
    let back : times_root2 (times_root2 x u) (times_root2 v p) ≡ times_root2 x p =
    sym (times_assoc (times_root2 x u) v p) ∙ ap (λ w. times_root2 w p) (times_assoc x u v ∙ ap (times_root2 x) (unit_power_inverse z) ∙ times-one x) in
    odd (times_root2 y v) (whole ∙ back)

-- a multiple of 2^n determines the quotient
pub quotient_large : (x q p y : Root2) (z m : ℤ) (n : ℕ) → lifted_root2 q n ≡ times_root2 x p → m ≤ℤ (times_root2 q (unit_power z)).a → lifted_root2 y n ≡ times_root2 x (times_root2 (unit_power z) p) → m ≤ℤ y.a
quotient_large x q p y z m n h l e =
    let u = unit_power z in
    let P = λ (w : Root2). m ≤ℤ w.a in
    subst P (sym (lifted_root2_same n y (times_root2 q u) (e ∙ sym (quotient_times x q p u n h)))) l

-- ---- the doublings after the factor

pub doubled_large : (x y : Root2) (m : ℤ) (n : ℕ) → pos 0 ≤ℤ m → m ≤ℤ x.a → y ≡ lifted_root2 x n → m ≤ℤ y.a
doubled_large x y m n h l e =
    let s = lifted_least x.a n (omega (arith, ints)) in
    let f = ap (λ w. w.a) e in
    omega (arith, ints)

pub product_large : (x p y : Root2) (m : ℤ) (n : ℕ) → p ≡ x → m ≤ℤ (lifted_root2 p n).a → y ≡ lifted_root2 x n → m ≤ℤ y.a
product_large x p y m n e l f =
    let P = λ (w : Root2). m ≤ℤ w.a in
    subst P (ap (λ w. lifted_root2 w n) e ∙ sym f) l

-- ---- the answers of the scaling

-- what the code reads of a scale: its exponent of ε², and the size of its exponent of 2
pub record IsRead (by : Scale) (n : ℕ) : Type 0 where
  pub units : short by.units ≡ by.units
  pub size : n ≡ unsigned_abs by.twos

pub read_scale : (by : Scale) (n : ℕ) → FitsSigned w32 by.units → FitsSigned w32 by.twos → n ≡ unsigned_abs (short by.twos) → IsRead by n
read_scale by n units twos e = record { units = short-fits by.units units; size = short_size by.twos n twos e }

pub down_ok : (by : Scale) (x q r : Root2) (n : ℕ) → IsRead by n → by.twos <ℤ pos 0 → lifted_root2 q n ≡ times_root2 x (power prime by.primes) → r ≡ times_root2 q (unit_power (short by.units)) → IsScaled by x r
down_ok by x q r n s l h f =
    times_twos_down by.twos n (times_root2 x (factor by)) r l s.size
    (ap (λ u. lifted_root2 u n) (f ∙ ap (λ z. times_root2 q (unit_power z)) s.units) ∙ quotient_times x q (power prime by.primes) (unit_power by.units) n h)

pub down_none : (by : Scale) (x : Root2) (m : ℤ) (n : ℕ) → IsRead by n → by.twos <ℤ pos 0 → ((y : Root2) → lifted_root2 y n ≡ times_root2 x (power prime by.primes) → ⊥) → (y : Root2) → IsScaled by x y → m ≤ℤ y.a
down_none by x m n s l odd y h =
    absurd (quotient_none x (power prime by.primes) by.units n odd y (from_times_twos_down by.twos n (times_root2 x (factor by)) y l s.size h))

pub down_large : (by : Scale) (x q : Root2) (m : ℤ) (n : ℕ) → IsRead by n → by.twos <ℤ pos 0 → lifted_root2 q n ≡ times_root2 x (power prime by.primes) → m ≤ℤ (times_root2 q (unit_power (short by.units))).a → (y : Root2) → IsScaled by x y → m ≤ℤ y.a
down_large by x q m n s l h large y k =
    let P = λ (z : ℤ). m ≤ℤ (times_root2 q (unit_power z)).a in
    quotient_large x q (power prime by.primes) y by.units m n h (subst P s.units large) (from_times_twos_down by.twos n (times_root2 x (factor by)) y l s.size k)

pub up_ok : (by : Scale) (x p r : Root2) (n : ℕ) → IsRead by n → pos 0 ≤ℤ by.twos → p ≡ times_root2 x (times_root2 (unit_power (short by.units)) (power prime by.primes)) → r ≡ lifted_root2 p n → IsScaled by x r
up_ok by x p r n s l h f =
    times_twos_up by.twos n (times_root2 x (factor by)) r l s.size
    (f ∙ ap (λ u. lifted_root2 u n) (h ∙ ap (λ z. times_root2 x (times_root2 (unit_power z) (power prime by.primes))) s.units))

pub up_none : (by : Scale) (x : Root2) (m : ℤ) (n : ℕ) → IsRead by n → pos 0 ≤ℤ by.twos → pos 0 ≤ℤ m → m ≤ℤ (times_root2 x (times_root2 (unit_power (short by.units)) (power prime by.primes))).a → (y : Root2) → IsScaled by x y → m ≤ℤ y.a
up_none by x m n s l positive large y k =
    let P = λ (z : ℤ). m ≤ℤ (times_root2 x (times_root2 (unit_power z) (power prime by.primes))).a in
    doubled_large (times_root2 x (factor by)) y m n positive (subst P s.units large) (from_times_twos_up by.twos n (times_root2 x (factor by)) y l s.size k)

pub up_large : (by : Scale) (x p : Root2) (m : ℤ) (n : ℕ) → IsRead by n → pos 0 ≤ℤ by.twos → p ≡ times_root2 x (times_root2 (unit_power (short by.units)) (power prime by.primes)) → m ≤ℤ (lifted_root2 p n).a → (y : Root2) → IsScaled by x y → m ≤ℤ y.a
up_large by x p m n s l h large y k =
    product_large (times_root2 x (factor by)) p y m n (h ∙ ap (λ z. times_root2 x (times_root2 (unit_power z) (power prime by.primes))) s.units) large (from_times_twos_up by.twos n (times_root2 x (factor by)) y l s.size k)

-- ---- a number scaled is one number at most
times_twos_one : (z : ℤ) (x y w : Root2) → IsTimesTwos z x y → IsTimesTwos z x w → y ≡ w
times_twos_one (pos n) x y w e f = e ∙ sym f
times_twos_one (negsuc n) x y w e f = lifted_root2_same (suc n) y w (e ∙ sym f)

pub scaled_is_one : (by : Scale) (x y z : Root2) → IsScaled by x y → IsScaled by x z → y ≡ z
scaled_is_one by x y z e f = times_twos_one by.twos (times_root2 x (factor by)) y z e f
