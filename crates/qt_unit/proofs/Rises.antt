-- The search upward: b is minus the part of √2, so that ε makes a and b into 3a − 4b and 3b − 2a, as ε⁻¹ does downward.
use Rattle.std.proofs.Common.{◌≡◌, ℕ, suc, ◌+◌, ◌*◌, ◌^◌, ◌≤◌, sym, ap, ◌∙◌, arith, ℤ, pos, ◌+ℤ◌, ◌-ℤ◌, ◌*ℤ◌, ◌≤ℤ◌, ◌<ℤ◌}
use Rattle.std.specs.Int.RustNames.{unsigned_abs}
use Rattle.std.proofs.lemmas.Int.{ints}
use Rattle.qt_ring.specs.declared.omega.Omega.{Omega}
use Rattle.qt_ring.specs.Ring.{nil, times, epsilon, norm_a, norm_b}
use Rattle.qt_ring.proofs.RingLaws.{times_assoc, one-times}
use Rattle.qt_ring.proofs.Norms.{norm_a-nonneg, norm_good}
use Rattle.qt_root2.proofs.Good.{good_bounded}
use Rattle.qt_canon_laws.specs.Powers.{power}
use Rattle.qt_canon_laws.specs.FirstEntry.{InWindow}
use Rattle.qt_canon_laws.proofs.Smooth.{times_not_nil, power_not_nil, epsilon_not_nil}
use Rattle.qt_canon_laws.proofs.Order.{not_at_most}
use Rattle.qt_canon_laws.proofs.Window.{norm-epsilon, norm_a-positive}
use Rattle.qt_unit.proofs.Fifths.{fifth_on, few_fifths}

-- where the search stands after n steps
pub record Rising (x : Omega) (n : ℕ) (a b : ℤ) : Type 0 where
  pub first : a ≡ norm_a (times (power epsilon n) x)
  pub second : b ≡ pos 0 -ℤ norm_b (times (power epsilon n) x)
  pub in_or_below : (pos 0 -ℤ a) ≤ℤ (pos 2 *ℤ b)
  pub few : n ≤ 49
  pub falls : a ≤ℤ (pos 2 *ℤ b) → 5 ^ n * unsigned_abs a ≤ 2 ^ 112
  pub size : a ≤ℤ pos (2 ^ 112)

pub rising_begins : (x : Omega) (a b : ℤ) → a ≡ norm_a x → b ≡ pos 0 -ℤ norm_b x → unsigned_abs a ≤ 2 ^ 112 → (pos 2 *ℤ norm_b x) ≤ℤ norm_a x → Rising x 0 a b
rising_begins x a b e f h k =
    let z : pos 0 ≤ℤ a = (let n : pos 0 ≤ℤ norm_a x = norm_a-nonneg x in omega (arith, ints)) in
    record {
      first = e ∙ ap norm_a (sym (one-times x));
      second = f ∙ ap (λ t. pos 0 -ℤ norm_b t) (sym (one-times x));
      in_or_below = omega (arith, ints);
      few = omega arith;
      falls = λ l. omega (arith, ints);
      size = omega (arith, ints);
    }

fifth : (a b c d : ℤ) → c ≡ pos 3 *ℤ a -ℤ pos 4 *ℤ b → d ≡ pos 3 *ℤ b -ℤ pos 2 *ℤ a → pos 0 ≤ℤ c → pos 0 ≤ℤ a → c ≤ℤ (pos 2 *ℤ d) → 5 * unsigned_abs c ≤ unsigned_abs a
fifth a b c d e f h k l = omega (arith, ints)

step_first : (a b c p q : ℤ) → a ≡ p → b ≡ pos 0 -ℤ q → c ≡ pos 3 *ℤ a -ℤ pos 4 *ℤ b → c ≡ pos 3 *ℤ p +ℤ pos 4 *ℤ q
step_first a b c p q e f g = omega (arith, ints)

step_second : (a b d p q : ℤ) → a ≡ p → b ≡ pos 0 -ℤ q → d ≡ pos 3 *ℤ b -ℤ pos 2 *ℤ a → d ≡ pos 0 -ℤ (pos 3 *ℤ q +ℤ pos 2 *ℤ p)
step_second a b d p q e f g = omega (arith, ints)

-- one step
pub rising_on : (x : Omega) (n : ℕ) (a b c d : ℤ) → (x ≡ nil → ⊥) → a ≤ℤ (pos 2 *ℤ b) → c ≡ pos 3 *ℤ a -ℤ pos 4 *ℤ b → d ≡ pos 3 *ℤ b -ℤ pos 2 *ℤ a → Rising x n a b → Rising x (n + 1) c d
rising_on x n a b c d h t e f r =
    let y : Omega = times (power epsilon n) x in
    let z : n + 1 ≡ suc n = omega arith in
    let s : times (power epsilon (n + 1)) x ≡ times epsilon y = ap (λ m. times (power epsilon m) x) z ∙ times_assoc epsilon (power epsilon n) x in
    let some : y ≡ nil → ⊥ = times_not_nil (power epsilon n) x (power_not_nil epsilon n epsilon_not_nil) h in
    let p : pos 0 <ℤ norm_a y = norm_a-positive y some in
    let more : times epsilon y ≡ nil → ⊥ = times_not_nil epsilon y epsilon_not_nil some in
    let q : pos 0 <ℤ norm_a (times epsilon y) = norm_a-positive (times epsilon y) more in
    let g : c ≡ norm_a (times epsilon y) = step_first a b c (norm_a y) (norm_b y) r.first r.second e ∙ sym (norm-epsilon y).0 in
    let i : d ≡ pos 0 -ℤ norm_b (times epsilon y) = step_second a b d (norm_a y) (norm_b y) r.first r.second f ∙ ap (λ t. pos 0 -ℤ t) (sym (norm-epsilon y).1) in
    let u = r.first in
    let v = r.size in
    let k : 5 ^ n * unsigned_abs a ≤ 2 ^ 112 = r.falls t in
    let l : n ≤ 48 = few_fifths n (unsigned_abs a) (omega (arith, ints)) k in
    record {
      first = g ∙ ap norm_a (sym s);
      second = i ∙ ap (λ t. pos 0 -ℤ norm_b t) (sym s);
      in_or_below = omega (arith, ints);
      few = omega arith;
      falls = λ w. fifth_on n (unsigned_abs a) (unsigned_abs c) (fifth a b c d e f (omega (arith, ints)) (omega (arith, ints)) w) k;
      size = omega (arith, ints);
    }

-- at the end
pub rising_ends : (x : Omega) (n : ℕ) (a b : ℤ) → (a ≤ℤ (pos 2 *ℤ b) → ⊥) → Rising x n a b → InWindow (times (power epsilon n) x)
rising_ends x n a b h r =
    let u = r.first in
    let v = r.second in
    let w = r.in_or_below in
    let l : (pos 2 *ℤ b) <ℤ a = not_at_most a (pos 2 *ℤ b) h in
    record { above = omega (arith, ints); below = omega (arith, ints) }

-- |b| is at most a, since the norm is good
rising_fits : (x : Omega) (n : ℕ) (a b : ℤ) → Rising x n a b → (pos 0 ≤ℤ a) × (pos (unsigned_abs b) ≤ℤ a)
rising_fits x n a b r =
    let y : Omega = times (power epsilon n) x in
    let p : pos 0 ≤ℤ norm_a y = norm_a-nonneg y in
    let q : pos (unsigned_abs (norm_b y)) ≤ℤ norm_a y = good_bounded (norm_a y) (norm_b y) (p, norm_good y) in
    let u = r.first in
    let v : b ≡ pos 0 -ℤ norm_b y = r.second in
    (omega (arith, ints), omega (arith, ints))

pub rising_sizes : (x : Omega) (n : ℕ) (a b : ℤ) → Rising x n a b → (unsigned_abs a ≤ 2 ^ 112) × (unsigned_abs b ≤ 2 ^ 112)
rising_sizes x n a b r =
    let p = rising_fits x n a b r in
    let q = r.size in
    let u = p.0 in
    let v = p.1 in
    (omega (arith, ints), omega (arith, ints))
