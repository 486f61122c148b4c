-- Each list that isn't all 0 has a canonical form: the steps one after the other.
use Rattle.std.proofs.Common.{◌≡◌, ℕ, zero, suc, ◌-◌, ◌%◌, ◌<◌, ◌≤◌, Bool, true, false, List, refl, sym, ap, subst, ◌∙◌, arith, ℤ, pos, ◌+ℤ◌, ◌-ℤ◌, ◌*ℤ◌, ◌≤ℤ◌, ◌<ℤ◌}
use Rattle.std.specs.Prelude.{◌⊎◌}
use Rattle.std.specs.Int.RustNames.{unsigned_abs}
use lib.IntN.{neg_ℤ}
use mathlib.Core.Logic.{inl, inr}
use Rattle.std.proofs.lemmas.Int.{ints}
use Rattle.qt_ring.specs.declared.omega.Omega.{Omega}
use Rattle.qt_ring.specs.Ring.{nil, one, times, root, two_to, root_two, one_minus_omega, epsilon, epsilon_inverse, norm_a, norm_b}
use Rattle.qt_ring.specs.Multiples.{scaled, DividesAll}
use Rattle.qt_ring.proofs.RingLaws.{times_assoc, times_comm, one-times, times-nil}
use Rattle.qt_ring.proofs.Norms.{norm_a-nonneg}
use Rattle.qt_canon_laws.specs.Powers.{power, epsilon_power}
use Rattle.qt_canon_laws.specs.FirstEntry.{first_entry, InWindow}
use Rattle.qt_canon_laws.specs.Canonical.{TakesOnce, TakesUnits, TakesTurns, Taken, IsCanonical, factor_of}
use Rattle.qt_canon_laws.proofs.Lists.{scaled_scaled, scaled_one}
use Rattle.qt_canon_laws.proofs.FirstEntries.{first_entry-scaled}
use Rattle.qt_canon_laws.proofs.Smooth.{times_not_nil, root_not_nil, root_two_not_nil, one_minus_omega_not_nil, two_to_not_nil, epsilon_not_nil, epsilon_inverse_not_nil, epsilon_power_not_nil, factor_not_nil}
use Rattle.qt_canon_laws.proofs.Epsilons.{opposite_powers, epsilon_power-neg}
use Rattle.qt_canon_laws.proofs.Order.{three_ways}
use Rattle.qt_canon_laws.proofs.Window.{IsNotBelow, norm-epsilon, norm-epsilon_inverse, norm_a-positive, window_not_nil}
use Rattle.qt_canon_laws.proofs.Greatest.{greatest_turn, turn_back, turned_greatest}
use Rattle.qt_canon_laws.proofs.Deciding.{Decided, all_by_root_two, all_by_one_minus_omega}
use Rattle.qt_canon_laws.proofs.Twos.{takes_twos}
use Rattle.qt_canon_laws.proofs.Forms.{canonical_core, canonical_product}

-- ---- what is left of a list that isn't all 0 isn't
rest_some : (c : Omega) (v w : List Omega) → (c ≡ nil → ⊥) → scaled c w ≡ v → (first_entry v ≡ nil → ⊥) → first_entry w ≡ nil → ⊥
rest_some c v w h e some z = some (ap first_entry (sym e) ∙ first_entry-scaled c w h ∙ ap (times c) z ∙ times-nil c)

once_some : (d : Omega) (b : Bool) (v w : List Omega) → (d ≡ nil → ⊥) → TakesOnce d b v w → (first_entry v ≡ nil → ⊥) → first_entry w ≡ nil → ⊥
once_some d true v w h e some z = rest_some d v w h e some z
once_some d false v w h e some z = some (ap first_entry (sym e.0) ∙ z)

takes_once : (d : Omega) (v : List Omega) → Decided (DividesAll d v) → (b : Bool) × ((w : List Omega) × TakesOnce d b v w)
takes_once d v (inl (w, e)) = (true, (w, e))
takes_once d v (inr n) = (false, (v, (refl, n)))

-- ---- the power of ε
abbrev IsNotAbove : Omega → Type 0
IsNotAbove x = (pos 2 *ℤ norm_b x) ≤ℤ norm_a x

in_window : (x : Omega) → IsNotBelow x → IsNotAbove x → InWindow (times one x)
in_window x h k = subst InWindow (sym (one-times x)) (record { above = h; below = k })

power_first : (e x : Omega) (n : ℕ) → InWindow (times (power e n) (times e x)) → InWindow (times (power e (suc n)) x)
power_first e x n w = subst InWindow (sym (times_assoc (power e n) e x) ∙ ap (λ t. times t x) (times_comm (power e n) e)) w

-- where 2b is above a, ε⁻¹ makes a less, and doesn't lead below the window
falls : (a b c d : ℤ) → c ≡ pos 3 *ℤ a -ℤ pos 4 *ℤ b → d ≡ pos 3 *ℤ b -ℤ pos 2 *ℤ a → pos 0 ≤ℤ c → a <ℤ (pos 2 *ℤ b) → (m : ℕ) → unsigned_abs a ≤ suc m → (unsigned_abs c ≤ m) × ((pos 0 -ℤ c) <ℤ (pos 2 *ℤ d))
falls a b c d e f h l m s = (omega (arith, ints), omega (arith, ints))

none_left : (x : Omega) → (x ≡ nil → ⊥) → unsigned_abs (norm_a x) ≤ 0 → ⊥
none_left x some h = let p : pos 0 <ℤ norm_a x = norm_a-positive x some in absurd (omega (arith, ints))

abbrev Ways : ℤ → ℤ → Type 0
Ways a b = (a <ℤ b) ⊎ ((a ≡ b) ⊎ (b <ℤ a))

down_by : (x : Omega) → IsNotBelow x → Ways (norm_a x) (pos 2 *ℤ norm_b x) → (norm_a x <ℤ (pos 2 *ℤ norm_b x) → (n : ℕ) × InWindow (times (power epsilon_inverse n) (times epsilon_inverse x))) → (n : ℕ) × InWindow (times (power epsilon_inverse n) x)
down_by x h (inl l) rest = let r = rest l in (suc r.0, power_first epsilon_inverse x r.0 r.1)
down_by x h (inr (inl e)) rest = (0, in_window x h (omega (arith, ints)))
down_by x h (inr (inr l)) rest = (0, in_window x h (omega (arith, ints)))

down : (m : ℕ) (x : Omega) → (x ≡ nil → ⊥) → unsigned_abs (norm_a x) ≤ m → IsNotBelow x → (n : ℕ) × InWindow (times (power epsilon_inverse n) x)
down zero x some s h = absurd (none_left x some s)
down (suc m) x some s h = down_by x h (three_ways (norm_a x) (pos 2 *ℤ norm_b x)) (λ l.
    let y : Omega = times epsilon_inverse x in
    let f = falls (norm_a x) (norm_b x) (norm_a y) (norm_b y) (norm-epsilon_inverse x).0 (norm-epsilon_inverse x).1 (norm_a-nonneg y) l m s in
    down m y (times_not_nil epsilon_inverse x epsilon_inverse_not_nil some) f.0 f.1)

-- where 2b is below −a, ε makes a less, and doesn't lead above the window; where it is −a, ε leads into the window
rises : (a b c d : ℤ) → c ≡ pos 3 *ℤ a +ℤ pos 4 *ℤ b → d ≡ pos 3 *ℤ b +ℤ pos 2 *ℤ a → pos 0 ≤ℤ c → (pos 2 *ℤ b) <ℤ (pos 0 -ℤ a) → (m : ℕ) → unsigned_abs a ≤ suc m → (unsigned_abs c ≤ m) × ((pos 2 *ℤ d) ≤ℤ c)
rises a b c d e f h l m s = (omega (arith, ints), omega (arith, ints))

edge : (a b c d : ℤ) → c ≡ pos 3 *ℤ a +ℤ pos 4 *ℤ b → d ≡ pos 3 *ℤ b +ℤ pos 2 *ℤ a → pos 0 <ℤ a → pos 0 -ℤ a ≡ pos 2 *ℤ b → ((pos 0 -ℤ c) <ℤ (pos 2 *ℤ d)) × ((pos 2 *ℤ d) ≤ℤ c)
edge a b c d e f h l = (omega (arith, ints), omega (arith, ints))

up_by : (x : Omega) → (x ≡ nil → ⊥) → IsNotAbove x → Ways (pos 0 -ℤ norm_a x) (pos 2 *ℤ norm_b x) → ((pos 2 *ℤ norm_b x) <ℤ (pos 0 -ℤ norm_a x) → (n : ℕ) × InWindow (times (power epsilon n) (times epsilon x))) → (n : ℕ) × InWindow (times (power epsilon n) x)
up_by x some h (inl l) rest = (0, in_window x l h)
up_by x some h (inr (inr l)) rest = let r = rest l in (suc r.0, power_first epsilon x r.0 r.1)
up_by x some h (inr (inl e)) rest =
    let y : Omega = times epsilon x in
    let f = edge (norm_a x) (norm_b x) (norm_a y) (norm_b y) (norm-epsilon x).0 (norm-epsilon x).1 (norm_a-positive x some) e in
    (1, power_first epsilon x 0 (in_window y f.0 f.1))

up : (m : ℕ) (x : Omega) → (x ≡ nil → ⊥) → unsigned_abs (norm_a x) ≤ m → IsNotAbove x → (n : ℕ) × InWindow (times (power epsilon n) x)
up zero x some s h = absurd (none_left x some s)
up (suc m) x some s h = up_by x some h (three_ways (pos 0 -ℤ norm_a x) (pos 2 *ℤ norm_b x)) (λ l.
    let y : Omega = times epsilon x in
    let f = rises (norm_a x) (norm_b x) (norm_a y) (norm_b y) (norm-epsilon x).0 (norm-epsilon x).1 (norm_a-nonneg y) l m s in
    up m y (times_not_nil epsilon x epsilon_not_nil some) f.0 f.1)

pub below_not_above : (a b : ℤ) → pos 0 ≤ℤ a → (pos 2 *ℤ b) ≤ℤ (pos 0 -ℤ a) → (pos 2 *ℤ b) ≤ℤ a
below_not_above a b h l = omega (arith, ints)

epsilon_power-neg_neg : (n : ℕ) → epsilon_power (neg_ℤ (neg_ℤ (pos n))) ≡ power epsilon n
epsilon_power-neg_neg zero = refl
epsilon_power-neg_neg (suc n) = refl

-- an m for which ε^m is taken out
unit_down : (x : Omega) → (x ≡ nil → ⊥) → IsNotBelow x → (m : ℤ) × InWindow (times (epsilon_power (neg_ℤ m)) x)
unit_down x some h =
    let r = down (unsigned_abs (norm_a x)) x some (omega arith) h in
    (pos r.0, subst (λ (e : Omega). InWindow (times e x)) (sym (epsilon_power-neg r.0)) r.1)

unit_up : (x : Omega) → (x ≡ nil → ⊥) → IsNotAbove x → (m : ℤ) × InWindow (times (epsilon_power (neg_ℤ m)) x)
unit_up x some h =
    let r = up (unsigned_abs (norm_a x)) x some (omega arith) h in
    (neg_ℤ (pos r.0), subst (λ (e : Omega). InWindow (times e x)) (sym (epsilon_power-neg_neg r.0)) r.1)

unit_by : (x : Omega) → (x ≡ nil → ⊥) → Ways (pos 0 -ℤ norm_a x) (pos 2 *ℤ norm_b x) → (m : ℤ) × InWindow (times (epsilon_power (neg_ℤ m)) x)
unit_by x some (inl l) = unit_down x some l
unit_by x some (inr (inl e)) = unit_up x some (below_not_above (norm_a x) (norm_b x) (norm_a-nonneg x) (omega (arith, ints)))
unit_by x some (inr (inr l)) = unit_up x some (below_not_above (norm_a x) (norm_b x) (norm_a-nonneg x) (omega (arith, ints)))

takes_units : (v : List Omega) → (first_entry v ≡ nil → ⊥) → (m : ℤ) × ((w : List Omega) × TakesUnits m v w)
takes_units v some =
    let x : Omega = first_entry v in
    let r = unit_by x some (three_ways (pos 0 -ℤ norm_a x) (pos 2 *ℤ norm_b x)) in
    let gain : Omega = epsilon_power (neg_ℤ r.0) in (
      r.0,
      (
        scaled gain v,
        record {
          left = scaled_scaled (epsilon_power r.0) gain v ∙ ap (λ t. scaled t v) (opposite_powers r.0) ∙ scaled_one v;
          window = subst InWindow (sym (first_entry-scaled gain v (epsilon_power_not_nil (neg_ℤ r.0)))) r.1;
        },
      ),
    )

-- ---- the power of ω
turn_left : (g : ℕ) (v : List Omega) → g < 8 → scaled (root ((8 - g) % 8)) (scaled (root g) v) ≡ v
turn_left g v h = scaled_scaled (root ((8 - g) % 8)) (root g) v ∙ ap (λ t. scaled t v) (turn_back g h) ∙ scaled_one v

takes_turns : (v : List Omega) → (j : ℕ) × ((u : List Omega) × TakesTurns j v u)
takes_turns v =
    let r = greatest_turn (first_entry v) in
    let g : ℕ = r.0 in (
      (8 - g) % 8,
      (
        scaled (root g) v,
        record {
          few = omega arith;
          left = turn_left g v r.1.0;
          greatest = turned_greatest g (first_entry v) (first_entry (scaled (root g) v)) (first_entry-scaled (root g) v (root_not_nil g)) r.1.1;
        },
      ),
    )

-- ---- the form
pub form_exists : (v : List Omega) → (first_entry v ≡ nil → ⊥) → (u : List Omega) × ((k : Taken) × IsCanonical v u k)
form_exists v some =
    let a = takes_twos v some in
    let b = takes_once root_two a.1.0 (all_by_root_two a.1.0) in
    let c = takes_once one_minus_omega b.1.0 (all_by_one_minus_omega b.1.0) in
    let some_a : first_entry a.1.0 ≡ nil → ⊥ = rest_some (two_to a.0) v a.1.0 (two_to_not_nil a.0) a.1.1.left some in
    let some_b : first_entry b.1.0 ≡ nil → ⊥ = once_some root_two b.0 a.1.0 b.1.0 root_two_not_nil b.1.1 some_a in
    let some_c : first_entry c.1.0 ≡ nil → ⊥ = once_some one_minus_omega c.0 b.1.0 c.1.0 one_minus_omega_not_nil c.1.1 some_b in
    let d = takes_units c.1.0 some_c in
    let e = takes_turns d.1.0 in (
      e.1.0,
      (
        record { twos = a.0; has_root_two = b.0; has_one_minus_omega = c.0; units = d.0; turns = e.0 },
        record {
          after_twos = a.1.0;
          after_root_two = b.1.0;
          after_one_minus_omega = c.1.0;
          after_units = d.1.0;
          takes_twos = a.1.1;
          takes_root_two = b.1.1;
          takes_one_minus_omega = c.1.1;
          takes_units = d.1.1;
          takes_turns = e.1.1;
        },
      ),
    )

pub canonical_some : (v u : List Omega) (k : Taken) → IsCanonical v u k → first_entry v ≡ nil → ⊥
canonical_some v u k c z =
    times_not_nil (factor_of k) (first_entry u) (factor_not_nil k) (window_not_nil (first_entry u) (canonical_core v u k c).window)
    (sym (first_entry-scaled (factor_of k) u (factor_not_nil k)) ∙ ap first_entry (canonical_product v u k c) ∙ z)
