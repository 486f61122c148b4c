-- A plan gives the canonical form, and each entry's result is the form's.
use Rattle.std.proofs.Common.{◌≡◌, ℕ, ◌+◌, ◌-◌, ◌%◌, ◌≤◌, ◌^◌, List, sym, ap, ◌∙◌, arith, subst, ℤ, pos, ◌-ℤ◌}
use Rattle.std.specs.Int.RustNames.{unsigned_abs}
use lib.IntN.{neg_ℤ}
use mir.Val.{to_z, of_z}
use mir.Syntax.{w32}
use Rattle.std.proofs.lemmas.Int.{ints}
use Rattle.qt_ring.specs.declared.omega.Omega.{Omega}
use Rattle.qt_ring.specs.Ring.{nil, one, times, root, two_to, root_two, one_minus_omega}
use Rattle.qt_ring.specs.Places.{digit}
use Rattle.qt_ring.specs.Multiples.{scaled}
use Rattle.qt_ring.proofs.RingLaws.{times_assoc, times_comm, times-one, one-times, times_both, times_cross}
use Rattle.qt_ring.proofs.Units.{cancelled}
use Rattle.qt_root2.specs.declared.scale.Scale.{Scale}
use Rattle.qt_canon_laws.specs.Powers.{once, epsilon_power}
use Rattle.qt_canon_laws.specs.FirstEntry.{first_entry, InWindow, IsGreater}
use Rattle.qt_canon_laws.specs.Canonical.{factor_of, scale_of, IsCanonical}
use Rattle.qt_canon_laws.proofs.Lists.{scaled_scaled}
use Rattle.qt_canon_laws.proofs.FirstEntries.{first_entry-scaled}
use Rattle.qt_canon_laws.proofs.Smooth.{times_not_nil, root_not_nil, epsilon_power_not_nil}
use Rattle.qt_canon_laws.proofs.Epsilons.{opposite_powers}
use Rattle.qt_canon_laws.proofs.Greatest.{turn_back, turned_greatest}
use Rattle.qt_canon.specs.declared.plan.Plan.{Plan}
use Rattle.qt_canon.specs.Divisors.{divisor_of, IsGreatestDivisor}
use Rattle.qt_canon.specs.Plans.{taken_of}
use Rattle.qt_canon.proofs.Divisors.{divisor_not_nil}
use Rattle.qt_canon.proofs.Tested.{tested_is_canonical}

-- what each quotient is multiplied with
abbrev pub gain : Plan → Omega
gain k = times (root k.turn) (epsilon_power k.unit.exponent)

-- ---- the factor times the gain is the divisor
opposite : (m : ℤ) → times (epsilon_power (pos 0 -ℤ m)) (epsilon_power m) ≡ one
opposite m =
    let z : pos 0 -ℤ m ≡ neg_ℤ m = omega (arith, ints) in
    ap (λ t. times (epsilon_power t) (epsilon_power m)) z ∙ times_comm _ _ ∙ opposite_powers m

undone : (e j g r : Omega) → times e r ≡ one → times j g ≡ one → times (times e j) (times g r) ≡ one
undone e j g r a b = ap (times (times e j)) (times_comm g r) ∙ times_cross e j r g ∙ times_both _ _ _ _ a b ∙ times-one one

flat : (t r s y : Omega) → times t (times r (times s y)) ≡ times (times (times t r) s) y
flat t r s y = sym (times_assoc (times t r) s y ∙ times_assoc t r (times s y))

pub factor_gain : (k : Plan) → times (factor_of (taken_of k)) (gain k) ≡ divisor_of k.divisor
factor_gain k =
    let d : Omega = divisor_of k.divisor in
    let e : Omega = epsilon_power (pos 0 -ℤ k.unit.exponent) in
    let j : Omega = root ((8 - k.turn) % 8) in
    ap (λ t. times t (gain k)) (flat (two_to k.divisor.twos) (once root_two k.divisor.has_root_two) (once one_minus_omega k.divisor.has_one_minus_omega) (times e j))
    ∙ times_assoc d (times e j) (gain k)
    ∙ ap (times d) (undone e j (root k.turn) (epsilon_power k.unit.exponent) (opposite k.unit.exponent) (turn_back k.turn k.few)) ∙ times-one d

-- ---- an entry's result
pub quotient_is : (k : Plan) (x rest y z : Omega) → times (divisor_of k.divisor) rest ≡ x → y ≡ times (epsilon_power k.unit.exponent) rest → z ≡ times (root k.turn) y → times (factor_of (taken_of k)) z ≡ x
quotient_is k x rest y z e f g =
    let w : z ≡ times (gain k) rest = g ∙ ap (times (root k.turn)) f ∙ sym (times_assoc (root k.turn) (epsilon_power k.unit.exponent) rest) in
    ap (times (factor_of (taken_of k))) w ∙ sym (times_assoc (factor_of (taken_of k)) (gain k) rest) ∙ ap (λ t. times t rest) (factor_gain k) ∙ e

-- ---- the form
gain_not_nil : (k : Plan) → gain k ≡ nil → ⊥
gain_not_nil k = times_not_nil (root k.turn) (epsilon_power k.unit.exponent) (root_not_nil k.turn) (epsilon_power_not_nil k.unit.exponent)

-- what is found for a list, with the quotient of its first entry other than 0
pub record IsPlanned (v : List Omega) (k : Plan) (first : Omega) : Type 0 where
  pub divisor : IsGreatestDivisor k.divisor v
  pub value : times (divisor_of k.divisor) first ≡ first_entry v
  pub window : InWindow (times (epsilon_power k.unit.exponent) first)
  pub greatest : (j : ℕ) → IsGreater (times (root j) (times (epsilon_power k.unit.exponent) first)) (times (root k.turn) (times (epsilon_power k.unit.exponent) first)) → ⊥

pub planned_form : (v : List Omega) (k : Plan) (first : Omega) → IsPlanned v k first → (u : List Omega) × IsCanonical v u (taken_of k)
planned_form v k first h =
    let d : Omega = divisor_of k.divisor in
    let some : d ≡ nil → ⊥ = divisor_not_nil k.divisor.twos k.divisor.has_root_two k.divisor.has_one_minus_omega in
    let w : List Omega = h.divisor.whole.0 in
    let u : List Omega = scaled (gain k) w in
    let x : Omega = times (epsilon_power k.unit.exponent) first in
    let product : scaled (factor_of (taken_of k)) u ≡ v = scaled_scaled (factor_of (taken_of k)) (gain k) w ∙ ap (λ t. scaled t w) (factor_gain k) ∙ h.divisor.whole.1 in
    let a : first ≡ first_entry w = cancelled d first (first_entry w) some (h.value ∙ ap first_entry (sym h.divisor.whole.1) ∙ first_entry-scaled d w some) in
    let f : first_entry u ≡ times (root k.turn) x = first_entry-scaled (gain k) w (gain_not_nil k) ∙ ap (times (gain k)) (sym a) ∙ times_assoc (root k.turn) (epsilon_power k.unit.exponent) first in
    let back : times (root ((8 - k.turn) % 8)) (first_entry u) ≡ x = ap (times (root ((8 - k.turn) % 8))) f ∙ sym (times_assoc (root ((8 - k.turn) % 8)) (root k.turn) x) ∙ ap (λ t. times t x) (turn_back k.turn k.few) ∙ one-times x in (
      u,
      tested_is_canonical v u (taken_of k) (record {
        product = product;
        twos = h.divisor.twos;
        no_root_two = h.divisor.no_root_two;
        no_one_minus_omega = h.divisor.no_one_minus_omega;
        window = subst InWindow (sym back) h.window;
        few = omega arith;
        greatest = turned_greatest k.turn x (first_entry u) f h.greatest;
      }),
    )

-- ---- its scale
abbrev short : ℤ → ℤ
short z = to_z w32 (of_z w32 z)

short_is : (z : ℤ) → unsigned_abs z ≤ 2 ^ 30 → short z ≡ z
short_is z h = omega (arith, ints)

abbrev scale_made : ℤ → ℤ → ℕ → Scale
scale_made t u p = record { twos = t; units = u; primes = p }

pub scale_is : (k : Plan) (t : ℤ) (p : ℕ) → t ≡ pos (k.divisor.twos + k.divisor.twos + digit k.divisor.has_root_two) → unsigned_abs t ≤ 109 → p ≡ digit k.divisor.has_one_minus_omega → scale_made (short t) (short (pos 0 -ℤ short k.unit.exponent)) p ≡ scale_of (taken_of k)
scale_is k t p e h f =
    let m : ℤ = k.unit.exponent in
    let few = k.unit.few in
    let t' : ℤ = pos (k.divisor.twos + k.divisor.twos + digit k.divisor.has_root_two) in
    let u : ℤ = pos 0 -ℤ m in
    ap (λ (z : ℤ). scale_made z (short (pos 0 -ℤ short m)) p) (short_is t (omega arith) ∙ e)
    ∙ ap (λ (z : ℤ). scale_made t' (short (pos 0 -ℤ z)) p) (short_is m (omega arith))
    ∙ ap (λ (z : ℤ). scale_made t' z p) (short_is u (omega (arith, ints)))
    ∙ ap (λ (n : ℕ). scale_made t' u n) f

pub greatest_as : (g : ℕ) (x y : Omega) → x ≡ y → ((j : ℕ) → IsGreater (times (root j) x) (times (root g) x) → ⊥) → (j : ℕ) → IsGreater (times (root j) y) (times (root g) y) → ⊥
greatest_as g x y e h = subst (λ (z : Omega). (j : ℕ) → IsGreater (times (root j) z) (times (root g) z) → ⊥) e h
