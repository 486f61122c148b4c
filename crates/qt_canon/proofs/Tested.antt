-- What the code tests of a list makes its result the canonical form.
use Rattle.std.proofs.Common.{◌≡◌, ℕ, ◌<◌, ◌≤◌, Bool, true, false, List, refl, sym, ap, ◌∙◌, subst}
use Rattle.qt_ring.specs.declared.omega.Omega.{Omega}
use Rattle.qt_ring.specs.Ring.{times, root, two_to, root_two, one_minus_omega}
use Rattle.qt_ring.specs.Multiples.{scaled, DividesAll}
use Rattle.qt_canon_laws.specs.Powers.{once, epsilon_power}
use Rattle.qt_canon_laws.specs.FirstEntry.{first_entry, InWindow, IsGreater}
use Rattle.qt_canon_laws.specs.Canonical.{TakesOnce, Taken, factor_of, IsCanonical}
use Rattle.qt_canon_laws.proofs.Lists.{scaled_scaled, scaled_one, divides_product}
use Rattle.qt_canon_laws.proofs.FirstEntries.{first_entry-scaled}
use Rattle.qt_canon_laws.proofs.Smooth.{root_not_nil}
use Rattle.qt_canon.specs.EvenDivisors.{even_divisor}

takes_once : (d : Omega) (b : Bool) (w : List Omega) → (b ≡ false → DividesAll d (scaled (once d b) w) → ⊥) → TakesOnce d b (scaled (once d b) w) w
takes_once d true w h = refl
takes_once d false w h = (sym (scaled_one w), h refl)

-- the tests, said of the list v alone
pub record IsTested (v u : List Omega) (k : Taken) : Type 0 where
  pub product : scaled (factor_of k) u ≡ v
  pub twos : (t : ℕ) → DividesAll (two_to t) v → t ≤ k.twos
  pub no_root_two : k.has_root_two ≡ false → DividesAll (times (two_to k.twos) root_two) v → ⊥
  pub no_one_minus_omega : k.has_one_minus_omega ≡ false → DividesAll (times (even_divisor k.twos k.has_root_two) one_minus_omega) v → ⊥
  pub window : InWindow (times (root k.turns) (first_entry u))
  pub few : k.turns < 8
  pub greatest : (j : ℕ) → IsGreater (times (root j) (first_entry u)) (first_entry u) → ⊥

pub tested_is_canonical : (v u : List Omega) (k : Taken) → IsTested v u k → IsCanonical v u k
tested_is_canonical v u k s =
    let d : List Omega = scaled (root k.turns) u in
    let c : List Omega = scaled (epsilon_power k.units) d in
    let b : List Omega = scaled (once one_minus_omega k.has_one_minus_omega) c in
    let a : List Omega = scaled (once root_two k.has_root_two) b in
    let whole : scaled (two_to k.twos) a ≡ v =
    ap (λ (l : List Omega). scaled (two_to k.twos) (scaled (once root_two k.has_root_two) (scaled (once one_minus_omega k.has_one_minus_omega) l))) (scaled_scaled (epsilon_power k.units) (root k.turns) u)
    ∙ ap (λ (l : List Omega). scaled (two_to k.twos) (scaled (once root_two k.has_root_two) l)) (scaled_scaled (once one_minus_omega k.has_one_minus_omega) _ u)
    ∙ ap (scaled (two_to k.twos)) (scaled_scaled (once root_two k.has_root_two) _ u)
    ∙ scaled_scaled (two_to k.twos) _ u
    ∙ s.product in
    let even : scaled (even_divisor k.twos k.has_root_two) b ≡ v = sym (scaled_scaled (two_to k.twos) (once root_two k.has_root_two) b) ∙ whole in
    record {
      after_twos = a;
      after_root_two = b;
      after_one_minus_omega = c;
      after_units = d;
      takes_twos = record { left = whole; greatest = s.twos };
      takes_root_two = takes_once root_two k.has_root_two b (λ e f. s.no_root_two e (divides_product (two_to k.twos) root_two a v whole f));
      takes_one_minus_omega = takes_once one_minus_omega k.has_one_minus_omega c (λ e f. s.no_one_minus_omega e (divides_product (even_divisor k.twos k.has_root_two) one_minus_omega b v even f));
      takes_units = record { left = refl; window = subst InWindow (sym (first_entry-scaled (root k.turns) u (root_not_nil k.turns))) s.window };
      takes_turns = record { few = s.few; left = refl; greatest = s.greatest };
    }
