-- How often 2 divides a number, and all entries of a list.
use Rattle.std.proofs.Common.{◌≡◌, ℕ, zero, suc, ◌+◌, ◌≤◌, ◌<◌, ◌^◌, List, refl, sym, ap, ◌∙◌, arith, ℤ, pos, ◌+ℤ◌}
use Rattle.std.specs.Int.RustNames.{unsigned_abs}
use Rattle.std.proofs.lemmas.Int.{ints}
use mathlib.Core.Logic.{inl, inr}
use Rattle.qt_ring.specs.declared.omega.Omega.{Omega}
use Rattle.qt_ring.specs.Ring.{nil, plus, times, two_to, Within}
use Rattle.qt_ring.specs.Multiples.{scaled, DividesAll}
use Rattle.qt_ring.proofs.RingLaws.{same, plus-times, plus-nil, one-times}
use Rattle.qt_ring.proofs.Dividing.{times_two}
use Rattle.qt_canon_laws.specs.FirstEntry.{first_entry}
use Rattle.qt_canon_laws.specs.Canonical.{TakesTwos}
use Rattle.qt_canon_laws.proofs.Lists.{scaled_scaled, scaled_one, divides_first, divides_rest, divides_product, divides_as}
use Rattle.qt_canon_laws.proofs.FirstEntries.{first_entry-scaled}
use Rattle.qt_canon_laws.proofs.Smooth.{two_to_not_nil}
use Rattle.qt_canon_laws.proofs.Deciding.{Decided, all_by_two}

pub two_to-plus : (m n : ℕ) → two_to (m + n) ≡ times (two_to m) (two_to n)
two_to-plus zero n = let z : zero + n ≡ n = omega arith in ap two_to z ∙ sym (one-times _)
two_to-plus (suc m) n =
    let z : suc m + n ≡ suc (m + n) = omega arith in
    ap two_to z ∙ ap (λ t. plus t t) (two_to-plus m n) ∙ sym (plus-times (two_to m) (two_to m) (two_to n))

pub two_to-suc : (t : ℕ) → two_to (suc t) ≡ times (two_to 1) (two_to t)
two_to-suc t = sym (times_two (two_to t))

-- ---- a number that isn't 0 has no more factors 2 than its size has
none_or : (h z : ℤ) → h +ℤ h ≡ z → unsigned_abs z ≤ 2 ^ 0 → z ≡ pos 0
none_or h z e l = omega (arith, ints)

half_in : (h z : ℤ) (m : ℕ) → h +ℤ h ≡ z → unsigned_abs z ≤ 2 ^ suc m → unsigned_abs h ≤ 2 ^ m
half_in h z m e l = omega (arith, ints)

below_one : (x h : Omega) → plus h h ≡ x → Within (2 ^ 0) x → x ≡ nil
unfolding plus nil
below_one x h e w = same x _
    (none_or h.c0 x.c0 (ap (λ (t : Omega). t.c0) e) w.c0_in)
    (none_or h.c1 x.c1 (ap (λ (t : Omega). t.c1) e) w.c1_in)
    (none_or h.c2 x.c2 (ap (λ (t : Omega). t.c2) e) w.c2_in)
    (none_or h.c3 x.c3 (ap (λ (t : Omega). t.c3) e) w.c3_in)

half_within : (x h : Omega) (m : ℕ) → plus h h ≡ x → Within (2 ^ suc m) x → Within (2 ^ m) h
unfolding plus
half_within x h m e w = record {
  c0_in = half_in h.c0 x.c0 m (ap (λ (t : Omega). t.c0) e) w.c0_in;
  c1_in = half_in h.c1 x.c1 m (ap (λ (t : Omega). t.c1) e) w.c1_in;
  c2_in = half_in h.c2 x.c2 m (ap (λ (t : Omega). t.c2) e) w.c2_in;
  c3_in = half_in h.c3 x.c3 m (ap (λ (t : Omega). t.c3) e) w.c3_in;
}

few_twos : (m k : ℕ) (x y : Omega) → (x ≡ nil → ⊥) → Within (2 ^ m) x → times (two_to k) y ≡ x → k ≤ m
few_twos m zero x y n w e = omega arith
few_twos zero (suc k) x y n w e = absurd (n (below_one x (times (two_to k) y) (sym (plus-times (two_to k) (two_to k) y) ∙ e) w))
few_twos (suc m) (suc k) x y n w e =
    let f : plus (times (two_to k) y) (times (two_to k) y) ≡ x = sym (plus-times (two_to k) (two_to k) y) ∙ e in
    let r : k ≤ m = few_twos m k (times (two_to k) y) y (λ z. n (sym f ∙ ap (λ t. plus t t) z ∙ plus-nil nil)) (half_within x (times (two_to k) y) m f w) refl in
    omega arith

-- nor has a list whose first entry other than 0 has that size
pub twos_at_most : (m : ℕ) (v : List Omega) → (first_entry v ≡ nil → ⊥) → Within (2 ^ m) (first_entry v) → (k : ℕ) → DividesAll (two_to k) v → k ≤ m
twos_at_most m v some small k (w, e) = few_twos m k (first_entry v) (first_entry w) some small (sym (first_entry-scaled (two_to k) w (two_to_not_nil k)) ∙ ap first_entry e)

-- ---- where 2^(t + 1) doesn't divide the list, no greater power does
reached : (k t : ℕ) → ((n : ℕ) → t + 1 + n ≡ k → ⊥) → k ≤ t
reached zero t h = omega arith
reached (suc k) zero h = absurd (h k (omega arith))
reached (suc k) (suc t) h = let r : k ≤ t = reached k t (λ n e. h n (omega arith)) in omega arith

pub twos_greatest : (t : ℕ) (v : List Omega) → (DividesAll (two_to (t + 1)) v → ⊥) → (k : ℕ) → DividesAll (two_to k) v → k ≤ t
twos_greatest t v h k d = reached k t (λ n e. h (let f : t + 1 + n ≡ k = e in divides_first (two_to (t + 1)) (two_to n) v (divides_as _ _ v (ap two_to (sym f) ∙ two_to-plus (t + 1) n) d)))

-- ---- there is a greatest power of 2
below_power : (n : ℕ) → n < 2 ^ n
below_power zero = omega arith
below_power (suc n) = let h : n < 2 ^ n = below_power n in omega arith

within_some : (x : Omega) → (m : ℕ) × Within (2 ^ m) x
within_some x =
    let m : ℕ = unsigned_abs x.c0 + unsigned_abs x.c1 + unsigned_abs x.c2 + unsigned_abs x.c3 in
    let h : m < 2 ^ m = below_power m in
    (m, record { c0_in = omega arith; c1_in = omega arith; c2_in = omega arith; c3_in = omega arith })

takes_none : (v : List Omega) → (DividesAll (two_to 1) v → ⊥) → TakesTwos 0 v v
takes_none v odd = record { left = scaled_one v; greatest = twos_greatest 0 v odd }

greatest_more : (t : ℕ) (v w : List Omega) → scaled (two_to 1) w ≡ v → ((k : ℕ) → DividesAll (two_to k) w → k ≤ t) → (k : ℕ) → DividesAll (two_to k) v → k ≤ suc t
greatest_more t v w e h zero d = omega arith
greatest_more t v w e h (suc k) d = let r : k ≤ t = h k (divides_rest (two_to 1) (two_to k) w v (two_to_not_nil 1) e (divides_as _ _ v (two_to-suc k) d)) in omega arith

takes_more : (t : ℕ) (v w u : List Omega) → scaled (two_to 1) w ≡ v → TakesTwos t w u → TakesTwos (suc t) v u
takes_more t v w u e h = record {
  left = ap (λ r. scaled r u) (two_to-suc t) ∙ sym (scaled_scaled (two_to 1) (two_to t) u) ∙ ap (scaled (two_to 1)) h.left ∙ e;
  greatest = greatest_more t v w e h.greatest;
}

takes_by : (v : List Omega) → Decided (DividesAll (two_to 1) v) → ((w : List Omega) → scaled (two_to 1) w ≡ v → (t : ℕ) × ((u : List Omega) × TakesTwos t w u)) → (t : ℕ) × ((u : List Omega) × TakesTwos t v u)
takes_by v (inl (w, e)) rest = let r = rest w e in (suc r.0, (r.1.0, takes_more r.0 v w r.1.0 e r.1.1))
takes_by v (inr odd) rest = (0, (v, takes_none v odd))

twice_more : (k : ℕ) (v w : List Omega) → scaled (two_to 1) w ≡ v → DividesAll (two_to k) w → DividesAll (two_to (suc k)) v
twice_more k v w e d = divides_as _ _ v (sym (two_to-suc k)) (divides_product (two_to 1) (two_to k) w v e d)

takes_within : (m : ℕ) (v : List Omega) → ((k : ℕ) → DividesAll (two_to k) v → k ≤ m) → (t : ℕ) × ((w : List Omega) × TakesTwos t v w)
takes_within zero v h = (0, (v, record { left = scaled_one v; greatest = h }))
takes_within (suc m) v h = takes_by v (all_by_two v) (λ w e. takes_within m w (λ k d. let r : suc k ≤ suc m = h (suc k) (twice_more k v w e d) in omega arith))

pub takes_twos : (v : List Omega) → (first_entry v ≡ nil → ⊥) → (t : ℕ) × ((w : List Omega) × TakesTwos t v w)
takes_twos v some = let r = within_some (first_entry v) in takes_within r.0 v (twos_at_most r.0 v some r.1)
