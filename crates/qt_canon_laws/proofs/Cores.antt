-- What is left of a list when all is taken out is one, whatever power of 1 − ω, ε and ω the list is multiplied by: three inductions, each
-- of which takes the same factor from both sides until one side has no more of it.
use Rattle.std.proofs.Common.{◌≡◌, ℕ, zero, suc, ◌+◌, ◌*◌, List, sym, ap, subst, ◌∙◌, arith}
use Rattle.std.proofs.lemmas.Int.{ints}
use Rattle.qt_ring.specs.declared.omega.Omega.{Omega}
use Rattle.qt_ring.specs.Ring.{one, times, root, one_minus_omega, epsilon, epsilon_inverse, norm_a, norm_b}
use Rattle.qt_ring.specs.Multiples.{scaled, DividesAll}
use Rattle.qt_ring.proofs.RingLaws.{times_assoc, times_comm, times-one, one-times, times_cross, times_front, times_both, root-plus, root_turns}
use Rattle.qt_ring.proofs.Units.{cancelled}
use Rattle.qt_canon_laws.specs.Powers.{power}
use Rattle.qt_canon_laws.specs.FirstEntry.{first_entry, InWindow, IsGreater}
use Rattle.qt_canon_laws.proofs.Lists.{scaled_scaled, scaled_one, scaled_cancel, divides_scaled}
use Rattle.qt_canon_laws.proofs.FirstEntries.{first_entry-scaled}
use Rattle.qt_canon_laws.proofs.Smooth.{Smooth, power-plus, power_not_nil, root_not_nil, times_not_nil, epsilon_not_nil, one_minus_omega_not_nil}
use Rattle.qt_canon_laws.proofs.Epsilons.{inverse_back}
use Rattle.qt_canon_laws.proofs.Order.{none_greater}
use Rattle.qt_canon_laws.proofs.Window.{above-power, window_not_nil, norm-root}

-- an inverse of ω^j
pub root_back : (j : ℕ) → times (root (7 * j)) (root j) ≡ one
root_back j = let z : 7 * j + j ≡ 8 * j + 0 = omega arith in sym (root-plus (7 * j) j) ∙ ap root z ∙ root_turns j 0

-- what is left of a list when all is taken out
pub record IsCore (u : List Omega) : Type 0 where
  pub odd : DividesAll one_minus_omega u → ⊥
  pub window : InWindow (first_entry u)
  pub greatest : (k : ℕ) → IsGreater (times (root k) (first_entry u)) (first_entry u) → ⊥

-- ---- ω: each first entry is a power of ω times the other, so neither is greater, and the power is 1
turns_same : (i j : ℕ) (u w : List Omega) → IsCore u → IsCore w → scaled (root i) u ≡ scaled (root j) w → u ≡ w
turns_same i j u w c d e =
    let n : ℕ = 7 * i + j in
    let m : ℕ = 7 * n in
    let a : u ≡ scaled (root n) w = sym (scaled_one u) ∙ ap (λ t. scaled t u) (sym (root_back i)) ∙ sym (scaled_scaled (root (7 * i)) (root i) u) ∙ ap (scaled (root (7 * i))) e ∙ scaled_scaled (root (7 * i)) (root j) w ∙ ap (λ t. scaled t w) (sym (root-plus (7 * i) j)) in
    let x : Omega = first_entry u in
    let y : Omega = first_entry w in
    let b : x ≡ times (root n) y = ap first_entry a ∙ first_entry-scaled (root n) w (root_not_nil n) in
    let f : y ≡ times (root m) x = sym (one-times y) ∙ ap (λ t. times t y) (sym (root_back n)) ∙ times_assoc (root m) (root n) y ∙ ap (times (root m)) (sym b) in
    let g : x ≡ y = none_greater x y
    (λ h. d.greatest n (let P : Omega → Type 0 = λ t. IsGreater t y in subst P b h))
    (λ h. c.greatest m (let P : Omega → Type 0 = λ t. IsGreater t x in subst P f h)) in
    let r : root n ≡ one = cancelled y (root n) one (window_not_nil y d.window) (times_comm y (root n) ∙ sym b ∙ g ∙ sym (times-one y)) in
    a ∙ ap (λ t. scaled t w) r ∙ scaled_one w

-- ---- ε: no power of it leads from a window to a window
pub windows_apart : (i j n : ℕ) (u w : List Omega) → InWindow (first_entry u) → InWindow (first_entry w) → scaled (root i) u ≡ scaled (times (root j) (power epsilon (suc n))) w → ⊥
windows_apart i j n u w c d e =
    let x : Omega = first_entry u in
    let y : Omega = first_entry w in
    let z : Omega = times (power epsilon (suc n)) y in
    let b : times (root i) x ≡ times (root j) z = sym (first_entry-scaled (root i) u (root_not_nil i)) ∙ ap first_entry e ∙ first_entry-scaled _ w (times_not_nil (root j) (power epsilon (suc n)) (root_not_nil j) (power_not_nil epsilon (suc n) epsilon_not_nil)) ∙ times_assoc (root j) (power epsilon (suc n)) y in
    let p : norm_a x ≡ norm_a z = sym (norm-root i x).0 ∙ ap norm_a b ∙ (norm-root j z).0 in
    let q : norm_b x ≡ norm_b z = sym (norm-root i x).1 ∙ ap norm_b b ∙ (norm-root j z).1 in
    let k = above-power n y d.above in
    let l = c.below in
    absurd (omega (arith, ints))

-- ε may be taken away on both sides
pub epsilon_off : (i j a b : ℕ) (u w : List Omega) → scaled (times (root i) (power epsilon (suc a))) u ≡ scaled (times (root j) (power epsilon (suc b))) w → scaled (times (root i) (power epsilon a)) u ≡ scaled (times (root j) (power epsilon b)) w
epsilon_off i j a b u w e =
    scaled_cancel epsilon _ _ epsilon_not_nil (scaled_scaled epsilon _ u ∙ ap (λ t. scaled t u) (times_front epsilon (root i) (power epsilon a)) ∙ e ∙ sym (ap (λ t. scaled t w) (times_front epsilon (root j) (power epsilon b))) ∙ sym (scaled_scaled epsilon _ w))

-- a power that is 1
no_epsilon : (i : ℕ) (u : List Omega) → scaled (times (root i) (power epsilon 0)) u ≡ scaled (root i) u
no_epsilon i u = ap (λ t. scaled t u) (times-one (root i))

units_same : (i j a b : ℕ) (u w : List Omega) → IsCore u → IsCore w → scaled (times (root i) (power epsilon a)) u ≡ scaled (times (root j) (power epsilon b)) w → u ≡ w
units_same i j zero zero u w c d e = turns_same i j u w c d (sym (no_epsilon i u) ∙ e ∙ no_epsilon j w)
units_same i j zero (suc b) u w c d e = absurd (windows_apart i j b u w c.window d.window (sym (no_epsilon i u) ∙ e))
units_same i j (suc a) zero u w c d e = absurd (windows_apart j i a w u d.window c.window (sym (no_epsilon j w) ∙ sym e))
units_same i j (suc a) (suc b) u w c d e = units_same i j a b u w c d (epsilon_off i j a b u w e)

-- ---- 1 − ω: it divides no core
-- an inverse of a power of ω times one of ε
back : ℕ → ℕ → Omega
back i a = times (root (7 * i)) (power epsilon_inverse a)

unit_back : (i a : ℕ) → times (back i a) (times (root i) (power epsilon a)) ≡ one
unfolding back
unit_back i a = times_cross (root (7 * i)) (power epsilon_inverse a) (root i) (power epsilon a) ∙ times_both _ _ _ _ (root_back i) (inverse_back a) ∙ times-one one

-- a unit's multiple of a core isn't one of a list that 1 − ω divides
odd_stays : (i j a b e : ℕ) (u w : List Omega) → IsCore u → scaled (times (times (root i) (power epsilon a)) one) u ≡ scaled (times (times (root j) (power epsilon b)) (power one_minus_omega (suc e))) w → ⊥
odd_stays i j a b e u w c h =
    let g : Omega = times (root i) (power epsilon a) in
    let f : Omega = times (root j) (power epsilon b) in
    let k : Omega = power one_minus_omega e in
    let s : u ≡ scaled (back i a) (scaled (times f (times one_minus_omega k)) w) = sym (scaled_one u) ∙ ap (λ t. scaled t u) (sym (unit_back i a)) ∙ sym (scaled_scaled (back i a) g u) ∙ ap (scaled (back i a)) (ap (λ t. scaled t u) (sym (times-one g)) ∙ h) in
    let t : scaled one_minus_omega (scaled (times f k) w) ≡ scaled (times f (times one_minus_omega k)) w = scaled_scaled one_minus_omega (times f k) w ∙ ap (λ t. scaled t w) (times_front one_minus_omega f k) in
    let m : DividesAll one_minus_omega (scaled (back i a) (scaled (times f (times one_minus_omega k)) w)) = divides_scaled one_minus_omega (back i a) _ (scaled (times f k) w, t) in
    c.odd (let P : List Omega → Type 0 = λ l. DividesAll one_minus_omega l in subst P (sym s) m)

-- 1 − ω may be taken away on both sides
one_minus_omega_off : (f g : Omega) (d e : ℕ) (u w : List Omega) → scaled (times f (power one_minus_omega (suc d))) u ≡ scaled (times g (power one_minus_omega (suc e))) w → scaled (times f (power one_minus_omega d)) u ≡ scaled (times g (power one_minus_omega e)) w
one_minus_omega_off f g d e u w h =
    scaled_cancel one_minus_omega _ _ one_minus_omega_not_nil (scaled_scaled one_minus_omega _ u ∙ ap (λ t. scaled t u) (times_front one_minus_omega f (power one_minus_omega d)) ∙ h ∙ sym (ap (λ t. scaled t w) (times_front one_minus_omega g (power one_minus_omega e))) ∙ sym (scaled_scaled one_minus_omega _ w))

odd_parts_same : (i j a b d e : ℕ) (u w : List Omega) → IsCore u → IsCore w → scaled (times (times (root i) (power epsilon a)) (power one_minus_omega d)) u ≡ scaled (times (times (root j) (power epsilon b)) (power one_minus_omega e)) w → u ≡ w
odd_parts_same i j a b zero zero u w c f h = units_same i j a b u w c f (sym (ap (λ t. scaled t u) (times-one _)) ∙ h ∙ ap (λ t. scaled t w) (times-one _))
odd_parts_same i j a b zero (suc e) u w c f h = absurd (odd_stays i j a b e u w c h)
odd_parts_same i j a b (suc d) zero u w c f h = absurd (odd_stays j i b a d w u f (sym h))
odd_parts_same i j a b (suc d) (suc e) u w c f h = odd_parts_same i j a b d e u w c f (one_minus_omega_off _ _ d e u w h)

-- the left side of a smooth number, with more powers of ε
smooth_side : (x : Omega) (s : Smooth x) (n : ℕ) → times (power epsilon (n + s.n)) x ≡ times (times (root s.j) (power epsilon (n + s.a))) (power one_minus_omega s.e)
smooth_side x s n =
    ap (λ t. times t x) (power-plus epsilon n s.n)
    ∙ times_assoc (power epsilon n) (power epsilon s.n) x
    ∙ ap (times (power epsilon n)) s.is
    ∙ sym (times_assoc (power epsilon n) (times (root s.j) (power epsilon s.a)) (power one_minus_omega s.e))
    ∙ ap (λ t. times t (power one_minus_omega s.e)) (times_front (power epsilon n) (root s.j) (power epsilon s.a) ∙ ap (times (root s.j)) (sym (power-plus epsilon n s.a)))

-- ---- the theorem: cores of which smooth multiples are equal are equal
pub cores_same : (x y : Omega) (u w : List Omega) → Smooth x → Smooth y → IsCore u → IsCore w → scaled x u ≡ scaled y w → u ≡ w
cores_same x y u w s t c d e =
    let z : t.n + s.n ≡ s.n + t.n = omega arith in
    odd_parts_same s.j t.j (t.n + s.a) (s.n + t.a) s.e t.e u w c d
    (ap (λ r. scaled r u) (sym (smooth_side x s t.n))
    ∙ sym (scaled_scaled (power epsilon (t.n + s.n)) x u)
    ∙ ap (λ n. scaled (power epsilon n) (scaled x u)) z
    ∙ ap (scaled (power epsilon (s.n + t.n))) e
    ∙ scaled_scaled (power epsilon (s.n + t.n)) y w
    ∙ ap (λ r. scaled r w) (smooth_side y t s.n))
