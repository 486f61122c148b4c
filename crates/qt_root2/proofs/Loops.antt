-- The steps of the loops that multiply by a power of ε², halve, and double.
use Rattle.std.proofs.Common.{◌≡◌, ℕ, zero, suc, ◌+◌, ◌-◌, ◌<◌, ◌≤◌, sym, ap, ◌∙◌, subst, arith, ℤ, pos, ◌+ℤ◌, ◌*ℤ◌, ◌≤ℤ◌}
use Rattle.std.proofs.lemmas.Int.{ints}
use Rattle.qt_root2.specs.Real.{lifted}
use Rattle.qt_root2.specs.Root2.{Root2, times_root2, power}
use Rattle.qt_root2.specs.Scaling.{unit, lifted_root2}
use Rattle.qt_root2.proofs.Reals.{lifted-lifted}
use Rattle.qt_root2.proofs.Ring.{times_assoc, times-one, lifted_root2_same, same_root2}

-- ---- powers of ε²

-- x·ε^(2n) is (x·ε²)·ε^(2(n - 1))
pub power_step : (x : Root2) (n : ℕ) → times_root2 x (power unit (suc n)) ≡ times_root2 (times_root2 x unit) (power unit n)
power_step x n = sym (times_assoc x unit (power unit n))

pub power_more : (x y z : Root2) (n i : ℕ) → i < n → y ≡ times_root2 x unit → times_root2 x (power unit (n - i)) ≡ z → times_root2 y (power unit (n - (i + 1))) ≡ z
power_more x y z n i l e h =
    let m = n - (i + 1) in
    let d : n - i ≡ suc m = omega arith in
    ap (λ u. times_root2 u (power unit m)) e ∙ sym (power_step x m) ∙ ap (λ k. times_root2 x (power unit k)) (sym d) ∙ h

pub power_start : (x : Root2) (n : ℕ) → times_root2 x (power unit (n - 0)) ≡ times_root2 x (power unit n)
power_start x n = let d : n - 0 ≡ n = omega arith in ap (λ k. times_root2 x (power unit k)) d

pub power_end : (x z : Root2) (n i : ℕ) → n ≤ i → times_root2 x (power unit (n - i)) ≡ z → x ≡ z
power_end x z n i l h =
    let d : n - i ≡ 0 = omega arith in
    sym (times-one x) ∙ ap (λ k. times_root2 x (power unit k)) (sym d) ∙ h

-- once a + 2b is at least 0, no step makes a smaller
pub power_rises : (n : ℕ) (x : Root2) → pos 0 ≤ℤ x.a → pos 0 ≤ℤ (x.a +ℤ pos 2 *ℤ x.b) → x.a ≤ℤ (times_root2 x (power unit n)).a
power_rises zero x h g = let P = λ (y : Root2). x.a ≤ℤ y.a in subst P (sym (times-one x)) (omega (arith, ints))
power_rises (suc n) x h g =
    let y = times_root2 x unit in
    let r : x.a ≤ℤ y.a = omega (arith, ints) in
    let s : pos 0 ≤ℤ (y.a +ℤ pos 2 *ℤ y.b) = omega (arith, ints) in
    let t = power_rises n y (omega (arith, ints)) s in
    let P = λ (z : Root2). x.a ≤ℤ z.a in
    subst P (sym (power_step x n)) (omega (arith, ints))

-- ---- halvings

pub halving_more : (h x z : Root2) (i : ℕ) → lifted_root2 h 1 ≡ x → lifted_root2 x i ≡ z → lifted_root2 h (i + 1) ≡ z
halving_more h x z i e f =
    sym (same_root2 _ _ (lifted-lifted h.a 1 i) (lifted-lifted h.b 1 i)) ∙ ap (λ u. lifted_root2 u i) e ∙ f

pub halving_stops : (x y z : Root2) (n i : ℕ) → i < n → ((u : Root2) → lifted_root2 u 1 ≡ x → ⊥) → lifted_root2 x i ≡ z → lifted_root2 y n ≡ z → ⊥
halving_stops x y z n i l odd f g =
    let m = n - (i + 1) in
    let d : n ≡ i + (1 + m) = omega arith in
    let u = lifted_root2 y m in
    let v = lifted_root2 y (1 + m) in
    let e : lifted_root2 u 1 ≡ v = same_root2 _ _ (lifted-lifted y.a m 1) (lifted-lifted y.b m 1) in
    let k : lifted_root2 v i ≡ lifted_root2 y n = same_root2 _ _ (lifted-lifted y.a (1 + m) i ∙ ap (lifted y.a) (sym d)) (lifted-lifted y.b (1 + m) i ∙ ap (lifted y.b) (sym d)) in
    odd u (e ∙ lifted_root2_same i v x (k ∙ g ∙ sym f))

-- ---- doublings

pub doubling_more : (d x z : Root2) (i : ℕ) → d ≡ lifted_root2 x 1 → x ≡ lifted_root2 z i → d ≡ lifted_root2 z (i + 1)
doubling_more d x z i e f =
    let s : 1 + i ≡ i + 1 = omega arith in
    e ∙ ap (λ u. lifted_root2 u 1) f ∙ same_root2 _ _ (lifted-lifted z.a i 1) (lifted-lifted z.b i 1) ∙ ap (lifted_root2 z) s

pub lifted_least : (a : ℤ) (n : ℕ) → pos 0 ≤ℤ a → a ≤ℤ lifted a n
lifted_least a zero h = omega (arith, ints)
lifted_least a (suc n) h = let s = lifted_least a n h in omega (arith, ints)

pub doubling_rises : (x z : Root2) (n i : ℕ) → i ≤ n → x ≡ lifted_root2 z i → pos 0 ≤ℤ x.a → x.a ≤ℤ lifted z.a n
doubling_rises x z n i l e h =
    let d : n - i + i ≡ n = omega arith in
    let P = λ (u : ℤ). x.a ≤ℤ u in
    subst P (ap (λ u. lifted u.a (n - i)) e ∙ lifted-lifted z.a i (n - i) ∙ ap (lifted z.a) d) (lifted_least x.a (n - i) h)
