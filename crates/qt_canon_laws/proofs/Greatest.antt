-- The greatest of the eight powers of ω times a number.
use Rattle.std.proofs.Common.{◌≡◌, ℕ, zero, suc, ◌+◌, ◌-◌, ◌%◌, ◌<◌, ◌≤◌, sym, ap, subst, ◌∙◌, arith, refl}
use Rattle.std.specs.Prelude.{◌⊎◌}
use mathlib.Core.Logic.{inl, inr}
use Rattle.qt_ring.specs.declared.omega.Omega.{Omega}
use Rattle.qt_ring.specs.Ring.{one, times, root}
use Rattle.qt_ring.proofs.RingLaws.{times_assoc, one-times, root-plus, root_mod, root_eight}
use Rattle.qt_canon_laws.specs.FirstEntry.{IsGreater}
use Rattle.qt_canon_laws.proofs.Order.{nat_three_ways, not_greater, greater_trans, greater_or_not}

split : (k j : ℕ) → k < j + 1 → (k < j) ⊎ (k ≡ j)
split k j h = elim (nat_three_ways k j) [ inl l ↦ inl l | inr r ↦ elim r [ inl e ↦ inr e | inr l ↦ absurd (omega arith) ] ]

-- the best of the first j powers
pub record Best (x : Omega) (j turns : ℕ) (best : Omega) : Type 0 where
  pub below : turns < j
  pub few : j ≤ 8
  pub value : best ≡ times (root turns) x
  pub greatest : (k : ℕ) → k < j → IsGreater (times (root k) x) best → ⊥

pub best_begins : (x : Omega) → Best x 1 0 x
best_begins x = record {
  below = omega arith;
  few = omega arith;
  value = sym (one-times x);
  greatest = λ k l g. let z : k ≡ 0 = omega arith in not_greater x (let P : Omega → Type 0 = λ y. IsGreater y x in subst P (ap (λ n. times (root n) x) z ∙ one-times x) g);
}

pub best_better : (x : Omega) (j turns : ℕ) (best next : Omega) → j < 8 → next ≡ times (root j) x → IsGreater next best → Best x j turns best → Best x (j + 1) j next
best_better x j turns best next l e g b = record {
  below = omega arith;
  few = omega arith;
  value = e;
  greatest = λ k h f. elim (split k j h) [
    | inl i ↦ b.greatest k i (greater_trans (times (root k) x) next best f g)
    | inr i ↦ not_greater next (let P : Omega → Type 0 = λ y. IsGreater y next in subst P (ap (λ n. times (root n) x) i ∙ sym e) f)
  ];
}

pub best_stays : (x : Omega) (j turns : ℕ) (best next : Omega) → j < 8 → next ≡ times (root j) x → (IsGreater next best → ⊥) → Best x j turns best → Best x (j + 1) turns best
best_stays x j turns best next l e g b = record {
  below = let h = b.below in omega arith;
  few = omega arith;
  value = b.value;
  greatest = λ k h f. elim (split k j h) [
    | inl i ↦ b.greatest k i f
    | inr i ↦ g (let P : Omega → Type 0 = λ y. IsGreater y best in subst P (ap (λ n. times (root n) x) i ∙ sym e) f)
  ];
}

pub best_ends : (x : Omega) (j turns : ℕ) (best : Omega) → j ≡ 8 → Best x j turns best → (k : ℕ) → IsGreater (times (root k) x) (times (root turns) x) → ⊥
best_ends x j turns best e b k g =
    let P : Omega → Type 0 = λ y. IsGreater y (times (root turns) x) in
    let Q : Omega → Type 0 = λ y. IsGreater (times (root (k % 8)) x) y in
    b.greatest (k % 8) (omega arith) (subst Q (sym b.value) (subst P (ap (λ r. times r x) (sym (root_mod k))) g))

pub best_same : (x : Omega) (j s t : ℕ) (a b : Omega) → t ≡ s → b ≡ a → Best x j s a → Best x j t b
best_same x j s t a b e f r = subst (λ (n : ℕ). Best x j n b) (sym e) (subst (Best x j s) (sym f) r)

-- ---- there is one
next_best : (x : Omega) (j : ℕ) → j < 8 → (t : ℕ) (y : Omega) → Best x j t y → IsGreater (times (root j) x) y ⊎ (IsGreater (times (root j) x) y → ⊥) → (t : ℕ) × ((y : Omega) × Best x (j + 1) t y)
next_best x j l t y b (inl g) = (j, (times (root j) x, best_better x j t y (times (root j) x) l refl g b))
next_best x j l t y b (inr n) = (t, (y, best_stays x j t y (times (root j) x) l refl n b))

best_of : (x : Omega) (j : ℕ) → j < 8 → (t : ℕ) × ((y : Omega) × Best x (j + 1) t y)
best_of x zero l = (0, (x, subst (λ (n : ℕ). Best x n 0 x) (let z : 1 ≡ 0 + 1 = omega arith in z) (best_begins x)))
best_of x (suc j) l =
    let r = best_of x j (omega arith) in
    let z : j + 1 ≡ suc j = omega arith in
    next_best x (suc j) l r.0 r.1.0 (subst (λ (n : ℕ). Best x n r.0 r.1.0) z r.1.1) (greater_or_not (times (root (suc j)) x) r.1.0)

-- a power of ω after which none makes the number greater
pub greatest_turn : (x : Omega) → (t : ℕ) × ((t < 8) × ((k : ℕ) → IsGreater (times (root k) x) (times (root t) x) → ⊥))
greatest_turn x =
    let r = best_of x 7 (omega arith) in
    let z : 7 + 1 ≡ 8 = omega arith in
    (r.0, (let l = r.1.1.below in omega arith, best_ends x (7 + 1) r.0 r.1.0 z r.1.1))

-- what undoes a power of ω
pub turn_back : (s : ℕ) → s < 8 → times (root ((8 - s) % 8)) (root s) ≡ one
turn_back s h =
    let z : 8 - s + s ≡ 8 = omega arith in
    ap (λ y. times y (root s)) (root_mod (8 - s)) ∙ sym (root-plus (8 - s) s) ∙ ap root z ∙ root_eight

-- where no power makes ω^g·x greater, none makes a number greater that is ω^g·x
pub turned_greatest : (g : ℕ) (x y : Omega) → y ≡ times (root g) x → ((k : ℕ) → IsGreater (times (root k) x) (times (root g) x) → ⊥) → (k : ℕ) → IsGreater (times (root k) y) y → ⊥
turned_greatest g x y e h k f =
    let more : times (root k) y ≡ times (root (k + g)) x = ap (times (root k)) e ∙ sym (times_assoc (root k) (root g) x) ∙ ap (λ t. times t x) (sym (root-plus k g)) in
    h (k + g) (subst (λ (z : Omega). IsGreater (times (root (k + g)) x) z) e (subst (λ (z : Omega). IsGreater z y) more f))
