-- How large the entries of a plain state are, and the sums of |entry|² over its beginnings.
use Rattle.std.proofs.Common.{◌≡◌, ℕ, zero, suc, ◌^◌, ◌<◌, ◌≤◌, List, [], ◌∷◌, length, take, get_or, sym, ap, ◌∙◌, subst, arith, ℤ, pos, ◌+ℤ◌, ◌≤ℤ◌, to_z, of_z}
use Rattle.std.specs.Prelude.{unsigned_abs, FitsSigned}
use mir.Syntax.{w128}
use Rattle.std.proofs.lemmas.Int.{ints}
use Rattle.qt_ring.specs.declared.omega.Omega.{Omega}
use Rattle.qt_ring.specs.Ring.{nil, norm_a, norm_b, Within}
use Rattle.qt_ring.specs.State.{total_a, total_b}
use Rattle.qt_ring.proofs.RingLaws.{within_more}
use Rattle.qt_ring.proofs.Norms.{total_entry, within_norm, norm_a-nonneg, norm_good, total_a-nonneg, total_good}
use Rattle.qt_root2.specs.Root2.{IsGood}
use Rattle.qt_root2.proofs.Good.{narrow}

pub entry_within : (es : List Omega) (i : ℕ) → i < length es → total_a es ≤ℤ pos (4 ^ 32) → Within (2 ^ 32) (get_or es i nil)
entry_within es i h t = within_norm (get_or es i nil) (2 ^ 32) (let e : norm_a (get_or es i nil) ≤ℤ total_a es = total_entry es i h in omega (arith, ints))

pub entry_in : (es : List Omega) (i : ℕ) → i < length es → total_a es ≤ℤ pos (4 ^ 32) → Within (2 ^ 54) (get_or es i nil)
entry_in es i h t = within_more (2 ^ 32) (2 ^ 54) (get_or es i nil) (omega arith) (entry_within es i h t)

-- ---- the two parts of a norm

first_size : (a : ℤ) (m : ℕ) → pos 0 ≤ℤ a → a ≤ℤ pos m → unsigned_abs a ≤ m
first_size a m h k = omega (arith, ints)

second_size : (a b : ℤ) (m : ℕ) → IsGood a b → a ≤ℤ pos m → unsigned_abs b ≤ m
second_size a b m g k = let n = narrow a b g in omega (arith, ints, n.above, n.below, n.least)

pub norm_size : (es : List Omega) (i m : ℕ) → i < length es → total_a es ≤ℤ pos m → (unsigned_abs (norm_a (get_or es i nil)) ≤ m) × (unsigned_abs (norm_b (get_or es i nil)) ≤ m)
norm_size es i m h t =
    let e = get_or es i nil in
    let l : norm_a e ≤ℤ total_a es = total_entry es i h in
    let k : norm_a e ≤ℤ pos m = omega (arith, ints) in
    (first_size (norm_a e) m (norm_a-nonneg e) k, second_size (norm_a e) (norm_b e) m (norm_a-nonneg e, norm_good e) k)

total_take : (es : List Omega) (k : ℕ) → total_a (take k es) ≤ℤ total_a es
total_take [] zero = omega (arith, ints)
total_take [] (suc k) = omega (arith, ints)
total_take (e ∷ es) zero = total_a-nonneg (e ∷ es)
total_take (e ∷ es) (suc k) = let t : total_a (take k es) ≤ℤ total_a es = total_take es k in omega (arith, ints)

pub total_size : (es : List Omega) (k m : ℕ) → total_a es ≤ℤ pos m → (unsigned_abs (total_a (take k es)) ≤ m) × (unsigned_abs (total_b (take k es)) ≤ m)
total_size es k m t =
    let b = take k es in
    let l : total_a b ≤ℤ total_a es = total_take es k in
    let n : total_a b ≤ℤ pos m = omega (arith, ints) in
    (first_size (total_a b) m (total_a-nonneg b) n, second_size (total_a b) (total_b b) m (total_a-nonneg b, total_good b) n)

total_is_good : (es : List Omega) → IsGood (total_a es) (total_b es)
total_is_good es = (total_a-nonneg es, total_good es)

pub total_good_at : (es : List Omega) (a b : ℤ) → a ≡ total_a es → b ≡ total_b es → IsGood a b
total_good_at es a b e f = subst (λ (z : ℤ). IsGood z b) (sym e) (subst (IsGood (total_a es)) (sym f) (total_is_good es))

-- ---- sums within 128 bits

wide : (z : ℤ) → unsigned_abs z ≤ 2 ^ 64 → to_z w128 (of_z w128 z) ≡ z
wide z h = omega (arith, ints)

fits : (z : ℤ) → unsigned_abs z ≤ 2 ^ 64 → FitsSigned w128 z
fits z h = omega (arith, ints)

sum_as : (f p s n t : ℤ) → f ≡ s → p ≡ n → t ≡ s +ℤ n → unsigned_abs n ≤ 2 ^ 64 → f +ℤ to_z w128 (of_z w128 p) ≡ t
sum_as f p s n t e g u h = ap (λ z. z +ℤ to_z w128 (of_z w128 p)) e ∙ ap (λ z. s +ℤ to_z w128 (of_z w128 z)) g ∙ ap (λ z. s +ℤ z) (wide n h) ∙ sym u

pub sum_fits : (f p s n t : ℤ) → f ≡ s → p ≡ n → t ≡ s +ℤ n → unsigned_abs n ≤ 2 ^ 64 → unsigned_abs t ≤ 2 ^ 64 → FitsSigned w128 (f +ℤ to_z w128 (of_z w128 p))
sum_fits f p s n t e g u h k = subst (FitsSigned w128) (sym (sum_as f p s n t e g u h)) (fits t k)

pub sum_is : (f p s n t : ℤ) → f ≡ s → p ≡ n → t ≡ s +ℤ n → unsigned_abs n ≤ 2 ^ 64 → unsigned_abs t ≤ 2 ^ 64 → to_z w128 (of_z w128 (f +ℤ to_z w128 (of_z w128 p))) ≡ t
sum_is f p s n t e g u h k = ap (λ z. to_z w128 (of_z w128 z)) (sum_as f p s n t e g u h) ∙ wide t k
