-- Words of 128 bits in the two searches: each step fits, and computes what it says.
use Rattle.std.proofs.Common.{◌≡◌, ℕ, ◌+◌, ◌^◌, ◌<◌, ◌≤◌, true, false, sym, ap, subst, ◌∙◌, arith, ℤ, pos, ◌-ℤ◌, ◌*ℤ◌, ◌≤ℤ◌, ◌<ℤ◌, FitsSigned}
use Rattle.std.specs.Prelude.{◌↔◌, IsTrue}
use Rattle.std.specs.Int.RustNames.{unsigned_abs}
use lib.Signed.{lt_z, le_z}
use mir.Val.{to_z, of_z}
use mir.Syntax.{w128}
use Rattle.std.proofs.lemmas.Int.{ints}
use Rattle.qt_ring.specs.declared.omega.Omega.{Omega}
use Rattle.qt_ring.specs.Ring.{nil, times, epsilon, epsilon_inverse, norm_a, norm_b}
use Rattle.qt_canon_laws.specs.Powers.{power}
use Rattle.qt_canon_laws.specs.FirstEntry.{InWindow}
use Rattle.qt_unit.proofs.Falls.{Falling, falling_begins, falling_on, falling_ends, falling_sizes, falling_smaller, falling_whole}
use Rattle.qt_unit.proofs.Rises.{Rising, rising_begins, rising_on, rising_ends, rising_sizes}

abbrev pub word : ℤ → ℤ
word z = to_z w128 (of_z w128 z)

pub word_is : (z : ℤ) → unsigned_abs z ≤ 2 ^ 120 → word z ≡ z
word_is z h = omega (arith, ints)

small_fits : (z : ℤ) → unsigned_abs z ≤ 2 ^ 120 → FitsSigned w128 z
small_fits z h = omega (arith, ints)

-- ---- one step, as it is computed
abbrev next_whole : ℤ → ℤ → ℤ
next_whole a b = word (pos 3 *ℤ a) -ℤ word (pos 4 *ℤ b)

abbrev next_root : ℤ → ℤ → ℤ
next_root a b = word (pos 3 *ℤ b) -ℤ word (pos 2 *ℤ a)

next_whole_is : (a b : ℤ) → unsigned_abs a ≤ 2 ^ 112 → unsigned_abs b ≤ 2 ^ 112 → next_whole a b ≡ pos 3 *ℤ a -ℤ pos 4 *ℤ b
next_whole_is a b h k = ap (λ t. t -ℤ word (pos 4 *ℤ b)) (word_is (pos 3 *ℤ a) (omega (arith, ints))) ∙ ap (λ t. pos 3 *ℤ a -ℤ t) (word_is (pos 4 *ℤ b) (omega (arith, ints)))

next_root_is : (a b : ℤ) → unsigned_abs a ≤ 2 ^ 112 → unsigned_abs b ≤ 2 ^ 112 → next_root a b ≡ pos 3 *ℤ b -ℤ pos 2 *ℤ a
next_root_is a b h k = ap (λ t. t -ℤ word (pos 2 *ℤ a)) (word_is (pos 3 *ℤ b) (omega (arith, ints))) ∙ ap (λ t. pos 3 *ℤ b -ℤ t) (word_is (pos 2 *ℤ a) (omega (arith, ints)))

whole_size : (a b : ℤ) → unsigned_abs a ≤ 2 ^ 112 → unsigned_abs b ≤ 2 ^ 112 → unsigned_abs (pos 3 *ℤ a -ℤ pos 4 *ℤ b) ≤ 2 ^ 120
whole_size a b h k = omega (arith, ints)

root_size : (a b : ℤ) → unsigned_abs a ≤ 2 ^ 112 → unsigned_abs b ≤ 2 ^ 112 → unsigned_abs (pos 3 *ℤ b -ℤ pos 2 *ℤ a) ≤ 2 ^ 120
root_size a b h k = omega (arith, ints)

whole_fits : (a b : ℤ) → (unsigned_abs a ≤ 2 ^ 112) × (unsigned_abs b ≤ 2 ^ 112) → FitsSigned w128 (next_whole a b)
whole_fits a b s = subst (FitsSigned w128) (sym (next_whole_is a b s.0 s.1)) (small_fits _ (whole_size a b s.0 s.1))

root_fits : (a b : ℤ) → (unsigned_abs a ≤ 2 ^ 112) × (unsigned_abs b ≤ 2 ^ 112) → FitsSigned w128 (next_root a b)
root_fits a b s = subst (FitsSigned w128) (sym (next_root_is a b s.0 s.1)) (small_fits _ (root_size a b s.0 s.1))

whole_word : (a b : ℤ) → (unsigned_abs a ≤ 2 ^ 112) × (unsigned_abs b ≤ 2 ^ 112) → word (next_whole a b) ≡ pos 3 *ℤ a -ℤ pos 4 *ℤ b
whole_word a b s = ap word (next_whole_is a b s.0 s.1) ∙ word_is _ (whole_size a b s.0 s.1)

root_word : (a b : ℤ) → (unsigned_abs a ≤ 2 ^ 112) × (unsigned_abs b ≤ 2 ^ 112) → word (next_root a b) ≡ pos 3 *ℤ b -ℤ pos 2 *ℤ a
root_word a b s = ap word (next_root_is a b s.0 s.1) ∙ word_is _ (root_size a b s.0 s.1)

twice_word : (b : ℤ) → unsigned_abs b ≤ 2 ^ 112 → word (pos 2 *ℤ b) ≡ pos 2 *ℤ b
twice_word b h = word_is (pos 2 *ℤ b) (omega (arith, ints))

-- ---- downward
less_than : (a b : ℤ) → lt_z a b ≡ true → a <ℤ b
less_than a b h = grind (arith, ints)

not_less_than : (a b : ℤ) → lt_z a b ≡ false → a <ℤ b → ⊥
not_less_than a b h k = grind (arith, ints)

above : (x : Omega) (n : ℕ) (a b : ℤ) → Falling x n a b → lt_z a (word (pos 2 *ℤ b)) ≡ true → a <ℤ (pos 2 *ℤ b)
above x n a b r t = less_than a _ (ap (lt_z a) (sym (twice_word b (falling_sizes x n a b r).1)) ∙ t)

pub falling_whole_fits : (x : Omega) (n : ℕ) (a b : ℤ) → Falling x n a b → FitsSigned w128 (next_whole a b)
falling_whole_fits x n a b r = whole_fits a b (falling_sizes x n a b r)

pub falling_root_fits : (x : Omega) (n : ℕ) (a b : ℤ) → Falling x n a b → FitsSigned w128 (next_root a b)
falling_root_fits x n a b r = root_fits a b (falling_sizes x n a b r)

pub falls_first : (x : Omega) (a b : ℤ) → a ≡ norm_a x → unsigned_abs a ≤ 2 ^ 112 → b ≡ norm_b x → unsigned_abs b ≤ 2 ^ 112 → (pos 0 -ℤ norm_a x) <ℤ (pos 2 *ℤ norm_b x) → Falling x 0 (word a) (word b)
falls_first x a b e h f k l =
    let c : word a ≡ a = word_is a (omega arith) in
    let d : word b ≡ b = word_is b (omega arith) in
    falling_begins x (word a) (word b) (c ∙ e) (d ∙ f) (subst (λ (z : ℤ). unsigned_abs z ≤ 2 ^ 112) (sym c) h) l

pub fallen : (x : Omega) (n : ℕ) (a b : ℤ) → Falling x n a b → lt_z a (word (pos 2 *ℤ b)) ≡ false → InWindow (times (power epsilon_inverse n) x)
fallen x n a b r t = falling_ends x n a b (not_less_than a _ (ap (lt_z a) (sym (twice_word b (falling_sizes x n a b r).1)) ∙ t)) r

pub falls : (x : Omega) (n : ℕ) (a b : ℤ) → (x ≡ nil → ⊥) → Falling x n a b → lt_z a (word (pos 2 *ℤ b)) ≡ true → Falling x (n + 1) (word (next_whole a b)) (word (next_root a b))
falls x n a b h r t =
    let s = falling_sizes x n a b r in
    falling_on x n a b _ _ h (above x n a b r t) (whole_word a b s) (root_word a b s) r

pub smaller : (x : Omega) (n : ℕ) (a b : ℤ) → (x ≡ nil → ⊥) → Falling x n a b → lt_z a (word (pos 2 *ℤ b)) ≡ true → unsigned_abs (word (next_whole a b)) < unsigned_abs a
smaller x n a b h r t =
    let s = falling_sizes x n a b r in
    falling_smaller x n a b _ (above x n a b r t) (whole_word a b s) (falling_whole x (n + 1) _ _ (falls x n a b h r t)) r

-- ---- with the sign turned
opposite_is : (b : ℤ) → unsigned_abs b ≤ 2 ^ 112 → word (pos 0 -ℤ b) ≡ pos 0 -ℤ b
opposite_is b h = word_is (pos 0 -ℤ b) (omega (arith, ints))

opposite_word_is : (a : ℤ) → unsigned_abs a ≤ 2 ^ 112 → word (pos 0 -ℤ word a) ≡ pos 0 -ℤ a
opposite_word_is a h = ap (λ (z : ℤ). word (pos 0 -ℤ z)) (word_is a (omega arith)) ∙ opposite_is a h

pub opposite_fits : (b : ℤ) → unsigned_abs b ≤ 2 ^ 112 → FitsSigned w128 (pos 0 -ℤ word b)
opposite_fits b h = subst (λ (z : ℤ). FitsSigned w128 (pos 0 -ℤ z)) (sym (word_is b (omega arith))) (small_fits (pos 0 -ℤ b) (omega (arith, ints)))

-- ---- upward
at_most : (a b : ℤ) → le_z a b ≡ true → a ≤ℤ b
at_most a b h = grind (arith, ints)

not_at_most : (a b : ℤ) → le_z a b ≡ false → a ≤ℤ b → ⊥
not_at_most a b h k = grind (arith, ints)

below : (x : Omega) (n : ℕ) (a b : ℤ) → Rising x n a b → le_z a (word (pos 2 *ℤ b)) ≡ true → a ≤ℤ (pos 2 *ℤ b)
below x n a b r t = at_most a _ (ap (le_z a) (sym (twice_word b (rising_sizes x n a b r).1)) ∙ t)

pub rising_whole_fits : (x : Omega) (n : ℕ) (a b : ℤ) → Rising x n a b → FitsSigned w128 (next_whole a b)
rising_whole_fits x n a b r = whole_fits a b (rising_sizes x n a b r)

pub rising_root_fits : (x : Omega) (n : ℕ) (a b : ℤ) → Rising x n a b → FitsSigned w128 (next_root a b)
rising_root_fits x n a b r = root_fits a b (rising_sizes x n a b r)

pub rises_first : (x : Omega) (a b : ℤ) → a ≡ norm_a x → unsigned_abs a ≤ 2 ^ 112 → b ≡ norm_b x → unsigned_abs b ≤ 2 ^ 112 → (pos 2 *ℤ norm_b x) ≤ℤ norm_a x → Rising x 0 (word a) (word (pos 0 -ℤ word b))
rises_first x a b e h f k l =
    let c : word a ≡ a = word_is a (omega arith) in
    rising_begins x (word a) (word (pos 0 -ℤ word b)) (c ∙ e) (opposite_word_is b k ∙ ap (λ (z : ℤ). pos 0 -ℤ z) f) (subst (λ (z : ℤ). unsigned_abs z ≤ 2 ^ 112) (sym c) h) l

pub risen : (x : Omega) (n : ℕ) (a b : ℤ) → Rising x n a b → le_z a (word (pos 2 *ℤ b)) ≡ false → InWindow (times (power epsilon n) x)
risen x n a b r t = rising_ends x n a b (not_at_most a _ (ap (le_z a) (sym (twice_word b (rising_sizes x n a b r).1)) ∙ t)) r

pub rises : (x : Omega) (n : ℕ) (a b : ℤ) → (x ≡ nil → ⊥) → Rising x n a b → le_z a (word (pos 2 *ℤ b)) ≡ true → Rising x (n + 1) (word (next_whole a b)) (word (next_root a b))
rises x n a b h r t =
    let s = rising_sizes x n a b r in
    rising_on x n a b _ _ h (below x n a b r t) (whole_word a b s) (root_word a b s) r

-- ---- whether a number is below the window
at_most_is : (a b : ℤ) → a ≤ℤ b → le_z a b ≡ true
at_most_is a b h = grind (arith, ints)

twice_word_is : (b : ℤ) → unsigned_abs b ≤ 2 ^ 112 → word (pos 2 *ℤ word b) ≡ pos 2 *ℤ b
twice_word_is b h = ap (λ (z : ℤ). word (pos 2 *ℤ z)) (word_is b (omega arith)) ∙ twice_word b h

pub below_test : (a b p q : ℤ) → unsigned_abs a ≤ 2 ^ 112 → unsigned_abs b ≤ 2 ^ 112 → a ≡ p → b ≡ q → (IsTrue (le_z (word (pos 2 *ℤ word b)) (word (pos 0 -ℤ word a))) ↔ ((pos 2 *ℤ q) ≤ℤ (pos 0 -ℤ p)))
below_test a b p q h k e f =
    let c : le_z (word (pos 2 *ℤ word b)) (word (pos 0 -ℤ word a)) ≡ le_z (pos 2 *ℤ q) (pos 0 -ℤ p) =
    ap (λ (z : ℤ). le_z z (word (pos 0 -ℤ word a))) (twice_word_is b k ∙ ap (λ (z : ℤ). pos 2 *ℤ z) f) ∙ ap (le_z (pos 2 *ℤ q)) (opposite_word_is a h ∙ ap (λ (z : ℤ). pos 0 -ℤ z) e) in
    ((λ t. at_most (pos 2 *ℤ q) (pos 0 -ℤ p) (sym c ∙ t)), (λ l. c ∙ at_most_is (pos 2 *ℤ q) (pos 0 -ℤ p) l))

pub twice_fits : (b : ℤ) → unsigned_abs b ≤ 2 ^ 112 → FitsSigned w128 (pos 2 *ℤ word b)
twice_fits b h = subst (λ (z : ℤ). FitsSigned w128 (pos 2 *ℤ z)) (sym (word_is b (omega arith))) (small_fits (pos 2 *ℤ b) (omega (arith, ints)))
