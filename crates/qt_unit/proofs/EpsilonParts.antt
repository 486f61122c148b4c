-- The parts of powers of ε, in words of 64 bits: those of ε^(n+1) are a + 2b and a + b, those of ε^(−n−1) are 2b − a and a − b, of signs
-- in turn. In size both are the same, and grow with n.
use Rattle.std.proofs.Common.{◌≡◌, ℕ, zero, suc, ◌+◌, ◌-◌, ◌*◌, ◌<◌, ◌≤◌, refl, sym, ap, ◌∙◌, arith, ℤ, pos, ◌+ℤ◌, ◌-ℤ◌, ◌*ℤ◌, FitsSigned}
use Rattle.std.specs.Prelude.{◌⊎◌}
use Rattle.std.specs.Int.RustNames.{unsigned_abs}
use mathlib.Core.Logic.{inl, inr}
use mir.Val.{to_z, of_z}
use mir.Syntax.{w64}
use Rattle.std.proofs.lemmas.Int.{ints}
use Rattle.qt_ring.specs.Ring.{one, times, epsilon, epsilon_inverse}
use Rattle.qt_ring.proofs.RingLaws.{same}
use Rattle.qt_ring.proofs.Dividing.{times_epsilon_is, times_epsilon_inverse_is}
use Rattle.qt_canon_laws.specs.Powers.{power}
use Rattle.qt_unit.specs.Real.{real}

-- ---- the sizes, from a + b√2 on, n times
abbrev sizes_after : ℕ → ℕ → ℕ → ℕ × ℕ
sizes_after zero a b = (a, b)
sizes_after (suc n) a b = sizes_after n (a + 2 * b) (a + b)

greatest : sizes_after 49 1 0 ≡ (2850877693509864481, 2015874949414289041)
greatest = refl

grows : (n a b : ℕ) → (a ≤ (sizes_after n a b).0) × (b ≤ (sizes_after n a b).1)
grows zero a b = (omega arith, omega arith)
grows (suc n) a b =
    let h = grows n (a + 2 * b) (a + b) in
    let first = h.0 in
    let second = h.1 in
    (omega arith, omega arith)

-- a and b are the sizes after n steps of 49
pub record Sizes (n a b : ℕ) : Type 0 where
  pub few : n ≤ 49
  pub on : sizes_after (49 - n) a b ≡ sizes_after 49 1 0

bounded : (n a b : ℕ) → Sizes n a b → (a ≤ 2850877693509864481) × (b ≤ 2015874949414289041)
bounded n a b s =
    let h = grows (49 - n) a b in
    let e : (sizes_after (49 - n) a b).0 ≡ 2850877693509864481 = ap (λ (t : ℕ × ℕ). t.0) (s.on ∙ greatest) in
    let f : (sizes_after (49 - n) a b).1 ≡ 2015874949414289041 = ap (λ (t : ℕ × ℕ). t.1) (s.on ∙ greatest) in
    let first = h.0 in
    let second = h.1 in
    (omega arith, omega arith)

none : Sizes 0 1 0
none = record { few = omega arith; on = refl }

another : (n a b : ℕ) → n < 49 → Sizes n a b → Sizes (n + 1) (a + 2 * b) (a + b)
another n a b l s =
    let z : 49 - n ≡ suc (49 - (n + 1)) = omega arith in
    record { few = omega arith; on = ap (λ k. sizes_after k a b) (sym z) ∙ s.on }

real_same : (a b c d : ℤ) → a ≡ c → b ≡ d → real a b ≡ real c d
real_same a b c d e f = ap (λ z. real z b) e ∙ ap (real c) f

-- ---- upward
pub record Upward (n : ℕ) (a b : ℤ) : Type 0 where
  pub first : ℕ
  pub second : ℕ
  pub sizes : Sizes n first second
  pub a_is : a ≡ pos first
  pub b_is : b ≡ pos second
  pub value : real a b ≡ power epsilon n

one_real : real (pos 1) (pos 0) ≡ one
unfolding one
one_real = refl

pub up_begins : Upward 0 (pos 1) (pos 0)
up_begins = record { first = 1; second = 0; sizes = none; a_is = refl; b_is = refl; value = one_real }

pub up_sizes : (n : ℕ) (a b : ℤ) → Upward n a b → (unsigned_abs a ≤ 2850877693509864481) × (unsigned_abs b ≤ 2015874949414289041)
up_sizes n a b u =
    let h = bounded n u.first u.second u.sizes in
    let first = h.0 in
    let second = h.1 in
    let c = u.a_is in
    let d = u.b_is in
    (omega (arith, ints), omega (arith, ints))

times_up : (a b : ℤ) → times epsilon (real a b) ≡ real (a +ℤ pos 2 *ℤ b) (a +ℤ b)
times_up a b = times_epsilon_is (real a b) ∙ same _ _ (omega (arith, ints)) (omega (arith, ints)) (omega (arith, ints)) (omega (arith, ints))

pub up_on : (n : ℕ) (a b c d : ℤ) → n < 49 → c ≡ a +ℤ pos 2 *ℤ b → d ≡ a +ℤ b → Upward n a b → Upward (n + 1) c d
up_on n a b c d l e f u =
    let z : n + 1 ≡ suc n = omega arith in
    let g = u.a_is in
    let h = u.b_is in
    record {
      first = u.first + 2 * u.second;
      second = u.first + u.second;
      sizes = another n u.first u.second l u.sizes;
      a_is = omega (arith, ints);
      b_is = omega (arith, ints);
      value = real_same _ _ _ _ e f ∙ sym (times_up a b) ∙ ap (times epsilon) u.value ∙ ap (power epsilon) (sym z);
    }

-- ---- downward
abbrev Signed : ℕ → ℕ → ℤ → ℤ → Type 0
Signed m n a b = ((a ≡ pos m) × (b ≡ pos 0 -ℤ pos n)) ⊎ ((a ≡ pos 0 -ℤ pos m) × (b ≡ pos n))

pub record Downward (n : ℕ) (a b : ℤ) : Type 0 where
  pub first : ℕ
  pub second : ℕ
  pub sizes : Sizes n first second
  pub signs : Signed first second a b
  pub value : real a b ≡ power epsilon_inverse n

pub down_begins : Downward 0 (pos 1) (pos 0)
down_begins = record { first = 1; second = 0; sizes = none; signs = inl (refl, refl); value = one_real }

size_pos : (a : ℤ) (m : ℕ) → a ≡ pos m → unsigned_abs a ≡ m
size_pos a m e = ap unsigned_abs e

size_neg : (a : ℤ) (m : ℕ) → a ≡ pos 0 -ℤ pos m → unsigned_abs a ≡ m
size_neg a m e = omega (arith, ints)

signed_size : (m n : ℕ) (a b : ℤ) → Signed m n a b → (unsigned_abs a ≡ m) × (unsigned_abs b ≡ n)
signed_size m n a b (inl s) = (size_pos a m s.0, size_neg b n s.1)
signed_size m n a b (inr s) = (size_neg a m s.0, size_pos b n s.1)

signed_on : (m n : ℕ) (a b c d : ℤ) → c ≡ pos 2 *ℤ b -ℤ a → d ≡ a -ℤ b → Signed m n a b → Signed (m + 2 * n) (m + n) c d
signed_on m n a b c d e f (inl g) = let p = g.0 in let q = g.1 in inr (omega (arith, ints), omega (arith, ints))
signed_on m n a b c d e f (inr g) = let p = g.0 in let q = g.1 in inl (omega (arith, ints), omega (arith, ints))

pub down_sizes : (n : ℕ) (a b : ℤ) → Downward n a b → (unsigned_abs a ≤ 2850877693509864481) × (unsigned_abs b ≤ 2015874949414289041)
down_sizes n a b u =
    let h = bounded n u.first u.second u.sizes in
    let g = signed_size u.first u.second a b u.signs in
    let first = h.0 in
    let second = h.1 in
    let c = g.0 in
    let d = g.1 in
    (omega arith, omega arith)

times_down : (a b : ℤ) → times epsilon_inverse (real a b) ≡ real (pos 2 *ℤ b -ℤ a) (a -ℤ b)
times_down a b = times_epsilon_inverse_is (real a b) ∙ same _ _ (omega (arith, ints)) (omega (arith, ints)) (omega (arith, ints)) (omega (arith, ints))

pub down_on : (n : ℕ) (a b c d : ℤ) → n < 49 → c ≡ pos 2 *ℤ b -ℤ a → d ≡ a -ℤ b → Downward n a b → Downward (n + 1) c d
down_on n a b c d l e f u =
    let z : n + 1 ≡ suc n = omega arith in
    record {
      first = u.first + 2 * u.second;
      second = u.first + u.second;
      sizes = another n u.first u.second l u.sizes;
      signs = signed_on u.first u.second a b c d e f u.signs;
      value = real_same _ _ _ _ e f ∙ sym (times_down a b) ∙ ap (times epsilon_inverse) u.value ∙ ap (power epsilon_inverse) (sym z);
    }

-- ---- words
abbrev word : ℤ → ℤ
word z = to_z w64 (of_z w64 z)

next_up_word : (a b : ℤ) → unsigned_abs a ≤ 2850877693509864481 → unsigned_abs b ≤ 2015874949414289041 → word (a +ℤ word (pos 2 *ℤ b)) ≡ a +ℤ pos 2 *ℤ b
next_up_word a b h k = omega (arith, ints)

pub next_up : (n : ℕ) (a b : ℤ) → Upward n a b → word (a +ℤ word (pos 2 *ℤ b)) ≡ a +ℤ pos 2 *ℤ b
next_up n a b u = let h = up_sizes n a b u in next_up_word a b h.0 h.1

next_up_word_fits : (a b : ℤ) → unsigned_abs a ≤ 2850877693509864481 → unsigned_abs b ≤ 2015874949414289041 → FitsSigned w64 (a +ℤ word (pos 2 *ℤ b))
next_up_word_fits a b h k = omega (arith, ints)

pub next_up_fits : (n : ℕ) (a b : ℤ) → Upward n a b → FitsSigned w64 (a +ℤ word (pos 2 *ℤ b))
next_up_fits n a b u = let h = up_sizes n a b u in next_up_word_fits a b h.0 h.1

next_down_word : (a b : ℤ) → unsigned_abs a ≤ 2850877693509864481 → unsigned_abs b ≤ 2015874949414289041 → word (word (pos 2 *ℤ b) -ℤ a) ≡ pos 2 *ℤ b -ℤ a
next_down_word a b h k = omega (arith, ints)

pub next_down : (n : ℕ) (a b : ℤ) → Downward n a b → word (word (pos 2 *ℤ b) -ℤ a) ≡ pos 2 *ℤ b -ℤ a
next_down n a b u = let h = down_sizes n a b u in next_down_word a b h.0 h.1

next_down_word_fits : (a b : ℤ) → unsigned_abs a ≤ 2850877693509864481 → unsigned_abs b ≤ 2015874949414289041 → FitsSigned w64 (word (pos 2 *ℤ b) -ℤ a)
next_down_word_fits a b h k = omega (arith, ints)

pub next_down_fits : (n : ℕ) (a b : ℤ) → Downward n a b → FitsSigned w64 (word (pos 2 *ℤ b) -ℤ a)
next_down_fits n a b u = let h = down_sizes n a b u in next_down_word_fits a b h.0 h.1

sum_word : (a b : ℤ) → unsigned_abs a ≤ 2850877693509864481 → unsigned_abs b ≤ 2015874949414289041 → word (a +ℤ b) ≡ a +ℤ b
sum_word a b h k = omega (arith, ints)

pub sum_up : (n : ℕ) (a b : ℤ) → Upward n a b → word (a +ℤ b) ≡ a +ℤ b
sum_up n a b u = let h = up_sizes n a b u in sum_word a b h.0 h.1

difference_word : (a b : ℤ) → unsigned_abs a ≤ 2850877693509864481 → unsigned_abs b ≤ 2015874949414289041 → word (a -ℤ b) ≡ a -ℤ b
difference_word a b h k = omega (arith, ints)

pub difference_down : (n : ℕ) (a b : ℤ) → Downward n a b → word (a -ℤ b) ≡ a -ℤ b
difference_down n a b u = let h = down_sizes n a b u in difference_word a b h.0 h.1
