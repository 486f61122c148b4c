-- What the code's sums, products and halves of 128 bits come to, where the exact result fits.
use Rattle.std.proofs.Common.{◌≡◌, true, false, ℕ, zero, suc, ◌+◌, ◌*◌, ◌/◌, ◌%◌, ◌^◌, ◌<◌, sym, ap, ◌∙◌, arith, ℤ, pos, negsuc, ◌+ℤ◌, ◌-ℤ◌, ◌*ℤ◌, ◌≤ℤ◌, ◌<ℤ◌, to_z, of_z, FitsSigned}
use lib.IntN.{neg_ℤ}
use lib.Signed.{quot_z, rem_z, le_z, lt_z}
use mir.Syntax.{w32, w128}
use Rattle.std.proofs.lemmas.Int.{ints, to_z-of_z}
use Rattle.std.specs.Prelude.{unsigned_abs}
use Rattle.qt_root2.proofs.Good.{IsWithin}

-- a number as its 128 bits give it back
abbrev pub word : ℤ → ℤ
word z = to_z w128 (of_z w128 z)

pub word-fits : (z : ℤ) → FitsSigned w128 z → word z ≡ z
word-fits z f = to_z-of_z w128 z f

pub word-plus : (x y : ℤ) → FitsSigned w128 x → FitsSigned w128 y → FitsSigned w128 (x +ℤ y) → word (word x +ℤ word y) ≡ x +ℤ y
word-plus x y f g h = ap (λ u. word (u +ℤ word y)) (word-fits x f) ∙ ap (λ v. word (x +ℤ v)) (word-fits y g) ∙ word-fits (x +ℤ y) h

-- ---- halves

half_even : (z : ℤ) → of_z w128 (rem_z z (pos 2)) ≡ 0 → quot_z z (pos 2) +ℤ quot_z z (pos 2) ≡ z
half_even (pos n) h = omega (arith, ints, h)
half_even (negsuc n) h = by_rest (suc n % 2) (suc n / 2) (omega arith) (omega arith) h
  where
    by_rest : (r q : ℕ) → r < 2 → suc n ≡ 2 * q + r → of_z w128 (neg_ℤ (pos r)) ≡ 0 → neg_ℤ (pos q) +ℤ neg_ℤ (pos q) ≡ negsuc n
    by_rest zero q l e h = omega (arith, ints, e)
    by_rest (suc r) q l e h = absurd (omega (arith, l, h))

half_fits : (z : ℤ) → FitsSigned w128 z → FitsSigned w128 (quot_z z (pos 2))
half_fits (pos n) f = omega (arith, ints, f)
half_fits (negsuc n) f = omega (arith, ints, f)

pub word-half : (z : ℤ) → FitsSigned w128 z → of_z w128 (rem_z (word z) (pos 2)) ≡ 0 → word (quot_z (word z) (pos 2)) +ℤ word (quot_z (word z) (pos 2)) ≡ z
word-half z f h =
    let e = word-fits z f in
    let k : of_z w128 (rem_z z (pos 2)) ≡ 0 = ap (λ u. of_z w128 (rem_z u (pos 2))) (sym e) ∙ h in
    ap (λ u. word (quot_z u (pos 2)) +ℤ word (quot_z u (pos 2))) e ∙ ap (λ u. u +ℤ u) (word-fits (quot_z z (pos 2)) (half_fits z f)) ∙ half_even z k

-- ---- products of good numbers

-- each step of a product fits
pub record ProductFits (a b c d : ℤ) : Type 0 where
  pub first : FitsSigned w128 (a *ℤ c)
  pub cross : FitsSigned w128 (b *ℤ d)
  pub twice : FitsSigned w128 (pos 2 *ℤ (b *ℤ d))
  pub whole : FitsSigned w128 (a *ℤ c +ℤ pos 2 *ℤ (b *ℤ d))
  pub left : FitsSigned w128 (a *ℤ d)
  pub right : FitsSigned w128 (b *ℤ c)
  pub root : FitsSigned w128 (a *ℤ d +ℤ b *ℤ c)

pub product_fits : (a b c d : ℤ) → IsWithin a b c d → (a *ℤ c) ≤ℤ pos (2 ^ 125) → ProductFits a b c d
product_fits a b c d w h = record {
  first = omega (arith, ints);
  cross = omega (arith, ints);
  twice = omega (arith, ints);
  whole = omega (arith, ints);
  left = omega (arith, ints);
  right = omega (arith, ints);
  root = omega (arith, ints);
}

-- ---- the same products over words

pub word_times : (x y : ℤ) → FitsSigned w128 x → FitsSigned w128 y → word x *ℤ word y ≡ x *ℤ y
word_times x y f g = rw (word-fits x f, word-fits y g)

pub word-first : (a b c d : ℤ) → FitsSigned w128 a → FitsSigned w128 b → FitsSigned w128 c → FitsSigned w128 d → ProductFits a b c d → word (word a *ℤ word c) +ℤ word (pos 2 *ℤ word (word b *ℤ word d)) ≡ a *ℤ c +ℤ pos 2 *ℤ (b *ℤ d)
word-first a b c d f g h k p =
    rw (word_times a c f h, word_times b d g k, word-fits (a *ℤ c) p.first, word-fits (b *ℤ d) p.cross, word-fits (pos 2 *ℤ (b *ℤ d)) p.twice)

pub word-root : (a b c d : ℤ) → FitsSigned w128 a → FitsSigned w128 b → FitsSigned w128 c → FitsSigned w128 d → ProductFits a b c d → word (word a *ℤ word d) +ℤ word (word b *ℤ word c) ≡ a *ℤ d +ℤ b *ℤ c
word-root a b c d f g h k p =
    rw (word_times a d f k, word_times b c g h, word-fits (a *ℤ d) p.left, word-fits (b *ℤ c) p.right)

-- ---- tests of words

pub at_least : (m z : ℤ) → FitsSigned w128 z → le_z m (word z) ≡ true → m ≤ℤ z
at_least m z f h = grind (arith, ints, ap (le_z m) (word-fits z f), h)

pub not_at_least : (m z : ℤ) → FitsSigned w128 z → le_z m (word z) ≡ false → z <ℤ m
not_at_least m z f h = grind (arith, ints, ap (le_z m) (word-fits z f), h)

pub at_most : (z m : ℤ) → FitsSigned w128 z → le_z (word z) m ≡ true → z ≤ℤ m
at_most z m f h = grind (arith, ints, ap (λ u. le_z u m) (word-fits z f), h)

pub both_at_least : (m z : ℤ) → FitsSigned w128 m → FitsSigned w128 z → le_z (word m) (word z) ≡ true → m ≤ℤ z
both_at_least m z f g h = at_least m z g (rw (word-fits m f) at h)

pub both_not_at_least : (m z : ℤ) → FitsSigned w128 m → FitsSigned w128 z → le_z (word m) (word z) ≡ false → z <ℤ m
both_not_at_least m z f g h = not_at_least m z g (rw (word-fits m f) at h)

-- ---- numbers of 32 bits

abbrev pub short : ℤ → ℤ
short z = to_z w32 (of_z w32 z)

pub short-fits : (z : ℤ) → FitsSigned w32 z → short z ≡ z
short-fits z f = to_z-of_z w32 z f

pub short_negative : (z : ℤ) → FitsSigned w32 z → lt_z (short z) (pos 0) ≡ true → z <ℤ pos 0
short_negative z f h = grind (arith, ints, ap (λ u. lt_z u (pos 0)) (short-fits z f), h)

pub short_positive : (z : ℤ) → FitsSigned w32 z → lt_z (short z) (pos 0) ≡ false → pos 0 ≤ℤ z
short_positive z f h = grind (arith, ints, ap (λ u. lt_z u (pos 0)) (short-fits z f), h)

pub short_size : (z : ℤ) (n : ℕ) → FitsSigned w32 z → n ≡ unsigned_abs (short z) → n ≡ unsigned_abs z
short_size z n f h = h ∙ ap unsigned_abs (short-fits z f)

-- ---- the test whether b is at least −(a / 2)

half_down : ℤ → ℤ
half_down a = pos 0 -ℤ quot_z a (pos 2)

half_down_fits : (n : ℕ) → FitsSigned w128 (pos n) → FitsSigned w128 (half_down (pos n))
unfolding half_down
half_down_fits n f = omega (arith, ints, f)

half_down_is : (n : ℕ) → FitsSigned w128 (pos n) → word (pos 0 -ℤ word (quot_z (word (pos n)) (pos 2))) ≡ half_down (pos n)
unfolding half_down
half_down_is n f =
    ap (λ u. word (pos 0 -ℤ word (quot_z u (pos 2)))) (word-fits (pos n) f)
    ∙ ap (λ u. word (pos 0 -ℤ u)) (word-fits (pos (n / 2)) (half_fits (pos n) f))
    ∙ word-fits (pos 0 -ℤ pos (n / 2)) (half_down_fits n f)

rises_to : (n : ℕ) (b : ℤ) → half_down (pos n) ≤ℤ b → pos 0 ≤ℤ (pos n +ℤ pos 2 *ℤ b)
unfolding half_down
rises_to n b h = omega (arith, ints)

rises_from : (n : ℕ) (b : ℤ) → pos 0 ≤ℤ (pos n +ℤ pos 2 *ℤ b) → half_down (pos n) ≤ℤ b
unfolding half_down
rises_from n b h = omega (arith, ints)

test_of : (x y : ℤ) → x ≤ℤ y → le_z x y ≡ true
test_of x y h = grind (arith, ints)

pub rises_test : (a b : ℤ) → FitsSigned w128 a → FitsSigned w128 b → pos 0 ≤ℤ a → (le_z (word (pos 0 -ℤ word (quot_z (word a) (pos 2)))) (word b) ≡ true → pos 0 ≤ℤ (a +ℤ pos 2 *ℤ b)) × (pos 0 ≤ℤ (a +ℤ pos 2 *ℤ b) → le_z (word (pos 0 -ℤ word (quot_z (word a) (pos 2)))) (word b) ≡ true)
rises_test (pos n) b f g h =
    let e = half_down_is n f in
    let d = ap (λ u. le_z u (word b)) e in
    (λ t. rises_to n b (at_least (half_down (pos n)) b g (sym d ∙ t)), λ r. d ∙ ap (le_z (half_down (pos n))) (word-fits b g) ∙ test_of (half_down (pos n)) b (rises_from n b r))
rises_test (negsuc n) b f g h = absurd (omega (arith, ints, h))
