-- Booleans, bits and numbers that are compared.
use Rattle.std.proofs.Common.{◌≡◌, ◌≢◌, ℕ, zero, suc, ◌<◌, Bool, true, false, ◌&&◌, refl, sym, ap, arith}
use mathlib.Core.Logic.{◌⊎◌, inl, inr}
use Rattle.qt_ring.specs.Places.{is_one}

pub iff : (a b : Bool) → (a ≡ true → b ≡ true) → (b ≡ true → a ≡ true) → a ≡ b
iff true true h k = refl
iff true false h k = sym (h refl)
iff false true h k = k refl
iff false false h k = refl

pub and_left : (a b : Bool) → (a && b) ≡ true → a ≡ true
and_left true b e = refl
and_left false b e = e

pub and_right : (a b : Bool) → (a && b) ≡ true → b ≡ true
and_right true b e = e
and_right false b e = absurd (cc)

pub and_both : (a b : Bool) → a ≡ true → b ≡ true → (a && b) ≡ true
and_both true b e f = f
and_both false b e f = absurd (cc)

pub same_or_not : (q r : ℕ) → (q ≡ r) ⊎ (q ≢ r)
same_or_not zero zero = inl refl
same_or_not zero (suc r) = inr (omega arith)
same_or_not (suc q) zero = inr (omega arith)
same_or_not (suc q) (suc r) = elim (same_or_not q r) [ inl e ↦ inl (ap suc e) | inr f ↦ inr (λ e. f (omega arith)) ]

-- a bit
pub zero_or_one : (k : ℕ) → k < 2 → (k ≡ 0) ⊎ (k ≡ 1)
zero_or_one zero h = inl refl
zero_or_one (suc zero) h = inr refl
zero_or_one (suc (suc k)) h = absurd (omega arith)

pub is_one_true : (k : ℕ) → 0 < k → is_one k ≡ true
is_one_true zero h = absurd (omega arith)
is_one_true (suc k) h = refl

pub is_one_false : (k : ℕ) → k ≡ 0 → is_one k ≡ false
is_one_false k e = ap is_one e

pub one_above : (k : ℕ) → is_one k ≡ true → 0 < k
one_above zero e = absurd (cc)
one_above (suc k) e = omega arith

pub one_none : (k : ℕ) → is_one k ≡ false → k ≡ 0
one_none zero e = refl
one_none (suc k) e = absurd (cc)
