-- Tests and numbers compared, and the lexicographic order of coefficients.
use Rattle.std.proofs.Common.{◌≡◌, ℕ, zero, suc, Bool, true, false, ◌<◌, refl, sym, ap, ◌∙◌, arith, ℤ, pos, negsuc}
use Rattle.std.specs.Prelude.{◌⊎◌, ◌<ℤ◌, ◌≤ℤ◌}
use mathlib.Core.Logic.{inl, inr}
use Rattle.std.proofs.lemmas.Int.{ints}
use Rattle.qt_ring.specs.declared.omega.Omega.{Omega}
use Rattle.qt_ring.proofs.RingLaws.{same}
use Rattle.qt_canon_laws.specs.FirstEntry.{GreaterOr, IsGreater}

-- a test doesn't fail and hold
pub not_both : (b : Bool) → b ≡ false → b ≡ true → ⊥
not_both b e f = absurd (cc)

pub nat_three_ways : (m n : ℕ) → (m < n) ⊎ ((m ≡ n) ⊎ (n < m))
nat_three_ways zero zero = inr (inl refl)
nat_three_ways zero (suc n) = inl (omega arith)
nat_three_ways (suc m) zero = inr (inr (omega arith))
nat_three_ways (suc m) (suc n) = elim (nat_three_ways m n) [ inl l ↦ inl (omega arith) | inr r ↦ elim r [ inl e ↦ inr (inl (ap suc e)) | inr l ↦ inr (inr (omega arith)) ] ]

pub three_ways : (a b : ℤ) → (a <ℤ b) ⊎ ((a ≡ b) ⊎ (b <ℤ a))
three_ways (pos m) (pos n) = elim (nat_three_ways m n) [ inl l ↦ inl (omega (arith, ints)) | inr r ↦ elim r [ inl e ↦ inr (inl (ap pos e)) | inr l ↦ inr (inr (omega (arith, ints))) ] ]
three_ways (pos m) (negsuc n) = inr (inr (omega (arith, ints)))
three_ways (negsuc m) (pos n) = inl (omega (arith, ints))
three_ways (negsuc m) (negsuc n) = elim (nat_three_ways n m) [ inl l ↦ inl (omega (arith, ints)) | inr r ↦ elim r [ inl e ↦ inr (inl (ap negsuc (sym e))) | inr l ↦ inr (inr (omega (arith, ints))) ] ]

-- what isn't below is at least as great
pub not_below : (a b : ℤ) → (a <ℤ b → ⊥) → b ≤ℤ a
not_below a b h = elim (three_ways a b) [ inl l ↦ absurd (h l) | inr r ↦ elim r [ inl e ↦ omega (arith, ints) | inr l ↦ omega (arith, ints) ] ]

pub not_at_most : (a b : ℤ) → (a ≤ℤ b → ⊥) → b <ℤ a
not_at_most a b h = elim (three_ways a b) [ inl l ↦ absurd (h (omega (arith, ints))) | inr r ↦ elim r [ inl e ↦ absurd (h (omega (arith, ints))) | inr l ↦ l ] ]

-- ---- one coefficient
below_is_not_greater : (a b : ℤ) (Rest : Type 0) → a <ℤ b → GreaterOr a b Rest → ⊥
below_is_not_greater a b Rest l (inl m) = absurd (omega (arith, ints))
below_is_not_greater a b Rest l (inr s) = let e : b ≡ a = s.0 in absurd (omega (arith, ints))

equal_is_not_greater : (a b : ℤ) (Rest : Type 0) → a ≡ b → (Rest → ⊥) → GreaterOr a b Rest → ⊥
equal_is_not_greater a b Rest e none (inl m) = absurd (omega (arith, ints))
equal_is_not_greater a b Rest e none (inr s) = none s.1

greater_by : (a b : ℤ) (Rest : Type 0) → (a <ℤ b) ⊎ ((a ≡ b) ⊎ (b <ℤ a)) → Rest ⊎ (Rest → ⊥) → GreaterOr a b Rest ⊎ (GreaterOr a b Rest → ⊥)
greater_by a b Rest (inl l) rest = inr (below_is_not_greater a b Rest l)
greater_by a b Rest (inr (inr l)) rest = inl (inl l)
greater_by a b Rest (inr (inl e)) (inl some) = inl (inr (sym e, some))
greater_by a b Rest (inr (inl e)) (inr none) = inr (equal_is_not_greater a b Rest e none)

below_by : (a b : ℤ) → (a <ℤ b) ⊎ ((a ≡ b) ⊎ (b <ℤ a)) → (a <ℤ b) ⊎ ((a <ℤ b) → ⊥)
below_by a b (inl l) = inl l
below_by a b (inr (inl e)) = inr (λ m. absurd (omega (arith, ints)))
below_by a b (inr (inr l)) = inr (λ m. absurd (omega (arith, ints)))

equal_by : (a b : ℤ) (First Second : Type 0) → (a <ℤ b) ⊎ ((a ≡ b) ⊎ (b <ℤ a)) → (GreaterOr a b First → ⊥) → (GreaterOr b a Second → ⊥) → a ≡ b
equal_by a b First Second (inl l) h k = absurd (k (inl l))
equal_by a b First Second (inr (inl e)) h k = e
equal_by a b First Second (inr (inr l)) h k = absurd (h (inl l))

below_trans : (a b c : ℤ) → a <ℤ b → b <ℤ c → a <ℤ c
below_trans a b c h k = omega (arith, ints)

same_below : (a b c : ℤ) → a ≡ b → b <ℤ c → a <ℤ c
same_below a b c e h = omega (arith, ints)

below_same : (a b c : ℤ) → a <ℤ b → b ≡ c → a <ℤ c
below_same a b c h e = omega (arith, ints)

trans_by : (a b c : ℤ) (First Second Both : Type 0) → (First → Second → Both) → GreaterOr a b First → GreaterOr b c Second → GreaterOr a c Both
trans_by a b c First Second Both join (inl l) (inl m) = inl (below_trans c b a m l)
trans_by a b c First Second Both join (inl l) (inr t) = inl (same_below c b a t.0 l)
trans_by a b c First Second Both join (inr s) (inl m) = inl (below_same c b a m s.0)
trans_by a b c First Second Both join (inr s) (inr t) = inr (t.0 ∙ s.0, join s.1 t.1)

not_below_itself : (a : ℤ) → a <ℤ a → ⊥
not_below_itself a h = absurd (omega (arith, ints))

-- ---- all four
pub not_greater : (x : Omega) → IsGreater x x → ⊥
not_greater x = equal_is_not_greater x.c0 x.c0 _ refl (equal_is_not_greater x.c1 x.c1 _ refl (equal_is_not_greater x.c2 x.c2 _ refl (not_below_itself x.c3)))

pub greater_trans : (x y z : Omega) → IsGreater x y → IsGreater y z → IsGreater x z
greater_trans x y z = trans_by x.c0 y.c0 z.c0 _ _ _ (trans_by x.c1 y.c1 z.c1 _ _ _ (trans_by x.c2 y.c2 z.c2 _ _ _ (λ l m. below_trans z.c3 y.c3 x.c3 m l)))

pub greater_or_not : (x y : Omega) → IsGreater x y ⊎ (IsGreater x y → ⊥)
greater_or_not x y =
    greater_by x.c0 y.c0 _ (three_ways x.c0 y.c0)
    (greater_by x.c1 y.c1 _ (three_ways x.c1 y.c1)
    (greater_by x.c2 y.c2 _ (three_ways x.c2 y.c2)
    (below_by y.c3 x.c3 (three_ways y.c3 x.c3))))

equal_last : (a b : ℤ) → (a <ℤ b) ⊎ ((a ≡ b) ⊎ (b <ℤ a)) → (b <ℤ a → ⊥) → (a <ℤ b → ⊥) → a ≡ b
equal_last a b (inl l) h k = absurd (k l)
equal_last a b (inr (inl e)) h k = e
equal_last a b (inr (inr l)) h k = absurd (h l)

-- two of which neither is greater are equal
pub none_greater : (x y : Omega) → (IsGreater x y → ⊥) → (IsGreater y x → ⊥) → x ≡ y
none_greater x y h k =
    let a : x.c0 ≡ y.c0 = equal_by x.c0 y.c0 _ _ (three_ways x.c0 y.c0) h k in
    let b : x.c1 ≡ y.c1 = equal_by x.c1 y.c1 _ _ (three_ways x.c1 y.c1) (λ g. h (inr (sym a, g))) (λ g. k (inr (a, g))) in
    let c : x.c2 ≡ y.c2 = equal_by x.c2 y.c2 _ _ (three_ways x.c2 y.c2) (λ g. h (inr (sym a, inr (sym b, g)))) (λ g. k (inr (a, inr (b, g)))) in
    let d : x.c3 ≡ y.c3 = equal_last x.c3 y.c3 (three_ways x.c3 y.c3) (λ g. h (inr (sym a, inr (sym b, inr (sym c, g))))) (λ g. k (inr (a, inr (b, inr (c, g))))) in
    same x y a b c d
