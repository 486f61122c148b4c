-- Two registers place by place.
use Rattle.std.proofs.Common.{◌≡◌, ℕ, zero, suc, ◌+◌, ◌≤◌, Bool, true, false, true≢false, ◌||◌, List, []}
use Rattle.std.proofs.Common.{◌∷◌, drop, length, slice_get, Option, Some, None, refl, sym, ap, ap₂, ◌∙◌, arith}
use Rattle.qt_registers.specs.declared.fixed.FixedQubit.{FixedQubit}
use Rattle.qt_typing.specs.Gates.{meets}
use Rattle.qt_typing.specs.Qubits.{contains, is_same_qubit, overlaps}

abbrev pub same_here : Option FixedQubit → Option FixedQubit → Bool
same_here (Some p) (Some q) = is_same_qubit p q
same_here _ _ = false

no_more : (a : List FixedQubit) → meets a [] ≡ false
no_more [] = refl
no_more (p ∷ a) = refl

none_here : (p : Option FixedQubit) (rest : Bool) → (same_here p None || rest) ≡ rest
none_here None rest = refl
none_here (Some p) rest = refl

by_suc : (a b : List FixedQubit) (n : ℕ) → meets (drop n a) (drop n b)
    ≡ (same_here (slice_get a n) (slice_get b n) || meets (drop (suc n) a) (drop (suc n) b))
by_suc [] b zero = refl
by_suc [] b (suc n) = refl
by_suc (p ∷ a) [] zero = sym (no_more a)
by_suc (p ∷ a) [] (suc n) =
    no_more (drop n a) ∙ sym (no_more (drop (suc n) a)) ∙ sym (none_here (slice_get a n) (meets (drop (suc n) a) []))
by_suc (p ∷ a) (q ∷ b) zero = refl
by_suc (p ∷ a) (q ∷ b) (suc n) = by_suc a b n

pub meets_at : (a b : List FixedQubit) (n : ℕ) → meets (drop n a) (drop n b)
    ≡ (same_here (slice_get a n) (slice_get b n) || meets (drop (n + 1) a) (drop (n + 1) b))
meets_at a b n = by_suc a b n ∙ ap (λ m. same_here (slice_get a n) (slice_get b n) || meets (drop m a) (drop m b)) (succ_is n)
  where
    succ_is : (m : ℕ) → suc m ≡ m + 1
    succ_is m = omega arith

pub meets_behind : (a b : List FixedQubit) (n : ℕ) → length a ≤ n → meets (drop n a) (drop n b) ≡ false
meets_behind [] b zero h = refl
meets_behind [] b (suc n) h = refl
meets_behind (p ∷ a) b zero h = absurd (omega arith)
meets_behind (p ∷ a) [] (suc n) h = no_more (drop n a)
meets_behind (p ∷ a) (q ∷ b) (suc n) h = meets_behind a b n (omega arith)

-- ---- registers that share no qubit

neither : (x y : Bool) → (x || y) ≡ false → (x ≡ false) × (y ≡ false)
neither true y h = absurd (true≢false h)
neither false y h = (refl, h)

fewer : (p : FixedQubit) (a b : List FixedQubit) → overlaps (p ∷ a) b ≡ false → overlaps a b ≡ false
unfolding overlaps
fewer p a [] h = refl
fewer p a (q ∷ b) h =
    let t = neither (contains (p ∷ a) q) (overlaps (p ∷ a) b) h in
    let u = neither (is_same_qubit p q) (contains a q) t.0 in
    ap₂ ◌||◌ u.1 (fewer p a b t.1)

pub apart : (a b : List FixedQubit) → overlaps a b ≡ false → meets a b ≡ false
unfolding overlaps
apart [] b h = refl
apart (p ∷ a) [] h = refl
apart (p ∷ a) (q ∷ b) h =
    let t = neither (contains (p ∷ a) q) (overlaps (p ∷ a) b) h in
    let u = neither (is_same_qubit p q) (contains a q) t.0 in
    ap₂ ◌||◌ u.0 (apart a b (fewer p a b t.1))
