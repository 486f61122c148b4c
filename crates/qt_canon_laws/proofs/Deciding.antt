-- Whether 2, √2 or 1 − ω divides all entries is decided by parities.
use Rattle.std.proofs.Common.{◌≡◌, ℕ, ◌<◌, List, [], ◌∷◌, refl, ap, ◌∙◌, arith}
use Rattle.std.specs.Prelude.{◌⊎◌}
use mathlib.Core.Logic.{inl, inr}
use Rattle.qt_ring.specs.declared.omega.Omega.{Omega}
use Rattle.qt_ring.specs.Ring.{times, two_to, root_two, one_minus_omega}
use Rattle.qt_ring.specs.Division.{Divides, IsEven, parity}
use Rattle.qt_ring.specs.Multiples.{scaled, DividesAll}
use Rattle.qt_ring.proofs.Dividing.{total, two_multiple, two_divisor, root_two_multiple, root_two_divisor, one_minus_omega_multiple, one_minus_omega_divisor}
use Rattle.qt_canon_laws.proofs.Order.{nat_three_ways}

-- a fact or its contrary
abbrev pub Decided : Type 0 → Type 0
Decided P = P ⊎ (P → ⊥)

equal_or_not : (m n : ℕ) → (m < n) ⊎ ((m ≡ n) ⊎ (n < m)) → Decided (m ≡ n)
equal_or_not m n (inl l) = inr (λ e. absurd (omega arith))
equal_or_not m n (inr (inl e)) = inl e
equal_or_not m n (inr (inr l)) = inr (λ e. absurd (omega arith))

same_or_not : (m n : ℕ) → Decided (m ≡ n)
same_or_not m n = equal_or_not m n (nat_three_ways m n)

both_or_not : (P Q : Type 0) → Decided P → Decided Q → Decided (P × Q)
both_or_not P Q (inl p) (inl q) = inl (p, q)
both_or_not P Q (inl p) (inr n) = inr (λ b. n b.1)
both_or_not P Q (inr n) q = inr (λ b. n b.0)

decided_as : (P Q : Type 0) → (P → Q) → (Q → P) → Decided P → Decided Q
decided_as P Q f g (inl p) = inl (f p)
decided_as P Q f g (inr n) = inr (λ q. n (g q))

-- ---- one number
even_or_not : (x : Omega) → Decided ((parity x.c0 ≡ 0) × ((parity x.c1 ≡ 0) × ((parity x.c2 ≡ 0) × (parity x.c3 ≡ 0))))
even_or_not x = both_or_not _ _ (same_or_not (parity x.c0) 0) (both_or_not _ _ (same_or_not (parity x.c1) 0) (both_or_not _ _ (same_or_not (parity x.c2) 0) (same_or_not (parity x.c3) 0)))

two_or_not : (x : Omega) → Decided (Divides (two_to 1) x)
two_or_not x =
    decided_as _ _
    (λ p. two_divisor x (record { c0_even = p.0; c1_even = p.1.0; c2_even = p.1.1.0; c3_even = p.1.1.1 }))
    (λ d. let e : IsEven x = two_multiple x d in (e.c0_even, (e.c1_even, (e.c2_even, e.c3_even))))
    (even_or_not x)

root_two_or_not : (x : Omega) → Decided (Divides root_two x)
root_two_or_not x =
    decided_as _ _ (λ p. root_two_divisor x p.0 p.1) (root_two_multiple x)
    (both_or_not _ _ (same_or_not (parity x.c0) (parity x.c2)) (same_or_not (parity x.c1) (parity x.c3)))

one_minus_omega_or_not : (x : Omega) → Decided (Divides one_minus_omega x)
one_minus_omega_or_not x = decided_as _ _ (one_minus_omega_divisor x) (one_minus_omega_multiple x) (same_or_not (parity (total x)) 0)

-- ---- all entries
head_of : (d x : Omega) (xs w : List Omega) → scaled d w ≡ x ∷ xs → Divides d x
head_of d x xs [] e = absurd (cc)
head_of d x xs (y ∷ ys) e = let head : times d y ≡ x = cc in (y, head)

tail_of : (d x : Omega) (xs w : List Omega) → scaled d w ≡ x ∷ xs → DividesAll d xs
tail_of d x xs [] e = absurd (cc)
tail_of d x xs (y ∷ ys) e = let tail : scaled d ys ≡ xs = cc in (ys, tail)

all_from : (d x : Omega) (xs : List Omega) → Divides d x × DividesAll d xs → DividesAll d (x ∷ xs)
all_from d x xs (head, tail) = (head.0 ∷ tail.0, ap (λ t. t ∷ scaled d tail.0) head.1 ∙ ap (λ t. x ∷ t) tail.1)

all_or_not : (d : Omega) → ((x : Omega) → Decided (Divides d x)) → (v : List Omega) → Decided (DividesAll d v)
all_or_not d one [] = inl ([], refl)
all_or_not d one (x ∷ xs) =
    decided_as _ _ (all_from d x xs) (λ m. (head_of d x xs m.0 m.1, tail_of d x xs m.0 m.1))
    (both_or_not _ _ (one x) (all_or_not d one xs))

pub all_by_two : (v : List Omega) → Decided (DividesAll (two_to 1) v)
all_by_two = all_or_not (two_to 1) two_or_not

pub all_by_root_two : (v : List Omega) → Decided (DividesAll root_two v)
all_by_root_two = all_or_not root_two root_two_or_not

pub all_by_one_minus_omega : (v : List Omega) → Decided (DividesAll one_minus_omega v)
all_by_one_minus_omega = all_or_not one_minus_omega one_minus_omega_or_not
