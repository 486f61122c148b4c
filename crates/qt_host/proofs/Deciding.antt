-- What can be decided: numbers, lists of numbers, what a text begins with, and whether some number below a bound has a property.
use Rattle.std.proofs.Common.{◌≡◌, ◌≢◌, ℕ, zero, suc, ◌<◌, ◌≤◌, ◌⊎◌, inl, inr, ⊎_elim, Bool, true, false, eqb, eqb-true, eq-eqb, List, [], ◌∷◌, ◌++◌, refl, sym, ◌∙◌, subst, arith}

-- the property holds, or it doesn't
abbrev pub IsDecided : Type 0 → Type 0
IsDecided P = P ⊎ (P → ⊥)

pub both : {P Q : Type 0} → IsDecided P → IsDecided Q → IsDecided (P × Q)
both (inl p) (inl q) = inl (p, q)
both (inl p) (inr never) = inr (λ s. never s.1)
both (inr never) d = inr (λ s. never s.0)

-- ---- numbers

pub same_number : (m n : ℕ) → IsDecided (m ≡ n)
same_number m n = step (eqb m n) refl
  where
    step : (b : Bool) → eqb m n ≡ b → IsDecided (m ≡ n)
    step true e = inl (eqb-true m n e)
    step false e = inr (λ f. let t : true ≡ false = sym (eq-eqb m n f) ∙ e in cc)

pub differ : (m n : ℕ) → IsDecided (m ≢ n)
differ m n = ⊎_elim (λ e. inr (λ never. never e)) (λ never. inl never) (same_number m n)

pub at_most : (m n : ℕ) → IsDecided (m ≤ n)
at_most zero n = inl (omega arith)
at_most (suc m) zero = inr (λ h. omega (arith, h))
at_most (suc m) (suc n) = ⊎_elim (λ h. inl (omega (arith, h))) (λ never. inr (λ h. never (omega (arith, h)))) (at_most m n)

not_above : (m n : ℕ) → (suc m ≤ n → ⊥) → n ≤ m
not_above m zero never = omega arith
not_above zero (suc n) never = absurd (never (omega arith))
not_above (suc m) (suc n) never = let l = not_above m n (λ h. never (omega (arith, h))) in omega (arith, l)

last_or_below : (n bound : ℕ) → n < suc bound → (n ≡ bound) ⊎ (n < bound)
last_or_below n bound h =
    ⊎_elim (λ l. inr (omega (arith, l))) (λ never. let l = not_above n bound never in inl (omega (arith, h, l))) (at_most (suc n) bound)

-- some number below the bound has the property, or none has
pub some_below : (bound : ℕ) (P : ℕ → Type 0) → ((n : ℕ) → n < bound → IsDecided (P n)) → IsDecided ((n : ℕ) × (n < bound) × P n)
some_below zero P d = inr (λ s. omega (arith, s.1))
some_below (suc bound) P d = step (d bound (omega arith)) (some_below bound P (λ n h. d n (omega (arith, h))))
  where
    step : IsDecided (P bound) → IsDecided ((n : ℕ) × (n < bound) × P n) → IsDecided ((n : ℕ) × (n < suc bound) × P n)
    step (inl p) rest = inl (bound, omega arith, p)
    step (inr never) (inl s) = inl (s.0, omega (arith, s.1), s.2)
    step (inr never) (inr none) = inr (λ s. ⊎_elim (λ e. never (subst P e s.2)) (λ l. none (s.0, l, s.2)) (last_or_below s.0 bound s.1))

-- ---- lists of numbers

-- the text begins with the opening, or it doesn't
pub begins : (opening text : List ℕ) → IsDecided ((rest : List ℕ) × (text ≡ opening ++ rest))
begins [] text = inl (text, refl)
begins (x ∷ xs) [] = inr (λ s. let e = s.1 in cc)
begins (x ∷ xs) (y ∷ ys) = step (same_number y x) (begins xs ys)
  where
    step : IsDecided (y ≡ x) → IsDecided ((rest : List ℕ) × (ys ≡ xs ++ rest)) → IsDecided ((rest : List ℕ) × (y ∷ ys ≡ x ∷ (xs ++ rest)))
    step (inl e) (inl s) = let f = s.1 in inl (s.0, cc)
    step (inl e) (inr never) = inr (λ s. let f = s.1 in never (s.0, cc))
    step (inr never) d = inr (λ s. let f = s.1 in never cc)

pub same_list : (xs ys : List ℕ) → IsDecided (xs ≡ ys)
same_list [] [] = inl refl
same_list [] (y ∷ ys) = inr (λ e. cc)
same_list (x ∷ xs) [] = inr (λ e. cc)
same_list (x ∷ xs) (y ∷ ys) = step (same_number x y) (same_list xs ys)
  where
    step : IsDecided (x ≡ y) → IsDecided (xs ≡ ys) → IsDecided (x ∷ xs ≡ y ∷ ys)
    step (inl e) (inl f) = inl cc
    step (inl e) (inr never) = inr (λ g. never cc)
    step (inr never) d = inr (λ g. never cc)

-- what follows an opening is determined
pub same_rest : (opening a b : List ℕ) → opening ++ a ≡ opening ++ b → a ≡ b
same_rest [] a b e = e
same_rest (x ∷ xs) a b e = same_rest xs a b cc
