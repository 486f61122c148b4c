-- Output values: the test whether two are the same, and their order.
use Rattle.std.proofs.Common.{◌≡◌, ◌≢◌, ℕ, ⊎_elim, Bool, true, false, ◌&&◌, eqb, eqb-true, eq-eqb, List, [], ◌∷◌, refl, sym, ap, ◌∙◌, subst, arith}
use Rattle.qt_run.specs.Distribution.{same_values, Before}

pub same_values_refl : (x : List ℕ) → same_values x x ≡ true
same_values_refl [] = refl
same_values_refl (x ∷ xs) = ap (λ b. b && same_values xs xs) (eq-eqb x x refl) ∙ same_values_refl xs

pub same_values_eq : (x y : List ℕ) → same_values x y ≡ true → x ≡ y
same_values_eq [] [] h = refl
same_values_eq [] (y ∷ ys) h = cc
same_values_eq (x ∷ xs) [] h = cc
same_values_eq (x ∷ xs) (y ∷ ys) h = step (eqb x y) refl (same_values_eq xs ys) h
  where
    step : (b : Bool) → eqb x y ≡ b → (same_values xs ys ≡ true → xs ≡ ys) → (b && same_values xs ys) ≡ true → x ∷ xs ≡ y ∷ ys
    step true e ih f = let p = eqb-true x y e in let q = ih f in cc
    step false e ih f = cc

pub eq_same_values : (x y : List ℕ) → x ≡ y → same_values x y ≡ true
eq_same_values x y e = ap (same_values x) (sym e) ∙ same_values_refl x

pub differ_same_values : (x y : List ℕ) → x ≢ y → same_values x y ≡ false
differ_same_values x y n = step (same_values x y) refl
  where
    step : (b : Bool) → same_values x y ≡ b → b ≡ false
    step true e = absurd (n (same_values_eq x y e))
    step false e = refl

-- an output value does not come before itself
pub before_itself : (x : List ℕ) → Before x x → ⊥
before_itself [] h = h
before_itself (x ∷ xs) h = ⊎_elim (λ l. omega (arith, l)) (λ p. before_itself xs p.1) h

pub before_differs : (x y : List ℕ) → Before x y → x ≢ y
before_differs x y h e = before_itself x (subst (Before x) (sym e) h)

pub before_and_after : (x y : List ℕ) → Before x y → Before y x → ⊥
before_and_after [] [] h g = h
before_and_after [] (y ∷ ys) h g = g
before_and_after (x ∷ xs) [] h g = h
before_and_after (x ∷ xs) (y ∷ ys) h g =
    ⊎_elim
    (λ l. ⊎_elim (λ m. omega (arith, l, m)) (λ q. omega (arith, l, q.0)) g)
    (λ p. ⊎_elim (λ m. omega (arith, p.0, m)) (λ q. before_and_after xs ys p.1 q.1) g)
    h
