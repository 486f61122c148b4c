-- All leaves have a distribution: their output values in order, each with its share where that isn't 0.
use Rattle.std.proofs.Common.{◌≡◌, ◌≢◌, ℕ, zero, suc, ◌<◌, ◌⊎◌, inl, inr, ⊎_elim, Bool, true, false, List, [], ◌∷◌, map, refl, sym, ap, ◌∙◌, subst, arith, ℤ, pos, negsuc}
use Rattle.std.specs.Prelude.{All, Contains}
use Rattle.std.proofs.lemmas.List.Elements.{All-nil, All-cons}
use Rattle.qt_root2.specs.declared.mass.Reduced.{Reduced}
use Rattle.qt_root2.specs.Real.{Real, zero_real, plus_real}
use Rattle.qt_root2.specs.Masses.{real_of_reduced}
use Rattle.qt_root2.proofs.Reals.{zero_real-plus}
use Rattle.qt_mass.specs.Mass.{mass}
use Rattle.qt_report.specs.declared.distribution.Chance.{Chance}
use Rattle.qt_run.specs.Tree.{Point}
use Rattle.qt_run.specs.Distribution.{same_values, part, share, Before, AllAfter, Ascend, IsDistribution}
use Rattle.qt_run.proofs.Values.{same_values_eq}
use Rattle.qt_run.proofs.Shares.{share_is_least}

-- ---- the order of output values

number_order : (m n : ℕ) → (m ≡ n) ⊎ ((m < n) ⊎ (n < m))
number_order zero zero = inl refl
number_order zero (suc n) = inr (inl (omega arith))
number_order (suc m) zero = inr (inr (omega arith))
number_order (suc m) (suc n) =
    ⊎_elim (λ e. inl (ap suc e)) (λ d. inr (⊎_elim (λ l. inl (omega (arith, l))) (λ l. inr (omega (arith, l))) d)) (number_order m n)

-- two output values are the same, or one comes before the other
order : (x y : List ℕ) → (x ≡ y) ⊎ (Before x y ⊎ Before y x)
order [] [] = inl refl
order [] (y ∷ ys) = inr (inl tt)
order (x ∷ xs) [] = inr (inr tt)
order (x ∷ xs) (y ∷ ys) = step (number_order x y) (order xs ys)
  where
    step : (x ≡ y) ⊎ ((x < y) ⊎ (y < x)) → (xs ≡ ys) ⊎ (Before xs ys ⊎ Before ys xs) → (x ∷ xs ≡ y ∷ ys) ⊎ (Before (x ∷ xs) (y ∷ ys) ⊎ Before (y ∷ ys) (x ∷ xs))
    step (inr (inl l)) d = inr (inl (inl l))
    step (inr (inr l)) d = inr (inr (inl l))
    step (inl e) (inl f) = inl cc
    step (inl e) (inr (inl b)) = inr (inl (inr (e, b)))
    step (inl e) (inr (inr b)) = inr (inr (inr (sym e, b)))

before_all : (x y z : List ℕ) → Before x y → Before y z → Before x z
before_all [] y [] h g = absurd (before_none y g)
  where
    before_none : (w : List ℕ) → Before w [] → ⊥
    before_none [] b = b
    before_none (c ∷ cs) b = b
before_all [] y (z ∷ zs) h g = tt
before_all (x ∷ xs) [] z h g = absurd h
before_all (x ∷ xs) (y ∷ ys) [] h g = absurd g
before_all (x ∷ xs) (y ∷ ys) (z ∷ zs) h g = step h g (before_all xs ys zs)
  where
    step : (x < y) ⊎ ((x ≡ y) × Before xs ys) → (y < z) ⊎ ((y ≡ z) × Before ys zs) → (Before xs ys → Before ys zs → Before xs zs) → (x < z) ⊎ ((x ≡ z) × Before xs zs)
    step (inl l) (inl m) k = inl (omega (arith, l, m))
    step (inl l) (inr m) k = let e = m.0 in inl (omega (arith, l, e))
    step (inr l) (inl m) k = let e = l.0 in inl (omega (arith, e, m))
    step (inr l) (inr m) k = inr (l.0 ∙ m.0, k l.1 m.1)

-- ---- output values in ascending order

abbrev AllBehind : List ℕ → List (List ℕ) → Type 0
AllBehind x [] = Unit {0}
AllBehind x (y ∷ ys) = Before x y × AllBehind x ys

abbrev Ascending : List (List ℕ) → Type 0
Ascending [] = Unit {0}
Ascending (x ∷ xs) = AllBehind x xs × Ascending xs

abbrev IsIn : List ℕ → List (List ℕ) → Type 0
IsIn x [] = ⊥
IsIn x (y ∷ ys) = (x ≡ y) ⊎ IsIn x ys

-- the list with one value more, in order
record Inserted (x : List ℕ) (ys : List (List ℕ)) : Type 0 where
  values : List (List ℕ)
  ascending : Ascending values
  behind : (w : List ℕ) → Before w x → AllBehind w ys → AllBehind w values
  here : IsIn x values
  kept : (z : List ℕ) → IsIn z ys → IsIn z values

behind_more : (w x : List ℕ) (ys : List (List ℕ)) → Before w x → AllBehind x ys → AllBehind w ys
behind_more w x [] b h = tt
behind_more w x (y ∷ ys) b h = (before_all w x y b h.0, behind_more w x ys b h.1)

inserted : (x : List ℕ) (ys : List (List ℕ)) → Ascending ys → Inserted x ys
inserted x [] a = record { values = x ∷ []; ascending = (tt, tt); behind = λ w b h. (b, tt); here = inl refl; kept = λ z i. absurd i }
inserted x (y ∷ ys) a = step (order x y) (inserted x ys a.1)
  where
    step : (x ≡ y) ⊎ (Before x y ⊎ Before y x) → Inserted x ys → Inserted x (y ∷ ys)
    step (inl e) i = record { values = y ∷ ys; ascending = a; behind = λ w b h. h; here = inl e; kept = λ z k. k }
    step (inr (inl b)) i = record {
      values = x ∷ y ∷ ys;
      ascending = ((b, behind_more x y ys b a.0), a);
      behind = λ w c h. (c, h);
      here = inl refl;
      kept = λ z k. inr k;
    }
    step (inr (inr b)) i = record {
      values = y ∷ i.values;
      ascending = (i.behind y b a.0, i.ascending);
      behind = λ w c h. (h.0, i.behind w c h.1);
      here = inr i.here;
      kept = λ z k. ⊎_elim (λ e. inl e) (λ j. inr (i.kept z j)) k;
    }

-- ---- the output values of leaves

record Outputs (leaves : List Point) : Type 0 where
  values : List (List ℕ)
  ascending : Ascending values
  complete : (x : List ℕ) → share leaves x ≢ zero_real → IsIn x values

outputs : (leaves : List Point) → Outputs leaves
outputs [] = record { values = []; ascending = tt; complete = λ x n. absurd (n refl) }
outputs (leaf ∷ leaves) =
    let before = outputs leaves in
    let i = inserted leaf.slots before.values before.ascending in
    record { values = i.values; ascending = i.ascending; complete = λ x n. either before i x (same_values leaf.slots x) refl n }
  where
    either : (before : Outputs leaves) (i : Inserted leaf.slots before.values) (x : List ℕ) (b : Bool) → same_values leaf.slots x ≡ b
        → plus_real (part (same_values leaf.slots x) (mass leaf.state)) (share leaves x) ≢ zero_real → IsIn x i.values
    either before i x true e n = subst (λ y. IsIn y i.values) (same_values_eq leaf.slots x e) i.here
    either before i x false e n =
        let same : plus_real (part (same_values leaf.slots x) (mass leaf.state)) (share leaves x) ≡ share leaves x =
        ap (λ b. plus_real (part b (mass leaf.state)) (share leaves x)) e ∙ zero_real-plus (share leaves x) (share_is_least leaves x) in
        i.kept x (before.complete x (λ z. n (same ∙ z)))

-- ---- the chances at output values

zero_or_not : (x : Real) → (x ≡ zero_real) ⊎ (x ≢ zero_real)
zero_or_not x = cases x.a x.b x.k
  where
    cases : (a b : ℤ) (k : ℕ) → (let r : Real = record { a = a; b = b; k = k } in r ≡ zero_real) ⊎ (let r : Real = record { a = a; b = b; k = k } in r ≢ zero_real)
    cases (pos zero) (pos zero) zero = inl refl
    cases (pos zero) (pos zero) (suc k) = inr (λ e. cc (ap (λ (r : Real). r.k) e))
    cases (pos zero) (pos (suc b)) k = inr (λ e. cc (ap (λ (r : Real). r.b) e))
    cases (pos zero) (negsuc b) k = inr (λ e. cc (ap (λ (r : Real). r.b) e))
    cases (pos (suc a)) b k = inr (λ e. cc (ap (λ (r : Real). r.a) e))
    cases (negsuc a) b k = inr (λ e. cc (ap (λ (r : Real). r.a) e))

abbrev chance : List ℕ → Real → Chance
chance x r = let of : Reduced = record { a = r.a; b = r.b; k = r.k } in record { output = x; of = of }

module _ (f : List ℕ → Real) where
  abbrev IsExact : Chance → Type 0
  IsExact c = real_of_reduced c.of ≡ f c.output

  abbrev IsPossible : Chance → Type 0
  IsPossible c = f c.output ≢ zero_real

  -- the values other than 0 at these places
  record Listed (xs : List (List ℕ)) : Type 0 where
    chances : List Chance
    ascending : Ascend chances
    behind : (w : List ℕ) → AllBehind w xs → AllAfter w chances
    exact : All IsExact chances
    possible : All IsPossible chances
    complete : (x : List ℕ) → f x ≢ zero_real → IsIn x xs → Contains (map (λ c. c.output) chances) x

  contains_more : (x : List ℕ) (c : Chance) (cs : List Chance) → Contains (map (λ c. c.output) cs) x → Contains (map (λ c. c.output) (c ∷ cs)) x
  contains_more x c cs h = (suc h.0, omega (arith, h.1), h.2)

  listed : (xs : List (List ℕ)) → Ascending xs → Listed xs
  listed [] a = record { chances = []; ascending = tt; behind = λ w h. tt; exact = All-nil IsExact; possible = All-nil IsPossible; complete = λ x n i. absurd i }
  listed (x ∷ xs) a = step (zero_or_not (f x)) (listed xs a.1)
    where
      step : (f x ≡ zero_real) ⊎ (f x ≢ zero_real) → Listed xs → Listed (x ∷ xs)
      step (inl z) rest = record {
        chances = rest.chances;
        ascending = rest.ascending;
        behind = λ w h. rest.behind w h.1;
        exact = rest.exact;
        possible = rest.possible;
        complete = λ y n i. ⊎_elim (λ e. absurd (n (ap f e ∙ z))) (λ j. rest.complete y n j) i;
      }
      step (inr n) rest =
          let c = chance x (f x) in
          record {
            chances = c ∷ rest.chances;
            ascending = (rest.behind x a.0, rest.ascending);
            behind = λ w h. (h.0, rest.behind w h.1);
            exact = All-cons IsExact c rest.chances refl rest.exact;
            possible = All-cons IsPossible c rest.chances n rest.possible;
            complete = λ y m i. ⊎_elim (λ e. (zero, omega arith, sym e)) (λ j. contains_more y c rest.chances (rest.complete y m j)) i;
          }

-- some chances are the distribution of the leaves
pub some_distribution : (leaves : List Point) → (chances : List Chance) × IsDistribution leaves chances
some_distribution leaves =
    let os = outputs leaves in
    let l = listed (share leaves) os.values os.ascending in
    (l.chances, record { ascending = l.ascending; exact = l.exact; possible = l.possible; complete = λ x n. l.complete x n (os.complete x n) })
