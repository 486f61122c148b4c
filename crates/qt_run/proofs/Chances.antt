-- Lists of chances that are a distribution: their total, and that the leaves have one such list.
use Rattle.std.proofs.Common.{◌≡◌, ◌≢◌, ℕ, zero, suc, ◌<◌, ◌⊎◌, inl, inr, ⊎_elim, Bool, true, false, cond, List, [], ◌∷◌, map, length, slice_index_or, refl, sym, ap, ◌∙◌, subst, arith, ℤ, pos, negsuc}
use Rattle.std.specs.Prelude.{All, Contains}
use Rattle.std.proofs.lemmas.List.Elements.{All-head, All-tail}
use Rattle.qt_root2.specs.declared.mass.Reduced.{Reduced}
use Rattle.qt_root2.specs.Real.{Real, zero_real, plus_real}
use Rattle.qt_root2.specs.Masses.{real_of_reduced}
use Rattle.qt_report.specs.declared.distribution.Chance.{Chance}
use Rattle.qt_report.specs.Report.{total_of}
use Rattle.qt_run.specs.Tree.{Point}
use Rattle.qt_run.specs.Distribution.{same_values, share, Before, AllAfter, Ascend, IsDistribution}
use Rattle.qt_run.proofs.Values.{same_values_refl, same_values_eq, eq_same_values, before_itself, before_differs, before_and_after}
use Rattle.qt_run.proofs.Shares.{total, sum_over, among, Distinct, shares_total}

abbrev pub outputs_of : List Chance → List (List ℕ)
outputs_of chances = map (λ c. c.output) chances

-- ---- membership

contains_among : (xs : List (List ℕ)) (x : List ℕ) → Contains xs x → among x xs ≡ true
contains_among [] x h = absurd (omega (arith, h.1))
contains_among (y ∷ ys) x h = step h.0 h.1 h.2 (contains_among ys x)
  where
    step : (k : ℕ) → k < length (y ∷ ys) → slice_index_or (y ∷ ys) k x ≡ x → (Contains ys x → among x ys ≡ true) → cond (same_values x y) true (among x ys) ≡ true
    step zero l e ih = ap (λ b. cond b true (among x ys)) (eq_same_values x y (sym e))
    step (suc k) l e ih = either (same_values x y) (ih (k, omega arith, e))
      where
        either : (b : Bool) → among x ys ≡ true → cond b true (among x ys) ≡ true
        either true f = refl
        either false f = f

-- the first output value, or one of the others
among_cases : (x y : List ℕ) (ys : List (List ℕ)) → among x (y ∷ ys) ≡ true → (x ≡ y) ⊎ (among x ys ≡ true)
among_cases x y ys h = step (same_values x y) refl h
  where
    step : (b : Bool) → same_values x y ≡ b → cond b true (among x ys) ≡ true → (x ≡ y) ⊎ (among x ys ≡ true)
    step true e f = inl (same_values_eq x y e)
    step false e f = inr f

among_first : (x : List ℕ) (xs : List (List ℕ)) → among x (x ∷ xs) ≡ true
among_first x xs = ap (λ b. cond b true (among x xs)) (same_values_refl x)

among_later : (x y : List ℕ) (ys : List (List ℕ)) → among x ys ≡ true → among x (y ∷ ys) ≡ true
among_later x y ys h = step (same_values x y)
  where
    step : (b : Bool) → cond b true (among x ys) ≡ true
    step true = refl
    step false = h

-- ---- ascending chances

after_among : (x y : List ℕ) (cs : List Chance) → AllAfter x cs → among y (outputs_of cs) ≡ true → Before x y
after_among x y [] h m = cc
after_among x y (c ∷ cs) h m = ⊎_elim (λ e. subst (Before x) (sym e) h.0) (λ n. after_among x y cs h.1 n) (among_cases y c.output (outputs_of cs) m)

ascend_distinct : (cs : List Chance) → Ascend cs → Distinct (outputs_of cs)
ascend_distinct [] h = tt
ascend_distinct (c ∷ cs) h = (step (among c.output (outputs_of cs)) refl, ascend_distinct cs h.1)
  where
    step : (b : Bool) → among c.output (outputs_of cs) ≡ b → b ≡ false
    step true e = absurd (before_itself c.output (after_among c.output c.output cs h.0 e))
    step false e = refl

-- ---- the total

zero_or_not : (x : Real) → (x ≡ zero_real) ⊎ (x ≢ zero_real)
zero_or_not x = cases x.a x.b x.k
  where
    cases : (a b : ℤ) (k : ℕ) → (let r : Real = record { a = a; b = b; k = k } in r ≡ zero_real) ⊎ (let r : Real = record { a = a; b = b; k = k } in r ≢ zero_real)
    cases (pos zero) (pos zero) zero = inl refl
    cases (pos zero) (pos zero) (suc k) = inr (λ e. cc (ap (λ (r : Real). r.k) e))
    cases (pos zero) (pos (suc b)) k = inr (λ e. cc (ap (λ (r : Real). r.b) e))
    cases (pos zero) (negsuc b) k = inr (λ e. cc (ap (λ (r : Real). r.b) e))
    cases (pos (suc a)) b k = inr (λ e. cc (ap (λ (r : Real). r.a) e))
    cases (negsuc a) b k = inr (λ e. cc (ap (λ (r : Real). r.a) e))

others_zero : (leaves : List Point) (chances : List Chance) → IsDistribution leaves chances → (x : List ℕ) → among x (outputs_of chances) ≡ false → share leaves x ≡ zero_real
others_zero leaves chances d x n =
    ⊎_elim (λ e. e) (λ p. let m = contains_among (outputs_of chances) x (d.complete x p) in let f : true ≡ false = sym m ∙ n in cc) (zero_or_not (share leaves x))

total-sum : (leaves : List Point) (cs : List Chance) → All (λ c. real_of_reduced c.of ≡ share leaves c.output) cs → total_of cs ≡ sum_over (share leaves) (outputs_of cs)
total-sum leaves [] h = refl
total-sum leaves (c ∷ cs) h =
    let fits = λ (c : Chance). real_of_reduced c.of ≡ share leaves c.output in
    ap (λ x. plus_real x (total_of cs)) (All-head fits c cs h) ∙ ap (plus_real (share leaves c.output)) (total-sum leaves cs (All-tail fits c cs h))

-- the chances are together all that the leaves weigh
pub total_of_distribution : (leaves : List Point) (chances : List Chance) → IsDistribution leaves chances → total_of chances ≡ total leaves
total_of_distribution leaves chances d =
    total-sum leaves chances d.exact ∙ shares_total leaves (outputs_of chances) (ascend_distinct chances d.ascending) (others_zero leaves chances d)

-- ---- one distribution

reduced_same : (x y : Reduced) → real_of_reduced x ≡ real_of_reduced y → x ≡ y
reduced_same x y e =
    let f : Real → Reduced = λ r. record { a = r.a; b = r.b; k = r.k } in
    ap f e

first_same : (c d : Chance) (cs ds : List Chance) → Ascend (c ∷ cs) → Ascend (d ∷ ds) → among c.output (outputs_of (d ∷ ds)) ≡ true → among d.output (outputs_of (c ∷ cs)) ≡ true → c.output ≡ d.output
first_same c d cs ds u v m n =
    ⊎_elim
    (λ e. e)
    (λ i. ⊎_elim
    (λ e. sym e)
    (λ j. absurd (before_and_after c.output d.output (after_among c.output d.output cs u.0 j) (after_among d.output c.output ds v.0 i)))
    (among_cases d.output c.output (outputs_of cs) n))
    (among_cases c.output d.output (outputs_of ds) m)

rest_among : (c d : Chance) (cs ds : List Chance) → Ascend (c ∷ cs) → c.output ≡ d.output → ((x : List ℕ) → among x (outputs_of (c ∷ cs)) ≡ true → among x (outputs_of (d ∷ ds)) ≡ true)
    → (x : List ℕ) → among x (outputs_of cs) ≡ true → among x (outputs_of ds) ≡ true
rest_among c d cs ds u e h x m =
    ⊎_elim
    (λ f. absurd (before_differs c.output x (after_among c.output x cs u.0 m) (e ∙ sym f)))
    (λ n. n)
    (among_cases x d.output (outputs_of ds) (h x (among_later x c.output (outputs_of cs) m)))

same_chances : (f : List ℕ → Real) (cs ds : List Chance) → Ascend cs → Ascend ds → All (λ c. real_of_reduced c.of ≡ f c.output) cs → All (λ c. real_of_reduced c.of ≡ f c.output) ds
    → ((x : List ℕ) → among x (outputs_of cs) ≡ true → among x (outputs_of ds) ≡ true) → ((x : List ℕ) → among x (outputs_of ds) ≡ true → among x (outputs_of cs) ≡ true) → cs ≡ ds
same_chances f [] [] u v p q g h = refl
same_chances f [] (d ∷ ds) u v p q g h = let n = h d.output (among_first d.output (outputs_of ds)) in cc
same_chances f (c ∷ cs) [] u v p q g h = let n = g c.output (among_first c.output (outputs_of cs)) in cc
same_chances f (c ∷ cs) (d ∷ ds) u v p q g h =
    let fits = λ (c : Chance). real_of_reduced c.of ≡ f c.output in
    let e = first_same c d cs ds u v (g c.output (among_first c.output (outputs_of cs))) (h d.output (among_first d.output (outputs_of ds))) in
    let same_of : c.of ≡ d.of = reduced_same c.of d.of (All-head fits c cs p ∙ ap f e ∙ sym (All-head fits d ds q)) in
    let same_rest : cs ≡ ds = same_chances f cs ds u.1 v.1 (All-tail fits c cs p) (All-tail fits d ds q) (rest_among c d cs ds u e g) (rest_among d c ds cs v (sym e) h) in
    both c.output d.output c.of d.of e same_of same_rest
  where
    both : (x y : List ℕ) (r s : Reduced) → x ≡ y → r ≡ s → cs ≡ ds → (let a : Chance = record { output = x; of = r } in let b : Chance = record { output = y; of = s } in a ∷ cs ≡ b ∷ ds)
    both x y r s e o t = cc

possible_among : (leaves : List Point) (cs : List Chance) → All (λ c. share leaves c.output ≢ zero_real) cs → (x : List ℕ) → among x (outputs_of cs) ≡ true → share leaves x ≢ zero_real
possible_among leaves [] h x m = cc
possible_among leaves (c ∷ cs) h x m =
    let is = λ (c : Chance). share leaves c.output ≢ zero_real in
    ⊎_elim
    (λ e. subst (λ y. share leaves y ≢ zero_real) (sym e) (All-head is c cs h))
    (λ n. possible_among leaves cs (All-tail is c cs h) x n)
    (among_cases x c.output (outputs_of cs) m)

pub one_distribution : (leaves : List Point) (first second : List Chance) → IsDistribution leaves first → IsDistribution leaves second → first ≡ second
one_distribution leaves first second d e =
    same_chances (share leaves) first second d.ascending e.ascending d.exact e.exact
    (λ x m. contains_among (outputs_of second) x (e.complete x (possible_among leaves first d.possible x m)))
    (λ x m. contains_among (outputs_of first) x (d.complete x (possible_among leaves second e.possible x m)))
