-- The list of chances that a tally gives: it is the distribution of the leaves whose shares the tally holds.
use Rattle.std.proofs.Common.{◌≡◌, ◌≢◌, ℕ, zero, suc, ◌<◌, Bool, true, false, ◌&&◌, cond, Some, List, [], ◌∷◌, ◌++◌, append_assoc, ◌+◌, refl, sym, ap, ◌∙◌, arith, ℤ, pos, negsuc, inl, inr}
use Rattle.std.specs.Prelude.{All, Contains}
use Rattle.std.specs.Cmp.Lexicographic.{slice_cmp}
use Rattle.std.specs.List.{AllByRecursion}
use Rattle.std.specs.List.Sorted.{IsStrictlySortedBy}
use Rattle.std.specs.Map.{lookup, keys_of, values_of}
use Rattle.std.specs.Option.{option_map_or}
use Rattle.std.specs.Ordering.{nat_cmp, ordering_then, MatchOrdering}
use Rattle.std.specs.declared.cmp.Ordering.{Ordering}
use Rattle.std.specs.declared.cmp.Ordering.TheVariants.{Less, Equal, Greater}
use Rattle.std.proofs.lemmas.Cmp.{ranked}
use Rattle.std.proofs.lemmas.List.Elements.{All-nil, All-cons}
use Rattle.std.proofs.lemmas.List.Sums.{sum_by-cons}
use Rattle.std.proofs.lemmas.Map.Keys.{sorted_head, sorted_tail}
use Rattle.qt_ring.specs.Ring.{is_zero}
use Rattle.qt_root2.specs.declared.mass.Mass.{Mass}
use Rattle.qt_root2.specs.declared.mass.Reduced.{Reduced}
use Rattle.qt_root2.specs.Real.{Real, least, zero_real, plus_real}
use Rattle.qt_root2.specs.Masses.{real_of_reduced}
use Rattle.qt_root2.proofs.Masses.{real_of_mass-zero, real_of_mass_zero_only}
use Rattle.qt_root2.proofs.Reals.{IsLeast, plus_real_assoc, plus_real_is_least, zero_real_is_least}
use Rattle.qt_report.specs.declared.distribution.Chance.{Chance}
use Rattle.qt_report.specs.Report.{total_of}
use Rattle.qt_run.specs.Tree.{Point}
use Rattle.qt_run.specs.Distribution.{same_values, share, Before, AllAfter, Ascend, IsDistribution}
use Rattle.qt_run.specs.Tally.{Masses, held, numerators, real_number, whole_part}
use Rattle.qt_run.proofs.Values.{same_values_refl, same_values_eq, differ_same_values, before_differs}
use Rattle.qt_run.proofs.Shares.{among}
use Rattle.qt_run.proofs.Chances.{outputs_of}

abbrev pub is_nothing : Mass → Bool
is_nothing m = is_zero m.a && is_zero m.b

pub reduced_of : Mass → Reduced
reduced_of m = let r = real_number m in record { a = r.a; b = r.b; k = r.k }

real_of_reduced_of : (m : Mass) → real_of_reduced (reduced_of m) ≡ real_number m
unfolding reduced_of
real_of_reduced_of m = refl

-- an entry other than 0 as a chance
abbrev pub listed : List ℕ → Mass → Chance
listed output m = record { output = output; of = reduced_of m }

abbrev pub chances_of : Masses → List Chance
chances_of [] = []
chances_of (e ∷ es) = cond (is_nothing e.1) (chances_of es) (listed e.0 e.1 ∷ chances_of es)

-- ---- where a mass is 0

is_zero_true : (z : ℤ) → is_zero z ≡ true → z ≡ pos 0
is_zero_true (pos zero) h = refl
is_zero_true (pos (suc n)) h = cc
is_zero_true (negsuc n) h = cc

both_true : (x y : Bool) → (x && y) ≡ true → (x ≡ true) × (y ≡ true)
both_true true y h = (refl, h)
both_true false y h = cc

nothing_is_zero : (m : Mass) → is_nothing m ≡ true → real_number m ≡ zero_real
unfolding real_number
nothing_is_zero m h =
    let e = both_true (is_zero m.a) (is_zero m.b) h in
    real_of_mass-zero m (is_zero_true m.a e.0) (is_zero_true m.b e.1)

zero_is_nothing : (m : Mass) → real_number m ≡ zero_real → is_nothing m ≡ true
unfolding real_number
zero_is_nothing m h =
    let e = real_of_mass_zero_only m h in
    ap (λ z. is_zero z && is_zero m.b) e.0 ∙ ap is_zero e.1

pub nothing_where : (r : Bool) (m : Mass) → (r ≡ true → (m.a ≡ pos 0) × (m.b ≡ pos 0)) → ((m.a ≡ pos 0) × (m.b ≡ pos 0) → r ≡ true) → is_nothing m ≡ r
nothing_where true m f g = let e = f refl in ap (λ z. is_zero z && is_zero m.b) e.0 ∙ ap is_zero e.1
nothing_where false m f g = step (is_nothing m) refl
  where
    step : (b : Bool) → is_nothing m ≡ b → b ≡ false
    step true e = let z = both_true (is_zero m.a) (is_zero m.b) e in let t : false ≡ true = g (is_zero_true m.a z.0, is_zero_true m.b z.1) in cc
    step false e = refl

-- ---- the order

less_before : (x y : List ℕ) → slice_cmp nat_cmp x y ≡ Less → Before x y
less_before [] [] h = cc
less_before [] (y ∷ ys) h = tt
less_before (x ∷ xs) [] h = cc
less_before (x ∷ xs) (y ∷ ys) h = step (nat_cmp x y) (ranked x y (nat_cmp x y) refl) (less_before xs ys) h
  where
    step : (o : Ordering) → MatchOrdering o (x < y) (x ≡ y) (y < x) → (slice_cmp nat_cmp xs ys ≡ Less → Before xs ys) → ordering_then o (slice_cmp nat_cmp xs ys) ≡ Less → Before (x ∷ xs) (y ∷ ys)
    step Less m ih e = inl m
    step Equal m ih e = inr (m, ih e)
    step Greater m ih e = cc

abbrev AllLess : List ℕ → Masses → Type 0
AllLess x es = AllByRecursion (λ y. slice_cmp nat_cmp x y ≡ Less) (keys_of es)

after_all : (x : List ℕ) (es : Masses) → AllLess x es → AllAfter x (chances_of es)
after_all x [] h = tt
after_all x (e ∷ es) h = step (is_nothing e.1) (after_all x es h.1)
  where
    step : (b : Bool) → AllAfter x (chances_of es) → AllAfter x (cond b (chances_of es) (listed e.0 e.1 ∷ chances_of es))
    step true ih = ih
    step false ih = (less_before x e.0 h.0, ih)

ascend_chances : (es : Masses) → IsStrictlySortedBy (slice_cmp nat_cmp) (keys_of es) → Ascend (chances_of es)
ascend_chances [] s = tt
ascend_chances (e ∷ es) s =
    step (is_nothing e.1) (ascend_chances es (sorted_tail (slice_cmp nat_cmp) e.0 (keys_of es) s)) (after_all e.0 es (sorted_head (slice_cmp nat_cmp) e.0 (keys_of es) s))
  where
    step : (b : Bool) → Ascend (chances_of es) → AllAfter e.0 (chances_of es) → Ascend (cond b (chances_of es) (listed e.0 e.1 ∷ chances_of es))
    step true ih a = ih
    step false ih a = (a, ih)

-- ---- the values

-- f gives at each output value the mass of its entry
abbrev EachHeld : (List ℕ → Real) → Masses → Type 0
EachHeld f [] = Unit {0}
EachHeld f (e ∷ es) = (f e.0 ≡ real_number e.1) × EachHeld f es

-- entries behind e are found past it
held_behind : (e : List ℕ × Mass) (all rest : Masses) → AllLess e.0 rest → EachHeld (held all) rest → EachHeld (held (e ∷ all)) rest
held_behind e all [] l h = tt
held_behind e all (r ∷ rest) l h =
    let apart : same_values r.0 e.0 ≡ false = differ_same_values r.0 e.0 (λ q. before_differs e.0 r.0 (less_before e.0 r.0 l.0) (sym q)) in
    (ap (λ b. option_map_or real_number (cond b (Some e.1) (lookup (same_values r.0) all)) zero_real) apart ∙ h.0, held_behind e all rest l.1 h.1)

each_held : (es : Masses) → IsStrictlySortedBy (slice_cmp nat_cmp) (keys_of es) → EachHeld (held es) es
each_held [] s = tt
each_held (e ∷ es) s = (
  ap (λ b. option_map_or real_number (cond b (Some e.1) (lookup (same_values e.0) es)) zero_real) (same_values_refl e.0),
  held_behind e es es (sorted_head (slice_cmp nat_cmp) e.0 (keys_of es) s) (each_held es (sorted_tail (slice_cmp nat_cmp) e.0 (keys_of es) s)),
)

same_held : (f g : List ℕ → Real) → ((o : List ℕ) → f o ≡ g o) → (es : Masses) → EachHeld f es → EachHeld g es
same_held f g e [] h = tt
same_held f g e (x ∷ es) h = (sym (e x.0) ∙ h.0, same_held f g e es h.1)

exact_chances : (f : List ℕ → Real) (es : Masses) → EachHeld f es → All (λ c. real_of_reduced c.of ≡ f c.output) (chances_of es)
exact_chances f [] h = All-nil (λ (c : Chance). real_of_reduced c.of ≡ f c.output)
exact_chances f (e ∷ es) h = step (is_nothing e.1) (exact_chances f es h.1)
  where
    step : (b : Bool) → All (λ c. real_of_reduced c.of ≡ f c.output) (chances_of es) → All (λ c. real_of_reduced c.of ≡ f c.output) (cond b (chances_of es) (listed e.0 e.1 ∷ chances_of es))
    step true ih = ih
    step false ih = All-cons (λ (c : Chance). real_of_reduced c.of ≡ f c.output) (listed e.0 e.1) (chances_of es) (real_of_reduced_of e.1 ∙ sym h.0) ih

possible_chances : (f : List ℕ → Real) (es : Masses) → EachHeld f es → All (λ c. f c.output ≢ zero_real) (chances_of es)
possible_chances f [] h = All-nil (λ (c : Chance). f c.output ≢ zero_real)
possible_chances f (e ∷ es) h = step (is_nothing e.1) refl (possible_chances f es h.1)
  where
    step : (b : Bool) → is_nothing e.1 ≡ b → All (λ c. f c.output ≢ zero_real) (chances_of es) → All (λ c. f c.output ≢ zero_real) (cond b (chances_of es) (listed e.0 e.1 ∷ chances_of es))
    step true n ih = ih
    step false n ih =
        All-cons (λ (c : Chance). f c.output ≢ zero_real) (listed e.0 e.1) (chances_of es)
        (λ z. let t : true ≡ false = sym (zero_is_nothing e.1 (sym h.0 ∙ z)) ∙ n in cc)
        ih

complete_chances : (o : List ℕ) (es : Masses) → held es o ≢ zero_real → among o (outputs_of (chances_of es)) ≡ true
complete_chances o [] n = absurd (n refl)
complete_chances o (e ∷ es) n = step (same_values o e.0) refl (complete_chances o es) n
  where
    kept : (b : Bool) → among o (outputs_of (chances_of es)) ≡ true → among o (outputs_of (cond b (chances_of es) (listed e.0 e.1 ∷ chances_of es))) ≡ true
    kept true h = h
    kept false h = either (same_values o e.0) h
      where
        either : (c : Bool) → among o (outputs_of (chances_of es)) ≡ true → cond c true (among o (outputs_of (chances_of es))) ≡ true
        either true g = refl
        either false g = g

    first : (b : Bool) → is_nothing e.1 ≡ b → same_values o e.0 ≡ true → real_number e.1 ≢ zero_real → among o (outputs_of (cond b (chances_of es) (listed e.0 e.1 ∷ chances_of es))) ≡ true
    first true z s m = absurd (m (nothing_is_zero e.1 z))
    first false z s m = ap (λ c. cond c true (among o (outputs_of (chances_of es)))) s

    step : (b : Bool) → same_values o e.0 ≡ b → (held es o ≢ zero_real → among o (outputs_of (chances_of es)) ≡ true)
        → option_map_or real_number (cond b (Some e.1) (lookup (same_values o) es)) zero_real ≢ zero_real → among o (outputs_of (chances_of (e ∷ es))) ≡ true
    step true s ih m = first (is_nothing e.1) refl s m
    step false s ih m = kept (is_nothing e.1) (ih m)

among_contains : (xs : List (List ℕ)) (x : List ℕ) → among x xs ≡ true → Contains xs x
among_contains [] x h = cc
among_contains (y ∷ ys) x h = step (same_values x y) refl (among_contains ys x) h
  where
    step : (b : Bool) → same_values x y ≡ b → (among x ys ≡ true → Contains ys x) → cond b true (among x ys) ≡ true → Contains (y ∷ ys) x
    step true e ih f = (zero, omega arith, sym (same_values_eq x y e))
    step false e ih f = let c = ih f in (suc c.0, omega (arith, c.1), c.2)

-- the chances of a tally are the distribution of all leaves whose shares it holds
pub chances_distribution : (es : Masses) → IsStrictlySortedBy (slice_cmp nat_cmp) (keys_of es) → (leaves : List Point) → ((o : List ℕ) → held es o ≡ share leaves o) → IsDistribution leaves (chances_of es)
chances_distribution es s leaves h =
    let each : EachHeld (share leaves) es = same_held (held es) (share leaves) h es (each_held es s) in
    record {
      ascending = ascend_chances es s;
      exact = exact_chances (share leaves) es each;
      possible = possible_chances (share leaves) es each;
      complete = λ o n. among_contains (outputs_of (chances_of es)) o (complete_chances o es (λ z. n (sym (h o) ∙ z)));
    }

-- ---- the total

pub total_of_is_least : (cs : List Chance) → IsLeast (total_of cs)
total_of_is_least [] = zero_real_is_least
total_of_is_least (c ∷ cs) = plus_real_is_least (real_of_reduced c.of) (total_of cs)

-- one more entry goes from those that are left to the sum so far
total_more : (t : Real) (o : List ℕ) (m : Mass) (es : Masses) → is_nothing m ≡ false → plus_real t (total_of (chances_of ((o, m) ∷ es))) ≡ plus_real (plus_real t (real_number m)) (total_of (chances_of es))
total_more t o m es n =
    ap (λ b. plus_real t (total_of (cond b (chances_of es) (listed o m ∷ chances_of es)))) n
    ∙ ap (λ r. plus_real t (plus_real r (total_of (chances_of es)))) (real_of_reduced_of m)
    ∙ sym (plus_real_assoc t (real_number m) (total_of (chances_of es)))

-- ---- one more entry goes from those that are left to the list

pub listed_more : (xs all : List Chance) (rest es : Masses) (o : List ℕ) (m : Mass) (c : Chance) → rest ≡ (o, m) ∷ es → is_nothing m ≡ false → c ≡ listed o m
    → xs ++ chances_of rest ≡ all → (xs ++ c ∷ []) ++ chances_of es ≡ all
listed_more xs all rest es o m c r n e h =
    append_assoc xs (c ∷ []) (chances_of es)
    ∙ ap (λ x. xs ++ (x ∷ chances_of es)) e
    ∙ ap (λ b. xs ++ cond b (chances_of es) (listed o m ∷ chances_of es)) (sym n)
    ∙ ap (λ x. xs ++ chances_of x) (sym r)
    ∙ h

pub nothing_more : (rest es : Masses) (o : List ℕ) (m : Mass) → rest ≡ (o, m) ∷ es → is_nothing m ≡ true → chances_of rest ≡ chances_of es
nothing_more rest es o m r n = ap chances_of r ∙ ap (λ b. cond b (chances_of es) (listed o m ∷ chances_of es)) n

pub summed_more : (t v all : Real) (rest es : Masses) (o : List ℕ) (m : Mass) → rest ≡ (o, m) ∷ es → is_nothing m ≡ false → v ≡ plus_real t (real_number m)
    → plus_real t (total_of (chances_of rest)) ≡ all → plus_real v (total_of (chances_of es)) ≡ all
summed_more t v all rest es o m r n e h =
    ap (λ x. plus_real x (total_of (chances_of es))) e ∙ sym (total_more t o m es n) ∙ ap (λ x. plus_real t (total_of (chances_of x))) (sym r) ∙ h

pub numerators_more : (rest es : Masses) (o : List ℕ) (m : Mass) → rest ≡ (o, m) ∷ es → numerators rest ≡ whole_part m + numerators es
numerators_more rest es o m r = ap numerators r ∙ sum_by-cons whole_part m (values_of es)

pub real_number_zero : (m : Mass) → m.a ≡ pos 0 → m.b ≡ pos 0 → real_number m ≡ zero_real
unfolding real_number
real_number_zero m a b = real_of_mass-zero m a b

pub reduced_of_is : (m : Mass) (r : Reduced) → (let x : Real = record { a = r.a; b = r.b; k = r.k } in x ≡ least 96 m.a m.b) → r ≡ reduced_of m
unfolding reduced_of real_number
reduced_of_is m r e =
    let f : Real → Reduced = λ x. record { a = x.a; b = x.b; k = x.k } in
    ap f e

pub real_number_of_reduced : (m : Mass) (r : Reduced) → (let x : Real = record { a = r.a; b = r.b; k = r.k } in x ≡ least 96 m.a m.b) → real_of_reduced r ≡ real_number m
unfolding real_number
real_number_of_reduced m r e = e

pub listed_is : (o p : List ℕ) (r : Reduced) (m : Mass) → o ≡ p → r ≡ reduced_of m → (let c : Chance = record { output = o; of = r } in c ≡ listed p m)
listed_is o p r m e f = cc
