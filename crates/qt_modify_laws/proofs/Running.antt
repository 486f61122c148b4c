-- The steps run one after another: the cells then hold what they give, and a run faults where one gives nothing.
use mathlib.Core.Path.{fun_ext}
use borrow.Author.Tests.{eqb-true}
use Rattle.std.proofs.Common.{◌≡◌, ℕ, suc, ◌<◌, nat_eq, Bool, true, false, List, [], ◌∷◌, refl, sym, ap, subst, ◌∙◌, arith, eq-eqb, Some, None}
use Rattle.std.specs.Prelude.{ℤ, if◌then◌else◌}
use Rattle.qt_gate_calls.specs.Units.{KnownUnits, of_one, of_two, sum_of, difference_of, negative_of, product_of, quotient_of}
use Rattle.qt_instructions.specs.declared.angle.AngleArg.{AngleArg}
use Rattle.qt_instructions.specs.declared.angle.AngleArg.TheVariants as arg
use Rattle.qt_instructions.specs.declared.angle.AngleStep.{AngleStep}
use Rattle.qt_instructions.specs.declared.angle.AngleStep.TheVariants.{Add, Sub, Neg, Times, Over}
use Rattle.qt_modify.specs.Reckoning.{Cells, held, result_of}
use Rattle.qt_modify_laws.specs.Laws.{Hold, IsKnown, StepsKnown}
use Rattle.qt_modify_laws.specs.Running.{UnitCells, known_in, with_units, unless_fault, run_from}
use Rattle.qt_modify_laws.proofs.Below.{ArgBelow, StepBelow, StepsBelow}

-- ---- a cell that is written

written : {A : Type 0} (cell : ℕ) (a b : A) → (if nat_eq cell cell then a else b) ≡ a
written cell a b = ap (λ t. if t then a else b) (eq-eqb cell cell refl)

unwritten_by : {A : Type 0} (cell other : ℕ) (t : Bool) (a b : A) → nat_eq cell other ≡ t → other < cell → (if t then a else b) ≡ b
unwritten_by cell other true a b e l = let s : cell ≡ other = eqb-true cell other e in absurd (omega arith)
unwritten_by cell other false a b e l = refl

unwritten : {A : Type 0} (cell other : ℕ) (a b : A) → other < cell → (if nat_eq cell other then a else b) ≡ b
unwritten cell other a b l = unwritten_by cell other (nat_eq cell other) a b refl l

-- ---- what a step gives rests on the cells before its own alone

held_same : (cells more : Cells) (n : ℕ) (a : AngleArg) → ((c : ℕ) → c < n → more c ≡ cells c) → ArgBelow n a → held more a ≡ held cells a
held_same cells more n (arg.Units z) h b = refl
held_same cells more n (arg.Work c) h b = h c b

two_same : (f : ℤ → ℤ → KnownUnits) (cells more : Cells) (n : ℕ) (a b : AngleArg) → ((c : ℕ) → c < n → more c ≡ cells c) → ArgBelow n a
    → ArgBelow n b → of_two f (held more a) (held more b) ≡ of_two f (held cells a) (held cells b)
two_same f cells more n a b h i j =
    ap (λ t. of_two f t (held more b)) (held_same cells more n a h i) ∙ ap (of_two f (held cells a)) (held_same cells more n b h j)

pub result_same : (cells more : Cells) (n : ℕ) (step : AngleStep) → ((c : ℕ) → c < n → more c ≡ cells c) → StepBelow n step
    → result_of more step ≡ result_of cells step
result_same cells more n (Add a b) h i = two_same sum_of cells more n a b h i.0 i.1
result_same cells more n (Sub a b) h i = two_same difference_of cells more n a b h i.0 i.1
result_same cells more n (Neg a) h i = ap (of_one negative_of) (held_same cells more n a h i)
result_same cells more n (Times a k) h i = ap (of_one (product_of k)) (held_same cells more n a h i)
result_same cells more n (Over a k) h i = ap (of_one (quotient_of k)) (held_same cells more n a h i)

-- ---- a run without a fault

cells_are : (a b : UnitCells) → Some a ≡ Some b → a ≡ b
cells_are a b e = cc

no_cells : {A : Type 0} (b : UnitCells) → None ≡ Some b → A
no_cells b e = absurd (cc)

pub run_keeps : (next : ℕ) (steps : List AngleStep) (cells new : UnitCells) → run_from next steps cells ≡ Some new → (c : ℕ) → c < next
    → new c ≡ cells c
run_keeps next [] cells new e c l = ap (λ (t : UnitCells). t c) (sym (cells_are cells new e))
run_keeps next (step ∷ steps) cells new e c l =
    go (result_of (known_in cells) step) e (λ z f. run_keeps (suc next) steps (with_units next z cells) new f c (omega arith))
  where
    go : (r : KnownUnits) → unless_fault r (λ units. run_from (suc next) steps (with_units next units cells)) ≡ Some new
        → ((z : ℤ) → run_from (suc next) steps (with_units next z cells) ≡ Some new → new c ≡ with_units next z cells c) → new c ≡ cells c
    go None e later = no_cells new e
    go (Some z) e later = later z e ∙ unwritten next c z (cells c) l

known_keeps : (next : ℕ) (cells new : UnitCells) → ((c : ℕ) → c < next → new c ≡ cells c) → (c : ℕ) → c < next → known_in new c ≡ known_in cells c
known_keeps next cells new h c l = ap Some (h c l)

pub run_holds : (next : ℕ) (steps : List AngleStep) (cells new : UnitCells) → StepsBelow next steps → run_from next steps cells ≡ Some new
    → Hold (known_in new) next steps
run_holds next [] cells new b e = tt
run_holds next (step ∷ steps) cells new b e =
    go (result_of (known_in cells) step) refl e (λ z f. run_holds (suc next) steps (with_units next z cells) new b.1 f)
  where
    go : (r : KnownUnits) → result_of (known_in cells) step ≡ r
        → unless_fault r (λ units. run_from (suc next) steps (with_units next units cells)) ≡ Some new
        → ((z : ℤ) → run_from (suc next) steps (with_units next z cells) ≡ Some new → Hold (known_in new) (suc next) steps)
        → Hold (known_in new) next (step ∷ steps)
    go None g f later = no_cells new f
    go (Some z) g f later =
        let here : new next ≡ z =
        run_keeps (suc next) steps (with_units next z cells) new f next (omega arith) ∙ written next z (cells next) in (
          ap Some here ∙ sym g
              ∙ sym (result_same (known_in cells) (known_in new) next step (known_keeps next cells new (run_keeps next (step ∷ steps) cells new e)) b.0),
          later z f,
        )

-- ---- a run that goes on behind faults, in cells of which nothing is known

abbrev with_known : ℕ → KnownUnits → Cells → Cells
with_known cell units cells other = if nat_eq cell other then units else cells other

abbrev pub known_run : ℕ → List AngleStep → Cells → Cells
known_run next [] cells = cells
known_run next (step ∷ steps) cells = known_run (suc next) steps (with_known next (result_of cells step) cells)

pub known_run_keeps : (next : ℕ) (steps : List AngleStep) (cells : Cells) (c : ℕ) → c < next → known_run next steps cells c ≡ cells c
known_run_keeps next [] cells c l = refl
known_run_keeps next (step ∷ steps) cells c l =
    known_run_keeps (suc next) steps (with_known next (result_of cells step) cells) c (omega arith)
    ∙ unwritten next c (result_of cells step) (cells c) l

known_run_writes : (next : ℕ) (step : AngleStep) (steps : List AngleStep) (cells : Cells)
    → known_run next (step ∷ steps) cells next ≡ result_of cells step
known_run_writes next step steps cells =
    known_run_keeps (suc next) steps (with_known next (result_of cells step) cells) next (omega arith)
    ∙ written next (result_of cells step) (cells next)

pub known_run_holds : (next : ℕ) (steps : List AngleStep) (cells : Cells) → StepsBelow next steps → Hold (known_run next steps cells) next steps
known_run_holds next [] cells b = tt
known_run_holds next (step ∷ steps) cells b = (
  known_run_writes next step steps cells
      ∙ sym (result_same cells (known_run next (step ∷ steps) cells) next step (known_run_keeps next (step ∷ steps) cells) b.0),
  known_run_holds (suc next) steps (with_known next (result_of cells step) cells) b.1,
)

known_written : (next : ℕ) (z : ℤ) (cells : UnitCells) → with_known next (Some z) (known_in cells) ≡ known_in (with_units next z cells)
known_written next z cells = fun_ext (λ c. by (nat_eq next c) z (cells c))
  where
    by : (t : Bool) (x y : ℤ) → (if t then Some x else Some y) ≡ Some (if t then x else y)
    by true x y = refl
    by false x y = refl

some_cells : {A : Type 0} (a : UnitCells) → Some a ≡ None → A
some_cells a e = absurd (cc)

-- where a run faults, some step gives nothing
pub run_faults : (next : ℕ) (steps : List AngleStep) (cells : UnitCells) → run_from next steps cells ≡ None
    → StepsKnown (known_run next steps (known_in cells)) next steps → ⊥
run_faults next [] cells e k = some_cells cells e
run_faults next (step ∷ steps) cells e k =
    go (result_of (known_in cells) step) refl e (λ z f h. run_faults (suc next) steps (with_units next z cells) f h)
  where
    go : (r : KnownUnits) → result_of (known_in cells) step ≡ r
        → unless_fault r (λ units. run_from (suc next) steps (with_units next units cells)) ≡ None
        → ((z : ℤ) → run_from (suc next) steps (with_units next z cells) ≡ None
        → StepsKnown (known_run (suc next) steps (known_in (with_units next z cells))) (suc next) steps → ⊥)
        → ⊥
    go None g f later = subst IsKnown (known_run_writes next step steps (known_in cells) ∙ g) k.0
    go (Some z) g f later =
        later z f
        (subst (λ (x : Cells). StepsKnown (known_run (suc next) steps x) (suc next) steps)
        (ap (λ (r : KnownUnits). with_known next r (known_in cells)) g ∙ known_written next z cells) k.1)
