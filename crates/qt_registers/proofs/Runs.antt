-- The qubits of a run and of several runs, by their places.
use Rattle.std.proofs.Common.{◌≡◌, ℕ, zero, suc, ◌+◌, ◌-◌, ◌*◌, ◌^◌, ◌<◌, ◌≤◌, min, List, [], ◌∷◌, ◌++◌, map, length, slice_get, Some, refl, sym, ap, ap₂, ◌∙◌, arith, append-nil, append_assoc, length-append, mul-le-mul_left}
use Rattle.std.specs.Option.{option_map}
use Rattle.std.proofs.lemmas.Option.{slice_get-map}
use Rattle.std.proofs.lemmas.List.{length-map}
use Rattle.qt_registers.specs.Origins.{bound_of, qubit_of}
use Rattle.qt_registers.specs.Registers.{parameter_qubits, program_qubits, progression, stepped}
use Rattle.qt_registers.specs.Runs.{qubits_of, run_qubits}
use Rattle.qt_registers.specs.declared.fixed.FixedQubit.{FixedQubit}
use Rattle.qt_registers.specs.declared.run.Origin.TheVariants as origin
use Rattle.qt_registers.specs.declared.run.Run.{Run}
use Rattle.qt_registers.proofs.Numbers.{bound_of-le, number_within, place_within}
use Rattle.qt_registers.proofs.Progressions.{length-progression, length-stepped, slice_get-progression, progression_same, slice_get-append_left, slice_get-append_right, stepped-append, stepped-map}

-- ---- a run

pub length-run_qubits : (run : Run) → length (run_qubits run) ≡ run.count
unfolding run_qubits
length-run_qubits run = length-map (progression run.first run.step run.count) (qubit_of run.origin) ∙ length-progression run.first run.step run.count

pub slice_get-run_qubits : (run : Run) (place : ℕ) → place < run.count → slice_get (run_qubits run) place ≡ Some (qubit_of run.origin (run.first + place * run.step))
unfolding run_qubits
slice_get-run_qubits run place h =
    slice_get-map (qubit_of run.origin) (progression run.first run.step run.count) place
    ∙ ap (option_map (qubit_of run.origin)) (slice_get-progression run.first run.step run.count place h)

pub program_run : (run : Run) (first count : ℕ) → run.origin ≡ origin.Program → run.first ≡ first → run.step ≡ 1 → run.count ≡ count → run_qubits run ≡ program_qubits first count
unfolding run_qubits program_qubits
program_run run first count same_origin same_first same_step same_count =
    ap₂ (λ o f. map (qubit_of o) (progression f run.step run.count)) same_origin same_first
    ∙ ap₂ (λ s n. map (qubit_of origin.Program) (progression first s n)) same_step same_count

pub program_none : (first : ℕ) → program_qubits first 0 ≡ []
unfolding program_qubits progression
program_none first = refl

pub parameter_run : (run : Run) (parameter size : ℕ) → run.origin ≡ origin.Parameter parameter → run.first ≡ 0 → run.step ≡ 1 → run.count ≡ size → run_qubits run ≡ parameter_qubits parameter size
unfolding run_qubits parameter_qubits
parameter_run run parameter size same_origin same_first same_step same_count =
    ap₂ (λ o f. map (qubit_of o) (progression f run.step run.count)) same_origin same_first
    ∙ ap₂ (λ s n. map (qubit_of (origin.Parameter parameter)) (progression 0 s n)) same_step same_count

pub parameter_none : (parameter : ℕ) → parameter_qubits parameter 0 ≡ []
unfolding parameter_qubits progression
parameter_none parameter = refl

pub one_qubit : (run : Run) → run.count ≡ 1 → run_qubits run ≡ qubit_of run.origin run.first ∷ []
unfolding run_qubits progression
one_qubit run one = ap (λ n. map (qubit_of run.origin) (progression run.first run.step n)) one

-- ---- several runs

pub qubits_of-append : (runs more : List Run) → qubits_of (runs ++ more) ≡ qubits_of runs ++ qubits_of more
unfolding qubits_of
qubits_of-append [] more = refl
qubits_of-append (run ∷ runs) more = ap (λ l. run_qubits run ++ l) (qubits_of-append runs more) ∙ sym (append_assoc (run_qubits run) (qubits_of runs) (qubits_of more))

pub qubits_of-one : (run : Run) → qubits_of (run ∷ []) ≡ run_qubits run
unfolding qubits_of
qubits_of-one run = append-nil (run_qubits run)

pub qubits_of-push : (runs : List Run) (run : Run) → qubits_of (runs ++ run ∷ []) ≡ qubits_of runs ++ run_qubits run
qubits_of-push runs run = qubits_of-append runs (run ∷ []) ∙ ap (λ l. qubits_of runs ++ l) (qubits_of-one run)

pub get_here : (run : Run) (runs : List Run) (place : ℕ) → place < run.count → slice_get (qubits_of (run ∷ runs)) place ≡ slice_get (run_qubits run) place
unfolding qubits_of
get_here run runs place h = slice_get-append_left (run_qubits run) (qubits_of runs) place (omega (arith, length-run_qubits run))

pub get_later : (run : Run) (runs : List Run) (place : ℕ) → run.count ≤ place → slice_get (qubits_of (run ∷ runs)) place ≡ slice_get (qubits_of runs) (place - run.count)
unfolding qubits_of
get_later run runs place h =
    let at : place ≡ length (run_qubits run) + (place - run.count) = omega (arith, length-run_qubits run) in
    ap (slice_get (run_qubits run ++ qubits_of runs)) at ∙ slice_get-append_right (run_qubits run) (qubits_of runs) (place - run.count)

-- ---- at every so many places

pub stepped_none : (qubits : List FixedQubit) (start step : ℕ) → stepped qubits start step 0 ≡ []
unfolding stepped progression
stepped_none qubits start step = refl

-- the numbers of some of a run's qubits stay within its origin
pub stepped_within : (run : Run) (start step count : ℕ) → start + (count - 1) * step < run.count → run.first + start * run.step + (count - 1) * min (run.step * step) (2 ^ 64 - 1) < bound_of run.origin
stepped_within run start step count inside =
    let last = number_within run (start + (count - 1) * step) inside in
    let le : min (run.step * step) (2 ^ 64 - 1) ≤ run.step * step = omega arith in
    omega (arith, mul-le-mul_left (count - 1) le, last)

-- a step that leads from one qubit of a run to another is small
step_fits : (run : Run) (start step count : ℕ) → 2 ≤ count → start + (count - 1) * step < run.count → run.step * step < 2 ^ 63
step_fits run start step count two inside =
    let here : start + 1 * step < run.count = place_within start step count run.count inside 1 (omega arith) in
    let le : step ≤ run.count - 1 = omega arith in
    let less : (run.count - 1) * run.step < 2 ^ 63 = omega (arith, run.within, bound_of-le run.origin) in
    omega (arith, mul-le-mul_left run.step le)

pub run_qubits-stepped : (run new : Run) (start step count : ℕ) → start + (count - 1) * step < run.count → new.origin ≡ run.origin → new.first ≡ run.first + start * run.step → new.step ≡ min (run.step * step) (2 ^ 64 - 1) → new.count ≡ count → run_qubits new ≡ stepped (run_qubits run) start step count
unfolding run_qubits
run_qubits-stepped run new start step count inside same_origin same_first same_step same_count =
    let by : 2 ≤ count → min (run.step * step) (2 ^ 64 - 1) ≡ run.step * step = λ two. omega (arith, step_fits run start step count two inside) in
    ap₂ (λ o f. map (qubit_of o) (progression f new.step new.count)) same_origin same_first
    ∙ ap₂ (λ s n. map (qubit_of run.origin) (progression (run.first + start * run.step) s n)) same_step same_count
    ∙ ap (map (qubit_of run.origin)) (progression_same (run.first + start * run.step) (min (run.step * step) (2 ^ 64 - 1)) (run.step * step) count by)
    ∙ sym (stepped-map (qubit_of run.origin) run.first run.step run.count start step count (place_within start step count run.count inside))

pub stepped_empty : (qubits : List FixedQubit) (start step count : ℕ) → qubits ≡ [] → (0 < count → start + (count - 1) * step < length qubits) → stepped qubits start step count ≡ []
stepped_empty qubits start step zero empty within = stepped_none qubits start step
stepped_empty qubits start step (suc n) empty within = absurd (omega (arith, within (omega arith), ap length empty))

-- as many qubits as there are places
pub length_stepped : (qubits : List FixedQubit) (start step count : ℕ) → (0 < count → start + (count - 1) * step < length qubits) → length (stepped qubits start step count) ≡ count
length_stepped qubits start step count within =
    length-stepped qubits start step count (λ i l. place_within start step count (length qubits) (within (omega arith)) i l)

-- the places in the first run, and those behind it
pub stepped-cons : (run : Run) (runs : List Run) (start step count here : ℕ) → here ≤ count → (0 < here → start + (here - 1) * step < run.count) → (here < count → run.count ≤ start + here * step) → stepped (qubits_of (run ∷ runs)) start step count ≡ stepped (run_qubits run) start step here ++ stepped (qubits_of runs) (start + here * step - run.count) step (count - here)
unfolding qubits_of
stepped-cons run runs start step count here few inside outside =
    let size = length-run_qubits run in
    let all : count ≡ here + (count - here) = omega arith in
    let within : (i : ℕ) → i < here → start + i * step < length (run_qubits run) = λ i l. let p = place_within start step here run.count (inside (omega arith)) i l in omega (arith, p, size) in
    ap (stepped (run_qubits run ++ qubits_of runs) start step) all
    ∙ stepped-append (run_qubits run) (qubits_of runs) start step here (count - here) within (λ more. let p = outside (omega arith) in omega (arith, p, size))
    ∙ ap (λ n. stepped (run_qubits run) start step here ++ stepped (qubits_of runs) (start + here * step - n) step (count - here)) size

pub ruleset placed = (slice_get-run_qubits)

pub ruleset program = (program_run, program_none)

pub ruleset parameter = (parameter_run, parameter_none)

pub ruleset one = (qubits_of-one, length-run_qubits)

pub ruleset appended = (qubits_of-append, length-append)

pub ruleset pushed = (qubits_of-push, stepped_none, append-nil)

pub ruleset of_one_qubit = (one_qubit)

pub ruleset pushed_one = (qubits_of-push, length-append)
