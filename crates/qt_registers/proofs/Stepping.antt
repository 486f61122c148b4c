-- The first of several runs and those behind it.
use Rattle.std.proofs.Common.{◌≡◌, ℕ, suc, ◌+◌, ◌-◌, ◌*◌, ◌<◌, ◌≤◌, List, [], ◌∷◌, ◌++◌, length, get_or, take, drop, slice_get, sym, ap, ap₂, ◌∙◌, arith, add-mul, append-nil, length-append, take_all}
use Rattle.std.proofs.lemmas.List.{nil_from_length}
use Rattle.qt_registers.specs.Registers.{stepped}
use Rattle.qt_registers.specs.Runs.{qubits_of, run_qubits}
use Rattle.qt_registers.specs.declared.run.Run.{Run}
use Rattle.qt_registers.proofs.Runs.{get_here, get_later, length-run_qubits, stepped-cons, stepped_none}

-- a list behind its first element, as a pattern gives it
abbrev pub behind : {X : Type 0} → List X → List X
behind xs = take (length xs - 1) (drop 1 xs)

pub first_and_behind : {X : Type 0} (xs : List X) (x : X) → 1 ≤ length xs → x ≡ get_or xs 0 x → xs ≡ x ∷ behind xs
first_and_behind [] x some is = absurd (omega arith)
first_and_behind (y ∷ ys) x some is = ap₂ ◌∷◌ (sym is) (sym (take_all (suc (length ys) - 1) ys (omega arith)))

pub no_qubits : (runs : List Run) → length runs < 1 → qubits_of runs ≡ []
unfolding qubits_of
no_qubits runs none = ap qubits_of (nil_from_length runs (omega arith))

module _ (runs : List Run) (run : Run) (some : 1 ≤ length runs) (is : run ≡ get_or runs 0 run) where
  pub get_first : (place : ℕ) → place < run.count → slice_get (qubits_of runs) place ≡ slice_get (run_qubits run) place
  get_first place h = ap (λ rs. slice_get (qubits_of rs) place) (first_and_behind runs run some is) ∙ get_here run (behind runs) place h

  pub get_behind : (place : ℕ) → run.count ≤ place → slice_get (qubits_of (behind runs)) (place - run.count) ≡ slice_get (qubits_of runs) place
  get_behind place h = sym (ap (λ rs. slice_get (qubits_of rs) place) (first_and_behind runs run some is) ∙ get_later run (behind runs) place h)

  pub length-behind : length (qubits_of runs) ≡ run.count + length (qubits_of (behind runs))
  unfolding qubits_of
  length-behind =
      ap (λ rs. length (qubits_of rs)) (first_and_behind runs run some is)
      ∙ length-append (run_qubits run) (qubits_of (behind runs))
      ∙ ap (λ n. n + length (qubits_of (behind runs))) (length-run_qubits run)

  module _ (start step count here : ℕ) (few : here ≤ count) (inside : 0 < here → start + (here - 1) * step < run.count) (outside : here < count → run.count ≤ start + here * step) where
    pub stepped-first : stepped (qubits_of runs) start step count ≡ stepped (run_qubits run) start step here ++ stepped (qubits_of (behind runs)) (start + here * step - run.count) step (count - here)
    stepped-first = ap (λ rs. stepped (qubits_of rs) start step count) (first_and_behind runs run some is) ∙ stepped-cons run (behind runs) start step count here few inside outside

    -- the last place is in the first run
    pub stepped_whole : here ≡ count → stepped (qubits_of runs) start step count ≡ stepped (run_qubits run) start step here
    stepped_whole same =
        let none : count - here ≡ 0 = omega arith in
        stepped-first
        ∙ ap (λ n. stepped (run_qubits run) start step here ++ stepped (qubits_of (behind runs)) (start + here * step - run.count) step n) none
        ∙ ap (λ l. stepped (run_qubits run) start step here ++ l) (stepped_none (qubits_of (behind runs)) (start + here * step - run.count) step)
        ∙ append-nil (stepped (run_qubits run) start step here)

    pub last_behind : (0 < count → start + (count - 1) * step < length (qubits_of runs)) → here < count → start + here * step - run.count + (count - here - 1) * step < length (qubits_of (behind runs))
    last_behind within more =
        let split : count - 1 ≡ here + (count - here - 1) = omega arith in
        let last : start + (count - 1) * step < length (qubits_of runs) = within (omega arith) in
        omega (arith, outside, length-behind, ap (λ n. n * step) split, add-mul here (count - here - 1) step)
