-- Registers and runs that share a qubit.
use Rattle.std.proofs.Common.{◌≡◌, ℕ, zero, suc, ◌+◌, ◌*◌, ◌<◌, ◌≤◌, List, [], ◌∷◌, ◌++◌, length, get_or, slice_get, Some, refl, sym, ap, ◌∙◌, subst}
use Rattle.std.specs.Prelude.{◌⊎◌}
use mathlib.Core.Logic.{inl, inr}
use Rattle.std.proofs.lemmas.Option.{slice_get_within}
use Rattle.qt_registers.specs.Origins.{qubit_of}
use Rattle.qt_registers.specs.Registers.{Holds, Overlap}
use Rattle.qt_registers.specs.Runs.{HasNumber, Meet, qubits_of, run_qubits}
use Rattle.qt_registers.specs.declared.fixed.FixedQubit.{FixedQubit}
use Rattle.qt_registers.specs.declared.run.Origin.{Origin}
use Rattle.qt_registers.specs.declared.run.Origin.TheVariants as origin
use Rattle.qt_registers.specs.declared.run.Run.{Run}
use Rattle.qt_registers.proofs.Progressions.{slice_get-append_left, slice_get-append_right}
use Rattle.qt_registers.proofs.Runs.{length-run_qubits, slice_get-run_qubits}
use Rattle.qt_registers.proofs.Stepping.{behind, first_and_behind, no_qubits}

-- ---- lists

holds_nil : (qubit : FixedQubit) → Holds [] qubit → ⊥
holds_nil qubit h = cc h.1

module _ (qubit : FixedQubit) where
  held_in_part : (xs ys : List FixedQubit) (place : ℕ) → slice_get (xs ++ ys) place ≡ Some qubit → Holds xs qubit ⊎ Holds ys qubit
  held_in_part [] ys place is = inr (place, is)
  held_in_part (x ∷ xs) ys zero is = inl (zero, is)
  held_in_part (x ∷ xs) ys (suc place) is = later (held_in_part xs ys place is)
    where
      later : Holds xs qubit ⊎ Holds ys qubit → Holds (x ∷ xs) qubit ⊎ Holds ys qubit
      later (inl h) = inl (suc h.0, h.1)
      later (inr h) = inr h

  held_left : (xs ys : List FixedQubit) → Holds xs qubit → Holds (xs ++ ys) qubit
  held_left xs ys h = (h.0, slice_get-append_left xs ys h.0 (slice_get_within xs h.0 qubit h.1) ∙ h.1)

  held_right : (xs ys : List FixedQubit) → Holds ys qubit → Holds (xs ++ ys) qubit
  held_right xs ys h = (length xs + h.0, slice_get-append_right xs ys h.0 ∙ h.1)

pub overlap_sym : (xs ys : List FixedQubit) → Overlap xs ys → Overlap ys xs
overlap_sym xs ys h = (h.0, h.2, h.1)

overlap_nil : (xs : List FixedQubit) → Overlap xs [] → ⊥
overlap_nil xs h = holds_nil h.0 h.2

module _ (xs ys zs : List FixedQubit) where
  overlap_part : Overlap xs (ys ++ zs) → Overlap xs ys ⊎ Overlap xs zs
  overlap_part h = parted (held_in_part h.0 ys zs h.2.0 h.2.1)
    where
      parted : Holds ys h.0 ⊎ Holds zs h.0 → Overlap xs ys ⊎ Overlap xs zs
      parted (inl there) = inl (h.0, h.1, there)
      parted (inr there) = inr (h.0, h.1, there)

  overlap_left : Overlap xs ys → Overlap xs (ys ++ zs)
  overlap_left h = (h.0, h.1, held_left h.0 ys zs h.2)

  overlap_right : Overlap xs zs → Overlap xs (ys ++ zs)
  overlap_right h = (h.0, h.1, held_right h.0 ys zs h.2)

-- ---- the first of several runs and those behind it

module _ (xs : List FixedQubit) (runs : List Run) where
  pub overlaps_none : length runs < 1 → Overlap xs (qubits_of runs) → ⊥
  overlaps_none none h = overlap_nil xs (subst (λ l. Overlap xs l) (no_qubits runs none) h)

  module _ (run : Run) (some : 1 ≤ length runs) (is : run ≡ get_or runs 0 run) where
    split : qubits_of runs ≡ run_qubits run ++ qubits_of (behind runs)
    unfolding qubits_of
    split = ap qubits_of (first_and_behind runs run some is)

    pub overlaps_first : Overlap xs (run_qubits run) → Overlap xs (qubits_of runs)
    overlaps_first h = subst (λ l. Overlap xs l) (sym split) (overlap_left xs (run_qubits run) (qubits_of (behind runs)) h)

    pub overlaps_behind : Overlap xs (qubits_of (behind runs)) → Overlap xs (qubits_of runs)
    overlaps_behind h = subst (λ l. Overlap xs l) (sym split) (overlap_right xs (run_qubits run) (qubits_of (behind runs)) h)

    pub overlaps_later : (Overlap xs (run_qubits run) → ⊥) → Overlap xs (qubits_of runs) → Overlap xs (qubits_of (behind runs))
    overlaps_later not h = other (overlap_part xs (run_qubits run) (qubits_of (behind runs)) (subst (λ l. Overlap xs l) split h))
      where
        other : Overlap xs (run_qubits run) ⊎ Overlap xs (qubits_of (behind runs)) → Overlap xs (qubits_of (behind runs))
        other (inl here) = absurd (not here)
        other (inr there) = there

-- the same of one qubit
module _ (qubit : FixedQubit) (runs : List Run) where
  pub held_by_none : length runs < 1 → Holds (qubits_of runs) qubit → ⊥
  held_by_none none h = holds_nil qubit (subst (λ l. Holds l qubit) (no_qubits runs none) h)

  module _ (run : Run) (some : 1 ≤ length runs) (is : run ≡ get_or runs 0 run) where
    parts : qubits_of runs ≡ run_qubits run ++ qubits_of (behind runs)
    unfolding qubits_of
    parts = ap qubits_of (first_and_behind runs run some is)

    pub held_by_first : Holds (run_qubits run) qubit → Holds (qubits_of runs) qubit
    held_by_first h = subst (λ l. Holds l qubit) (sym parts) (held_left qubit (run_qubits run) (qubits_of (behind runs)) h)

    pub held_behind : Holds (qubits_of (behind runs)) qubit → Holds (qubits_of runs) qubit
    held_behind h = subst (λ l. Holds l qubit) (sym parts) (held_right qubit (run_qubits run) (qubits_of (behind runs)) h)

    pub held_later : (Holds (run_qubits run) qubit → ⊥) → Holds (qubits_of runs) qubit → Holds (qubits_of (behind runs)) qubit
    held_later not h = other (held_in_part qubit (run_qubits run) (qubits_of (behind runs)) h'.0 h'.1)
      where
        h' : Holds (run_qubits run ++ qubits_of (behind runs)) qubit
        h' = subst (λ l. Holds l qubit) parts h

        other : Holds (run_qubits run) qubit ⊎ Holds (qubits_of (behind runs)) qubit → Holds (qubits_of (behind runs)) qubit
        other (inl here) = absurd (not here)
        other (inr there) = there

-- the same from the other side
module _ (xs : List FixedQubit) (runs : List Run) where
  pub none_overlaps : length runs < 1 → Overlap (qubits_of runs) xs → ⊥
  none_overlaps none h = overlaps_none xs runs none (overlap_sym (qubits_of runs) xs h)

  module _ (run : Run) (some : 1 ≤ length runs) (is : run ≡ get_or runs 0 run) where
    pub first_overlaps : Overlap (run_qubits run) xs → Overlap (qubits_of runs) xs
    first_overlaps h = overlap_sym xs (qubits_of runs) (overlaps_first xs runs run some is (overlap_sym (run_qubits run) xs h))

    pub behind_overlaps : Overlap (qubits_of (behind runs)) xs → Overlap (qubits_of runs) xs
    behind_overlaps h = overlap_sym xs (qubits_of runs) (overlaps_behind xs runs run some is (overlap_sym (qubits_of (behind runs)) xs h))

    pub later_overlaps : (Overlap (run_qubits run) xs → ⊥) → Overlap (qubits_of runs) xs → Overlap (qubits_of (behind runs)) xs
    later_overlaps not h =
        let other : Overlap xs (run_qubits run) → ⊥ = λ o. not (overlap_sym xs (run_qubits run) o) in
        overlap_sym xs (qubits_of (behind runs)) (overlaps_later xs runs run some is other (overlap_sym (qubits_of runs) xs h))

-- ---- runs

qubit_of-same : (o p : Origin) (m n : ℕ) → qubit_of o m ≡ qubit_of p n → (o ≡ p) × (m ≡ n)
qubit_of-same origin.Program origin.Program m n h = (refl, cc h)
qubit_of-same origin.Program (origin.Parameter b) m n h = cc h
qubit_of-same (origin.Parameter a) origin.Program m n h = cc h
qubit_of-same (origin.Parameter a) (origin.Parameter b) m n h = (cc h, cc h)

run_holds : (run : Run) (qubit : FixedQubit) → Holds (run_qubits run) qubit → (place : ℕ) × (place < run.count) × (qubit_of run.origin (run.first + place * run.step) ≡ qubit)
run_holds run qubit h =
    let below : h.0 < run.count = subst (λ n. h.0 < n) (length-run_qubits run) (slice_get_within (run_qubits run) h.0 qubit h.1) in
    let same : Some (qubit_of run.origin (run.first + h.0 * run.step)) ≡ Some qubit = sym (slice_get-run_qubits run h.0 below) ∙ h.1 in
    (h.0, below, cc same)

number_held : (run : Run) (number : ℕ) → HasNumber run number → Holds (run_qubits run) (qubit_of run.origin number)
number_held run number h = (h.0, slice_get-run_qubits run h.0 h.1 ∙ ap (λ n. Some (qubit_of run.origin n)) h.2)

-- a qubit by where it is counted and its number there
module _ (run : Run) (o : Origin) (number : ℕ) (qubit : FixedQubit) (is : qubit_of o number ≡ qubit) where
  counted_there : (h : Holds (run_qubits run) qubit) → (run.origin ≡ o) × (run.first + (run_holds run qubit h).0 * run.step ≡ number)
  counted_there h = qubit_of-same run.origin o _ number ((run_holds run qubit h).2 ∙ sym is)

  pub origin_of_held : Holds (run_qubits run) qubit → run.origin ≡ o
  origin_of_held h = (counted_there h).0

  pub number_of_held : Holds (run_qubits run) qubit → HasNumber run number
  number_of_held h = ((run_holds run qubit h).0, (run_holds run qubit h).1, (counted_there h).1)

  pub held_by_number : run.origin ≡ o → HasNumber run number → Holds (run_qubits run) qubit
  held_by_number same h = subst (λ q. Holds (run_qubits run) q) (ap (λ p. qubit_of p number) same ∙ is) (number_held run number h)

module _ (left right : Run) where
  pub same_origin : Overlap (run_qubits left) (run_qubits right) → left.origin ≡ right.origin
  same_origin h =
      let l = run_holds left h.0 h.1 in
      let r = run_holds right h.0 h.2 in
      (qubit_of-same left.origin right.origin _ _ (l.2 ∙ sym r.2)).0

  pub overlap_meets : Overlap (run_qubits left) (run_qubits right) → Meet left right
  overlap_meets h =
      let l = run_holds left h.0 h.1 in
      let r = run_holds right h.0 h.2 in
      (left.first + l.0 * left.step, (l.0, l.1, refl), (r.0, r.1, sym (qubit_of-same left.origin right.origin _ _ (l.2 ∙ sym r.2)).1))

  pub meet_overlaps : left.origin ≡ right.origin → Meet left right → Overlap (run_qubits left) (run_qubits right)
  meet_overlaps same h =
      (qubit_of left.origin h.0, number_held left h.0 h.1, subst (λ o. Holds (run_qubits right) (qubit_of o h.0)) (sym same) (number_held right h.0 h.2))
