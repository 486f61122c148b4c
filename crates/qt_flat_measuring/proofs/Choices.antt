-- The code of measurements and resets has the leaves of the meaning.
use Rattle.std.proofs.Common.{◌≡◌, ℕ, suc, ◌+◌, ◌<◌, ◌≤◌, if◌then◌else◌, Ok, Err, Option, Some, None, List, [], ◌∷◌, ◌++◌, length, map, refl, sym, ap, subst, ◌∙◌, arith}
use Rattle.std.proofs.lemmas.Bool.{lt-ltb}
use Rattle.std.specs.List.{flat_map}
use Rattle.qt_tree.specs.declared.place.Place.{Place}
use Rattle.qt_registers.specs.declared.fixed.FixedQubit.{FixedQubit}
use Rattle.qt_value.specs.Types.{width_of}
use Rattle.qt_typed.specs.declared.expression.TypedStep.{TypedStep}
use Rattle.qt_typed.specs.declared.expression.TypedTarget.{TypedTarget}
use Rattle.qt_typed.specs.declared.call.TypedQubit.{TypedQubit}
use Rattle.qt_typed.specs.declared.call.TypedQubit.TheVariants as qubit
use Rattle.qt_typed.specs.declared.call.TypedQubits.{TypedQubits}
use Rattle.qt_typed.specs.declared.call.TypedQubits.TheVariants as qubits
use Rattle.qt_meaning.specs.Measuring.{all_measured, all_reset, kept, measured, measurement, reset, resetting}
use Rattle.qt_meaning.specs.Places.{Location, Site, Whole, kind_of, location_in, all_tested, fixed_number, number_named, qubit_tested, register_named, register_tested}
use Rattle.qt_meaning.specs.Points.{Broken, Continued, Dry, Ended, Faulted, Leaf, On, Point, Returned, Run, Signal, go_on, leaf, then_do, with_result}
use Rattle.qt_meaning.specs.Statements.{optional_target}
use Rattle.qt_meaning.specs.Values.{Evaluated, Index, and_then}
use Rattle.qt_meaning.specs.WellFormed.{Scope}
use Rattle.qt_instructions.specs.declared.reference.QubitRef.TheVariants as reference
use Rattle.qt_instructions.specs.declared.instruction.Instr.{Instr}
use Rattle.qt_instructions.specs.declared.instruction.Instr.TheVariants as instr
use Rattle.qt_instructions.specs.declared.instruction.Store.{Store}
use Rattle.qt_instructions.specs.declared.instruction.Store.TheVariants as store
use Rattle.qt_instructions.specs.declared.parts.Parts.{Parts}
use Rattle.qt_code.specs.Cells.{Cells, place_of_store, qubit_of}
use Rattle.qt_code.specs.Tail.{choices_before, stored_at, tail}
use Rattle.qt_flat_code.specs.Lengths.{choosing_length, qubits_length}
use Rattle.qt_flat_code.specs.Bits.{AllBits, Bits, bits_after, first_bits_of}
use Rattle.qt_flat_code.specs.GateCalls as calls
use Rattle.qt_flat_code.specs.Storing.{steps_code}
use Rattle.qt_flat_code.specs.Measuring.{constant_slot, measure_code, measure_slot_code, measures, outcome_in, outcome_of, qubit_code, qubit_named, qubits_code, qubits_named, reset_code}
use Rattle.qt_flat_expressions.specs.Lands.{StandsAt}
use Rattle.qt_flat_expressions.proofs.Standing.{stands_behind, stands_first}
use Rattle.qt_gate_call_laws.specs.Seen.{LookAlike}
use Rattle.qt_gate_call_laws.proofs.Leaves.{alike, alike_then}
use Rattle.qt_flat_gate_calls.specs.Landing.{GoesOn, IsWhole, RunLands}
use Rattle.qt_flat_gate_calls.proofs.Arriving.{gets_followed}
use Rattle.qt_flat_gate_calls.proofs.Following.{lands_here, lands_then}
use Rattle.qt_flat_gate_calls.proofs.Qubits.{NamedIn, qubit_gets, qubit_long}
use Rattle.qt_flat_measuring.specs.Laws.{ChoicesFit, IsWholeTarget, MeasurementsLand, ResetsLand, SlotMeasurementsLand, TargetMeasurementsLand}
use Rattle.qt_flat_measuring.proofs.Outcomes.{measure_does, reset_does}
use Rattle.qt_flat_measuring.proofs.Ranks.{IsFree, expression_free, free_joined, rank_after, rank_behind}

-- ---- one qubit, as in gate calls

same_code : (q : TypedQubit) (site : Site) (cell at : ℕ) → qubit_code q site cell at ≡ calls.qubit_code q site cell at
same_code (qubit.Fixed q) site cell at = refl
same_code (qubit.Slot slot) site cell at = refl
same_code (qubit.Indexed register index) site cell at = refl

same_name : (q : TypedQubit) (site : Site) (cell : ℕ) → qubit_named q site cell ≡ calls.reference_in q site cell
same_name (qubit.Fixed q) site cell = refl
same_name (qubit.Slot slot) site cell = refl
same_name (qubit.Indexed register index) site cell = refl

same_length : (q : TypedQubit) → qubits_length (qubits.Single q) ≡ calls.qubit_length q
same_length (qubit.Fixed q) = refl
same_length (qubit.Slot slot) = refl
same_length (qubit.Indexed register index) = refl

qubit_free : (q : TypedQubit) (site : Site) (cell at : ℕ) → IsFree (calls.qubit_code q site cell at)
qubit_free (qubit.Fixed q) site cell at = record { free = tt }
qubit_free (qubit.Slot slot) site cell at = record { free = (refl, tt) }
qubit_free (qubit.Indexed register index) site cell at =
    free_joined _ _ (expression_free index site.base cell at) (record { free = (refl, tt) })

-- ---- registers

module _ (code : Parts) (place : Place) (site : Site) where
  -- each qubit of a register, one choice after another
  resets_land : (register : List FixedQubit) (at to before : ℕ) → choices_before at code.instructions ≡ before
      → StandsAt code place at (map instr.Reset (map (λ q. reference.At (fixed_number site q)) register)) → at + length register ≡ to
      → RunLands code at to (all_reset place before (map (fixed_number site) register))
  resets_land [] at to before b h t = lands_here code at to (omega (arith, t))
  resets_land (q ∷ qs) at to before b h t =
      let n = fixed_number site q in
      let r = rank_behind code place at (instr.Reset (reference.At n)) h.0 in
      lands_then code at (suc at) to (reset place (suc before) n) (all_reset place (suc before) (map (fixed_number site) qs))
      (record { by = λ next cells p whole goes. reset_does code place at next cells p whole goes (reference.At n) before (Ok n) h.0 b refl })
      (resets_land qs (suc at) to (suc before) (omega (arith, r, b)) h.1 (omega (arith, t)))

  -- so do the measurements, each with its outcome where it goes
  measures_land : (to_bit : ℕ → Store) (keep : ℕ → ℕ → List ℕ → List ℕ) (most : ℕ)
      → ((i : ℕ) (cells : Cells) → i < most → (n : ℕ) × ((place_of_store (to_bit i) cells ≡ Ok n) × (stored_at (to_bit i) n ≡ keep i)))
      → (register : List FixedQubit) (i at to before : ℕ) → i + length register ≤ most → choices_before at code.instructions ≡ before
      → StandsAt code place at (measures to_bit (map (λ q. reference.At (fixed_number site q)) register) i) → at + length register ≡ to
      → RunLands code at to (all_measured place before (map (fixed_number site) register) i keep)
  measures_land to_bit keep most goes_to [] i at to before l b h t = lands_here code at to (omega (arith, t))
  measures_land to_bit keep most goes_to (q ∷ qs) i at to before l b h t =
      let n = fixed_number site q in
      let r = rank_behind code place at (instr.Measure (reference.At n) (to_bit i)) h.0 in
      lands_then code at (suc at) to (measured place (suc before) n (keep i)) (all_measured place (suc before) (map (fixed_number site) qs) (suc i) keep)
      (record {
        by = λ next cells p whole goes.
            let w = goes_to i cells (omega arith) in
            subst (λ f. LookAlike (tail code at cells p) (then_do (measured place (suc before) n f) next p)) w.1.1
            (measure_does code place at next cells p whole goes (reference.At n) (to_bit i) w.0 before (Ok n) h.0 b refl w.1.0);
      })
      (measures_land to_bit keep most goes_to qs (suc i) (suc at) to (suc before) (omega arith) (omega (arith, r, b)) h.1 (omega (arith, t)))

-- ---- results that follow one another

then_on : (run next : Run) (p : Point) → ((q : Point) → next q ≡ leaf On q) → then_do run next p ≡ run p
then_on run next p h = each (run p)
  where
    one : (s : Signal) (q : Point) → go_on next s q ≡ leaf s q
    one On q = h q
    one Broken q = refl
    one Continued q = refl
    one Returned q = refl
    one Ended q = refl
    one (Faulted fault at) q = refl
    one Dry q = refl

    each : (ls : List Leaf) → flat_map (λ l. go_on next l.signal l.point) ls ≡ ls
    each [] = refl
    each (l ∷ ls) =
        ap (λ t. t ++ flat_map (λ k. go_on next k.signal k.point) ls) (one l.signal l.point) ∙ ap (λ t. l ∷ t) (each ls)

result_same : (v : Evaluated ℕ) (place : Place) (a b : ℕ → Run) (p : Point) → ((m : ℕ) → a m p ≡ b m p) → with_result v place a p ≡ with_result v place b p
result_same (Ok m) place a b p h = h m
result_same (Err fault) place a b p h = refl

-- the qubits named, then tested, then what follows
abbrev chosen : Site → Place → TypedQubits → (List ℕ → Run) → Run
chosen site place qs f p =
    with_result (register_named site qs p.store) place (λ ns. with_result (register_tested site qs ns) place f) p

tested_is : (u : Evaluated ℕ) (place : Place) (f : List ℕ → Run) (p : Point)
    → with_result (and_then u (λ m. and_then (Ok []) (λ ms. Ok (m ∷ ms)))) place f p ≡ with_result u place (λ m. f (m ∷ [])) p
tested_is (Ok m) place f p = refl
tested_is (Err fault) place f p = refl

named_is : (v : Evaluated ℕ) (site : Site) (place : Place) (q : TypedQubit) (f : List ℕ → Run) (p : Point)
    → with_result (and_then v (λ n. Ok (n ∷ []))) place (λ ns. with_result (all_tested site (q ∷ []) ns) place f) p
    ≡ with_result v place (λ n. with_result (qubit_tested site q n) place (λ m. f (m ∷ []))) p
named_is (Ok n) site place q f p = tested_is (qubit_tested site q n) place f p
named_is (Err fault) site place q f p = refl

-- ---- a single qubit

module _ (code : Parts) (place : Place) (scope : Scope) (site : Site) (slots : ℕ) (q : TypedQubit) (at : ℕ)
    (fits : ChoicesFit code scope site slots (qubits.Single q) at) where
  abbrev mid : ℕ
  mid = at + calls.qubit_length q

  -- its choice is made behind its number
  single_lands : (last : Instr) (to : ℕ) (f : List ℕ → Run)
      → StandsAt code place at (qubit_code q site 0 at ++ (last ∷ [])) → suc mid ≡ to
      → ((next : Run) (new : Cells) (p : Point) → IsWhole code.qubits p.state → GoesOn code p.fuel to next → (v : Evaluated ℕ)
      → StandsAt code place mid (last ∷ []) → choices_before mid code.instructions ≡ site.choices
      → qubit_of code.qubits (qubit_named q site 0) new ≡ v
      → LookAlike (tail code mid new p) (then_do (with_result v place (λ m. f (m ∷ []))) next p))
      → RunLands code at to (chosen site place (qubits.Single q) f)
  single_lands last to f h t does = record { by = lands }
    where
      stands : StandsAt code place at (calls.qubit_code q site 0 at ++ (last ∷ []))
      stands = subst (λ c. StandsAt code place at (c ++ (last ∷ []))) (same_code q site 0 at) h

      first : StandsAt code place at (calls.qubit_code q site 0 at)
      first = stands_first code place at (calls.qubit_code q site 0 at) (last ∷ []) stands

      behind : StandsAt code place mid (last ∷ [])
      behind = stands_behind code place at (calls.qubit_code q site 0 at) (last ∷ []) (calls.qubit_length q) (qubit_long q site 0 at).long stands

      before : choices_before mid code.instructions ≡ site.choices
      before =
          rank_after code place at (calls.qubit_code q site 0 at) (calls.qubit_length q) site.choices (qubit_free q site 0 at) first
          (qubit_long q site 0 at).long fits.before

      lands : (next : Run) (cells : Cells) (p : Point) → IsWhole code.qubits p.state → GoesOn code p.fuel to next
          → LookAlike (tail code at cells p) (then_do (chosen site place (qubits.Single q) f) next p)
      lands next cells p whole goes =
          alike_then
          (gets_followed code place p at cells mid 0 (NamedIn code place p scope site slots fits.program fits.stands q 0) (number_named site q p.store)
          (λ n. with_result (qubit_tested site q n) place (λ m. f (m ∷ []))) next
          (qubit_gets code place p scope site slots fits.program fits.stands q fits.index fits.qubits 0 at mid cells first refl)
          (λ new n is holds kept.
          does next new p whole goes (qubit_tested site q n) behind before
          (ap (λ r. qubit_of code.qubits r new) (same_name q site 0) ∙ holds.1)))
          (alike _ _ (ap (flat_map (λ l. go_on next l.signal l.point)) (sym (named_is (number_named site q p.store) site place q f p))))

-- ---- the laws

reset_single : (code : Parts) (place : Place) (scope : Scope) (site : Site) (slots : ℕ) (q : TypedQubit) (at to : ℕ)
    → ChoicesFit code scope site slots (qubits.Single q) at → StandsAt code place at (reset_code (qubits.Single q) site at)
    → suc (at + calls.qubit_length q) ≡ to → RunLands code at to (resetting site place (qubits.Single q))
reset_single code place scope site slots q at to fits h t =
    single_lands code place scope site slots q at fits (instr.Reset (qubit_named q site 0)) to (all_reset place site.choices) h t
    (λ next new p whole goes v s b e.
    alike_then
    (reset_does code place (at + calls.qubit_length q) next new p whole (λ cells r f w. subst (λ n. LookAlike (tail code n cells r) (next r)) (sym t) (goes cells r f w))
    (qubit_named q site 0) site.choices v s.0 b e)
    (alike _ _ (ap (flat_map (λ l. go_on next l.signal l.point))
    (result_same v place (λ m. reset place (suc site.choices) m) (λ m. all_reset place site.choices (m ∷ [])) p
    (λ m. sym (then_on (reset place (suc site.choices) m) (all_reset place (suc site.choices) []) p (λ r. refl)))))))

pub resets_land_all : ResetsLand
resets_land_all code place scope site slots (qubits.Single q) at fits h =
    reset_single code place scope site slots q at (at + choosing_length (qubits.Single q) 0) fits h (omega (arith, same_length q))
resets_land_all code place scope site slots (qubits.Register register) at fits h =
    record {
      by = (resets_land code place site register at (at + choosing_length (qubits.Register register) 0) site.choices fits.before h (omega arith)).by;
    }

-- where the outcomes of a measurement go
abbrev GoesTo : (ℕ → Store) → Option Location → ℕ → Type 0
GoesTo to_bit location most =
    (i : ℕ) (cells : Cells) → i < most → (n : ℕ) × ((place_of_store (to_bit i) cells ≡ Ok n) × (stored_at (to_bit i) n ≡ kept location i))

measure_single : (code : Parts) (place : Place) (scope : Scope) (site : Site) (slots : ℕ) (q : TypedQubit) (at to : ℕ) (to_bit : ℕ → Store)
    (location : Option Location) → GoesTo to_bit location 1 → ChoicesFit code scope site slots (qubits.Single q) at
    → StandsAt code place at (qubit_code q site 0 at ++ (instr.Measure (qubit_named q site 0) (to_bit 0) ∷ []))
    → suc (at + calls.qubit_length q) ≡ to → RunLands code at to (measurement site place (qubits.Single q) (λ store. Ok location))
measure_single code place scope site slots q at to to_bit location goes_to fits h t = record {
  by = (single_lands code place scope site slots q at fits (instr.Measure (qubit_named q site 0) (to_bit 0)) to
      (λ ns. all_measured place site.choices ns 0 (kept location)) h t
      (λ next new p whole goes v s b e.
      let w = goes_to 0 new (omega arith) in
      alike_then
      (measure_does code place (at + calls.qubit_length q) next new p whole
      (λ cells r f x. subst (λ n. LookAlike (tail code n cells r) (next r)) (sym t) (goes cells r f x))
      (qubit_named q site 0) (to_bit 0) w.0 site.choices v s.0 b e w.1.0)
      (alike _ _ (ap (flat_map (λ l. go_on next l.signal l.point))
      (result_same v place (λ m. measured place (suc site.choices) m (stored_at (to_bit 0) w.0)) (λ m. all_measured place site.choices (m ∷ []) 0 (kept location)) p
      (λ m.
      ap (λ (k : ℕ → List ℕ → List ℕ). measured place (suc site.choices) m k p) w.1.1
      ∙ sym (then_on (measured place (suc site.choices) m (kept location 0)) (all_measured place (suc site.choices) [] 1 (kept location)) p (λ r. refl)))))))).by;
}

dropped : (most : ℕ) → GoesTo (λ i. store.Nowhere) None most
dropped most i cells l = (0, (refl, refl))

in_slot : (slot most : ℕ) → most ≤ 64 → GoesTo (store.Bit slot) (Some (Whole slot)) most
in_slot slot most le i cells l = (i, (ap (λ b. if b then Ok i else Err Index) (lt-ltb i 64 (omega arith)), refl))

pub measurements_land : MeasurementsLand
measurements_land code place scope site slots (qubits.Single q) at fits h =
    measure_single code place scope site slots q at (at + choosing_length (qubits.Single q) 0) (outcome_of None site.base) None (dropped 1) fits h
    (omega (arith, same_length q))
measurements_land code place scope site slots (qubits.Register register) at fits h = record {
  by = (measures_land code place site (outcome_of None site.base) (kept None) (length register) (dropped (length register)) register 0 at
      (at + choosing_length (qubits.Register register) 0) site.choices (omega arith) fits.before h (omega arith)).by;
}

pub slot_measurements_land : SlotMeasurementsLand
slot_measurements_land code place scope site slots (qubits.Single q) slot at fits l h =
    measure_single code place scope site slots q at (at + choosing_length (qubits.Single q) 0) (store.Bit slot) (Some (Whole slot))
    (in_slot slot 1 (omega arith)) fits h (omega (arith, same_length q))
slot_measurements_land code place scope site slots (qubits.Register register) slot at fits l h = record {
  by = (measures_land code place site (store.Bit slot) (kept (Some (Whole slot))) (length register) (in_slot slot (length register) l) register 0 at
      (at + choosing_length (qubits.Register register) 0) site.choices (omega arith) fits.before h (omega arith)).by;
}

-- ---- targets

-- where the whole target is, as a location
whole_location : (steps : List TypedStep) (width slot base : ℕ) (store : List ℕ) → steps ≡ [] → location_in steps width slot base store ≡ Ok (Whole slot)
whole_location [] width slot base store e = refl
whole_location (s ∷ steps) width slot base store e = absurd (cc)

located : (target : TypedTarget) (base : ℕ) (store : List ℕ) → IsWholeTarget target base
    → optional_target (Some target) base store ≡ Ok (Some (Whole (constant_slot target.variable base)))
located target base store w =
    let slot = constant_slot target.variable base in
    let width = width_of (kind_of target.variable) in
    ap (λ v. and_then (and_then v (λ x. location_in target.steps width x base store)) (λ l. Ok (Some l))) (w.slot store)
    ∙ ap (λ v. and_then v (λ l. Ok (Some l))) (whole_location target.steps width slot base store w.steps)

-- the code is that of a slot
whole_bits : (steps : List TypedStep) (width : ℕ) → steps ≡ [] → bits_after steps (first_bits_of steps width) ≡ AllBits
whole_bits [] width e = refl
whole_bits (s ∷ steps) width e = absurd (cc)

no_steps : (steps : List TypedStep) (bits : Bits) (base cell at : ℕ) → steps ≡ [] → steps_code steps bits base cell at ≡ []
no_steps [] bits base cell at e = refl
no_steps (s ∷ steps) bits base cell at e = absurd (cc)

target_stands : (code : Parts) (place : Place) (site : Site) (qs : TypedQubits) (target : TypedTarget) (at : ℕ) → IsWholeTarget target site.base
    → StandsAt code place at (measure_code qs (Some target) site at)
    → StandsAt code place at (measure_slot_code qs (constant_slot target.variable site.base) site at)
target_stands code place site qs target at w h =
    let slot = constant_slot target.variable site.base in
    let width = width_of (kind_of target.variable) in
    let mid = at + qubits_length qs in
    let refs = qubits_named qs site 0 in
    let first = qubits_code qs site 0 at in
    let a = subst (λ c. StandsAt code place at (first ++ (c ++ measures (outcome_of (Some target) site.base) refs 0)))
    (no_steps target.steps (first_bits_of target.steps width) site.base 1 mid w.steps) h in
    subst (λ b. StandsAt code place at (first ++ measures (outcome_in b slot) refs 0)) (whole_bits target.steps width w.steps) a

pub target_measurements_land : TargetMeasurementsLand
target_measurements_land code place scope site slots qs target at fits l w h = record {
  by = λ next cells p whole goes.
      let slot = constant_slot target.variable site.base in
      let e : measurement site place qs (λ store. Ok (Some (Whole slot))) p ≡ measurement site place qs (optional_target (Some target) site.base) p =
      ap (λ v. with_result (register_named site qs p.store) place (λ ns. with_result v place (λ location. with_result (register_tested site qs ns) place
      (λ ms. all_measured place site.choices ms 0 (kept location)))) p) (sym (located target site.base p.store w)) in
      alike_then
      ((slot_measurements_land code place scope site slots qs slot at fits l (target_stands code place site qs target at w h)).by next cells p whole goes)
      (alike _ _ (ap (flat_map (λ l. go_on next l.signal l.point)) e));
}
