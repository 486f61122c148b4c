-- What valid code gives a run: its instructions name what it has, it goes on within the code, and a jump back goes to a Tick.
use Rattle.std.proofs.Common.{get_or, ◌≡◌, ℕ, zero, suc, ◌+◌, ◌-◌, ◌*◌, ◌^◌, ◌<◌, ◌≤◌, Bool, true, false, not, ◌&&◌, cond, nat_eq, nat_lt, Option, Some, List, [], ◌∷◌, length, slice_get, Ok, Err, IsTrue, inl, inr, refl, sym, ap, ◌∙◌, arith}
use Rattle.std.proofs.lemmas.Bool.{eqb-true, ltb-true, ltb-false, leb-true}
use Rattle.std.proofs.lemmas.Bool.Decides.{leb_tells, nat_tests}
use Rattle.std.specs.List.{list_all}
use Rattle.qt_tree.specs.declared.place.Place.{Place}
use Rattle.qt_ring.specs.declared.TheConstants.{QUBITS}
use Rattle.qt_ring.proofs.RingLaws.{and_left, and_right}
use Rattle.qt_ring.specs.State.{State}
use Rattle.qt_gate_calls.specs.Faults.{EighthPrimitive}
use Rattle.qt_meaning.specs.Values.{Evaluated, is_true}
use Rattle.qt_instructions.specs.declared.instruction.Instr.{Instr}
use Rattle.qt_instructions.specs.declared.instruction.Instr.TheVariants.{Tick, Gate, Measure, Reset, Jump, JumpIf, End}
use Rattle.qt_instructions.specs.declared.instruction.Store.{Store}
use Rattle.qt_instructions.specs.declared.parts.Parts.{Parts}
use Rattle.qt_instructions.specs.Targets.{stops, target_of}
use Rattle.qt_code_rules.specs.Counts.{has_counts, has_few_cells, has_few_qubits}
use Rattle.qt_code_rules.specs.Jumps.{is_tick, jump_fits, may_go, stops_there, target_at}
use Rattle.qt_code.specs.Cells.{Cells, primitive_by, qubit_of, place_of_store}
use Rattle.qt_code.specs.Ranges.{has_instruction}
use Rattle.qt_code.specs.Validity.{IsValid, sizes_of, has_end, has_fixed_qubits, has_jumps, has_ranges, has_tests, has_told}
use Rattle.qt_code.proofs.Numbered.{all_told}
use Rattle.qt_machine.specs.declared.write.Write.{Write}
use Rattle.qt_machine.specs.Writes.{write_by}
use Rattle.qt_stops.specs.declared.step.Halt.{Halt}
use Rattle.qt_stops.specs.declared.step.Halt.TheVariants as halt
use Rattle.qt_stops.specs.declared.step.Way.TheVariants as way
use Rattle.qt_stops.specs.Halts.{goes_on, left_before_tick, measure, IsOnward, IsWayBehind}
use Rattle.qt_stops.specs.Stops.{Moment, Step, Goes, Dries, Stops, Resets, Measures, after, gate_step, instruction_step, write_step}

-- ---- the rules

numbers : (code : Parts) → IsValid code → (has_few_qubits code && has_counts code && has_few_cells code) ≡ true
numbers code valid =
    let a = has_few_qubits code && has_counts code && has_few_cells code in
    let b = has_end code && has_jumps code && has_ranges code in
    and_left a b (and_left (a && b) (has_fixed_qubits code && has_tests code && has_told code) valid)

ways : (code : Parts) → IsValid code → (has_end code && has_jumps code && has_ranges code) ≡ true
ways code valid =
    let a = has_few_qubits code && has_counts code && has_few_cells code in
    let b = has_end code && has_jumps code && has_ranges code in
    and_right a b (and_left (a && b) (has_fixed_qubits code && has_tests code && has_told code) valid)

counted : (code : Parts) → IsValid code → has_counts code ≡ true
counted code valid =
    and_right (has_few_qubits code) (has_counts code)
    (and_left (has_few_qubits code && has_counts code) (has_few_cells code) (numbers code valid))

pub few_qubits : (code : Parts) → IsValid code → code.qubits ≤ QUBITS
few_qubits code valid = leb-true code.qubits QUBITS
    (and_left (has_few_qubits code) (has_counts code) (and_left (has_few_qubits code && has_counts code) (has_few_cells code) (numbers code valid)))

pub few_instructions : (code : Parts) → IsValid code → length code.instructions < 2 ^ 32
few_instructions code valid =
    let few = nat_lt (length code.instructions) (2 ^ 32) in
    let each = nat_eq (length code.places) (length code.instructions) in
    let start = nat_eq (length code.start) code.slots in
    ltb-true (length code.instructions) (2 ^ 32) (and_left few each (and_left (few && each) start (counted code valid)))

pub as_many_places : (code : Parts) → IsValid code → length code.places ≡ length code.instructions
as_many_places code valid =
    let few = nat_lt (length code.instructions) (2 ^ 32) in
    let each = nat_eq (length code.places) (length code.instructions) in
    let start = nat_eq (length code.start) code.slots in
    eqb-true (length code.places) (length code.instructions) (and_right few each (and_left (few && each) start (counted code valid)))

all_at : (test : Instr → Bool) (is : List Instr) (at : ℕ) (i : Instr) → list_all test is ≡ true → slice_get is at ≡ Some i → test i ≡ true
all_at test [] at i h e = absurd (cc)
all_at test (x ∷ is) zero i h e = let f : x ≡ i = cc in sym (ap test f) ∙ and_left (test x) (list_all test is) h
all_at test (x ∷ is) (suc at) i h e = all_at test is at i (and_right (test x) (list_all test is) h) e

pub in_range : (code : Parts) (at : ℕ) (i : Instr) → IsValid code → slice_get code.instructions at ≡ Some i → IsTrue (has_instruction (sizes_of code) i)
in_range code at i valid e =
    all_at (has_instruction (sizes_of code)) code.instructions at i (and_right (has_end code && has_jumps code) (has_ranges code) (ways code valid)) e

within : (is : List Instr) (at : ℕ) (i : Instr) → slice_get is at ≡ Some i → at < length is
within [] at i h = absurd (cc)
within (x ∷ is) zero i h = omega arith
within (x ∷ is) (suc at) i h = let r = within is at i h in omega arith

-- ---- where it goes on

jumping : (code : Parts) → IsValid code → has_jumps code ≡ true
jumping code valid = and_right (has_end code) (has_jumps code) (and_left (has_end code && has_jumps code) (has_ranges code) (ways code valid))

ending : (code : Parts) → IsValid code → has_end code ≡ true
ending code valid = and_left (has_end code) (has_jumps code) (and_left (has_end code && has_jumps code) (has_ranges code) (ways code valid))

fits_at : (code : Parts) (at : ℕ) (i : Instr) → IsValid code → slice_get code.instructions at ≡ Some i
    → may_go code.instructions at (target_at (Some i)) ≡ true
fits_at code at i valid h =
    let lt = within code.instructions at i h in
    sym (ap (λ (o : Option Instr). may_go code.instructions at (target_at o)) h)
    ∙ all_told (jump_fits code.instructions) 0 (length code.instructions) at (jumping code valid) (omega arith) (omega (arith, lt))

-- an instruction behind which something follows isn't the last
not_last : (code : Parts) (at : ℕ) (i : Instr) → IsValid code → slice_get code.instructions at ≡ Some i → stops i ≡ false → at + 1 < length code.instructions
not_last code at i valid h f =
    let inside = within code.instructions at i h in
    elim (leb_tells (length code.instructions) (at + 1)) [
      | inl e ↦
          let last : at ≡ length code.instructions - 1 = omega (arith, e.1) in
          let there : stops i ≡ true = sym (ap stops_there h) ∙ ap (λ (k : ℕ). stops_there (slice_get code.instructions k)) last ∙ ending code valid in
          absurd (cc)
      | inr e ↦ omega (arith, e.1)
    ]

-- ---- how much is left

at_most : (b : Bool) (x : ℕ) → cond b 0 x ≤ x
at_most true x = omega arith
at_most false x = omega arith

left_at_most : (code : Parts) (at : ℕ) → left_before_tick code at ≤ length code.instructions - at
left_at_most code at = at_most (is_tick (slice_get code.instructions at)) (length code.instructions - at)

left_is : (code : Parts) (at : ℕ) (i : Instr) → slice_get code.instructions at ≡ Some i → is_tick (Some i) ≡ false
    → left_before_tick code at ≡ length code.instructions - at
left_is code at i e f = ap (λ (o : Option Instr). cond (is_tick o) 0 (length code.instructions - at)) e ∙ ap (λ b. cond b 0 (length code.instructions - at)) f

left_tick : (code : Parts) (at : ℕ) → is_tick (slice_get code.instructions at) ≡ true → left_before_tick code at ≡ 0
left_tick code at f = ap (λ b. cond b 0 (length code.instructions - at)) f

pub record Falls (code : Parts) (at fuel to left : ℕ) : Type 0 where
  pub inside : to < length code.instructions
  pub falls : measure code to left < measure code at fuel

same_fuel : (code : Parts) (at to fuel left : ℕ) (i : Instr) → slice_get code.instructions at ≡ Some i → is_tick (Some i) ≡ false → fuel ≡ left
    → to < length code.instructions → left_before_tick code to < length code.instructions - at → Falls code at fuel to left
same_fuel code at to fuel left i h t e k l = record {
  inside = k;
  falls =
      let here = left_is code at i h t in
      let all : left * (length code.instructions + 1) ≡ fuel * (length code.instructions + 1) = ap (λ f. f * (length code.instructions + 1)) (sym e) in
      omega arith;
}

-- to the next instruction
next_falls : (code : Parts) (at to fuel left : ℕ) (i : Instr) → IsValid code → slice_get code.instructions at ≡ Some i → is_tick (Some i) ≡ false
    → stops i ≡ false → at + 1 ≡ to → fuel ≡ left → Falls code at fuel to left
next_falls code at to fuel left i valid h t f e g =
    let more = not_last code at i valid h f in
    let few = left_at_most code to in
    same_fuel code at to fuel left i h t g (omega arith) (omega arith)

jump_side : (code : Parts) (at to : ℕ) (fuel left : ℕ) (i : Instr) → slice_get code.instructions at ≡ Some i → is_tick (Some i) ≡ false → fuel ≡ left
    → (b : Bool) → nat_lt at to ≡ b → cond b (nat_lt to (length code.instructions)) (is_tick (slice_get code.instructions to)) ≡ true → Falls code at fuel to left
jump_side code at to fuel left i h t g true e k =
    let ahead = ltb-true at to e in
    let inside = ltb-true to (length code.instructions) k in
    let few = left_at_most code to in
    same_fuel code at to fuel left i h t g inside (omega arith)
jump_side code at to fuel left i h t g false e k =
    let back = ltb-false at to e in
    let here = within code.instructions at i h in
    let none = left_tick code to k in
    same_fuel code at to fuel left i h t g (omega arith) (omega arith)

-- where it jumps
jump_falls : (code : Parts) (at to to_ fuel left : ℕ) (i : Instr) → IsValid code → slice_get code.instructions at ≡ Some i → is_tick (Some i) ≡ false
    → target_of i ≡ Some to_ → to_ ≡ to → fuel ≡ left → Falls code at fuel to left
jump_falls code at to to_ fuel left i valid h t f e g =
    jump_side code at to fuel left i h t g (nat_lt at to) refl
    (sym (ap (may_go code.instructions at) (f ∙ ap (λ (k : ℕ). Some k) e)) ∙ fits_at code at i valid h)

-- ---- one instruction

abbrev goes_at : Step → ℕ
goes_at (Goes at cells m) = at
goes_at _ = 0

abbrev goes_fuel : Step → ℕ
goes_fuel (Goes at cells m) = m.fuel
goes_fuel _ = 0

written : (r : Evaluated Write) (place : Place) (at : ℕ) (cells : Cells) (m : Moment) (to : ℕ) (new : Cells) (next : Moment)
    → after r place (write_step at cells m) ≡ Goes to new next → (at + 1 ≡ to) × (m.fuel ≡ next.fuel)
written (Ok w) place at cells m to new next e = (ap goes_at e, ap goes_fuel e)
written (Err f) place at cells m to new next e = absurd (cc)

no_gate : (r : Evaluated EighthPrimitive) (place : Place) (at : ℕ) (cells : Cells) (m : Moment) (to : ℕ) (new : Cells) (next : Moment)
    → after r place (gate_step at place cells m) ≡ Goes to new next → ⊥
no_gate (Ok e) place at cells m to new next h = cc
no_gate (Err f) place at cells m to new next h = cc

no_reset : (r : Evaluated ℕ) (place : Place) (at : ℕ) (m : Moment) (to : ℕ) (new : Cells) (next : Moment)
    → after r place (λ q. Stops (Resets (at + 1) place q m)) ≡ Goes to new next → ⊥
no_reset (Ok q) place at m to new next h = cc
no_reset (Err f) place at m to new next h = cc

no_measure : (r s : Evaluated ℕ) (place : Place) (at : ℕ) (store : Store) (m : Moment) (to : ℕ) (new : Cells) (next : Moment)
    → after r place (λ q. after s place (λ bit. Stops (Measures (at + 1) place q store bit m))) ≡ Goes to new next → ⊥
no_measure (Ok q) (Ok bit) place at store m to new next h = cc
no_measure (Ok q) (Err f) place at store m to new next h = cc
no_measure (Err f) s place at store m to new next h = cc

tick_falls : (code : Parts) (at : ℕ) (cells : Cells) (m : Moment) (to : ℕ) (new : Cells) (next : Moment) → IsValid code → slice_get code.instructions at ≡ Some Tick
    → (b : Bool) → nat_eq m.fuel 0 ≡ b → cond b (Stops Dries) (Goes (at + 1) cells (record m { fuel = m.fuel - 1 })) ≡ Goes to new next
    → Falls code at m.fuel to next.fuel
tick_falls code at cells m to new next valid h true e f = absurd (cc)
tick_falls code at cells m to new next valid h false e f =
    let more = not_last code at Tick valid h refl in
    let n : ℕ = length code.instructions in
    let there : at + 1 ≡ to = ap goes_at f in
    let spent : m.fuel - 1 ≡ next.fuel = ap goes_fuel f in
    let few = left_at_most code to in
    let here = left_tick code at (ap is_tick h) in
    let some : 0 < m.fuel = grind (arith, nat_tests) in
    let more_fuel : m.fuel ≡ next.fuel + 1 = omega arith in
    let whole : m.fuel * (n + 1) ≡ (next.fuel + 1) * (n + 1) = ap (λ (f : ℕ). f * (n + 1)) more_fuel in
    record { inside = omega arith; falls = omega arith }

by_condition : (code : Parts) (at cell target : ℕ) (cells : Cells) (m : Moment) (to : ℕ) (new : Cells) (next : Moment) → IsValid code
    → slice_get code.instructions at ≡ Some (JumpIf cell target) → (b : Bool) → Goes (cond b target (at + 1)) cells m ≡ Goes to new next
    → Falls code at m.fuel to next.fuel
by_condition code at cell target cells m to new next valid h true e = jump_falls code at to target m.fuel next.fuel (JumpIf cell target) valid h refl refl (ap goes_at e) (ap goes_fuel e)
by_condition code at cell target cells m to new next valid h false e = next_falls code at to m.fuel next.fuel (JumpIf cell target) valid h refl refl (ap goes_at e) (ap goes_fuel e)

plain_falls : (code : Parts) (at : ℕ) (i : Instr) (r : Evaluated Write) (place : Place) (cells : Cells) (m : Moment) (to : ℕ) (new : Cells) (next : Moment) → IsValid code
    → slice_get code.instructions at ≡ Some i → is_tick (Some i) ≡ false → stops i ≡ false → after r place (write_step at cells m) ≡ Goes to new next
    → Falls code at m.fuel to next.fuel
plain_falls code at i r place cells m to new next valid h t f e =
    let w = written r place at cells m to new next e in
    next_falls code at to m.fuel next.fuel i valid h t f w.0 w.1

-- where it goes on is an instruction, and less is left
pub goes_inside : (code : Parts) (n at : ℕ) (i : Instr) (place : Place) (cells : Cells) (m : Moment) (to : ℕ) (new : Cells) (next : Moment) → IsValid code
    → slice_get code.instructions at ≡ Some i → instruction_step n at i place cells m ≡ Goes to new next → Falls code at m.fuel to next.fuel
goes_inside code n at Tick place cells m to new next valid h e = tick_falls code at cells m to new next valid h (nat_eq m.fuel 0) refl e
goes_inside code n at (Gate p) place cells m to new next valid h e = absurd (no_gate (primitive_by n p cells) place at cells m to new next e)
goes_inside code n at (Measure q store) place cells m to new next valid h e =
    absurd (no_measure (qubit_of n q cells) (place_of_store store cells) place at store m to new next e)
goes_inside code n at (Reset q) place cells m to new next valid h e = absurd (no_reset (qubit_of n q cells) place at m to new next e)
goes_inside code n at (Jump target) place cells m to new next valid h e =
    jump_falls code at to target m.fuel next.fuel (Jump target) valid h refl refl (ap goes_at e) (ap goes_fuel e)
goes_inside code n at (JumpIf cell target) place cells m to new next valid h e = by_condition code at cell target cells m to new next valid h (is_true (cells cell)) e
goes_inside code n at End place cells m to new next valid h e = absurd (cc)
goes_inside code n at i place cells m to new next valid h e = plain_falls code at i (write_by n i cells m.slots) place cells m to new next valid h refl refl e

-- ---- behind a gate or a choice

untrue : (b : Bool) → not b ≡ true → b ≡ false
untrue true e = absurd (cc)
untrue false e = refl

going : (i : Instr) → IsTrue (goes_on i) → (stops i ≡ false) × (is_tick (Some i) ≡ false)
going i h = (untrue (stops i) (and_left (not (stops i)) (not (is_tick (Some i))) h), untrue (is_tick (Some i)) (and_right (not (stops i)) (not (is_tick (Some i))) h))

behind_falls : (code : Parts) (all at fuel to left : ℕ) (i : Instr) → IsValid code → slice_get code.instructions at ≡ Some i → measure code at fuel ≤ all
    → (to ≡ at + 1) × (left ≡ fuel) × IsTrue (goes_on i) → (to < length code.instructions) × (measure code to left < all)
behind_falls code all at fuel to left i valid h few b =
    let g = going i b.2 in
    let f = next_falls code at to fuel left i valid h g.1 g.0 (sym b.0) (sym b.1) in
    let less = f.falls in
    (f.inside, omega arith)

pub behind_onward : (code : Parts) (all at fuel : ℕ) (i : Instr) (h : Halt) → IsValid code → slice_get code.instructions at ≡ Some i → measure code at fuel ≤ all
    → IsWayBehind at fuel i (way.Halt h) → IsOnward code all h
behind_onward code all at fuel i (halt.Gate to place prim left) valid h few b = behind_falls code all at fuel to left i valid h few b
behind_onward code all at fuel i (halt.Measure to place q store bit left) valid h few b = behind_falls code all at fuel to left i valid h few b
behind_onward code all at fuel i (halt.Reset to place q left) valid h few b = behind_falls code all at fuel to left i valid h few b
behind_onward code all at fuel i (halt.End left) valid h few b = tt
behind_onward code all at fuel i (halt.Fault fault place) valid h few b = tt
behind_onward code all at fuel i halt.Dry valid h few b = tt

-- ---- the line that is read

got : (is : List Instr) (at : ℕ) (i : Instr) → at < length is → i ≡ get_or is at i → slice_get is at ≡ Some i
got [] at i h e = absurd (omega arith)
got (x ∷ is) zero i h e = ap (λ (j : Instr). Some j) (sym e)
got (x ∷ is) (suc at) i h e = got is at i (omega arith) e

placed : (ps : List Place) (at : ℕ) (d : Place) → at < length ps → slice_get ps at ≡ Some (get_or ps at d)
placed [] at d h = absurd (omega arith)
placed (p ∷ ps) zero d h = refl
placed (p ∷ ps) (suc at) d h = placed ps at d (omega arith)

pub record IsLine (code : Parts) (at : ℕ) (i : Instr) (place : Place) : Type 0 where
  pub instruction : slice_get code.instructions at ≡ Some i
  pub place_is : slice_get code.places at ≡ Some place

pub line_at : (code : Parts) (is : List Instr) (ps : List Place) (at : ℕ) (i : Instr) (d : Place) → is ≡ code.instructions → ps ≡ code.places → IsValid code
    → at < length code.instructions → i ≡ get_or is at i → IsLine code at i (get_or ps at d)
line_at code is ps at i d e f valid h g =
    let many = as_many_places code valid in
    let few : at < length code.places = omega arith in
    record {
      instruction = got code.instructions at i h (g ∙ ap (λ (x : List Instr). get_or x at i) e);
      place_is = placed code.places at d few ∙ ap (λ (x : List Place). Some (get_or x at d)) (sym f);
    }

pub some_state : State
some_state = record { qubits = 0; entries = []; halvings = 0 }
