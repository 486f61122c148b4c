-- In valid code each jump goes ahead to an instruction, or back to a Tick.
use Rattle.std.proofs.Common.{◌≡◌, ℕ, zero, suc, ◌^◌, ◌<◌, Bool, true, false, ◌&&◌, nat_eq, nat_lt, if◌then◌else◌, Option, Some, None, List, [], ◌∷◌, length, slice_get, refl, sym, ap, ◌∙◌, arith}
use Rattle.std.proofs.lemmas.Bool.{false≢true, eqb-true, ltb-true, ltb-false}
use Rattle.std.specs.List.{zip}
use Rattle.qt_tree.specs.declared.place.Place.{Place}
use Rattle.qt_ring.proofs.RingLaws.{and_left, and_right}
use Rattle.qt_instructions.specs.declared.instruction.Instr.{Instr}
use Rattle.qt_instructions.specs.declared.instruction.Instr.TheVariants as instr
use Rattle.qt_instructions.specs.declared.parts.Parts.{Parts}
use Rattle.qt_code_rules.specs.Counts.{has_counts, has_few_cells, has_few_qubits}
use Rattle.qt_code_rules.specs.Jumps.{is_tick, jump_fits, may_go, target_at}
use Rattle.qt_code.specs.Laws.{ConditionsDecide, JumpsGoOn, TicksSpend}
use Rattle.qt_code.specs.Validity.{IsValid, has_end, has_fixed_qubits, has_jumps, has_ranges, has_tests, has_told}
use Rattle.qt_code.proofs.Numbered.{all_told}
use Rattle.qt_code.proofs.Steps.{Goes, goes_ahead, goes_back, jump_at, jump_if_at, tick_at}

-- ---- lists

no_some : (i : Instr) → None ≡ Some i → ⊥
no_some i h = cc

some_instruction : (i j : Instr) → Some i ≡ Some j → i ≡ j
some_instruction i j h = cc

within : (is : List Instr) (at : ℕ) (i : Instr) → slice_get is at ≡ Some i → at < length is
within [] at i h = absurd (no_some i h)
within (x ∷ is) zero i h = omega arith
within (x ∷ is) (suc at) i h = let r = within is at i h in omega arith

-- an instruction stands there with some place
found : (is : List Instr) (ps : List Place) (at : ℕ) (i : Instr) → length ps ≡ length is → slice_get is at ≡ Some i
    → (place : Place) × (slice_get (zip is ps) at ≡ Some (i, place))
found [] ps at i len h = absurd (no_some i h)
found (x ∷ is) [] at i len h = absurd (omega (arith, len))
found (x ∷ is) (q ∷ ps) zero i len h = (q, ap (λ (j : Instr). Some (j, q)) (some_instruction x i h))
found (x ∷ is) (q ∷ ps) (suc at) i len h = found is ps at i (omega (arith, len)) h

-- ---- the rules

numbers : (code : Parts) → IsValid code → (has_few_qubits code && has_counts code && has_few_cells code) ≡ true
numbers code valid =
    let a = has_few_qubits code && has_counts code && has_few_cells code in
    let b = has_end code && has_jumps code && has_ranges code in
    and_left a b (and_left (a && b) (has_fixed_qubits code && has_tests code && has_told code) valid)

ways : (code : Parts) → IsValid code → (has_end code && has_jumps code && has_ranges code) ≡ true
ways code valid =
    let a = has_few_qubits code && has_counts code && has_few_cells code in
    let b = has_end code && has_jumps code && has_ranges code in
    and_right a b (and_left (a && b) (has_fixed_qubits code && has_tests code && has_told code) valid)

counted : (code : Parts) → IsValid code → has_counts code ≡ true
counted code valid =
    and_right (has_few_qubits code) (has_counts code)
    (and_left (has_few_qubits code && has_counts code) (has_few_cells code) (numbers code valid))

placed : (code : Parts) → has_counts code ≡ true → length code.places ≡ length code.instructions
placed code h =
    let few = nat_lt (length code.instructions) (2 ^ 32) in
    let each = nat_eq (length code.places) (length code.instructions) in
    let start = nat_eq (length code.start) code.slots in
    eqb-true (length code.places) (length code.instructions) (and_right few each (and_left (few && each) start h))

jumping : (code : Parts) → IsValid code → has_jumps code ≡ true
jumping code valid =
    and_right (has_end code) (has_jumps code) (and_left (has_end code && has_jumps code) (has_ranges code) (ways code valid))

fits_at : (code : Parts) (at : ℕ) (i : Instr) → IsValid code → slice_get code.instructions at ≡ Some i
    → may_go code.instructions at (target_at (Some i)) ≡ true
fits_at code at i valid h =
    let lt = within code.instructions at i h in
    sym (ap (λ (o : Option Instr). may_go code.instructions at (target_at o)) h)
    ∙ all_told (jump_fits code.instructions) 0 (length code.instructions) at (jumping code valid) (omega arith) (omega (arith, lt))

-- ---- ways

tick_there : (o : Option Instr) → is_tick o ≡ true → o ≡ Some instr.Tick
tick_there None h = absurd (false≢true h)
tick_there (Some instr.Tick) h = refl
tick_there (Some _) h = absurd (false≢true h)

way_to : (code : Parts) (at to : ℕ) → length code.places ≡ length code.instructions → may_go code.instructions at (Some to) ≡ true
    → Goes code at to
way_to code at to len h = by_side (nat_lt at to) refl h
  where
    by_side : (b : Bool) → nat_lt at to ≡ b
        → (if b then nat_lt to (length code.instructions) else is_tick (slice_get code.instructions to)) ≡ true → Goes code at to
    by_side true e k = goes_ahead code at to (ltb-true at to e)
    by_side false e k =
        let there = found code.instructions code.places to instr.Tick len (tick_there (slice_get code.instructions to) k) in
        goes_back code at to there.0 (ltb-false at to e) there.1

-- ---- the laws

pub jumps_go_on : JumpsGoOn
jumps_go_on code at to valid h cells p =
    let len = placed code (counted code valid) in
    let here = found code.instructions code.places at (instr.Jump to) len h in
    jump_at code at to here.0 here.1 (way_to code at to len (fits_at code at (instr.Jump to) valid h)) cells p

pub conditions_decide : ConditionsDecide
conditions_decide code at cell to valid h cells p =
    let len = placed code (counted code valid) in
    let here = found code.instructions code.places at (instr.JumpIf cell to) len h in
    jump_if_at code at cell to here.0 here.1 (way_to code at to len (fits_at code at (instr.JumpIf cell to) valid h)) cells p

pub ticks_spend : TicksSpend
ticks_spend code at valid h cells p =
    let here = found code.instructions code.places at instr.Tick (placed code (counted code valid)) h in
    tick_at code at here.0 here.1 cells p
