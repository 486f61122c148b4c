-- The code of a target: where it is, what stands there, and what is stored.
use Rattle.std.proofs.Common.{◌≡◌, ◌≢◌, ℕ, zero, suc, ◌+◌, ◌*◌, ◌<◌, Ok, List, [], ◌∷◌, ◌++◌, length, slice_set, refl, sym, ap, subst, ◌∙◌, arith, true, min}
use Rattle.std.specs.Int.{bit_at}
use Rattle.qt_tree.specs.declared.place.Place.{Place}
use Rattle.qt_value.specs.BitPlaces.{from_places}
use Rattle.qt_value.specs.Types.{has_size, width_of}
use Rattle.qt_gate_calls.specs.Primitives.{nth_or}
use Rattle.qt_typed.specs.declared.expression.TypedStep.{TypedStep}
use Rattle.qt_typed.specs.declared.expression.TypedStep.TheVariants as step
use Rattle.qt_typed.specs.declared.expression.TypedTarget.{TypedTarget}
use Rattle.qt_typed.specs.declared.expression.TypedVariable.{TypedVariable}
use Rattle.qt_typed.specs.declared.expression.TypedVariable.TheVariants as variable
use Rattle.qt_meaning.specs.Places.{Location, Whole, Bits as AtBits, all_places, kind_of, loaded, location_in, location_of, places_after, slot_of, stored, with_bits}
use Rattle.qt_meaning.specs.Points.{Point}
use Rattle.qt_meaning.specs.Values.{and_then, place_in, slice_of, slot_at, with_bit}
use Rattle.qt_instructions.specs.declared.instruction.Instr.{Instr}
use Rattle.qt_instructions.specs.declared.parts.Parts.{Parts}
use Rattle.qt_code.specs.Cells.{Cells, with_cell}
use Rattle.qt_code.specs.Tail.{tail}
use Rattle.qt_flat_code.specs.Bits.{Bits, AllBits, EveryBit, OneBit, bits_after, bits_of, first_bits_of}
use Rattle.qt_flat_code.specs.Lengths.{loading_length, location_length, steps_length, storing_length, variable_length}
use Rattle.qt_flat_code.specs.Expressions.{copied_code, every, place_kind}
use Rattle.qt_flat_code.specs.Storing.{loading_code, location_code, put, steps_code, storing_code, variable_code}
use Rattle.qt_flat_expressions.specs.Lands.{KeepsBelow, StandsAt}
use Rattle.qt_flat_expressions.proofs.Coming.{cell_holds, cell_keeps}
use Rattle.qt_flat_expressions.proofs.Copies.{copied}
use Rattle.qt_flat_expressions.proofs.Lengths.{Long, copied_long, joined}
use Rattle.qt_flat_expressions.proofs.Places.{whole_place}
use Rattle.qt_flat_expressions.proofs.Sized.{narrow}
use Rattle.qt_flat_expressions.proofs.Slices.{slice_copied}
use Rattle.qt_flat_expressions.proofs.Standing.{stands_behind, stands_first}
use Rattle.qt_flat_expressions.proofs.Stepping.{bit_get_step, bit_put_step, cell_above as above, load_step}
use Rattle.qt_flat_storing.specs.Fits.{StepsFit, TargetFits, VariableFits, bits_left}
use Rattle.qt_flat_storing.specs.Stores.{Continues}
use Rattle.qt_flat_storing.proofs.Bits.{ArePlaces, BitsIn, Leaves, OneIn, all_are, loaded_one, loaded_places, stored_copied}
use Rattle.qt_flat_storing.proofs.BitSteps.{steps_get, steps_long}
use Rattle.qt_flat_storing.proofs.Copying.{copies}
use Rattle.qt_flat_expressions.proofs.Arriving.{Gets, gets_here, gets_then}
use Rattle.qt_flat_storing.proofs.Variables.{PlaceIn, get_variable, place_kept, put_variable, variable_gets, variable_long}

-- ---- where a target is, by what the cells hold

abbrev pub Located : TypedVariable → ℕ → ℕ → ℕ → Bits → Location → Cells → Type 0
Located v base w cell AllBits (Whole s) new = PlaceIn v base cell s new
Located v base w cell (EveryBit first step count) (AtBits s places) new = PlaceIn v base cell s new × ArePlaces w (every first step) count places
Located v base w cell OneBit (AtBits s places) new = PlaceIn v base cell s new × OneIn w (suc cell) places new
Located v base w cell AllBits (AtBits s places) new = ⊥
Located v base w cell (EveryBit first step count) (Whole s) new = ⊥
Located v base w cell OneBit (Whole s) new = ⊥

located_at : (v : TypedVariable) (base w cell : ℕ) (bits : Bits) (s : ℕ) (places : List ℕ) (new : Cells) → PlaceIn v base cell s new
    → BitsIn w bits (suc cell) places new → Located v base w cell bits (AtBits s places) new
located_at v base w cell AllBits s places new h g = absurd g
located_at v base w cell (EveryBit first step count) s places new h g = (h, g)
located_at v base w cell OneBit s places new h g = (h, g)

pub located_kept : (v : TypedVariable) (base w cell : ℕ) (bits : Bits) (l : Location) (old new : Cells) → new cell ≡ old cell
    → new (suc cell) ≡ old (suc cell) → Located v base w cell bits l old → Located v base w cell bits l new
located_kept v base w cell AllBits (Whole s) old new e f h = place_kept v base cell s old new e h
located_kept v base w cell (EveryBit first step count) (AtBits s places) old new e f h = (place_kept v base cell s old new e h.0, h.1)
located_kept v base w cell OneBit (AtBits s places) old new e f h = (place_kept v base cell s old new e h.0, (h.1.0, f ∙ h.1.1, h.1.2, h.1.3))
located_kept v base w cell AllBits (AtBits s places) old new e f h = absurd h
located_kept v base w cell (EveryBit first step count) (Whole s) old new e f h = absurd h
located_kept v base w cell OneBit (Whole s) old new e f h = absurd h

pub variable_sized : (slots : ℕ) (v : TypedVariable) → VariableFits slots v → has_size (kind_of v) ≡ true
variable_sized slots (variable.Slot kind slot) fits = fits.0
variable_sized slots (variable.Element kind slot lengths indexes) fits = fits.0

pub loading_long : (bits : Bits) (target : TypedTarget) (base cell : ℕ) → Long (loading_code bits target base cell) (loading_length bits)
loading_long AllBits target base cell = record { long = refl }
loading_long (EveryBit first step count) target base cell =
    let h = copied_long (cell + 3) (kind_of target.variable) (every first step) (cell + 2) target.kind (λ i. i) (cell + 4) 0 count in
    record { long = omega (arith, h.long) }
loading_long OneBit target base cell = record { long = refl }

pub location_long : (target : TypedTarget) (base cell at : ℕ) → Long (location_code target base cell at) (location_length target)
location_long target base cell at = joined _ _ _ _ (variable_long target.variable base cell at) (steps_long target.steps _ base (suc cell) _)

-- behind all steps as many bits are left as they leave
pub bits_counted : (slots n : ℕ) (steps : List TypedStep) (bits : Bits) → StepsFit slots n steps → Leaves bits n → Leaves (bits_after steps bits) (bits_left n steps)
bits_counted slots n [] bits fits h = h
bits_counted slots n (step.At index ∷ steps) bits fits h = bits_counted slots 1 steps OneBit fits.2 refl
bits_counted slots n (step.Slice start by count ∷ steps) AllBits fits h = absurd h
bits_counted slots n (step.Slice start by count ∷ steps) (EveryBit first width m) fits h =
    bits_counted slots count steps (EveryBit (first + start * width) (min (by * width) 64) count) fits.2 refl
bits_counted slots n (step.Slice start by count ∷ steps) OneBit fits h =
    bits_counted slots count steps OneBit fits.2 (one_left start by count fits.0.0 fits.1 (λ i l. subst (λ k. start + i * by < k) h (fits.0.2 i l)))
  where
    one_left : (start by count : ℕ) → 0 < count → 0 < by → ((i : ℕ) → i < count → start + i * by < 1) → count ≡ 1
    one_left start by zero some up fits = absurd (omega arith)
    one_left start by (suc zero) some up fits = refl
    one_left start zero (suc (suc count)) some up fits = absurd (omega arith)
    one_left start (suc by) (suc (suc count)) some up fits = let l = fits 1 (omega arith) in absurd (omega (arith, l))

-- a target has all bits, or as many as its type
abbrev pub CountsFor : Bits → ℕ → Type 0
CountsFor AllBits n = Unit {0}
CountsFor (EveryBit first step count) n = count ≡ n
CountsFor OneBit n = Unit {0}

counts_for : (bits : Bits) (n : ℕ) → Leaves bits n → CountsFor bits n
counts_for AllBits n h = tt
counts_for (EveryBit first step count) n h = h
counts_for OneBit n h = tt

counted_by : (slots w k : ℕ) (steps : List TypedStep) → StepsFit slots w steps → bits_left w steps ≡ k → CountsFor (bits_after steps (first_bits_of steps w)) k
counted_by slots w k [] fits e = tt
counted_by slots w k (s ∷ steps) fits e =
    counts_for (bits_after (s ∷ steps) (EveryBit 0 1 w)) k
    (subst (Leaves (bits_after (s ∷ steps) (EveryBit 0 1 w))) e (bits_counted slots w (s ∷ steps) (EveryBit 0 1 w) fits refl))

pub target_counts : (slots : ℕ) (target : TypedTarget) → TargetFits slots target → CountsFor (bits_of target) (width_of target.kind)
target_counts slots target fits = counted_by slots (width_of (kind_of target.variable)) (width_of target.kind) target.steps fits.1 fits.3

sliced_places : (x start by n : ℕ) → slice_of x start by n ≡ from_places n (λ i. bit_at x (every start by i))
unfolding slice_of
sliced_places x start by n = refl

module _ (code : Parts) (place : Place) (p : Point) (base slots : ℕ) where
  located : (v : TypedVariable) (steps : List TypedStep) → VariableFits slots v → StepsFit slots (width_of (kind_of v)) steps → (cell at to : ℕ) (cells : Cells)
      → StandsAt code place at (variable_code v base cell at
      ++ steps_code steps (first_bits_of steps (width_of (kind_of v))) base (suc cell) (at + variable_length v))
      → at + (variable_length v + steps_length steps (first_bits_of steps (width_of (kind_of v)))) ≡ to
      → Gets code place p Location at cells to cell
      (Located v base (width_of (kind_of v)) cell (bits_after steps (first_bits_of steps (width_of (kind_of v)))))
      (and_then (slot_of v base p.store) (λ s. location_in steps (width_of (kind_of v)) s base p.store))
  located v [] fits more cell at to cells h t =
      gets_then code place p at cells (at + variable_length v) cell to cell (PlaceIn v base cell)
      (Located v base (width_of (kind_of v)) cell AllBits) (slot_of v base p.store) (λ s. Ok (Whole s)) (omega arith)
      (variable_gets code place p base slots v fits cell at (at + variable_length v) cells (stands_first code place at (variable_code v base cell at) [] h) refl)
      (λ new s is holds kept.
      gets_here code place p (at + variable_length v) new to cell (Located v base (width_of (kind_of v)) cell AllBits) (Whole s) holds (omega (arith, t)))
  located v (s ∷ steps) fits more cell at to cells h t =
      let w = width_of (kind_of v) in
      let few = narrow (kind_of v) (variable_sized slots v fits) in
      let mid = at + variable_length v in
      let a = variable_code v base cell at in
      let b = steps_code (s ∷ steps) (EveryBit 0 1 w) base (suc cell) mid in
      let bits = bits_after (s ∷ steps) (EveryBit 0 1 w) in
      gets_then code place p at cells mid cell to cell (PlaceIn v base cell) (Located v base w cell bits) (slot_of v base p.store)
      (λ x. and_then (places_after (s ∷ steps) (all_places w) base p.store) (λ places. Ok (AtBits x places))) (omega arith)
      (variable_gets code place p base slots v fits cell at mid cells (stands_first code place at a b h) refl)
      (λ new x is holds kept.
      gets_then code place p mid new to (suc cell) to cell (BitsIn w bits (suc cell)) (Located v base w cell bits)
      (places_after (s ∷ steps) (all_places w) base p.store) (λ places. Ok (AtBits x places)) (omega arith)
      (steps_get code place p base slots w few (s ∷ steps) (EveryBit 0 1 w) w (all_places w) (suc cell) mid to new more few refl (all_are w)
      (stands_behind code place at a b (variable_length v) (variable_long v base cell at).long h) (omega (arith, t)))
      (λ newer places it there keeps.
      gets_here code place p to newer to cell (Located v base w cell bits) (AtBits x places)
      (located_at v base w cell bits x places newer (place_kept v base cell x new newer (keeps cell (omega arith)) holds) there) refl))

  pub location_gets : (target : TypedTarget) → TargetFits slots target → (cell at to : ℕ) (cells : Cells)
      → StandsAt code place at (location_code target base cell at) → at + location_length target ≡ to
      → Gets code place p Location at cells to cell (Located target.variable base (width_of (kind_of target.variable)) cell (bits_of target))
      (location_of target base p.store)
  location_gets target fits cell at to cells h t = located target.variable target.steps fits.0 fits.1 cell at to cells h t

  -- ---- what stands there

  pub record Loads (at : ℕ) (cells : Cells) (to cell value : ℕ) : Type 0 where
    pub new : Cells
    pub holds : new cell ≡ value
    pub kept : KeepsBelow cell cells new
    pub same : tail code at cells p ≡ tail code to new p

  pub loads : (target : TypedTarget) → TargetFits slots target → (bits : Bits) → CountsFor bits (width_of target.kind) → (l : Location)
      → (cell at to : ℕ) (cells : Cells) → Located target.variable base (width_of (kind_of target.variable)) cell bits l cells
      → StandsAt code place at (loading_code bits target base cell) → at + loading_length bits ≡ to
      → Loads at cells to (cell + 2) (loaded l p.store)
  loads target fits AllBits counts (Whole s) cell at to cells here h t =
      let v = target.variable in
      let s_at : suc at ≡ to = omega (arith, t) in
      record {
        new = with_cell (cell + 2) (slot_at p.store s) cells;
        holds = cell_holds (cell + 2) (slot_at p.store s) cells;
        kept = λ other l. cell_keeps (cell + 2) (slot_at p.store s) cells other l;
        same =
            get_variable code place p base slots v fits.0 cell (cell + 2) at s cells h.0 here
            ∙ ap (λ n. tail code n (with_cell (cell + 2) (slot_at p.store s) cells) p) s_at;
      }
  loads target fits (EveryBit first step count) counts (AtBits s places) cell at to cells here h t =
      let v = target.variable in
      let w = width_of (kind_of v) in
      let few = narrow (kind_of v) (variable_sized slots v fits.0) in
      let few_too = narrow target.kind fits.2 in
      let old = slot_at p.store s in
      let c1 = with_cell (cell + 3) old cells in
      let c2 = with_cell (cell + 2) 0 c1 in
      let kept_2 : (other : ℕ) → other < cell + 2 → c2 other ≡ cells other = λ other l.
      cell_keeps (cell + 2) 0 c1 other l ∙ cell_keeps (cell + 3) old cells other (omega arith) in
      let old_2 : c2 (cell + 3) ≡ old = cell_above_one c1 ∙ cell_holds (cell + 3) old cells in
      let ne : cell + 3 ≢ cell + 2 = λ e. omega (arith, e) in
      let r =
      copies code place p (suc (suc at)) (cell + 3) (kind_of v) (every first step) (cell + 2) target.kind (λ i. i) (cell + 4) 0 count old 0 to c2 ne
      (omega arith) (omega arith)
      (record {
        read_below = λ j l m. here.1.below j (omega arith);
        write_below = λ j l m. (let e = counts in omega (arith, m, e));
        small = omega (arith, few);
        small_too = omega (arith, few_too);
      })
      h.1.1 old_2 (cell_holds (cell + 2) 0 c1) (omega (arith, t)) in
      record {
        new = r.new;
        holds =
            r.holds ∙ slice_copied old first step count ∙ sliced_places old first step count
            ∙ sym (loaded_places w (every first step) count old places here.1);
        kept = λ other l. r.kept other (omega (arith, l)) (λ e. omega (arith, e, l)) ∙ kept_2 other l;
        same =
            get_variable code place p base slots v fits.0 cell (cell + 3) at s cells h.0 here.0
            ∙ load_step code place p (suc at) (cell + 2) 0 c1 h.1.0
            ∙ r.same;
      }
    where
      cell_above_one : (c1 : Cells) → with_cell (cell + 2) 0 c1 (cell + 3) ≡ c1 (cell + 3)
      cell_above_one c1 = above (cell + 2) 0 c1 (cell + 3) (omega arith)
  loads target fits OneBit counts (AtBits s places) cell at to cells here h t =
      let v = target.variable in
      let w = width_of (kind_of v) in
      let few = narrow (kind_of v) (variable_sized slots v fits.0) in
      let old = slot_at p.store s in
      let n = here.1.0 in
      let c1 = with_cell (cell + 2) old cells in
      let one : cell + 1 ≡ suc cell = omega arith in
      let n_1 : c1 (cell + 1) ≡ n = cell_keeps (cell + 2) old cells (cell + 1) (omega arith) ∙ ap cells one ∙ here.1.1 in
      let below = here.1.3 in
      let c2 = with_cell (cell + 2) (bit_at (c1 (cell + 2)) n) c1 in
      let s_at : suc (suc at) ≡ to = omega (arith, t) in
      record {
        new = c2;
        holds =
            cell_holds (cell + 2) (bit_at (c1 (cell + 2)) n) c1 ∙ ap (λ x. bit_at x n) (cell_holds (cell + 2) old cells)
            ∙ sym (loaded_one n old) ∙ ap (λ (qs : List ℕ). from_places (length qs) (λ i. bit_at old (nth_or 0 i qs))) (sym here.1.2);
        kept = λ other l. cell_keeps (cell + 2) (bit_at (c1 (cell + 2)) n) c1 other l ∙ cell_keeps (cell + 2) old cells other l;
        same =
            get_variable code place p base slots v fits.0 cell (cell + 2) at s cells h.0 here.0
            ∙ bit_get_step code place p (suc at) (cell + 2) (cell + 2) (cell + 1) n (kind_of v) place_kind c1 h.1.0
            (ap (place_in w place_kind) n_1 ∙ whole_place w n below (omega (arith, few)))
            ∙ ap (λ m. tail code m c2 p) s_at;
      }
  loads target fits AllBits counts (AtBits s places) cell at to cells here h t = absurd here
  loads target fits (EveryBit first step count) counts (Whole s) cell at to cells here h t = absurd here
  loads target fits OneBit counts (Whole s) cell at to cells here h t = absurd here

  -- ---- what is stored

  pub stores_at : (target : TypedTarget) → TargetFits slots target → (bits : Bits) → CountsFor bits (width_of target.kind) → (l : Location)
      → (cell from at to x : ℕ) (cells : Cells) → Located target.variable base (width_of (kind_of target.variable)) cell bits l cells → from < cell
      → cells from ≡ x → StandsAt code place at (storing_code bits target base cell from) → at + storing_length bits ≡ to
      → Continues code p at cells (record p { store = stored l x p.store }) to
  stores_at target fits AllBits counts (Whole s) cell from at to x cells here lt f h t =
      let s_at : suc at ≡ to = omega (arith, t) in
      record {
        new = cells;
        same =
            put_variable code place p base slots target.variable fits.0 cell from at s x cells h.0 here f
            ∙ ap (λ n. tail code n cells (record p { store = slice_set p.store s x })) s_at;
      }
  stores_at target fits (EveryBit first step count) counts (AtBits s places) cell from at to x cells here lt f h t =
      let v = target.variable in
      let few = narrow (kind_of v) (variable_sized slots v fits.0) in
      let few_too = narrow target.kind fits.2 in
      let old = slot_at p.store s in
      let c1 = with_cell (cell + 2) old cells in
      let ne : from ≢ cell + 2 = λ e. omega (arith, e, lt) in
      let behind = suc at + 4 * count in
      let a = copied_code from target.kind (λ i. i) (cell + 2) (kind_of v) (every first step) (cell + 3) 0 count in
      let b : List Instr = put v base cell (cell + 2) ∷ [] in
      let value = copied (λ i. i) (every first step) x 0 count old in
      let r =
      copies code place p (suc at) from target.kind (λ i. i) (cell + 2) (kind_of v) (every first step) (cell + 3) 0 count x old behind c1 ne
      (omega arith) (omega arith)
      (record {
        read_below = λ j l m. (let e = counts in omega (arith, m, e));
        write_below = λ j l m. here.1.below j (omega arith);
        small = omega (arith, few_too);
        small_too = omega (arith, few);
      })
      (stands_first code place (suc at) a b h.1) (cell_keeps (cell + 2) old cells from (omega arith) ∙ f) (cell_holds (cell + 2) old cells) refl in
      let there = stands_behind code place (suc at) a b (4 * count)
      (copied_long from target.kind (λ i. i) (cell + 2) (kind_of v) (every first step) (cell + 3) 0 count).long h.1 in
      let kept : r.new cell ≡ cells cell =
      r.kept cell (omega arith) (λ e. omega (arith, e)) ∙ cell_keeps (cell + 2) old cells cell (omega arith) in
      let s_at : suc behind ≡ to = omega (arith, t) in
      let same_value : value ≡ with_bits places 0 x old =
      sym (stored_copied (every first step) x 0 count places old here.1.many (λ j l. here.1.each j l ∙ (let z : j ≡ 0 + j = omega arith in ap (every first step) z))) in
      record {
        new = r.new;
        same =
            get_variable code place p base slots v fits.0 cell (cell + 2) at s cells h.0 here.0
            ∙ r.same
            ∙ put_variable code place p base slots v fits.0 cell (cell + 2) behind s value r.new there.0
            (place_kept v base cell s cells r.new kept here.0) r.holds
            ∙ ap (λ n. tail code n r.new (record p { store = slice_set p.store s value })) s_at
            ∙ ap (λ y. tail code to r.new (record p { store = slice_set p.store s y })) same_value;
      }
  stores_at target fits OneBit counts (AtBits s places) cell from at to x cells here lt f h t =
      let v = target.variable in
      let w = width_of (kind_of v) in
      let few = narrow (kind_of v) (variable_sized slots v fits.0) in
      let old = slot_at p.store s in
      let n = here.1.0 in
      let below = here.1.3 in
      let one : cell + 1 ≡ suc cell = omega arith in
      let c1 = with_cell (cell + 2) old cells in
      let n_1 : c1 (cell + 1) ≡ n = cell_keeps (cell + 2) old cells (cell + 1) (omega arith) ∙ ap cells one ∙ here.1.1 in
      let x_1 : c1 from ≡ x = cell_keeps (cell + 2) old cells from (omega arith) ∙ f in
      let made = with_bit n (bit_at (c1 from) 0) (c1 (cell + 2)) in
      let value = with_bit n (bit_at x 0) old in
      let made_is : made ≡ value =
      ap (λ y. with_bit n (bit_at y 0) (c1 (cell + 2))) x_1 ∙ ap (λ y. with_bit n (bit_at x 0) y) (cell_holds (cell + 2) old cells) in
      let c2 = with_cell (cell + 2) made c1 in
      let kept : c2 cell ≡ cells cell = cell_keeps (cell + 2) made c1 cell (omega arith) ∙ cell_keeps (cell + 2) old cells cell (omega arith) in
      let s_at : suc (suc (suc at)) ≡ to = omega (arith, t) in
      record {
        new = c2;
        same =
            get_variable code place p base slots v fits.0 cell (cell + 2) at s cells h.0 here.0
            ∙ bit_put_step code place p (suc at) (cell + 2) (cell + 1) from n (kind_of v) place_kind c1 h.1.0
            (ap (place_in w place_kind) n_1 ∙ whole_place w n below (omega (arith, few)))
            ∙ put_variable code place p base slots v fits.0 cell (cell + 2) (suc (suc at)) s value c2 h.1.1.0
            (place_kept v base cell s cells c2 kept here.0) (cell_holds (cell + 2) made c1 ∙ made_is)
            ∙ ap (λ m. tail code m c2 (record p { store = slice_set p.store s value })) s_at
            ∙ ap (λ (qs : List ℕ). tail code to c2 (record p { store = slice_set p.store s (with_bits qs 0 x old) })) (sym here.1.2);
      }
  stores_at target fits AllBits counts (AtBits s places) cell from at to x cells here lt f h t = absurd here
  stores_at target fits (EveryBit first step count) counts (Whole s) cell from at to x cells here lt f h t = absurd here
  stores_at target fits OneBit counts (Whole s) cell from at to x cells here lt f h t = absurd here
