-- The code of steps to bits: each index is tested, and the place of the bit in the variable comes to a cell.
use Rattle.std.proofs.Common.{◌≡◌, ℕ, zero, suc, ◌+◌, ◌*◌, ◌^◌, ◌<◌, ◌≤◌, min, Ok, Err, List, [], ◌∷◌, ◌++◌, length, map, refl, sym, ap, subst, ◌∙◌, arith, true}
use Rattle.std.specs.Int.{bit_at}
use Rattle.std.specs.List.{range_with_len}
use Rattle.qt_ring.proofs.RingLaws.{and_left}
use Rattle.qt_tree.specs.declared.place.Place.{Place}
use Rattle.qt_gate_calls.specs.Primitives.{nth_or}
use Rattle.qt_value.specs.Numbers.{residue}
use Rattle.qt_value.specs.Types.{has_size, is_whole}
use Rattle.qt_value.specs.declared.operators.Op.{Op}
use Rattle.qt_value.specs.declared.operators.Op.TheVariants as op
use Rattle.qt_value.specs.declared.types.ValueType.{ValueType}
use Rattle.qt_value.specs.declared.types.ValueType.TheVariants as kind
use Rattle.qt_typed.specs.Types.{type_of}
use Rattle.qt_typed.specs.declared.expression.TypedStep.{TypedStep}
use Rattle.qt_typed.specs.declared.expression.TypedStep.TheVariants as step
use Rattle.qt_meaning.specs.Expressions.{eval}
use Rattle.qt_meaning.specs.Places.{places_after}
use Rattle.qt_meaning.specs.Points.{Point, with_result}
use Rattle.qt_meaning.specs.Values.{Evaluated, and_then, converted_to, number_of, operated, place_in}
use Rattle.qt_instructions.specs.declared.instruction.Instr.TheVariants as instr
use Rattle.qt_instructions.specs.declared.parts.Parts.{Parts}
use Rattle.qt_code.specs.Cells.{Cells, with_cell}
use Rattle.qt_code.specs.Tail.{tail}
use Rattle.qt_code.proofs.Steps.{tail_at, tail_with}
use Rattle.qt_flat_code.specs.Bits.{Bits, AllBits, EveryBit, OneBit, bits_after, sliced}
use Rattle.qt_flat_code.specs.Lengths.{bit_length, expression_length, steps_length}
use Rattle.qt_flat_code.specs.Expressions.{every, expression_code, on_places, operand, place_kind}
use Rattle.qt_flat_code.specs.Storing.{bit_code, steps_code}
use Rattle.qt_flat_expressions.specs.Lands.{StandsAt}
use Rattle.qt_flat_expressions.proofs.Coming.{Comes, cell_holds, cell_keeps, comes_at, comes_from}
use Rattle.qt_flat_expressions.proofs.Expressions.{expression_comes}
use Rattle.qt_flat_expressions.proofs.Lengths.{Long, expression_long, joined}
use Rattle.qt_flat_expressions.proofs.Numbers.{added, none_of, product, rest, sum}
use Rattle.qt_flat_expressions.proofs.Places.{converted_place, written, written_small, written_sum}
use Rattle.qt_flat_expressions.proofs.Standing.{stands_behind, stands_first}
use Rattle.qt_flat_expressions.proofs.Stepping.{cell_above, binary_step, cast_step, load_step}
use Rattle.qt_flat_storing.specs.Fits.{StepsFit}
use Rattle.qt_flat_storing.proofs.Bits.{ArePlaces, BitsIn, Leaves, one_slice, slice_are}
use Rattle.qt_flat_expressions.proofs.Arriving.{Gets, InCell, gets_here, gets_same, gets_then, gets_value}

-- ---- lengths

pub bit_long : (cell : ℕ) (of : ValueType) (bits : Bits) → Long (bit_code cell of bits) (bit_length bits)
bit_long cell of AllBits = record { long = refl }
bit_long cell of (EveryBit first step count) = record { long = refl }
bit_long cell of OneBit = record { long = refl }

pub steps_long : (steps : List TypedStep) (bits : Bits) (base cell at : ℕ) → Long (steps_code steps bits base cell at) (steps_length steps bits)
steps_long [] bits base cell at = record { long = refl }
steps_long (step.At index ∷ steps) bits base cell at =
    joined _ _ _ _ (expression_long index base (suc cell) at)
    (joined _ _ _ _ (bit_long cell (type_of index) bits) (steps_long steps OneBit base cell (at + expression_length index + bit_length bits)))
steps_long (step.Slice start by count ∷ steps) bits base cell at = steps_long steps (sliced start by count bits) base cell at

-- ---- a place among the bits

pair_is : (operator : Op) (a b x y : ℕ) → a ≡ x → b ≡ y
    → operated operator place_kind place_kind a b ≡ operated operator place_kind place_kind x y
pair_is operator a b x y e f = ap (λ z. operated operator place_kind place_kind z b) e ∙ ap (λ z. operated operator place_kind place_kind x z) f

-- so many steps to a place below 64
times_step : (n by : ℕ) → n < 64 → n * by < 64 → operated op.Mul place_kind place_kind n by ≡ Ok (n * by)
times_step zero by l h = let z : 0 ≡ 0 * by = omega arith in none_of by ∙ ap (λ x. Ok x) z
times_step (suc n) by l h = product (suc n) by (omega arith) (few n by h) (omega (arith, h))
  where
    few : (m by : ℕ) → suc m * by < 64 → by < 2 ^ 63
    few m by h = omega (arith, h)

-- of so many places each is below 64
pub record IsShort (first step count : ℕ) : Type 0 where
  pub few : count ≤ 64
  pub below : (i : ℕ) → i < count → every first step i < 64

then_moved : (v : Evaluated ℕ) (f : ℕ → ℕ) (g : ℕ → Evaluated (List ℕ)) → and_then (and_then v (λ n. Ok (f n))) g ≡ and_then v (λ n. g (f n))
then_moved (Ok n) f g = refl
then_moved (Err fault) f g = refl

module _ (code : Parts) (place : Place) (p : Point) where
  -- behind the test: the index becomes the place among so many, and that the place of the bit
  reckoned : (at cell : ℕ) (of : ValueType) (first step count x n to : ℕ) (cells : Cells) → IsShort first step count → is_whole of ≡ true
      → StandsAt code place at (
      instr.Load (cell + 2) count
      ∷ instr.Cast cell (operand (cell + 1) of) place_kind
      ∷ on_places cell op.Add (cell + 2)
      ∷ on_places cell op.Rem (cell + 2)
      ∷ instr.Load (cell + 2) step
      ∷ on_places cell op.Mul (cell + 2)
      ∷ instr.Load (cell + 2) first
      ∷ on_places cell op.Add (cell + 2) ∷ []
      )
      → cells (cell + 1) ≡ x → place_in count of x ≡ Ok n → at + 8 ≡ to → Comes code place p at cells to cell (Ok (every first step n))
  reckoned at cell of first step zero x n to cells fits whole h f g t = let l = (written 0 of x n g).below in absurd (omega (arith, l))
  reckoned at cell of first step (suc short) x n to cells fits whole h f g t =
      let count = suc short in
      let few : count ≤ 64 = fits.few in
      let z = number_of of x in
      let place_of = written count of x n g in
      let lt : n < count = place_of.below in
      let whole_sum = written_sum z count n place_of in
      let m = whole_sum.0 in
      let m_below : m < count + count = whole_sum.3 in
      let bound : first + n * step < 64 = fits.below n lt in
      let c1 = with_cell (cell + 2) count cells in
      let c2 = with_cell cell (residue 64 z) c1 in
      let c3 = with_cell cell m c2 in
      let c4 = with_cell cell n c3 in
      let c5 = with_cell (cell + 2) step c4 in
      let c6 = with_cell cell (n * step) c5 in
      let c7 = with_cell (cell + 2) first c6 in
      let c8 = with_cell cell (first + n * step) c7 in
      let count_2 : c2 (cell + 2) ≡ count = cell_above cell (residue 64 z) c1 (cell + 2) (omega arith) ∙ cell_holds (cell + 2) count cells in
      let count_3 : c3 (cell + 2) ≡ count = cell_above cell m c2 (cell + 2) (omega arith) ∙ count_2 in
      let x_1 : c1 (cell + 1) ≡ x = cell_keeps (cell + 2) count cells (cell + 1) (omega arith) ∙ f in
      let n_5 : c5 cell ≡ n = cell_keeps (cell + 2) step c4 cell (omega arith) ∙ cell_holds cell n c3 in
      let p_7 : c7 cell ≡ n * step = cell_keeps (cell + 2) first c6 cell (omega arith) ∙ cell_holds cell (n * step) c5 in
      let turned : n * step + first ≡ first + n * step = omega arith in
      comes_from code place p at cells (suc (suc (suc (suc (suc (suc (suc (suc at)))))))) c8 to cell (Ok (first + n * step))
      (load_step code place p at (cell + 2) count cells h.0
      ∙ cast_step code place p (suc at) cell (cell + 1) (residue 64 z) of place_kind c1 h.1.0
      (ap (converted_to place_kind of) x_1 ∙ converted_place of x whole)
      ∙ binary_step code place p (suc (suc at)) cell cell (cell + 2) m op.Add place_kind place_kind c2 h.1.1.0
      (pair_is op.Add (c2 cell) (c2 (cell + 2)) (residue 64 z) count (cell_holds cell (residue 64 z) c1) count_2
      ∙ added z count m (written_small z count n (omega arith) place_of) (omega arith) (omega arith) whole_sum.1)
      ∙ binary_step code place p (suc (suc (suc at))) cell cell (cell + 2) n op.Rem place_kind place_kind c3 h.1.1.1.0
      (pair_is op.Rem (c3 cell) (c3 (cell + 2)) m count (cell_holds cell m c2) count_3
      ∙ rest m short (omega arith) (omega arith) ∙ ap (λ y. Ok y) whole_sum.2)
      ∙ load_step code place p (suc (suc (suc (suc at)))) (cell + 2) step c4 h.1.1.1.1.0
      ∙ binary_step code place p (suc (suc (suc (suc (suc at))))) cell cell (cell + 2) (n * step) op.Mul place_kind place_kind c5 h.1.1.1.1.1.0
      (pair_is op.Mul (c5 cell) (c5 (cell + 2)) n step n_5 (cell_holds (cell + 2) step c4)
      ∙ times_step n step (omega arith) (omega arith))
      ∙ load_step code place p (suc (suc (suc (suc (suc (suc at)))))) (cell + 2) first c6 h.1.1.1.1.1.1.0
      ∙ binary_step code place p (suc (suc (suc (suc (suc (suc (suc at))))))) cell cell (cell + 2) (first + n * step) op.Add place_kind place_kind c7
      h.1.1.1.1.1.1.1.0
      (pair_is op.Add (c7 cell) (c7 (cell + 2)) (n * step) first p_7 (cell_holds (cell + 2) first c6)
      ∙ sum (n * step) first (omega arith) (omega arith) ∙ ap (λ y. Ok y) turned))
      (λ other l.
      cell_keeps cell (first + n * step) c7 other l ∙ cell_keeps (cell + 2) first c6 other (omega arith) ∙ cell_keeps cell (n * step) c5 other l
      ∙ cell_keeps (cell + 2) step c4 other (omega arith) ∙ cell_keeps cell n c3 other l ∙ cell_keeps cell m c2 other l
      ∙ cell_keeps cell (residue 64 z) c1 other l ∙ cell_keeps (cell + 2) count cells other (omega arith))
      (comes_at code place p (suc (suc (suc (suc (suc (suc (suc (suc at)))))))) c8 to cell (first + n * step)
      (cell_holds cell (first + n * step) c7) (omega (arith, t)))

  -- an index among so many bits
  every_comes : (at cell : ℕ) (of : ValueType) (first step count x to : ℕ) (cells : Cells) → IsShort first step count → is_whole of ≡ true
      → StandsAt code place at (bit_code cell of (EveryBit first step count)) → cells (cell + 1) ≡ x → at + 9 ≡ to
      → Comes code place p at cells to cell (and_then (place_in count of x) (λ n. Ok (every first step n)))
  every_comes at cell of first step count x to cells fits whole h f t =
      by_test (place_in count of x) refl
      (tail_at code at (instr.BitGet (cell + 2) (operand (cell + 2) (kind.Bit count)) (operand (cell + 1) of), place) h.0 cells p
      ∙ ap (λ y. with_result (place_in count of y) place (λ n. tail_with code p.fuel (suc at) (with_cell (cell + 2) (bit_at (cells (cell + 2)) n) cells)) p) f)
    where
      by_test : (v : Evaluated ℕ) → place_in count of x ≡ v
          → tail code at cells p ≡ with_result v place (λ n. tail_with code p.fuel (suc at) (with_cell (cell + 2) (bit_at (cells (cell + 2)) n) cells)) p
          → Comes code place p at cells to cell (and_then v (λ n. Ok (every first step n)))
      by_test (Ok n) g same =
          let new = with_cell (cell + 2) (bit_at (cells (cell + 2)) n) cells in
          comes_from code place p at cells (suc at) new to cell (Ok (every first step n)) same
          (λ other l. cell_keeps (cell + 2) (bit_at (cells (cell + 2)) n) cells other (omega arith))
          (reckoned (suc at) cell of first step count x n to new fits whole h.1
          (cell_keeps (cell + 2) (bit_at (cells (cell + 2)) n) cells (cell + 1) (omega arith) ∙ f) g (omega (arith, t)))
      by_test (Err fault) g same = record { out = same }

  -- an index of the one bit that is left, whose place stays
  one_comes : (at cell : ℕ) (of : ValueType) (x n to : ℕ) (cells : Cells) → StandsAt code place at (bit_code cell of OneBit) → cells cell ≡ n
      → cells (cell + 1) ≡ x → at + 1 ≡ to → Comes code place p at cells to cell (and_then (place_in 1 of x) (λ j. Ok n))
  one_comes at cell of x n to cells h e f t =
      by_test (place_in 1 of x)
      (tail_at code at (instr.BitGet (cell + 2) (operand (cell + 2) (kind.Bit 1)) (operand (cell + 1) of), place) h.0 cells p
      ∙ ap (λ y. with_result (place_in 1 of y) place (λ m. tail_with code p.fuel (suc at) (with_cell (cell + 2) (bit_at (cells (cell + 2)) m) cells)) p) f)
    where
      by_test : (v : Evaluated ℕ)
          → tail code at cells p ≡ with_result v place (λ m. tail_with code p.fuel (suc at) (with_cell (cell + 2) (bit_at (cells (cell + 2)) m) cells)) p
          → Comes code place p at cells to cell (and_then v (λ j. Ok n))
      by_test (Ok j) same =
          let new = with_cell (cell + 2) (bit_at (cells (cell + 2)) j) cells in
          comes_from code place p at cells (suc at) new to cell (Ok n) same
          (λ other l. cell_keeps (cell + 2) (bit_at (cells (cell + 2)) j) cells other (omega arith))
          (comes_at code place p (suc at) new to cell n (cell_keeps (cell + 2) (bit_at (cells (cell + 2)) j) cells cell (omega arith) ∙ e) (omega (arith, t)))
      by_test (Err fault) same = record { out = same }

  -- ---- all steps

  module _ (base slots w : ℕ) (narrow : w ≤ 64) where
    abbrev Steps : Bits → ℕ → List ℕ → Evaluated (List ℕ) → ℕ → ℕ → Cells → Type 0
    Steps bits cell places v at to cells = Gets code place p (List ℕ) at cells to cell (BitsIn w bits cell) v

    short_of : (first step count : ℕ) (places : List ℕ) → ArePlaces w (every first step) count places → count ≤ 64 → IsShort first step count
    short_of first step count places h few = record { few = few; below = λ i l. let b = h.below i l in omega (arith, b, narrow) }

    pub steps_get : (steps : List TypedStep) (bits : Bits) (n : ℕ) (places : List ℕ) (cell at to : ℕ) (cells : Cells) → StepsFit slots n steps → n ≤ 64
        → Leaves bits n → BitsIn w bits cell places cells → StandsAt code place at (steps_code steps bits base cell at)
        → at + steps_length steps bits ≡ to
        → Gets code place p (List ℕ) at cells to cell (BitsIn w (bits_after steps bits) cell) (places_after steps places base p.store)
    steps_get [] bits n places cell at to cells fits few left here h t =
        gets_here code place p at cells to cell (BitsIn w bits cell) places here (omega (arith, t))
    steps_get (step.Slice start by count ∷ steps) AllBits n places cell at to cells fits few left here h t = absurd left
    steps_get (step.Slice start by count ∷ steps) (EveryBit first step m) n places cell at to cells fits few left here h t =
        steps_get steps (EveryBit (first + start * step) (min (by * step) 64) count) count
        (map (λ i. nth_or 0 (start + i * by) places) (range_with_len 0 count)) cell at to cells fits.2 fits.0.1 refl
        (slice_are w first step m start by count places narrow here (λ i l. subst (λ k. start + i * by < k) (sym left) (fits.0.2 i l))) h t
    steps_get (step.Slice start by count ∷ steps) OneBit n places cell at to cells fits few left here h t =
        let same : map (λ i. nth_or 0 (start + i * by) places) (range_with_len 0 count) ≡ here.0 ∷ [] =
        ap (λ (qs : List ℕ). map (λ i. nth_or 0 (start + i * by) qs) (range_with_len 0 count)) here.2
        ∙ one_slice start by count here.0 fits.0.0 fits.1 (λ i l. subst (λ k. start + i * by < k) left (fits.0.2 i l)) in
        let one : count ≡ 1 = one_left start by count fits.0.0 fits.1 (λ i l. subst (λ k. start + i * by < k) left (fits.0.2 i l)) in
        steps_get steps OneBit count (map (λ i. nth_or 0 (start + i * by) places) (range_with_len 0 count)) cell at to cells fits.2 fits.0.1 one
        (here.0, here.1, same, here.3) h t
      where
        one_left : (start by count : ℕ) → 0 < count → 0 < by → ((i : ℕ) → i < count → start + i * by < 1) → count ≡ 1
        one_left start by zero some up fits = absurd (omega arith)
        one_left start by (suc zero) some up fits = refl
        one_left start zero (suc (suc count)) some up fits = absurd (omega arith)
        one_left start (suc by) (suc (suc count)) some up fits = let l = fits 1 (omega arith) in absurd (omega (arith, l))
    steps_get (step.At index ∷ steps) AllBits n places cell at to cells fits few left here h t = absurd left
    steps_get (step.At index ∷ steps) (EveryBit first step m) n places cell at to cells fits few left here h t =
        let a = expression_code index base (suc cell) at in
        let mid = at + expression_length index in
        let b = bit_code cell (type_of index) (EveryBit first step m) in
        let behind = mid + 9 in
        let c = steps_code steps OneBit base cell behind in
        let later = stands_behind code place at a (b ++ c) (expression_length index) (expression_long index base (suc cell) at).long h in
        let whole = and_left (is_whole (type_of index)) (has_size (type_of index)) fits.1 in
        let one : cell + 1 ≡ suc cell = omega arith in
        let many : length places ≡ m = here.many in
        gets_then code place p at cells mid (suc cell) to cell (InCell code place p (suc cell)) (BitsIn w (bits_after steps OneBit) cell)
        (eval index base p.store)
        (λ i. and_then (place_in (length places) (type_of index) i) (λ j. places_after steps (nth_or 0 j places ∷ []) base p.store)) (omega arith)
        (gets_value code place p at cells mid (suc cell) (eval index base p.store)
        (expression_comes code place p base slots index fits.0 (suc cell) at mid cells (stands_first code place at a (b ++ c) h) refl))
        (λ new i is holds kept.
        gets_same code place p mid new to cell (BitsIn w (bits_after steps OneBit) cell) _ _
        (then_moved (place_in m (type_of index) i) (every first step) (λ q. places_after steps (q ∷ []) base p.store)
        ∙ by_each (place_in m (type_of index) i) (λ j e. (written m (type_of index) i j e).below)
        ∙ ap (λ k. and_then (place_in k (type_of index) i) (λ j. places_after steps (nth_or 0 j places ∷ []) base p.store)) (sym many))
        (gets_then code place p mid new behind cell to cell (InCell code place p cell) (BitsIn w (bits_after steps OneBit) cell)
        (and_then (place_in m (type_of index) i) (λ j. Ok (every first step j))) (λ q. places_after steps (q ∷ []) base p.store) (omega arith)
        (gets_value code place p mid new behind cell _
        (every_comes mid cell (type_of index) first step m i behind new
        (short_of first step m places here (let l = left in omega (arith, few, l))) whole
        (stands_first code place mid b c later) (ap new one ∙ holds) refl))
        (λ newer q it there keeps.
        steps_get steps OneBit 1 (q ∷ []) cell behind to newer fits.2 (omega arith) refl
        (q, there, refl, bounded (place_in m (type_of index) i) q (λ j e. (written m (type_of index) i j e).below) it)
        (stands_behind code place mid b c 9 refl later) (omega (arith, t)))))
      where
        by_each : (v : Evaluated ℕ) → ((j : ℕ) → v ≡ Ok j → j < m)
            → and_then v (λ j. places_after steps (every first step j ∷ []) base p.store) ≡ and_then v (λ j. places_after steps (nth_or 0 j places ∷ []) base p.store)
        by_each (Ok j) l = ap (λ q. places_after steps (q ∷ []) base p.store) (sym (here.each j (l j refl)))
        by_each (Err fault) l = refl

        bounded : (v : Evaluated ℕ) (q : ℕ) → ((j : ℕ) → v ≡ Ok j → j < m) → and_then v (λ j. Ok (every first step j)) ≡ Ok q → q < w
        bounded (Ok j) q l e = let same : every first step j ≡ q = cc in subst (λ k. k < w) same (here.below j (l j refl))
        bounded (Err fault) q l e = absurd (cc)
    steps_get (step.At index ∷ steps) OneBit n places cell at to cells fits few left here h t =
        let a = expression_code index base (suc cell) at in
        let mid = at + expression_length index in
        let b = bit_code cell (type_of index) OneBit in
        let behind = mid + 1 in
        let c = steps_code steps OneBit base cell behind in
        let later = stands_behind code place at a (b ++ c) (expression_length index) (expression_long index base (suc cell) at).long h in
        let one : cell + 1 ≡ suc cell = omega arith in
        let q = here.0 in
        gets_then code place p at cells mid (suc cell) to cell (InCell code place p (suc cell)) (BitsIn w (bits_after steps OneBit) cell)
        (eval index base p.store)
        (λ i. and_then (place_in (length places) (type_of index) i) (λ j. places_after steps (nth_or 0 j places ∷ []) base p.store)) (omega arith)
        (gets_value code place p at cells mid (suc cell) (eval index base p.store)
        (expression_comes code place p base slots index fits.0 (suc cell) at mid cells (stands_first code place at a (b ++ c) h) refl))
        (λ new i is holds kept.
        gets_same code place p mid new to cell (BitsIn w (bits_after steps OneBit) cell) _ _
        (then_moved (place_in 1 (type_of index) i) (λ j. q) (λ k. places_after steps (k ∷ []) base p.store)
        ∙ by_only (place_in 1 (type_of index) i) (λ j e. (written 1 (type_of index) i j e).below)
        ∙ ap (λ (qs : List ℕ). and_then (place_in (length qs) (type_of index) i) (λ j. places_after steps (nth_or 0 j qs ∷ []) base p.store)) (sym here.2))
        (gets_then code place p mid new behind cell to cell (InCell code place p cell) (BitsIn w (bits_after steps OneBit) cell)
        (and_then (place_in 1 (type_of index) i) (λ j. Ok q)) (λ k. places_after steps (k ∷ []) base p.store) (omega arith)
        (gets_value code place p mid new behind cell _
        (one_comes mid cell (type_of index) i q behind new (stands_first code place mid b c later)
        (kept cell (omega arith) ∙ here.1) (ap new one ∙ holds) refl))
        (λ newer k it there keeps.
        steps_get steps OneBit 1 (k ∷ []) cell behind to newer fits.2 (omega arith) refl
        (k, there, refl, same_place (place_in 1 (type_of index) i) k it)
        (stands_behind code place mid b c 1 refl later) (omega (arith, t)))))
      where
        by_only : (v : Evaluated ℕ) → ((j : ℕ) → v ≡ Ok j → j < 1)
            → and_then v (λ j. places_after steps (here.0 ∷ []) base p.store)
            ≡ and_then v (λ j. places_after steps (nth_or 0 j (here.0 ∷ []) ∷ []) base p.store)
        by_only (Ok zero) l = refl
        by_only (Ok (suc j)) l = absurd (omega (arith, l (suc j) refl))
        by_only (Err fault) l = refl

        same_place : (v : Evaluated ℕ) (k : ℕ) → and_then v (λ j. Ok here.0) ≡ Ok k → k < w
        same_place (Ok j) k e = let same : here.0 ≡ k = cc in subst (λ m. m < w) same here.3
        same_place (Err fault) k e = absurd (cc)
