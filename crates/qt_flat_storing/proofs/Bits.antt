-- The places of the bits that a target is: what the steps leave of all places, and how the code has it.
use Rattle.std.proofs.Common.{◌≡◌, ℕ, zero, suc, ◌+◌, ◌*◌, ◌^◌, ◌<◌, min, List, [], ◌∷◌, length, map, refl, ap, ◌∙◌, arith, ◌≤◌}
use Rattle.std.specs.List.{range_with_len}
use Rattle.std.specs.Int.{bit_at}
use Rattle.qt_value.specs.BitPlaces.{from_places, sum_below}
use Rattle.qt_gate_calls.specs.Primitives.{nth_or}
use Rattle.qt_meaning.specs.Places.{with_bits}
use Rattle.qt_meaning.specs.Values.{with_bit}
use Rattle.qt_code.specs.Cells.{Cells}
use Rattle.qt_flat_code.specs.Bits.{Bits, AllBits, EveryBit, OneBit}
use Rattle.qt_flat_code.specs.Expressions.{every}
use Rattle.qt_flat_expressions.proofs.Copies.{copied}

-- so many places, of which the i-th is that; all are below w
pub record ArePlaces (w : ℕ) (place : ℕ → ℕ) (count : ℕ) (places : List ℕ) : Type 0 where
  pub many : length places ≡ count
  pub each : (i : ℕ) → i < count → nth_or 0 i places ≡ place i
  pub below : (i : ℕ) → i < count → place i < w

-- the place of one bit stands in a cell
abbrev pub OneIn : ℕ → ℕ → List ℕ → Cells → Type 0
OneIn w cell places new = (n : ℕ) × (new cell ≡ n) × (places ≡ n ∷ []) × (n < w)

abbrev pub BitsIn : ℕ → Bits → ℕ → List ℕ → Cells → Type 0
BitsIn w AllBits cell places new = ⊥
BitsIn w (EveryBit first step count) cell places new = ArePlaces w (every first step) count places
BitsIn w OneBit cell places new = OneIn w cell places new

-- so many bits are left
abbrev pub Leaves : Bits → ℕ → Type 0
Leaves AllBits n = ⊥
Leaves (EveryBit first step count) n = count ≡ n
Leaves OneBit n = n ≡ 1

-- ---- places one after another

range_nth : (f : ℕ → ℕ) (first count i : ℕ) → i < count → nth_or 0 i (map f (range_with_len first count)) ≡ f (first + i)
range_nth f first zero i h = absurd (omega arith)
range_nth f first (suc count) zero h = let e : first ≡ first + 0 = omega arith in ap f e
range_nth f first (suc count) (suc i) h =
    let e : first + 1 + i ≡ first + suc i = omega arith in
    range_nth f (first + 1) count i (omega arith) ∙ ap f e

range_long : (f : ℕ → ℕ) (first count : ℕ) → length (map f (range_with_len first count)) ≡ count
range_long f first zero = refl
range_long f first (suc count) = ap suc (range_long f (first + 1) count)

all_nth : (first count i : ℕ) → i < count → nth_or 0 i (range_with_len first count) ≡ first + i
all_nth first zero i h = absurd (omega arith)
all_nth first (suc count) zero h = omega arith
all_nth first (suc count) (suc i) h = all_nth (first + 1) count i (omega arith) ∙ omega arith

all_long : (first count : ℕ) → length (range_with_len first count) ≡ count
all_long first zero = refl
all_long first (suc count) = ap suc (all_long (first + 1) count)

pub all_are : (w : ℕ) → ArePlaces w (every 0 1) w (range_with_len 0 w)
all_are w = record {
  many = all_long 0 w;
  each = λ i h. all_nth 0 w i h ∙ omega arith;
  below = λ i h. omega (arith, h);
}

-- a slice of places; where it has more than one, a step is below 64
pub slice_are : (w first step n start by count : ℕ) (places : List ℕ) → w ≤ 64 → ArePlaces w (every first step) n places
    → ((i : ℕ) → i < count → start + i * by < n)
    → ArePlaces w (every (first + start * step) (min (by * step) 64)) count (map (λ i. nth_or 0 (start + i * by) places) (range_with_len 0 count))
slice_are w first step n start by count places narrow h fits = record {
  many = range_long (λ i. nth_or 0 (start + i * by) places) 0 count;
  each = λ i l. range_nth (λ j. nth_or 0 (start + j * by) places) 0 count i l ∙ moved i ∙ h.each (start + i * by) (fits i l) ∙ same i l;
  below = λ i l. let b = h.below (start + i * by) (fits i l) in let e = same i l in omega (arith, b, e);
}
  where
    moved : (i : ℕ) → nth_or 0 (start + (0 + i) * by) places ≡ nth_or 0 (start + i * by) places
    moved i = let z : 0 + i ≡ i = omega arith in ap (λ j. nth_or 0 (start + j * by) places) z

    same : (i : ℕ) → i < count → every first step (start + i * by) ≡ every (first + start * step) (min (by * step) 64) i
    same zero l = omega arith
    same (suc i) l =
        let b = h.below (start + 1 * by) (fits 1 (omega (arith, l))) in
        let small : by * step < 64 = omega (arith, b, narrow) in
        let m : by * step ≡ min (by * step) 64 = omega (arith, small) in
        let whole : first + (start + suc i * by) * step ≡ first + start * step + suc i * (by * step) = omega arith in
        whole ∙ ap (λ k. first + start * step + suc i * k) m

-- of one place there is one slice
pub one_slice : (start by count n : ℕ) → 0 < count → 0 < by → ((i : ℕ) → i < count → start + i * by < 1)
    → map (λ i. nth_or 0 (start + i * by) (n ∷ [])) (range_with_len 0 count) ≡ n ∷ []
one_slice start by zero n some up fits = absurd (omega arith)
one_slice start by (suc zero) n some up fits =
    let z : start + 0 * by ≡ 0 = (let l = fits 0 (omega arith) in omega (arith, l)) in
    ap (λ x. nth_or 0 x (n ∷ []) ∷ []) z
one_slice start zero (suc (suc count)) n some up fits = absurd (omega arith)
one_slice start (suc by) (suc (suc count)) n some up fits = let l = fits 1 (omega arith) in absurd (omega (arith, l))

-- ---- what is stored and loaded there

pub stored_copied : (place : ℕ → ℕ) (x i count : ℕ) (places : List ℕ) (old : ℕ) → length places ≡ count
    → ((j : ℕ) → j < count → nth_or 0 j places ≡ place (i + j)) → with_bits places i x old ≡ copied (λ j. j) place x i count old
stored_copied place x i zero [] old e h = refl
stored_copied place x i zero (q ∷ places) old e h = absurd (omega (arith, e))
stored_copied place x i (suc count) [] old e h = absurd (omega (arith, e))
stored_copied place x i (suc count) (q ∷ places) old e h =
    let z : i + 0 ≡ i = omega arith in
    let first : q ≡ place i = h 0 (omega arith) ∙ ap place z in
    ap (λ m. with_bits places (suc i) x (with_bit m (bit_at x i) old)) first
    ∙ stored_copied place x (suc i) count places (with_bit (place i) (bit_at x i) old) (omega (arith, e))
    (λ j l. let s : i + suc j ≡ suc i + j = omega arith in h (suc j) (omega (arith, l)) ∙ ap place s)

sums_same : (n : ℕ) (f g : ℕ → ℕ) → ((i : ℕ) → i < n → f i ≡ g i) → sum_below n f ≡ sum_below n g
unfolding sum_below
sums_same zero f g h = refl
sums_same (suc n) f g h =
    let first = sums_same n f g (λ i l. h i (omega (arith, l))) in
    let last = h n (omega arith) in
    omega (arith, first, last)

pub loaded_places : (w : ℕ) (place : ℕ → ℕ) (count x : ℕ) (places : List ℕ) → ArePlaces w place count places
    → from_places (length places) (λ i. bit_at x (nth_or 0 i places)) ≡ from_places count (λ i. bit_at x (place i))
loaded_places w place count x places h =
    ap (λ n. from_places n (λ i. bit_at x (nth_or 0 i places))) h.many
    ∙ sums_same count (λ i. bit_at x (nth_or 0 i places) * 2 ^ i) (λ i. bit_at x (place i) * 2 ^ i)
    (λ i l. ap (λ m. bit_at x m * 2 ^ i) (h.each i l))

pub loaded_one : (n x : ℕ) → from_places 1 (λ i. bit_at x (nth_or 0 i (n ∷ []))) ≡ bit_at x n
unfolding sum_below
loaded_one n x = omega arith
