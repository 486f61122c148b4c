-- Bits of a value that come together as a value of their own.
use Rattle.std.proofs.Common.{◌≡◌, ℕ, zero, suc, ◌+◌, ◌-◌, ◌*◌, ◌%◌, ◌^◌, ◌<◌, ◌≤◌, cond, ◌&&◌, ◌==◌, nat_le, true, Ok, None, List, [], ◌∷◌, option_map, refl, sym, ap, ◌∙◌, arith, rules}
use Rattle.std.proofs.lemmas.Bool.{le-leb}
use Rattle.std.proofs.lemmas.Nat.Bits.{bit_at-lt, bit_at_above}
use Rattle.std.proofs.Math.Nat.{mod-eq_of_lt, pow-suc, pow-zero}
use Rattle.std.specs.Int.{bit_at}
use Rattle.qt_tree.specs.declared.place.Place.{Place}
use Rattle.qt_value.specs.BitPlaces.{from_places, sum_below}
use Rattle.qt_value.specs.Types.{given, has_size, width_of}
use Rattle.qt_value.specs.declared.types.ValueType.{ValueType}
use Rattle.qt_value.specs.declared.types.ValueType.TheVariants as kind
use Rattle.qt_meaning.specs.Points.{Point}
use Rattle.qt_meaning.specs.Values.{bits_in, converted_to, or_zero, slice_of, with_bit}
use Rattle.qt_instructions.specs.declared.instruction.Instr.TheVariants as instr
use Rattle.qt_instructions.specs.declared.instruction.Instr.{Instr}
use Rattle.qt_instructions.specs.declared.parts.Parts.{Parts}
use Rattle.qt_code.specs.Cells.{Cells, with_cell}
use Rattle.qt_flat_code.specs.Expressions.{copied_code, every, operand, slice_code}
use Rattle.qt_flat_expressions.specs.Fits.{SliceFits}
use Rattle.qt_flat_expressions.specs.Lands.{StandsAt}
use Rattle.qt_flat_expressions.proofs.Coming.{Comes, cell_holds, cell_keeps, comes_at, comes_from, comes_then}
use Rattle.qt_flat_expressions.proofs.Copies.{copied, copy_comes}
use Rattle.qt_flat_expressions.proofs.Lengths.{copied_long}
use Rattle.qt_flat_expressions.proofs.Standing.{stands_behind, stands_first}
use Rattle.qt_flat_expressions.proofs.Stepping.{cast_step, load_step}

-- ---- sums of bits

pub same_sum : (n : ℕ) (f g : ℕ → ℕ) → ((i : ℕ) → f i ≡ g i) → sum_below n f ≡ sum_below n g
unfolding sum_below
same_sum zero f g h = refl
same_sum (suc n) f g h = let first = same_sum n f g h in let last : f n ≡ g n = h n in omega arith

sum_first : (n : ℕ) (f : ℕ → ℕ) → sum_below (suc n) f ≡ f 0 + sum_below n (λ j. f (suc j))
unfolding sum_below
sum_first zero f = omega arith
sum_first (suc n) f = let first = sum_first n f in omega arith

bits_fit : (n : ℕ) (bit : ℕ → ℕ) → ((i : ℕ) → bit i < 2) → from_places n bit < 2 ^ n
unfolding sum_below
bits_fit zero bit h = omega (arith, pow-zero 2)
bits_fit (suc n) bit h = more (bit n) (2 ^ n) (from_places n bit) (2 ^ suc n) (h n) (bits_fit n bit h) (pow-suc 2 n)
  where
    more : (b p s q : ℕ) → b < 2 → s < p → q ≡ p * 2 → s + b * p < q
    more zero p s q l m e = omega arith
    more (suc zero) p s q l m e = omega arith
    more (suc (suc b)) p s q l m e = absurd (omega arith)

-- a bit that is written behind all bits of a number
with_higher : (i b y : ℕ) → b < 2 → y < 2 ^ i → with_bit i b y ≡ y + b * 2 ^ i
unfolding with_bit
with_higher i b y l h =
    ap (λ z. y - z * 2 ^ i + b * 2 ^ i) (bit_at_above y i i h (omega arith)) ∙ omega arith

higher_fits : (b p y q : ℕ) → b < 2 → y < p → q ≡ p * 2 → y + b * p < q
higher_fits zero p y q l h e = omega arith
higher_fits (suc zero) p y q l h e = omega arith
higher_fits (suc (suc b)) p y q l h e = absurd (omega arith)

abbrev term : (ℕ → ℕ) → ℕ → ℕ → ℕ
term read x j = bit_at x (read j) * 2 ^ j

copied_sum : (read : ℕ → ℕ) (x i count y : ℕ) → y < 2 ^ i
    → copied read (λ j. j) x i count y ≡ y + sum_below count (λ j. term read x (i + j))
unfolding sum_below
copied_sum read x i zero y h = omega arith
copied_sum read x i (suc count) y h =
    let b = bit_at x (read i) in
    let new : with_bit i b y ≡ y + b * 2 ^ i = with_higher i b y (bit_at-lt x (read i)) h in
    let fits : y + b * 2 ^ i < 2 ^ suc i = higher_fits b (2 ^ i) y (2 ^ suc i) (bit_at-lt x (read i)) h (pow-suc 2 i) in
    let first : term read x (i + 0) ≡ b * 2 ^ i = let z : i + 0 ≡ i = omega arith in ap (term read x) z in
    let later : sum_below count (λ j. term read x (i + suc j)) ≡ sum_below count (λ j. term read x (suc i + j)) =
    same_sum count (λ j. term read x (i + suc j)) (λ j. term read x (suc i + j))
    (λ j. let z : i + suc j ≡ suc i + j = omega arith in ap (term read x) z) in
    let whole : sum_below (suc count) (λ j. term read x (i + j)) ≡ term read x (i + 0) + sum_below count (λ j. term read x (i + suc j)) =
    sum_first count (λ j. term read x (i + j)) in
    let rest = copied_sum read x (suc i) count (y + b * 2 ^ i) fits in
    ap (λ z. copied read (λ j. j) x (suc i) count z) new ∙ rest ∙ add_up y (b * 2 ^ i) _ _ _ _ whole first later
  where
    add_up : (y t s f l m : ℕ) → s ≡ f + l → f ≡ t → l ≡ m → y + t + m ≡ y + s
    add_up y t s f l m e g k = omega arith

pub slice_copied : (x start step count : ℕ) → copied (every start step) (λ j. j) x 0 count 0 ≡ slice_of x start step count
unfolding slice_of
slice_copied x start step count =
    let none : 0 < 2 ^ 0 = omega (arith, pow-zero 2) in
    let from : sum_below count (λ j. term (every start step) x (0 + j)) ≡ sum_below count (term (every start step) x) =
    same_sum count (λ j. term (every start step) x (0 + j)) (term (every start step) x)
    (λ j. let z : 0 + j ≡ j = omega arith in ap (term (every start step) x) z) in
    copied_sum (every start step) x 0 count 0 none ∙ omega (arith, from)

pub slice_below : (x start step count : ℕ) → slice_of x start step count < 2 ^ count
unfolding slice_of
slice_below x start step count = bits_fit count (λ i. bit_at x (start + i * step)) (λ i. bit_at-lt x (start + i * step))

-- ---- a bit register as it is

pub register_sized : (n : ℕ) → 0 < n → n ≤ 64 → has_size (kind.Bit n) ≡ true
register_sized n h g = let a : 1 ≤ n = omega arith in ap (λ b. b && nat_le n 64) (le-leb 1 n a) ∙ le-leb n 64 g

kept_bits : (n x : ℕ) → 0 < n → n ≤ 64 → x < 2 ^ n → converted_to (kind.Bit n) (kind.Bit n) x ≡ x
unfolding converted_to
kept_bits n x h g l =
    let same : (n == n) ≡ true = search rules in
    ap (λ b. or_zero (option_map bits_in (cond b (option_map (λ bits. record { kind = kind.Bit n; bits = bits }) (given (n == n) (x % 2 ^ n))) None)))
    (register_sized n h g)
    ∙ ap (λ b. or_zero (option_map bits_in (option_map (λ bits. record { kind = kind.Bit n; bits = bits }) (given b (x % 2 ^ n))))) same
    ∙ mod-eq_of_lt l

-- ---- the code

module _ (code : Parts) (place : Place) (p : Point) where
  moved : (at cell start step count x to : ℕ) (cells : Cells) → 0 < count → count ≤ 64
      → StandsAt code place at (instr.Cast cell (operand (cell + 1) (kind.Bit count)) (kind.Bit count) ∷ [])
      → cells (cell + 1) ≡ slice_of x start step count → suc at ≡ to → Comes code place p at cells to cell (Ok (slice_of x start step count))
  moved at cell start step count x to cells some few h e t =
      let value = slice_of x start step count in
      let new = with_cell cell value cells in
      comes_from code place p at cells (suc at) new to cell (Ok value)
      (cast_step code place p at cell (cell + 1) value (kind.Bit count) (kind.Bit count) cells h.0
      (ap (converted_to (kind.Bit count) (kind.Bit count)) e ∙ kept_bits count value some few (slice_below x start step count)))
      (λ other l. cell_keeps cell value cells other l)
      (comes_at code place p (suc at) new to cell value (cell_holds cell value cells) t)

  pub slice_comes : (at cell : ℕ) (of : ValueType) (start step count x to : ℕ) (cells : Cells) → SliceFits (width_of of) start step count
      → width_of of ≤ 64 → StandsAt code place at (slice_code cell of start step count) → cells cell ≡ x → at + (1 + (4 * count + 1)) ≡ to
      → Comes code place p at cells to cell (Ok (slice_of x start step count))
  slice_comes at cell of start step count x to cells fits narrow h e t =
      let some = fits.0 in
      let few = fits.1 in
      let first = with_cell (cell + 1) 0 cells in
      let copies = copied_code cell of (every start step) (cell + 1) (kind.Bit count) (λ j. j) (cell + 2) 0 count in
      let last : List Instr = instr.Cast cell (operand (cell + 1) (kind.Bit count)) (kind.Bit count) ∷ [] in
      let behind = suc at + 4 * count in
      let bits = copied (every start step) (λ j. j) x 0 count 0 in
      comes_from code place p at cells (suc at) first to cell (Ok (slice_of x start step count))
      (load_step code place p at (cell + 1) 0 cells h.0)
      (λ other l. cell_keeps (cell + 1) 0 cells other (omega arith))
      (comes_then code place p (suc at) first behind (cell + 1) to cell (Ok bits) (λ y. Ok (slice_of x start step count)) (omega arith)
      (copy_comes code place p (suc at) cell of (every start step) (cell + 1) (kind.Bit count) (λ j. j) (cell + 2) 0 count x 0 behind first
      (omega arith) (omega arith)
      (record {
        read_below = λ j l m. fits.2 j (omega arith);
        write_below = λ j l m. omega arith;
        small = omega arith;
        small_too = omega arith;
      })
      (stands_first code place (suc at) copies last h.1) (cell_keeps (cell + 1) 0 cells cell (omega arith) ∙ e) (cell_holds (cell + 1) 0 cells)
      refl)
      (λ new y is holds kept.
      let same : bits ≡ y = cc in
      moved behind cell start step count x to new some few
      (stands_behind code place (suc at) copies last (4 * count)
      (copied_long cell of (every start step) (cell + 1) (kind.Bit count) (λ j. j) (cell + 2) 0 count).long h.1)
      (holds ∙ sym same ∙ slice_copied x start step count) (omega (arith, t))))
