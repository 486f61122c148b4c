-- Bits of a value that go to bits of another, one by one.
use Rattle.std.proofs.Common.{◌≡◌, ℕ, zero, suc, ◌+◌, ◌*◌, ◌<◌, ◌≤◌, Ok, ap, ◌∙◌, arith}
use Rattle.std.proofs.lemmas.Nat.Bits.{bit_at-lt, bit_at_lowest}
use Rattle.std.proofs.Math.Nat.{mod-eq_of_lt}
use Rattle.std.specs.Int.{bit_at}
use Rattle.qt_tree.specs.declared.place.Place.{Place}
use Rattle.qt_value.specs.Types.{width_of}
use Rattle.qt_value.specs.declared.types.ValueType.{ValueType}
use Rattle.qt_value.specs.declared.types.ValueType.TheVariants as kind
use Rattle.qt_meaning.specs.Points.{Point}
use Rattle.qt_meaning.specs.Values.{place_in, with_bit}
use Rattle.qt_instructions.specs.declared.parts.Parts.{Parts}
use Rattle.qt_code.specs.Cells.{Cells, with_cell}
use Rattle.qt_flat_code.specs.Expressions.{copied_code}
use Rattle.qt_flat_expressions.specs.Lands.{KeepsBelow, StandsAt}
use Rattle.qt_flat_expressions.proofs.Coming.{Comes, cell_holds, cell_keeps, comes_at, comes_from}
use Rattle.qt_flat_expressions.proofs.Places.{byte_place}
use Rattle.qt_flat_expressions.proofs.Stepping.{cell_above, load_step, bit_get_step, bit_put_step}

-- so many bits of x from the i-th on, from where the first function says to where the second does in y
abbrev pub copied : (ℕ → ℕ) → (ℕ → ℕ) → ℕ → ℕ → ℕ → ℕ → ℕ
copied read write x i zero y = y
copied read write x i (suc count) y = copied read write x (suc i) count (with_bit (write i) (bit_at x (read i)) y)

-- the places of a copy are there
pub record CopyFits (n m : ℕ) (read write : ℕ → ℕ) (i count : ℕ) : Type 0 where
  pub read_below : (j : ℕ) → i ≤ j → j < i + count → read j < n
  pub write_below : (j : ℕ) → i ≤ j → j < i + count → write j < m
  pub small : n < 256
  pub small_too : m < 256

bit_itself : (x i : ℕ) → bit_at (bit_at x i) 0 ≡ bit_at x i
bit_itself x i = bit_at_lowest (bit_at x i) ∙ mod-eq_of_lt (bit_at-lt x i)

module _ (code : Parts) (place : Place) (p : Point) where
  pub copy_comes : (at from : ℕ) (of : ValueType) (read : ℕ → ℕ) (cell : ℕ) (to : ValueType) (write : ℕ → ℕ) (used i count x y behind : ℕ)
      (cells : Cells) → from < cell → cell < used → CopyFits (width_of of) (width_of to) read write i count
      → StandsAt code place at (copied_code from of read cell to write used i count) → cells from ≡ x → cells cell ≡ y → at + 4 * count ≡ behind
      → Comes code place p at cells behind cell (Ok (copied read write x i count y))
  copy_comes at from of read cell to write used i zero x y behind cells lt lu fits h e f b =
      comes_at code place p at cells behind cell y f (omega (arith, b))
  copy_comes at from of read cell to write used i (suc count) x y behind cells lt lu fits h e f b =
      let reads = fits.read_below i (omega arith) (omega arith) in
      let writes = fits.write_below i (omega arith) (omega arith) in
      let small = fits.small in
      let small_too = fits.small_too in
      let first = with_cell used (read i) cells in
      let second = with_cell (used + 1) (bit_at (first from) (read i)) first in
      let third = with_cell used (write i) second in
      let fourth = with_cell cell (with_bit (write i) (bit_at (third (used + 1)) 0) (third cell)) third in
      let x_first : first from ≡ x = cell_keeps used (read i) cells from (omega arith) ∙ e in
      let bit : third (used + 1) ≡ bit_at x (read i) =
      cell_above used (write i) second (used + 1) (omega arith) ∙ cell_holds (used + 1) (bit_at (first from) (read i)) first
      ∙ ap (λ z. bit_at z (read i)) x_first in
      let lowest : bit_at (third (used + 1)) 0 ≡ bit_at x (read i) = ap (λ z. bit_at z 0) bit ∙ bit_itself x (read i) in
      let same_below : KeepsBelow used cells third = λ other l.
      cell_keeps used (write i) second other l ∙ cell_keeps (used + 1) (bit_at (first from) (read i)) first other (omega arith)
      ∙ cell_keeps used (read i) cells other l in
      let old : third cell ≡ y = same_below cell lu ∙ f in
      let new : fourth cell ≡ with_bit (write i) (bit_at x (read i)) y =
      cell_holds cell (with_bit (write i) (bit_at (third (used + 1)) 0) (third cell)) third
      ∙ ap (λ z. with_bit (write i) z (third cell)) lowest ∙ ap (λ z. with_bit (write i) (bit_at x (read i)) z) old in
      let kept : KeepsBelow cell cells fourth = λ other l.
      cell_keeps cell (with_bit (write i) (bit_at (third (used + 1)) 0) (third cell)) third other l ∙ same_below other (omega arith) in
      comes_from code place p at cells (suc (suc (suc (suc at)))) fourth behind cell _
      (load_step code place p at used (read i) cells h.0
      ∙ bit_get_step code place p (suc at) (used + 1) from used (read i) of (kind.Uint 8) first h.1.0
      (ap (place_in (width_of of) (kind.Uint 8)) (cell_holds used (read i) cells) ∙ byte_place (width_of of) (read i) reads (omega arith))
      ∙ load_step code place p (suc (suc at)) used (write i) second h.1.1.0
      ∙ bit_put_step code place p (suc (suc (suc at))) cell used (used + 1) (write i) to (kind.Uint 8) third h.1.1.1.0
      (ap (place_in (width_of to) (kind.Uint 8)) (cell_holds used (write i) second) ∙ byte_place (width_of to) (write i) writes (omega arith)))
      kept
      (copy_comes (suc (suc (suc (suc at)))) from of read cell to write used (suc i) count x (with_bit (write i) (bit_at x (read i)) y) behind
      fourth lt lu
      (record {
        read_below = λ j l m. fits.read_below j (omega arith) (omega arith);
        write_below = λ j l m. fits.write_below j (omega arith) (omega arith);
        small = small;
        small_too = small_too;
      })
      h.1.1.1.1 (kept from lt ∙ e) new (omega (arith, b)))
