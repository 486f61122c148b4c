-- Bits of a value that go to bits of another in any other cell.
use Rattle.std.proofs.Common.{◌≡◌, ◌≢◌, ℕ, zero, suc, ◌+◌, ◌*◌, ◌<◌, Bool, true, false, nat_eq, if◌then◌else◌, refl, sym, ap, ◌∙◌, arith}
use Rattle.std.proofs.lemmas.Bool.{eqb-true}
use Rattle.std.proofs.lemmas.Nat.Bits.{bit_at-lt, bit_at_lowest}
use Rattle.std.proofs.Math.Nat.{mod-eq_of_lt}
use Rattle.std.specs.Int.{bit_at}
use Rattle.qt_tree.specs.declared.place.Place.{Place}
use Rattle.qt_value.specs.Types.{width_of}
use Rattle.qt_value.specs.declared.types.ValueType.{ValueType}
use Rattle.qt_value.specs.declared.types.ValueType.TheVariants as kind
use Rattle.qt_meaning.specs.Points.{Point}
use Rattle.qt_meaning.specs.Values.{place_in, with_bit}
use Rattle.qt_instructions.specs.declared.parts.Parts.{Parts}
use Rattle.qt_code.specs.Cells.{Cells, with_cell}
use Rattle.qt_code.specs.Tail.{tail}
use Rattle.qt_flat_code.specs.Expressions.{copied_code}
use Rattle.qt_flat_expressions.specs.Lands.{KeepsBelow, StandsAt}
use Rattle.qt_flat_expressions.proofs.Coming.{cell_holds, cell_keeps}
use Rattle.qt_flat_expressions.proofs.Copies.{CopyFits, copied}
use Rattle.qt_flat_expressions.proofs.Places.{byte_place}
use Rattle.qt_flat_expressions.proofs.Stepping.{cell_above, load_step, bit_get_step, bit_put_step}

-- the run comes to the instruction behind, where the cell holds the value and the other cells below a number are as before
pub record Copies (code : Parts) (p : Point) (at : ℕ) (cells : Cells) (to cell used value : ℕ) : Type 0 where
  pub new : Cells
  pub holds : new cell ≡ value
  pub kept : (other : ℕ) → other < used → other ≢ cell → new other ≡ cells other
  pub same : tail code at cells p ≡ tail code to new p

bit_itself : (x i : ℕ) → bit_at (bit_at x i) 0 ≡ bit_at x i
bit_itself x i = bit_at_lowest (bit_at x i) ∙ mod-eq_of_lt (bit_at-lt x i)

cell_other : (cell bits : ℕ) (cells : Cells) (other : ℕ) → other ≢ cell → with_cell cell bits cells other ≡ cells other
cell_other cell bits cells other h = by_test (nat_eq cell other) refl
  where
    by_test : (b : Bool) → nat_eq cell other ≡ b → (if b then bits else cells other) ≡ cells other
    by_test true e = absurd (h (sym (eqb-true cell other e)))
    by_test false e = refl

module _ (code : Parts) (place : Place) (p : Point) where
  pub copies : (at from : ℕ) (of : ValueType) (read : ℕ → ℕ) (cell : ℕ) (to : ValueType) (write : ℕ → ℕ) (used i count x y behind : ℕ)
      (cells : Cells) → from ≢ cell → from < used → cell < used → CopyFits (width_of of) (width_of to) read write i count
      → StandsAt code place at (copied_code from of read cell to write used i count) → cells from ≡ x → cells cell ≡ y → at + 4 * count ≡ behind
      → Copies code p at cells behind cell used (copied read write x i count y)
  copies at from of read cell to write used i zero x y behind cells ne lt lu fits h e f b =
      let s : at ≡ behind = omega (arith, b) in
      record { new = cells; holds = f; kept = λ other l d. refl; same = ap (λ n. tail code n cells p) s }
  copies at from of read cell to write used i (suc count) x y behind cells ne lt lu fits h e f b =
      let reads = fits.read_below i (omega arith) (omega arith) in
      let writes = fits.write_below i (omega arith) (omega arith) in
      let small = fits.small in
      let small_too = fits.small_too in
      let first = with_cell used (read i) cells in
      let second = with_cell (used + 1) (bit_at (first from) (read i)) first in
      let third = with_cell used (write i) second in
      let fourth = with_cell cell (with_bit (write i) (bit_at (third (used + 1)) 0) (third cell)) third in
      let x_first : first from ≡ x = cell_keeps used (read i) cells from lt ∙ e in
      let bit : third (used + 1) ≡ bit_at x (read i) =
      cell_above used (write i) second (used + 1) (omega arith) ∙ cell_holds (used + 1) (bit_at (first from) (read i)) first
      ∙ ap (λ z. bit_at z (read i)) x_first in
      let lowest : bit_at (third (used + 1)) 0 ≡ bit_at x (read i) = ap (λ z. bit_at z 0) bit ∙ bit_itself x (read i) in
      let same_below : KeepsBelow used cells third = λ other l.
      cell_keeps used (write i) second other l ∙ cell_keeps (used + 1) (bit_at (first from) (read i)) first other (omega arith)
      ∙ cell_keeps used (read i) cells other l in
      let old : third cell ≡ y = same_below cell lu ∙ f in
      let written : fourth cell ≡ with_bit (write i) (bit_at x (read i)) y =
      cell_holds cell (with_bit (write i) (bit_at (third (used + 1)) 0) (third cell)) third
      ∙ ap (λ z. with_bit (write i) z (third cell)) lowest ∙ ap (λ z. with_bit (write i) (bit_at x (read i)) z) old in
      let kept_here : (other : ℕ) → other < used → other ≢ cell → fourth other ≡ cells other = λ other l d.
      cell_other cell (with_bit (write i) (bit_at (third (used + 1)) 0) (third cell)) third other d ∙ same_below other l in
      let rest =
      copies (suc (suc (suc (suc at)))) from of read cell to write used (suc i) count x (with_bit (write i) (bit_at x (read i)) y) behind
      fourth ne lt lu
      (record {
        read_below = λ j l m. fits.read_below j (omega arith) (omega arith);
        write_below = λ j l m. fits.write_below j (omega arith) (omega arith);
        small = small;
        small_too = small_too;
      })
      h.1.1.1.1 (kept_here from lt ne ∙ e) written (omega (arith, b)) in
      record {
        new = rest.new;
        holds = rest.holds;
        kept = λ other l d. rest.kept other l d ∙ kept_here other l d;
        same =
            load_step code place p at used (read i) cells h.0
            ∙ bit_get_step code place p (suc at) (used + 1) from used (read i) of (kind.Uint 8) first h.1.0
            (ap (place_in (width_of of) (kind.Uint 8)) (cell_holds used (read i) cells) ∙ byte_place (width_of of) (read i) reads (omega arith))
            ∙ load_step code place p (suc (suc at)) used (write i) second h.1.1.0
            ∙ bit_put_step code place p (suc (suc (suc at))) cell used (used + 1) (write i) to (kind.Uint 8) third h.1.1.1.0
            (ap (place_in (width_of to) (kind.Uint 8)) (cell_holds used (write i) second) ∙ byte_place (width_of to) (write i) writes (omega arith))
            ∙ rest.same;
      }
