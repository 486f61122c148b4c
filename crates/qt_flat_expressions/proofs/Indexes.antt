-- One index of an element: it is tested, counted from the end where it is negative, and joins the place of the indexes before.
use Rattle.std.proofs.Common.{◌≡◌, ℕ, zero, suc, ◌+◌, ◌*◌, ◌^◌, ◌<◌, ◌≤◌, Ok, Err, [], ◌∷◌, refl, ap, ◌∙◌, arith, true}
use Rattle.qt_tree.specs.declared.place.Place.{Place}
use Rattle.qt_value.specs.Numbers.{residue}
use Rattle.qt_value.specs.Types.{is_whole}
use Rattle.qt_value.specs.declared.operators.Op.{Op}
use Rattle.qt_value.specs.declared.operators.Op.TheVariants as op
use Rattle.qt_value.specs.declared.types.ValueType.{ValueType}
use Rattle.qt_meaning.specs.Points.{Point, with_result}
use Rattle.qt_meaning.specs.Values.{Evaluated, and_then, converted_to, number_of, operated, place_in, slot_at}
use Rattle.qt_instructions.specs.declared.instruction.Instr.TheVariants as instr
use Rattle.qt_instructions.specs.declared.parts.Parts.{Parts}
use Rattle.qt_code.specs.Cells.{Cells, with_cell}
use Rattle.qt_code.specs.Tail.{tail}
use Rattle.qt_code.proofs.Steps.{tail_at, tail_with}
use Rattle.qt_flat_code.specs.Expressions.{binary, index_code, operand, place_kind}
use Rattle.qt_flat_expressions.specs.Lands.{KeepsBelow, StandsAt}
use Rattle.qt_flat_expressions.proofs.Coming.{Comes, cell_holds, cell_keeps, comes_at, comes_from}
use Rattle.qt_flat_expressions.proofs.Numbers.{added, product, rest, sum}
use Rattle.qt_flat_expressions.proofs.Places.{converted_place, written, written_small, written_sum}
use Rattle.qt_flat_expressions.proofs.Stepping.{cell_above, binary_step, cast_step, load_step}

-- the place after an index, where all that is reckoned stays small
pub record IsRoom (before length : ℕ) : Type 0 where
  pub some : 0 < length
  pub short : length < 2 ^ 32
  pub room : before * length + length ≤ 2 ^ 32

mul-le : (b n : ℕ) → b ≤ b * suc n
mul-le b n = omega arith

pair_is : (operator : Op) (a b x y : ℕ) → a ≡ x → b ≡ y
    → operated operator place_kind place_kind a b ≡ operated operator place_kind place_kind x y
pair_is operator a b x y e f = ap (λ z. operated operator place_kind place_kind z b) e ∙ ap (λ z. operated operator place_kind place_kind x z) f

module _ (code : Parts) (place : Place) (p : Point) where
  -- behind the test
  reckoned : (at cell : ℕ) (of : ValueType) (length x before n to : ℕ) (cells : Cells) → IsRoom before length → is_whole of ≡ true
      → StandsAt code place at (
      instr.Load (cell + 2) length
      ∷ instr.Cast (cell + 1) (operand (cell + 1) of) place_kind
      ∷ binary (cell + 1) op.Add (operand (cell + 1) place_kind) (operand (cell + 2) place_kind)
      ∷ binary (cell + 1) op.Rem (operand (cell + 1) place_kind) (operand (cell + 2) place_kind)
      ∷ binary cell op.Mul (operand cell place_kind) (operand (cell + 2) place_kind)
      ∷ binary cell op.Add (operand cell place_kind) (operand (cell + 1) place_kind) ∷ []
      )
      → cells cell ≡ before → cells (cell + 1) ≡ x → place_in length of x ≡ Ok n → at + 6 ≡ to
      → Comes code place p at cells to cell (Ok (before * length + n))
  reckoned at cell of zero x before n to cells fits whole h e f g t = let some = fits.some in absurd (omega arith)
  reckoned at cell of (suc short) x before n to cells fits whole h e f g t =
      let length = suc short in
      let room = fits.room in
      let bound = fits.short in
      let z = number_of of x in
      let place_of = written length of x n g in
      let lt = place_of.below in
      let whole_sum = written_sum z length n place_of in
      let m = whole_sum.0 in
      let least : before ≤ before * length = mul-le before short in
      let before_small : before < 2 ^ 63 = omega arith in
      let m_below : m < length + length = whole_sum.3 in
      let first = with_cell (cell + 2) length cells in
      let second = with_cell (cell + 1) (residue 64 z) first in
      let third = with_cell (cell + 1) m second in
      let fourth = with_cell (cell + 1) n third in
      let fifth = with_cell cell (before * length) fourth in
      let sixth = with_cell cell (before * length + n) fifth in
      let length_2 : second (cell + 2) ≡ length =
      cell_above (cell + 1) (residue 64 z) first (cell + 2) (omega arith) ∙ cell_holds (cell + 2) length cells in
      let length_3 : third (cell + 2) ≡ length = cell_above (cell + 1) m second (cell + 2) (omega arith) ∙ length_2 in
      let length_4 : fourth (cell + 2) ≡ length = cell_above (cell + 1) n third (cell + 2) (omega arith) ∙ length_3 in
      let kept : KeepsBelow (cell + 1) cells fourth = λ other l.
      cell_keeps (cell + 1) n third other l ∙ cell_keeps (cell + 1) m second other l
      ∙ cell_keeps (cell + 1) (residue 64 z) first other l ∙ cell_keeps (cell + 2) length cells other (omega arith) in
      let before_4 : fourth cell ≡ before = kept cell (omega arith) ∙ e in
      let n_5 : fifth (cell + 1) ≡ n = cell_above cell (before * length) fourth (cell + 1) (omega arith) ∙ cell_holds (cell + 1) n third in
      let x_1 : first (cell + 1) ≡ x = cell_keeps (cell + 2) length cells (cell + 1) (omega arith) ∙ f in
      comes_from code place p at cells (suc (suc (suc (suc (suc (suc at)))))) sixth to cell (Ok (before * length + n))
      (load_step code place p at (cell + 2) length cells h.0
      ∙ cast_step code place p (suc at) (cell + 1) (cell + 1) (residue 64 z) of place_kind first h.1.0
      (ap (converted_to place_kind of) x_1 ∙ converted_place of x whole)
      ∙ binary_step code place p (suc (suc at)) (cell + 1) (cell + 1) (cell + 2) m op.Add place_kind place_kind second h.1.1.0
      (pair_is op.Add (second (cell + 1)) (second (cell + 2)) (residue 64 z) length (cell_holds (cell + 1) (residue 64 z) first) length_2
      ∙ added z length m (written_small z length n (omega arith) place_of) (omega arith) (omega arith) whole_sum.1)
      ∙ binary_step code place p (suc (suc (suc at))) (cell + 1) (cell + 1) (cell + 2) n op.Rem place_kind place_kind third h.1.1.1.0
      (pair_is op.Rem (third (cell + 1)) (third (cell + 2)) m length (cell_holds (cell + 1) m second) length_3
      ∙ rest m short (omega arith) (omega arith) ∙ ap (λ y. Ok y) whole_sum.2)
      ∙ binary_step code place p (suc (suc (suc (suc at)))) cell cell (cell + 2) (before * length) op.Mul place_kind place_kind fourth h.1.1.1.1.0
      (pair_is op.Mul (fourth cell) (fourth (cell + 2)) before length before_4 length_4
      ∙ product before length before_small (omega arith) (omega arith))
      ∙ binary_step code place p (suc (suc (suc (suc (suc at))))) cell cell (cell + 1) (before * length + n) op.Add place_kind place_kind fifth
      h.1.1.1.1.1.0
      (pair_is op.Add (fifth cell) (fifth (cell + 1)) (before * length) n (cell_holds cell (before * length) fourth) n_5
      ∙ sum (before * length) n (omega arith) (omega arith)))
      (λ other l.
      cell_keeps cell (before * length + n) fifth other l ∙ cell_keeps cell (before * length) fourth other l ∙ kept other (omega arith))
      (comes_at code place p (suc (suc (suc (suc (suc (suc at)))))) sixth to cell (before * length + n)
      (cell_holds cell (before * length + n) fifth) (omega (arith, t)))

  pub index_comes : (at cell first : ℕ) (of : ValueType) (length x before to : ℕ) (cells : Cells) → IsRoom before length → is_whole of ≡ true
      → StandsAt code place at (index_code cell first of length) → cells cell ≡ before → cells (cell + 1) ≡ x → at + 7 ≡ to
      → Comes code place p at cells to cell (and_then (place_in length of x) (λ n. Ok (before * length + n)))
  index_comes at cell first of length x before to cells fits whole h e f t =
      by_test (place_in length of x) refl
      (tail_at code at (instr.GetAt (cell + 2) first length (operand (cell + 1) of), place) h.0 cells p
      ∙ ap (λ y. with_result (place_in length of y) place (λ n. tail_with code p.fuel (suc at) (with_cell (cell + 2) (slot_at p.store (first + n)) cells)) p) f)
    where
      by_test : (v : Evaluated ℕ) → place_in length of x ≡ v
          → tail code at cells p ≡ with_result v place (λ n. tail_with code p.fuel (suc at) (with_cell (cell + 2) (slot_at p.store (first + n)) cells)) p
          → Comes code place p at cells to cell (and_then v (λ n. Ok (before * length + n)))
      by_test (Ok n) g same =
          let new = with_cell (cell + 2) (slot_at p.store (first + n)) cells in
          comes_from code place p at cells (suc at) new to cell (Ok (before * length + n)) same
          (λ other l. cell_keeps (cell + 2) (slot_at p.store (first + n)) cells other (omega arith))
          (reckoned (suc at) cell of length x before n to new fits whole h.1
          (cell_keeps (cell + 2) (slot_at p.store (first + n)) cells cell (omega arith) ∙ e)
          (cell_keeps (cell + 2) (slot_at p.store (first + n)) cells (cell + 1) (omega arith) ∙ f) g (omega (arith, t)))
      by_test (Err fault) g same = record { out = same }
