-- Single instructions that bring something to a cell and cannot fault where they stand.
use Rattle.std.proofs.Common.{◌≡◌, ℕ, suc, ◌<◌, nat_eq, false, if◌then◌else◌, Ok, Some, slice_get, ap, ◌∙◌, arith}
use Rattle.std.specs.Int.{bit_at}
use Rattle.qt_tree.specs.declared.place.Place.{Place}
use Rattle.qt_value.specs.Types.{width_of}
use Rattle.qt_value.specs.declared.operators.Op.{Op}
use Rattle.qt_value.specs.declared.types.ValueType.{ValueType}
use Rattle.qt_meaning.specs.Points.{Point, with_result}
use Rattle.qt_meaning.specs.Values.{converted_to, operated, place_in, slot_at, with_bit}
use Rattle.qt_instructions.specs.declared.instruction.Instr.{Instr}
use Rattle.qt_instructions.specs.declared.instruction.Instr.TheVariants as instr
use Rattle.qt_instructions.specs.declared.parts.Parts.{Parts}
use Rattle.qt_code.specs.Cells.{Cells, with_cell}
use Rattle.qt_code.specs.Tail.{lines, tail}
use Rattle.qt_code.proofs.Steps.{tail_at, tail_with}
use Rattle.qt_flat_code.specs.Expressions.{binary, operand}

not_same : (c d : ℕ) → c < d → nat_eq c d ≡ false
not_same c d h = grind arith

pub cell_above : (cell bits : ℕ) (cells : Cells) (other : ℕ) → cell < other → with_cell cell bits cells other ≡ cells other
cell_above cell bits cells other h = ap (λ b. if b then bits else cells other) (not_same cell other h)

-- an instruction stands there with the place
abbrev pub HasAt : Parts → Place → ℕ → Instr → Type 0
HasAt code place at i = slice_get (lines code) at ≡ Some (i, place)

module _ (code : Parts) (place : Place) (p : Point) where
  pub load_step : (at cell bits : ℕ) (cells : Cells) → HasAt code place at (instr.Load cell bits)
      → tail code at cells p ≡ tail code (suc at) (with_cell cell bits cells) p
  load_step at cell bits cells h = tail_at code at (instr.Load cell bits, place) h cells p

  pub get_step : (at cell slot : ℕ) (cells : Cells) → HasAt code place at (instr.Get cell slot)
      → tail code at cells p ≡ tail code (suc at) (with_cell cell (slot_at p.store slot) cells) p
  get_step at cell slot cells h = tail_at code at (instr.Get cell slot, place) h cells p

  pub cast_step : (at cell from bits : ℕ) (of to : ValueType) (cells : Cells)
      → HasAt code place at (instr.Cast cell (operand from of) to) → converted_to to of (cells from) ≡ bits
      → tail code at cells p ≡ tail code (suc at) (with_cell cell bits cells) p
  cast_step at cell from bits of to cells h e =
      tail_at code at (instr.Cast cell (operand from of) to, place) h cells p
      ∙ ap (λ b. tail code (suc at) (with_cell cell b cells) p) e

  pub binary_step : (at cell left right bits : ℕ) (operator : Op) (of to : ValueType) (cells : Cells)
      → HasAt code place at (binary cell operator (operand left of) (operand right to))
      → operated operator of to (cells left) (cells right) ≡ Ok bits
      → tail code at cells p ≡ tail code (suc at) (with_cell cell bits cells) p
  binary_step at cell left right bits operator of to cells h e =
      tail_at code at (binary cell operator (operand left of) (operand right to), place) h cells p
      ∙ ap (λ r. with_result r place (λ x. tail_with code p.fuel (suc at) (with_cell cell x cells)) p) e

  pub bit_get_step : (at cell from index n : ℕ) (of by : ValueType) (cells : Cells)
      → HasAt code place at (instr.BitGet cell (operand from of) (operand index by)) → place_in (width_of of) by (cells index) ≡ Ok n
      → tail code at cells p ≡ tail code (suc at) (with_cell cell (bit_at (cells from) n) cells) p
  bit_get_step at cell from index n of by cells h e =
      tail_at code at (instr.BitGet cell (operand from of) (operand index by), place) h cells p
      ∙ ap (λ r. with_result r place (λ m. tail_with code p.fuel (suc at) (with_cell cell (bit_at (cells from) m) cells)) p) e

  pub bit_put_step : (at cell index bit n : ℕ) (of by : ValueType) (cells : Cells)
      → HasAt code place at (instr.BitPut (operand cell of) (operand index by) bit) → place_in (width_of of) by (cells index) ≡ Ok n
      → tail code at cells p ≡ tail code (suc at) (with_cell cell (with_bit n (bit_at (cells bit) 0) (cells cell)) cells) p
  bit_put_step at cell index bit n of by cells h e =
      tail_at code at (instr.BitPut (operand cell of) (operand index by) bit, place) h cells p
      ∙ ap (λ r. with_result r place (λ m. tail_with code p.fuel (suc at) (with_cell cell (with_bit m (bit_at (cells bit) 0) (cells cell)) cells)) p) e
