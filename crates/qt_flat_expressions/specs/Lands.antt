-- What it is for a piece of code to land (flat code is this profile's; OpenQASM 3.0 live specification, "Classical instructions"). The
-- piece reckons something of the slots. From its first instruction on, whatever the work cells hold, the run is the same as that from the
-- instruction behind the piece, where what is reckoned stands in one work cell, the cells below it are as before, and the slots too; or, where
-- the meaning has a fault, the run is the one leaf of this fault, with the place of the statement. So the run faults exactly where the
-- meaning does, with the same fault. A piece that stores lands in the same way, but that the slots behind it are those that the meaning says.
use Rattle.std.specs.Prelude.{◌≡◌, ℕ, suc, ◌<◌, List, [], ◌∷◌, Some, Ok, Err, slice_get}
use Rattle.qt_tree.specs.declared.place.Place.{Place}
use Rattle.qt_meaning.specs.Points.{Point, Faulted, leaf}
use Rattle.qt_meaning.specs.Values.{Evaluated}
use Rattle.qt_instructions.specs.declared.instruction.Instr.{Instr}
use Rattle.qt_instructions.specs.declared.parts.Parts.{Parts}
use Rattle.qt_code.specs.Cells.{Cells}
use Rattle.qt_code.specs.Tail.{lines, tail}

-- ---- where pieces stand

-- the instructions stand in the code from the number `at` on, one after another, all with the same place of the text
abbrev pub StandsAt : Parts → Place → ℕ → List Instr → Type 0
StandsAt code place at [] = Unit {0}
StandsAt code place at (i ∷ is) = (slice_get (lines code) at ≡ Some (i, place)) × StandsAt code place (suc at) is

-- ---- how runs go on

-- all work cells below a number are as before
abbrev pub KeepsBelow : ℕ → Cells → Cells → Type 0
KeepsBelow cell old new = (other : ℕ) → other < cell → new other ≡ old other

-- the run from the instruction `at` and these cells is the same as the run from the instruction `to` at a point, where the cell `cell` holds
-- the value and the cells below it are as before
pub record Reaches (code : Parts) (p : Point) (at : ℕ) (cells : Cells) (q : Point) (to cell value : ℕ) : Type 0 where
  pub new : Cells
  pub holds : new cell ≡ value
  pub kept : KeepsBelow cell cells new
  pub same : tail code at cells p ≡ tail code to new q

-- the value is reached, or the run ends in the fault
abbrev pub Outcome : Parts → Place → Point → ℕ → Cells → ℕ → ℕ → Evaluated ℕ → Type 0
Outcome code place p at cells to cell (Ok value) = Reaches code p at cells p to cell value
Outcome code place p at cells to cell (Err fault) = tail code at cells p ≡ leaf (Faulted fault place) p

-- the piece from the instruction `at` up to the instruction `to` brings a value of the slots to a cell
pub record Lands (code : Parts) (place : Place) (at to cell : ℕ) (value : List ℕ → Evaluated ℕ) : Type 0 where
  pub by : (cells : Cells) (p : Point) → Outcome code place p at cells to cell (value p.store)
