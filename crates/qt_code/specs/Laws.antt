-- What a reader expects of what follows from an instruction of valid code (flat code is this profile's; OpenQASM 3.0 live specification,
-- "Classical instructions", looping and branching).
use Rattle.std.specs.Prelude.{◌≡◌, ℕ, suc, Some, slice_get}
use Rattle.qt_meaning.specs.Points.{Point, choose, spend}
use Rattle.qt_meaning.specs.Values.{is_true}
use Rattle.qt_instructions.specs.declared.instruction.Instr.TheVariants as instr
use Rattle.qt_instructions.specs.declared.parts.Parts.{Parts}
use Rattle.qt_code.specs.Cells.{Cells}
use Rattle.qt_code.specs.Tail.{tail}
use Rattle.qt_code.specs.Validity.{IsValid}

-- a jump is the same as what it goes to
abbrev pub JumpsGoOn : Type 0
JumpsGoOn =
    (code : Parts) (at to : ℕ) → IsValid code → slice_get code.instructions at ≡ Some (instr.Jump to)
    → (cells : Cells) (p : Point) → tail code at cells p ≡ tail code to cells p

-- a jump under a condition is the same as what it goes to where the cell holds true, and else as what stands behind it
abbrev pub ConditionsDecide : Type 0
ConditionsDecide =
    (code : Parts) (at cell to : ℕ) → IsValid code → slice_get code.instructions at ≡ Some (instr.JumpIf cell to)
    → (cells : Cells) (p : Point) → tail code at cells p ≡ choose (is_true (cells cell)) (tail code to cells) (tail code (suc at) cells) p

-- a Tick spends a unit of fuel before what stands behind it
abbrev pub TicksSpend : Type 0
TicksSpend =
    (code : Parts) (at : ℕ) → IsValid code → slice_get code.instructions at ≡ Some instr.Tick
    → (cells : Cells) (p : Point) → tail code at cells p ≡ spend (tail code (suc at) cells) p
