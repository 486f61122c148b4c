-- Where an instruction leads (flat code is this profile's; OpenQASM 3.0 live specification, "Classical instructions", looping and
-- branching).
use Rattle.std.specs.Prelude.{ℕ, Bool, true, false, Option, Some, None}
use Rattle.qt_instructions.specs.declared.instruction.Instr.{Instr}
use Rattle.qt_instructions.specs.declared.instruction.Instr.TheVariants as instr

-- nothing follows it directly
abbrev pub stops : Instr → Bool
stops (instr.Jump to) = true
stops instr.End = true
stops _ = false

-- the number of the instruction that it jumps to
abbrev pub target_of : Instr → Option ℕ
target_of (instr.Jump to) = Some to
target_of (instr.JumpIf condition to) = Some to
target_of _ = None
