-- How code ends, and where its jumps go (flat code is this profile's; OpenQASM 3.0 live specification, "Classical instructions", looping
-- and branching). A jump goes to an instruction, and back only to a Tick, so each way round spends a unit of fuel.
use Rattle.std.specs.Prelude.{ℕ, ◌-◌, Bool, true, false, nat_lt, if◌then◌else◌, List, length, slice_get, Option, Some, None}
use Rattle.std.specs.List.{list_all, range_with_len}
use Rattle.qt_instructions.specs.declared.instruction.Instr.{Instr}
use Rattle.qt_instructions.specs.declared.instruction.Instr.TheVariants as instr
use Rattle.qt_instructions.specs.Targets.{stops, target_of}

-- ---- the end

abbrev pub stops_there : Option Instr → Bool
stops_there None = false
stops_there (Some i) = stops i

-- the last instruction is an end or a jump
abbrev pub ends_well : List Instr → Bool
ends_well code = stops_there (slice_get code (length code - 1))

-- ---- jumps

abbrev pub is_tick : Option Instr → Bool
is_tick (Some instr.Tick) = true
is_tick _ = false

-- from an instruction by its number: ahead to any instruction, and else to a Tick
abbrev pub may_go : List Instr → ℕ → Option ℕ → Bool
may_go code at None = true
may_go code at (Some to) = if nat_lt at to then nat_lt to (length code) else is_tick (slice_get code to)

abbrev pub target_at : Option Instr → Option ℕ
target_at None = None
target_at (Some i) = target_of i

abbrev pub jump_fits : List Instr → ℕ → Bool
jump_fits code at = may_go code at (target_at (slice_get code at))

-- that of each instruction
abbrev pub jumps_fit : List Instr → Bool
jumps_fit code = list_all (jump_fits code) (range_with_len 0 (length code))
