-- That a piece of code was written (flat code is this profile's; OpenQASM 3.0 live specification, "Classical instructions").
use Rattle.std.specs.Prelude.{◌≡◌, ℕ, ◌+◌, List}
use Rattle.qt_instructions.specs.declared.instruction.Instr.{Instr}
use Rattle.qt_emit_expressions.specs.Adds.{Adds}

-- the code, of so many instructions and from the number `at` on, stands behind the instructions before; what is answered is where its end is
pub record Writes (code : List Instr) (length at : ℕ) (old new : List Instr) (end : ℕ) : Type 0 where
  pub added : Adds old new code
  pub behind : end ≡ at + length
