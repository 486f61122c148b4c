-- That the code of a range's step was written (flat code is this profile's; OpenQASM 3.0 live specification, "Classical instructions", looping
-- and branching).
use Rattle.std.specs.Prelude.{◌≡◌, ℕ, ◌+◌, List, Option}
use Rattle.qt_typed.specs.declared.expression.TypedExpr.{TypedExpr}
use Rattle.qt_instructions.specs.declared.instruction.Instr.{Instr}
use Rattle.qt_flat_code.specs.Loops.{step_code, step_kind, step_length}
use Rattle.qt_emit_expressions.specs.declared.coded.Coded.{Coded}
use Rattle.qt_emit_expressions.specs.Adds.{Adds}

-- what is answered is where its end is, and its type
pub record EmitsStep (by : Option TypedExpr) (base cell at : ℕ) (old new : List Instr) (coded : Coded) : Type 0 where
  pub added : Adds old new (step_code by base cell at)
  pub behind : coded.behind ≡ at + step_length by
  pub kind : coded.kind ≡ step_kind by
