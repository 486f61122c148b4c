-- That the code of an expression was written (flat code is this profile's; OpenQASM 3.0 live specification, "Classical instructions").
use Rattle.std.specs.Prelude.{◌≡◌, ℕ, suc, ◌+◌, List, ◌∷◌, ◌++◌}
use Rattle.qt_typed.specs.Types.{type_of}
use Rattle.qt_typed.specs.declared.expression.TypedExpr.{TypedExpr}
use Rattle.qt_instructions.specs.declared.instruction.Instr.{Instr}
use Rattle.qt_instructions.specs.declared.instruction.Instr.TheVariants as instr
use Rattle.qt_flat_code.specs.Lengths.{expression_length, indexes_length}
use Rattle.qt_flat_code.specs.Expressions.{expression_code, index_code}
use Rattle.qt_flat_code.specs.Storing.{indexes_code}
use Rattle.qt_emit_expressions.specs.declared.coded.Coded.{Coded}
use Rattle.qt_emit_expressions.specs.declared.coded.BothCoded.{BothCoded}
use Rattle.qt_emit_expressions.specs.Adds.{Adds}

-- the code of the expression at that place stands behind the instructions before; what is answered is where its end is, and its type
pub record Emits (e : TypedExpr) (base cell at : ℕ) (old new : List Instr) (coded : Coded) : Type 0 where
  pub added : Adds old new (expression_code e base cell at)
  pub behind : coded.behind ≡ at + expression_length e
  pub kind : coded.kind ≡ type_of e

-- the same of two expressions, the second one's value in the next cell
pub record EmitsBoth (left right : TypedExpr) (base cell at : ℕ) (old new : List Instr) (coded : BothCoded) : Type 0 where
  pub added : Adds old new (expression_code left base cell at ++ expression_code right base (suc cell) (at + expression_length left))
  pub behind : coded.behind ≡ at + (expression_length left + expression_length right)
  pub of_left : coded.left ≡ type_of left
  pub of_right : coded.right ≡ type_of right

-- the same of one index, which joins the place in the cell
pub record EmitsIndex (length first : ℕ) (index : TypedExpr) (base cell at : ℕ) (old new : List Instr) (end : ℕ) : Type 0 where
  pub added : Adds old new (expression_code index base (suc cell) at ++ index_code cell first (type_of index) length)
  pub behind : end ≡ at + (expression_length index + 7)

-- the same of the indexes of an element, which join the place in the cell
pub record EmitsIndexes (lengths : List ℕ) (first : ℕ) (indexes : List TypedExpr) (base cell at : ℕ) (old new : List Instr) (end : ℕ)
    : Type 0 where
  pub added : Adds old new (indexes_code lengths first indexes base cell at)
  pub behind : end ≡ at + indexes_length lengths indexes

-- the same of the place of an element, reckoned from 0
pub record EmitsPlace (lengths : List ℕ) (first : ℕ) (indexes : List TypedExpr) (base cell at : ℕ) (old new : List Instr) (end : ℕ)
    : Type 0 where
  pub added : Adds old new (instr.Load cell 0 ∷ indexes_code lengths first indexes base cell (suc at))
  pub behind : end ≡ at + (1 + indexes_length lengths indexes)
