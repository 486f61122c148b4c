-- The code of expressions (flat code is this profile's; OpenQASM 3.0 live specification, "Classical instructions" and "Types and Casting").
-- `base` is the first slot of the frame, `cell` the work cell that the value comes to, and `at` the number of the first instruction. Parts
-- are evaluated from left to right, each into the first cell that isn't in use.
use Rattle.std.specs.Prelude.{ℕ, zero, suc, ◌+◌, ◌*◌, List, [], ◌∷◌, ◌++◌}
use Rattle.qt_value.specs.OpTypes.{result_type}
use Rattle.qt_value.specs.declared.operators.Op.{Op}
use Rattle.qt_value.specs.declared.operators.Op.TheVariants as op
use Rattle.qt_value.specs.declared.types.ValueType.{ValueType}
use Rattle.qt_value.specs.declared.types.ValueType.TheVariants as kind
use Rattle.qt_typed.specs.Types.{type_of, or_bool}
use Rattle.qt_typed.specs.declared.expression.Logical.{Logical}
use Rattle.qt_typed.specs.declared.expression.Logical.TheVariants as logical
use Rattle.qt_typed.specs.declared.expression.TypedExpr.{TypedExpr, Row_of-TypedExpr, end_of-TypedExpr, more_of-TypedExpr}
use Rattle.qt_typed.specs.declared.expression.TypedExpr.TheVariants.{Constant, Slot, Element', Bit', Slice', Convert', Unary', Binary', ExactQuotient', Logical'}
use Rattle.qt_meaning.specs.Distribution.{element_count}
use Rattle.qt_instructions.specs.declared.angle.AngleOperation.TheVariants as phase
use Rattle.qt_instructions.specs.declared.instruction.Operand.{Operand}
use Rattle.qt_instructions.specs.declared.instruction.Operation.TheVariants as operation
use Rattle.qt_instructions.specs.declared.instruction.Instr.{Instr}
use Rattle.qt_instructions.specs.declared.instruction.Instr.TheVariants as instr
use Rattle.qt_flat_code.specs.Lengths.{expression_length, jumps_of}

-- ---- operands

abbrev pub operand : ℕ → ValueType → Operand
operand cell kind = record { cell = cell; kind = kind }

-- places and lengths are reckoned in this type
abbrev pub place_kind : ValueType
place_kind = kind.Int 64

abbrev pub binary : ℕ → Op → Operand → Operand → Instr
binary cell operator left right = instr.Apply cell (operation.Binary operator left right)

abbrev pub on_places : ℕ → Op → ℕ → Instr
on_places cell operator other = binary cell operator (operand cell place_kind) (operand other place_kind)

-- ---- bits

-- so many bits of a value in one cell go to bits of a value in another, one by one from the i-th on: from where the first function says to
-- where the second does. Two more cells are used
abbrev pub copied_code : ℕ → ValueType → (ℕ → ℕ) → ℕ → ValueType → (ℕ → ℕ) → ℕ → ℕ → ℕ → List Instr
copied_code from of read cell to write used i zero = []
copied_code from of read cell to write used i (suc count) =
    instr.Load used (read i)
    ∷ instr.BitGet (used + 1) (operand from of) (operand used (kind.Uint 8))
    ∷ instr.Load used (write i)
    ∷ instr.BitPut (operand cell to) (operand used (kind.Uint 8)) (used + 1)
    ∷ copied_code from of read cell to write used (suc i) count

-- the places of a slice
abbrev pub every : ℕ → ℕ → ℕ → ℕ
every start step i = start + i * step

-- the slice comes together in the next cell
abbrev pub slice_code : ℕ → ValueType → ℕ → ℕ → ℕ → List Instr
slice_code cell of start step count =
    instr.Load (cell + 1) 0
    ∷ (copied_code cell of (every start step) (cell + 1) (kind.Bit count) (λ i. i) (cell + 2) 0 count
    ++ (instr.Cast cell (operand (cell + 1) (kind.Bit count)) (kind.Bit count) ∷ []))

-- ---- places

-- an index in the next cell is tested for one dimension of an array whose first slot is given; where it is negative it counts from the end;
-- and it joins the place that the dimensions before give
abbrev pub index_code : ℕ → ℕ → ValueType → ℕ → List Instr
index_code cell first of length =
    instr.GetAt (cell + 2) first length (operand (cell + 1) of)
    ∷ instr.Load (cell + 2) length
    ∷ instr.Cast (cell + 1) (operand (cell + 1) of) place_kind
    ∷ on_places (cell + 1) op.Add (cell + 2)
    ∷ on_places (cell + 1) op.Rem (cell + 2)
    ∷ on_places cell op.Mul (cell + 2)
    ∷ on_places cell op.Add (cell + 1) ∷ []

-- ---- expressions

-- behind the left side: where it decides, the right side, of so many instructions, isn't evaluated
abbrev pub logical_jumps : Logical → ℕ → ℕ → ℕ → List Instr
logical_jumps logical.And cell at length = instr.JumpIf cell (at + 2) ∷ instr.Jump (at + 2 + length) ∷ []
logical_jumps logical.Or cell at length = instr.JumpIf cell (at + 1 + length) ∷ []

abbrev pub exact_code : ℕ → ValueType → ValueType → List Instr
exact_code cell left right =
    binary (cell + 2) op.Rem (operand cell left) (operand (cell + 1) right)
    ∷ instr.AngleOp (cell + 2) (phase.NoRest (operand (cell + 2) (or_bool (result_type op.Rem left right))))
    ∷ binary cell op.Div (operand cell left) (operand (cell + 1) right) ∷ []

abbrev mutual
  pub expression_code : TypedExpr → ℕ → ℕ → ℕ → List Instr
  expression_code (Constant value) base cell at = instr.Load cell value.bits ∷ []
  expression_code (Slot kind slot) base cell at = instr.Get cell (base + slot) ∷ []
  expression_code (Element' kind slot lengths k indexes) base cell at =
      instr.Load cell 0
      ∷ (place_code lengths (base + slot) indexes base cell (suc at)
      ++ (instr.GetAt cell (base + slot) (element_count lengths) (operand cell place_kind) ∷ []))
  expression_code (Bit' k (more_of-TypedExpr of end_of-TypedExpr) m (more_of-TypedExpr index end_of-TypedExpr)) base cell at =
      expression_code of base cell at
      ++ (expression_code index base (suc cell) (at + expression_length of)
      ++ (instr.BitGet cell (operand cell (type_of of)) (operand (suc cell) (type_of index)) ∷ []))
  expression_code (Slice' k (more_of-TypedExpr of end_of-TypedExpr) start step count) base cell at =
      expression_code of base cell at ++ slice_code cell (type_of of) start step count
  expression_code (Convert' to k (more_of-TypedExpr of end_of-TypedExpr)) base cell at =
      expression_code of base cell at ++ (instr.Cast cell (operand cell (type_of of)) to ∷ [])
  expression_code (Unary' operator k (more_of-TypedExpr of end_of-TypedExpr)) base cell at =
      expression_code of base cell at ++ (instr.Apply cell (operation.Unary operator (operand cell (type_of of))) ∷ [])
  expression_code (Binary' operator k (more_of-TypedExpr left end_of-TypedExpr) m (more_of-TypedExpr right end_of-TypedExpr)) base cell at =
      expression_code left base cell at
      ++ (expression_code right base (suc cell) (at + expression_length left)
      ++ (binary cell operator (operand cell (type_of left)) (operand (suc cell) (type_of right)) ∷ []))
  expression_code (ExactQuotient' k (more_of-TypedExpr left end_of-TypedExpr) m (more_of-TypedExpr right end_of-TypedExpr)) base cell at =
      expression_code left base cell at
      ++ (expression_code right base (suc cell) (at + expression_length left) ++ exact_code cell (type_of left) (type_of right))
  expression_code (Logical' operator k (more_of-TypedExpr left end_of-TypedExpr) m (more_of-TypedExpr right end_of-TypedExpr)) base cell
      at =
      expression_code left base cell at
      ++ (logical_jumps operator cell (at + expression_length left) (expression_length right)
      ++ expression_code right base cell (at + expression_length left + jumps_of operator))

  -- the place of an element behind the first comes to the cell, index by index
  pub place_code : {m : _} → List ℕ → ℕ → Row_of-TypedExpr m → ℕ → ℕ → ℕ → List Instr
  place_code [] first indexes base cell at = []
  place_code (length ∷ lengths) first end_of-TypedExpr base cell at = []
  place_code (length ∷ lengths) first (more_of-TypedExpr index rest) base cell at =
      expression_code index base (suc cell) at
      ++ (index_code cell first (type_of index) length ++ place_code lengths first rest base cell (at + expression_length index + 7))
