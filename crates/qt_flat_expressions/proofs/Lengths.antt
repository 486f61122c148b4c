-- An expression has as many instructions as its length says.
use Rattle.std.proofs.Common.{◌≡◌, ℕ, zero, suc, ◌+◌, ◌*◌, List, [], ◌∷◌, ◌++◌, length, refl, arith, length-append}
use Rattle.qt_value.specs.declared.types.ValueType.{ValueType}
use Rattle.qt_value.specs.declared.types.ValueType.TheVariants as kind
use Rattle.qt_typed.specs.Types.{type_of}
use Rattle.qt_typed.specs.declared.expression.Logical.{Logical}
use Rattle.qt_typed.specs.declared.expression.Logical.TheVariants as logical
use Rattle.qt_typed.specs.declared.expression.TypedExpr.{TypedExpr, Row_of-TypedExpr, end_of-TypedExpr, more_of-TypedExpr}
use Rattle.qt_typed.specs.declared.expression.TypedExpr.TheVariants.{Constant, Slot, Element', Bit', Slice', Convert', Unary', Binary', ExactQuotient', Logical'}
use Rattle.qt_meaning.specs.Distribution.{element_count}
use Rattle.qt_instructions.specs.declared.instruction.Instr.{Instr}
use Rattle.qt_instructions.specs.declared.instruction.Instr.TheVariants as instr
use Rattle.qt_flat_code.specs.Lengths.{expression_length, jumps_of, place_length}
use Rattle.qt_flat_code.specs.Expressions.{copied_code, every, expression_code, index_code, logical_jumps, operand, place_code, place_kind, slice_code}

-- a piece of so many instructions
pub record Long (code : List Instr) (n : ℕ) : Type 0 where
  pub long : length code ≡ n

pub joined : (a b : List Instr) (n m : ℕ) → Long a n → Long b m → Long (a ++ b) (n + m)
joined a b n m h g = record { long = omega (arith, length-append a b, h.long, g.long) }

pub of_length : (a : List Instr) (n m : ℕ) → n ≡ m → Long a n → Long a m
of_length a n m e h = record { long = omega (arith, h.long, e) }

pub copied_long : (from : ℕ) (of : ValueType) (read : ℕ → ℕ) (cell : ℕ) (to : ValueType) (write : ℕ → ℕ) (used i count : ℕ)
    → Long (copied_code from of read cell to write used i count) (4 * count)
copied_long from of read cell to write used i zero = record { long = refl }
copied_long from of read cell to write used i (suc count) =
    let h = copied_long from of read cell to write used (suc i) count in
    record { long = omega (arith, h.long) }

pub slice_long : (cell : ℕ) (of : ValueType) (start step count : ℕ) → Long (slice_code cell of start step count) (1 + (4 * count + 1))
slice_long cell of start step count =
    let copied = copied_code cell of (every start step) (cell + 1) (kind.Bit count) (λ i. i) (cell + 2) 0 count in
    let moved : List Instr = instr.Cast cell (operand (cell + 1) (kind.Bit count)) (kind.Bit count) ∷ [] in
    let h = joined copied moved (4 * count) 1 (copied_long cell of (every start step) (cell + 1) (kind.Bit count) (λ i. i) (cell + 2) 0 count)
    (record { long = refl }) in
    record { long = omega (arith, h.long) }

pub jumps_long : (operator : Logical) (cell at n : ℕ) → Long (logical_jumps operator cell at n) (jumps_of operator)
jumps_long logical.And cell at n = record { long = refl }
jumps_long logical.Or cell at n = record { long = refl }

mutual
  pub expression_long : (e : TypedExpr) (base cell at : ℕ) → Long (expression_code e base cell at) (expression_length e)
  expression_long (Constant value) base cell at = record { long = refl }
  expression_long (Slot kind slot) base cell at = record { long = refl }
  expression_long (Element' kind slot lengths k indexes) base cell at =
      let place = place_code lengths (base + slot) indexes base cell (suc at) in
      let get : List Instr = instr.GetAt cell (base + slot) (element_count lengths) (operand cell place_kind) ∷ [] in
      let h = joined place get (place_length lengths indexes) 1 (place_long lengths (base + slot) indexes base cell (suc at)) (record { long = refl }) in
      record { long = omega (arith, h.long) }
  expression_long (Bit' k (more_of-TypedExpr of end_of-TypedExpr) m (more_of-TypedExpr index end_of-TypedExpr)) base cell at =
      joined _ _ _ _ (expression_long of base cell at)
      (joined _ _ _ _ (expression_long index base (suc cell) (at + expression_length of)) (record { long = refl }))
  expression_long (Slice' k (more_of-TypedExpr of end_of-TypedExpr) start step count) base cell at =
      joined _ _ _ _ (expression_long of base cell at) (slice_long cell (type_of of) start step count)
  expression_long (Convert' to k (more_of-TypedExpr of end_of-TypedExpr)) base cell at =
      joined _ _ _ _ (expression_long of base cell at) (record { long = refl })
  expression_long (Unary' operator k (more_of-TypedExpr of end_of-TypedExpr)) base cell at =
      joined _ _ _ _ (expression_long of base cell at) (record { long = refl })
  expression_long (Binary' operator k (more_of-TypedExpr left end_of-TypedExpr) m (more_of-TypedExpr right end_of-TypedExpr)) base cell at =
      joined _ _ _ _ (expression_long left base cell at)
      (joined _ _ _ _ (expression_long right base (suc cell) (at + expression_length left)) (record { long = refl }))
  expression_long (ExactQuotient' k (more_of-TypedExpr left end_of-TypedExpr) m (more_of-TypedExpr right end_of-TypedExpr)) base cell at =
      joined _ _ _ _ (expression_long left base cell at)
      (joined _ _ _ _ (expression_long right base (suc cell) (at + expression_length left)) (record { long = refl }))
  expression_long (Logical' operator k (more_of-TypedExpr left end_of-TypedExpr) m (more_of-TypedExpr right end_of-TypedExpr)) base cell at =
      joined _ _ _ _ (expression_long left base cell at)
      (joined _ _ _ _ (jumps_long operator cell (at + expression_length left) (expression_length right))
      (expression_long right base cell (at + expression_length left + jumps_of operator)))

  pub place_long : {m : _} (lengths : List ℕ) (first : ℕ) (indexes : Row_of-TypedExpr m) (base cell at : ℕ)
      → Long (place_code lengths first indexes base cell at) (place_length lengths indexes)
  place_long [] first indexes base cell at = record { long = refl }
  place_long (n ∷ lengths) first end_of-TypedExpr base cell at = record { long = refl }
  place_long (n ∷ lengths) first (more_of-TypedExpr index rest) base cell at =
      joined _ _ _ _ (expression_long index base (suc cell) at)
      (joined (index_code cell first (type_of index) n) _ 7 _ (record { long = refl })
      (place_long lengths first rest base cell (at + expression_length index + 7)))
