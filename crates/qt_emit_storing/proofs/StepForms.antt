-- Steps to bits, one after the other.
use Rattle.std.proofs.Common.{◌≡◌, ℕ, suc, ◌+◌, List, [], ◌∷◌, ◌++◌, refl, sym, ap, ◌∙◌, arith, append_assoc, append-nil}
use Rattle.qt_value.specs.declared.operators.Op.TheVariants as op
use Rattle.qt_value.specs.declared.types.ValueType.{ValueType}
use Rattle.qt_value.specs.declared.types.ValueType.TheVariants as kind
use Rattle.qt_typed.specs.Types.{type_of}
use Rattle.qt_typed.specs.declared.expression.TypedExpr.{TypedExpr}
use Rattle.qt_typed.specs.declared.expression.TypedStep.{TypedStep}
use Rattle.qt_typed.specs.declared.expression.TypedStep.TheVariants as step
use Rattle.qt_instructions.specs.declared.instruction.Instr.{Instr}
use Rattle.qt_instructions.specs.declared.instruction.Instr.TheVariants as instr
use Rattle.qt_flat_code.specs.Bits.{Bits, EveryBit, OneBit, bits_after, sliced}
use Rattle.qt_flat_code.specs.Expressions.{expression_code, on_places, operand, place_kind}
use Rattle.qt_flat_code.specs.Lengths.{bit_length, expression_length, steps_length}
use Rattle.qt_flat_code.specs.Storing.{bit_code, steps_code}
use Rattle.qt_emit_expressions.specs.declared.coded.Coded.{Coded}
use Rattle.qt_emit_expressions.specs.Adds.{Adds}
use Rattle.qt_emit_expressions.specs.Emits.{Emits}
use Rattle.qt_emit_expressions.proofs.Adding.{becomes, chain, nothing}
use Rattle.qt_emit_storing.specs.Writes.{Writes}

pub one_step : (s : TypedStep) (rest : List TypedStep) (bits : Bits) → bits_after (s ∷ rest) bits ≡ bits_after rest (bits_after (s ∷ []) bits)
one_step (step.At index) rest bits = refl
one_step (step.Slice start by count) rest bits = refl

-- ---- the place of a bit

module _ (cell : ℕ) (of : ValueType) (next other : ℕ) (is : next ≡ suc cell) (then : other ≡ suc next) where
  pub every_written : (start step count : ℕ) (o0 o1 o2 o3 o4 : List Instr)
      → Adds o0 o1 (instr.BitGet other (operand other (kind.Bit count)) (operand next of) ∷ [])
      → Adds o1 o2 (instr.Load other count ∷ instr.Cast cell (operand next of) place_kind ∷ on_places cell op.Add other
      ∷ on_places cell op.Rem other ∷ [])
      → Adds o2 o3 (instr.Load other step ∷ on_places cell op.Mul other ∷ [])
      → Adds o3 o4 (instr.Load other start ∷ on_places cell op.Add other ∷ [])
      → Adds o0 o4 (bit_code cell of (EveryBit start step count))
  every_written start step count o0 o1 o2 o3 o4 s t u v =
      let e : cell + 1 ≡ next = omega (arith, is) in
      let f : cell + 2 ≡ other = omega (arith, is, then) in
      rw (e, f) (chain o0 o1 o4 _ _ s (chain o1 o2 o4 _ _ t (chain o2 o3 o4 _ _ u v)))

  pub one_written : (o0 o1 : List Instr) → Adds o0 o1 (instr.BitGet other (operand other (kind.Bit 1)) (operand next of) ∷ [])
      → Adds o0 o1 (bit_code cell of OneBit)
  one_written o0 o1 s =
      let e : cell + 1 ≡ next = omega (arith, is) in
      let f : cell + 2 ≡ other = omega (arith, is, then) in
      rw (e, f) s

pub index_written : (index : TypedExpr) (bits : Bits) (base cell at next end : ℕ) (o m n : List Instr) (coded : Coded) → next ≡ suc cell
    → Emits index base next at o m coded → Adds m n (bit_code cell coded.kind bits) → end ≡ coded.behind + bit_length bits
    → Writes (steps_code (step.At index ∷ []) bits base cell at) (steps_length (step.At index ∷ []) bits) at o n end
index_written index bits base cell at next end o m n coded is e s last = record {
  added =
      chain o m n _ _ (becomes o m _ _ (ap (λ c. expression_code index base c at) is) e.added)
      (becomes m n _ _ (ap (λ k. bit_code cell k bits) e.kind ∙ sym (append-nil (bit_code cell (type_of index) bits))) s);
  behind = omega (arith, e.behind, last);
}

-- ---- steps

pub no_step : (bits : Bits) (base cell at : ℕ) (old : List Instr) → Writes (steps_code [] bits base cell at) (steps_length [] bits) at old old at
no_step bits base cell at old = record { added = nothing old; behind = omega arith }

pub slice_written : (start by count : ℕ) (bits : Bits) (base cell at : ℕ) (old : List Instr)
    → Writes (steps_code (step.Slice start by count ∷ []) bits base cell at) (steps_length (step.Slice start by count ∷ []) bits) at old old at
slice_written start by count bits base cell at old = record { added = nothing old; behind = omega arith }

pub step_more : (s : TypedStep) (rest : List TypedStep) (bits after : Bits) (base cell at middle end : ℕ) (o m n : List Instr)
    → after ≡ bits_after (s ∷ []) bits
    → Writes (steps_code (s ∷ []) bits base cell at) (steps_length (s ∷ []) bits) at o m middle
    → Writes (steps_code rest after base cell middle) (steps_length rest after) middle m n end
    → Writes (steps_code (s ∷ rest) bits base cell at) (steps_length (s ∷ rest) bits) at o n end
step_more (step.At index) rest bits after base cell at middle end o m n is s t =
    let from : middle ≡ at + expression_length index + bit_length bits = omega (arith, s.behind) in
    let place = bit_code cell (type_of index) bits in
    let before = expression_code index base (suc cell) at in
    let long : steps_length rest after ≡ steps_length rest OneBit = ap (steps_length rest) is in record {
      added =
          becomes o n _ _ (append_assoc before place _)
          (chain o m n _ _ (becomes o m _ _ (ap (λ l. before ++ l) (append-nil place)) s.added)
          (becomes m n _ _ (ap (λ b. steps_code rest b base cell middle) is ∙ ap (steps_code rest OneBit base cell) from) t.added));
      behind = omega (arith, s.behind, t.behind, long);
    }
step_more (step.Slice start by count) rest bits after base cell at middle end o m n is s t =
    let from : middle ≡ at = omega (arith, s.behind) in
    let long : steps_length rest after ≡ steps_length rest (sliced start by count bits) = ap (steps_length rest) is in record {
      added =
          chain o m n [] _ s.added
          (becomes m n _ _ (ap (λ b. steps_code rest b base cell middle) is ∙ ap (steps_code rest (sliced start by count bits) base cell) from)
          t.added);
      behind = omega (arith, s.behind, t.behind, long);
    }
