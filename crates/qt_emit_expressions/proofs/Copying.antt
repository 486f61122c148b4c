-- Bits that are copied one by one.
use Rattle.std.proofs.Common.{◌≡◌, ℕ, zero, suc, ◌+◌, ◌-◌, ◌<◌, List, [], ◌∷◌, refl, sym, ap, ◌∙◌, arith}
use Rattle.qt_value.specs.declared.types.ValueType.{ValueType}
use Rattle.qt_value.specs.declared.types.ValueType.TheVariants as kind
use Rattle.qt_instructions.specs.declared.instruction.Instr.{Instr}
use Rattle.qt_instructions.specs.declared.instruction.Instr.TheVariants as instr
use Rattle.qt_flat_code.specs.Expressions.{copied_code, every, operand, slice_code}
use Rattle.qt_emit_expressions.specs.Adds.{Adds}
use Rattle.qt_emit_expressions.proofs.Adding.{becomes, chain, nothing}

module _ (from : ℕ) (of : ValueType) (read : ℕ → ℕ) (cell : ℕ) (to : ValueType) (write : ℕ → ℕ) (used : ℕ) where
  -- a bit, and those behind it
  pub one_more : (i left : ℕ) (old new all : List Instr) → 0 < left
      → Adds old new (instr.Load used (read i) ∷ instr.BitGet (used + 1) (operand from of) (operand used (kind.Uint 8))
      ∷ instr.Load used (write i) ∷ instr.BitPut (operand cell to) (operand used (kind.Uint 8)) (used + 1) ∷ [])
      → Adds new all (copied_code from of read cell to write used (i + 1) (left - 1))
      → Adds old all (copied_code from of read cell to write used i left)
  one_more i zero old new all h s t = absurd (omega (arith, h))
  one_more i (suc left) old new all h s t =
      let e : i + 1 ≡ suc i = omega arith in
      let f : suc left - 1 ≡ left = omega arith in
      chain old new all _ _ s
      (becomes new all _ _ (ap (λ n. copied_code from of read cell to write used n (suc left - 1)) e
      ∙ ap (copied_code from of read cell to write used (suc i)) f) t)

  pub none_left : (i left : ℕ) (old : List Instr) → left ≡ 0 → Adds old old (copied_code from of read cell to write used i left)
  none_left i left old e = becomes old old _ _ (sym (ap (copied_code from of read cell to write used i) e)) (nothing old)

  -- the places are the same
  pub same_places : (other : ℕ → ℕ) (i count : ℕ) → ((n : ℕ) → other n ≡ write n)
      → copied_code from of read cell to other used i count ≡ copied_code from of read cell to write used i count
  same_places other i zero h = refl
  same_places other i (suc count) h =
      ap (λ p. instr.Load used (read i) ∷ instr.BitGet (used + 1) (operand from of) (operand used (kind.Uint 8)) ∷ instr.Load used p
      ∷ instr.BitPut (operand cell to) (operand used (kind.Uint 8)) (used + 1) ∷ copied_code from of read cell to other used (suc i) count)
      (h i)
      ∙ ap (λ l. instr.Load used (read i) ∷ instr.BitGet (used + 1) (operand from of) (operand used (kind.Uint 8)) ∷ instr.Load used (write i)
      ∷ instr.BitPut (operand cell to) (operand used (kind.Uint 8)) (used + 1) ∷ l)
      (same_places other (suc i) count h)

-- from the first on, one by one
pub each_place : (n : ℕ) → every 0 1 n ≡ n
each_place n = omega arith

pub slice_added : (cell : ℕ) (of : ValueType) (start step count next used : ℕ) (o0 o1 o2 o3 : List Instr) → next ≡ suc cell → used ≡ suc next
    → Adds o0 o1 (instr.Load next 0 ∷ [])
    → Adds o1 o2 (copied_code cell of (every start step) next (kind.Bit count) (every 0 1) used 0 count)
    → Adds o2 o3 (instr.Cast cell (operand next (kind.Bit count)) (kind.Bit count) ∷ [])
    → Adds o0 o3 (slice_code cell of start step count)
slice_added cell of start step count next used o0 o1 o2 o3 is then s t u =
    let e : cell + 1 ≡ next = omega (arith, is) in
    let f : cell + 2 ≡ used = omega (arith, is, then) in
    rw (e, f) (chain o0 o1 o3 _ _ s (chain o1 o2 o3 _ _
    (becomes o1 o2 _ _ (same_places cell of (every start step) next (kind.Bit count) (λ i. i) used (every 0 1) 0 count each_place) t) u))
