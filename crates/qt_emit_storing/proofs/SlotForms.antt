-- Values and slots, one by one.
use Rattle.std.proofs.Common.{◌≡◌, ℕ, zero, suc, ◌+◌, ◌-◌, ◌<◌, List, [], ◌∷◌, refl, sym, ap, ◌∙◌, arith, append-nil}
use Rattle.qt_typed.specs.declared.expression.TypedExpr.{TypedExpr}
use Rattle.qt_instructions.specs.declared.instruction.Instr.{Instr}
use Rattle.qt_instructions.specs.declared.instruction.Instr.TheVariants as instr
use Rattle.qt_flat_code.specs.Lengths.{expression_length, values_length}
use Rattle.qt_flat_code.specs.Expressions.{expression_code}
use Rattle.qt_flat_code.specs.Storing.{copies, puts, values_code, zeros_code}
use Rattle.qt_emit_expressions.specs.Adds.{Adds}
use Rattle.qt_emit_expressions.proofs.Adding.{becomes, chain, nothing}
use Rattle.qt_emit_storing.specs.Writes.{Writes}

-- ---- values

pub value_written : (e : TypedExpr) (base cell at end : ℕ) (old new : List Instr) → Adds old new (expression_code e base cell at)
    → end ≡ at + expression_length e → Writes (values_code (e ∷ []) base cell at) (values_length (e ∷ [])) at old new end
value_written e base cell at end old new s is = record {
  added = becomes old new _ _ (sym (append-nil (expression_code e base cell at))) s;
  behind = omega (arith, is);
}

pub value_more : (e : TypedExpr) (rest : List TypedExpr) (base cell next at middle end : ℕ) (o m n : List Instr) → next ≡ suc cell
    → Writes (values_code (e ∷ []) base cell at) (values_length (e ∷ [])) at o m middle
    → Writes (values_code rest base next middle) (values_length rest) middle m n end
    → Writes (values_code (e ∷ rest) base cell at) (values_length (e ∷ rest)) at o n end
value_more e rest base cell next at middle end o m n is s t =
    let from : middle ≡ at + expression_length e = omega (arith, s.behind) in record {
      added =
          chain o m n _ _ (becomes o m _ _ (append-nil (expression_code e base cell at)) s.added)
          (becomes m n _ _ (ap (λ c. values_code rest base c middle) is ∙ ap (values_code rest base (suc cell)) from) t.added);
      behind = omega (arith, s.behind, t.behind);
    }

pub no_value : (base cell at : ℕ) (old : List Instr) → Writes (values_code [] base cell at) (values_length []) at old old at
no_value base cell at old = record { added = nothing old; behind = omega arith }

-- ---- slots

pub put_more : (slot cell to from left : ℕ) (o m n : List Instr) → 0 < left → to ≡ suc slot → from ≡ suc cell
    → Adds o m (instr.Put slot cell ∷ []) → Adds m n (puts to from (left - 1)) → Adds o n (puts slot cell left)
put_more slot cell to from zero o m n h e f s t = absurd (omega (arith, h))
put_more slot cell to from (suc left) o m n h e f s t =
    let g : suc left - 1 ≡ left = omega arith in
    chain o m n _ _ s (becomes m n _ _ (rw (e, f, g) refl) t)

pub no_put : (slot cell left : ℕ) (old : List Instr) → left ≡ 0 → Adds old old (puts slot cell left)
no_put slot cell left old e = becomes old old _ _ (sym (ap (puts slot cell) e)) (nothing old)

pub copy_more : (slot cell to left : ℕ) (o m n : List Instr) → 0 < left → to ≡ suc slot
    → Adds o m (instr.Put slot cell ∷ []) → Adds m n (copies to cell (left - 1)) → Adds o n (copies slot cell left)
copy_more slot cell to zero o m n h e s t = absurd (omega (arith, h))
copy_more slot cell to (suc left) o m n h e s t =
    let g : suc left - 1 ≡ left = omega arith in
    chain o m n _ _ s (becomes m n _ _ (rw (e, g) refl) t)

pub no_copy : (slot cell left : ℕ) (old : List Instr) → left ≡ 0 → Adds old old (copies slot cell left)
no_copy slot cell left old e = becomes old old _ _ (sym (ap (copies slot cell) e)) (nothing old)

pub zeros_written : (slot cell count : ℕ) (o m n : List Instr) → 0 < count → Adds o m (instr.Load cell 0 ∷ [])
    → Adds m n (copies slot cell count) → Adds o n (zeros_code slot cell count)
zeros_written slot cell zero o m n h s t = absurd (omega (arith, h))
zeros_written slot cell (suc count) o m n h s t = chain o m n _ _ s t

pub no_zeros : (slot cell count : ℕ) (old : List Instr) → count ≡ 0 → Adds old old (zeros_code slot cell count)
no_zeros slot cell count old e = becomes old old _ _ (sym (ap (zeros_code slot cell) e)) (nothing old)
