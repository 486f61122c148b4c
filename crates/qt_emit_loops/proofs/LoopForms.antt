-- What loops keep, piece by piece.
use Rattle.std.proofs.Common.{◌≡◌, ℕ, zero, suc, ◌+◌, ◌-◌, ◌<◌, List, [], ◌∷◌, length, Option, Some, None, refl, sym, ap, ◌∙◌, arith}
use Rattle.qt_value.specs.declared.types.ValueType.{ValueType}
use Rattle.qt_value.specs.declared.types.ValueType.TheVariants as kind
use Rattle.qt_typed.specs.Types.{type_of}
use Rattle.qt_typed.specs.declared.expression.TypedExpr.{TypedExpr}
use Rattle.qt_typed.specs.declared.statement.TypedLoop.TheVariants as loop
use Rattle.qt_typed.specs.declared.statement.TypedSequence.TheVariants as over
use Rattle.qt_instructions.specs.declared.instruction.Instr.{Instr}
use Rattle.qt_instructions.specs.declared.instruction.Instr.TheVariants as instr
use Rattle.qt_flat_code.specs.Expressions.{expression_code, operand}
use Rattle.qt_flat_code.specs.Lengths.{expression_length, values_length}
use Rattle.qt_flat_code.specs.Storing.{puts, values_code}
use Rattle.qt_flat_code.specs.Loops.{begin_code, begin_length, count_kind, gets, kept_code, kept_from, kept_length, step_code, step_kind, step_length}
use Rattle.qt_emit_expressions.specs.declared.coded.Coded.{Coded}
use Rattle.qt_emit_expressions.specs.Adds.{Adds}
use Rattle.qt_emit_expressions.specs.Emits.{Emits}
use Rattle.qt_emit_expressions.proofs.Adding.{becomes, chain, nothing}
use Rattle.qt_emit_storing.specs.Writes.{Writes}
use Rattle.qt_emit_loops.specs.EmitsStep.{EmitsStep}

-- ---- slots

pub get_more : (cell slot to from left : ℕ) (o m n : List Instr) → 0 < left → to ≡ suc cell → from ≡ suc slot
    → Adds o m (instr.Get cell slot ∷ []) → Adds m n (gets to from (left - 1)) → Adds o n (gets cell slot left)
get_more cell slot to from zero o m n h e f s t = absurd (omega (arith, h))
get_more cell slot to from (suc left) o m n h e f s t =
    let g : suc left - 1 ≡ left = omega arith in
    chain o m n _ _ s (becomes m n _ _ (rw (e, f, g) refl) t)

pub no_get : (cell slot left : ℕ) (old : List Instr) → left ≡ 0 → Adds old old (gets cell slot left)
no_get cell slot left old e = becomes old old _ _ (sym (ap (gets cell slot) e)) (nothing old)

pub kept_from_written : (count x first all : ℕ) (o m n : List Instr) → first ≡ x + 1 → all ≡ suc count → Adds o m (instr.Load count 0 ∷ [])
    → Adds m n (puts first 0 all) → Adds o n (kept_from count x)
kept_from_written count x first all o m n e f s t =
    chain o m n _ _ s (becomes m n _ _ (ap (λ k. puts k 0 all) e ∙ ap (puts (x + 1) 0) f) t)

-- ---- steps of ranges

pub no_step_written : (base cell at behind : ℕ) (old new : List Instr) → Adds old new (instr.Load cell 1 ∷ []) → behind ≡ suc at
    → EmitsStep None base cell at old new (record { behind = behind; kind = kind.Uint 64 })
no_step_written base cell at behind old new s is = record { added = s; behind = omega (arith, is); kind = refl }

pub step_written : (e : TypedExpr) (base cell at : ℕ) (old new : List Instr) (coded : Coded) → Emits e base cell at old new coded
    → EmitsStep (Some e) base cell at old new coded
step_written e base cell at old new coded s = record { added = s.added; behind = s.behind; kind = s.kind }

-- ---- what is kept

-- the number of turns, and counts of the first value and of the step
abbrev turns_and_counts : ValueType → ValueType → ValueType → List Instr
turns_and_counts first step last =
    instr.Turns 3 (operand 0 first) (operand 1 step) (operand 2 last) ∷ instr.Cast 0 (operand 0 first) count_kind
    ∷ instr.Cast 1 (operand 1 step) count_kind ∷ []

pub range_written : (first : TypedExpr) (by : Option TypedExpr) (last : TypedExpr) (x base at end : ℕ) (o0 o1 o2 o3 o4 o5 : List Instr)
    (start step stop : Coded) → Emits first base 0 at o0 o1 start → EmitsStep by base 1 start.behind o1 o2 step
    → Emits last base 2 step.behind o2 o3 stop
    → Adds o3 o4 (instr.Turns 3 (operand 0 start.kind) (operand 1 step.kind) (operand 2 stop.kind) ∷ instr.Cast 0 (operand 0 start.kind) count_kind
    ∷ instr.Cast 1 (operand 1 step.kind) count_kind ∷ [])
    → Adds o4 o5 (instr.Put (x + 1) 0 ∷ instr.Put (x + 2) 1 ∷ instr.Put (x + 3) 3 ∷ []) → end ≡ stop.behind + 6
    → Writes (kept_code (over.Range first by last) x base at) (kept_length (over.Range first by last)) at o0 o5 end
range_written first by last x base at end o0 o1 o2 o3 o4 o5 start step stop a b c t u is =
    let from : step.behind ≡ at + expression_length first + step_length by = omega (arith, a.behind, b.behind) in record {
      added =
          chain o0 o1 o5 _ _ a.added
          (chain o1 o2 o5 _ _ (becomes o1 o2 _ _ (ap (step_code by base 1) a.behind) b.added)
          (chain o2 o3 o5 _ _ (becomes o2 o3 _ _ (ap (expression_code last base 2) from) c.added)
          (chain o3 o4 o5 _ _ (becomes o3 o4 _ _
          (ap (λ k. turns_and_counts k step.kind stop.kind) a.kind
          ∙ (ap (λ k. turns_and_counts (type_of first) k stop.kind) b.kind
          ∙ ap (turns_and_counts (type_of first) (step_kind by)) c.kind)) t) u)));
      behind = omega (arith, a.behind, b.behind, c.behind, is);
    }

pub set_written : (members : List TypedExpr) (x base at count middle kept end : ℕ) (o m n : List Instr) → count ≡ length members
    → Writes (values_code members base 0 at) (values_length members) at o m middle → Adds m n (kept_from count x) → kept ≡ count + 2
    → end ≡ middle + kept → Writes (kept_code (over.Set members) x base at) (kept_length (over.Set members)) at o n end
set_written members x base at count middle kept end o m n many s t of is = record {
  added = chain o m n _ _ s.added (becomes m n _ _ (ap (λ k. kept_from k x) many) t);
  behind = omega (arith, s.behind, many, of, is);
}

pub array_written : (of : ValueType) (slot count x base at first middle kept end : ℕ) (o m n : List Instr) → first ≡ base + slot
    → middle ≡ at + count → Adds o m (gets 0 first count) → Adds m n (kept_from count x) → kept ≡ count + 2 → end ≡ middle + kept
    → Writes (kept_code (over.Array of slot count) x base at) (kept_length (over.Array of slot count)) at o n end
array_written of slot count x base at first middle kept end o m n e f s t g is = record {
  added = chain o m n _ _ (becomes o m _ _ (ap (λ k. gets 0 k count) e) s) t;
  behind = omega (arith, f, g, is);
}

pub register_written : (width : ℕ) (value : TypedExpr) (x base at end : ℕ) (o m n : List Instr) (coded : Coded) → Emits value base 0 at o m coded
    → Adds m n (kept_from 1 x) → end ≡ coded.behind + 3
    → Writes (kept_code (over.Bits width value) x base at) (kept_length (over.Bits width value)) at o n end
register_written width value x base at end o m n coded e t is = record {
  added = chain o m n _ _ e.added t;
  behind = omega (arith, e.behind, is);
}

-- ---- a `while` keeps nothing

pub no_beginning : (condition : TypedExpr) (x base at : ℕ) (old : List Instr)
    → Writes (begin_code (loop.While condition) x base at) (begin_length (loop.While condition)) at old old at
no_beginning condition x base at old = record { added = nothing old; behind = omega arith }
