-- What the steps of writing an expression come to, form by form.
use Rattle.std.proofs.Common.{◌≡◌, ℕ, suc, ◌+◌, ◌*◌, ◌<◌, List, [], ◌∷◌, ◌++◌, length, refl, sym, ap, ◌∙◌, arith, append_assoc}
use Rattle.qt_value.specs.OpTypes.{result_type, unary_result_type}
use Rattle.qt_value.specs.declared.operators.Op.{Op}
use Rattle.qt_value.specs.declared.operators.Op.TheVariants as op
use Rattle.qt_value.specs.declared.operators.UnaryOp.{UnaryOp}
use Rattle.qt_value.specs.declared.types.ValueType.{ValueType}
use Rattle.qt_value.specs.declared.types.ValueType.TheVariants as kind
use Rattle.qt_typed.specs.Types.{or_bool, type_of}
use Rattle.qt_typed.specs.declared.expression.Logical.{Logical}
use Rattle.qt_typed.specs.declared.expression.TypedExpr.{TypedExpr}
use Rattle.qt_typed.specs.declared.expression.TypedExpr.TheVariants as form
use Rattle.qt_meaning.specs.Distribution.{element_count}
use Rattle.qt_instructions.specs.declared.instruction.Instr.{Instr}
use Rattle.qt_instructions.specs.declared.instruction.Instr.TheVariants as instr
use Rattle.qt_instructions.specs.declared.instruction.Operation.TheVariants as operation
use Rattle.qt_flat_code.specs.Lengths.{expression_length, jumps_of}
use Rattle.qt_flat_code.specs.Expressions.{binary, expression_code, index_code, logical_jumps, operand, place_kind, slice_code}
use Rattle.qt_flat_code.specs.Storing.{indexes_code}
use Rattle.qt_emit_expressions.specs.declared.coded.Coded.{Coded}
use Rattle.qt_emit_expressions.specs.declared.coded.BothCoded.{BothCoded}
use Rattle.qt_emit_expressions.specs.Adds.{Adds}
use Rattle.qt_emit_expressions.specs.Emits.{Emits, EmitsBoth, EmitsIndex, EmitsIndexes, EmitsPlace}
use Rattle.qt_emit_expressions.specs.Quotients.{divided_code}
use Rattle.qt_emit_expressions.proofs.Adding.{becomes, chain, nothing}
use Rattle.qt_emit_expressions.proofs.CodeViews as view
use Rattle.qt_emit_expressions.proofs.LengthViews as long

module _ (base cell at : ℕ) where
  pub both_emitted : (left right : TypedExpr) (next : ℕ) (old middle new : List Instr) (first second : Coded) → next ≡ suc cell
      → Emits left base cell at old middle first → Emits right base next first.behind middle new second
      → EmitsBoth left right base cell at old new (record { behind = second.behind; left = first.kind; right = second.kind })
  both_emitted left right next old middle new first second is f s = record {
    added =
        chain old middle new _ _ f.added
        (becomes middle new _ _ (ap (λ n. expression_code right base n first.behind) is ∙ ap (expression_code right base (suc cell)) f.behind)
        s.added);
    behind = omega (arith, s.behind, f.behind);
    of_left = f.kind;
    of_right = s.kind;
  }

  -- both values, and more
  with_both : (left right : TypedExpr) (old middle new more : List Instr) (both : BothCoded)
      → EmitsBoth left right base cell at old middle both → Adds middle new more
      → Adds old new (expression_code left base cell at ++ (expression_code right base (suc cell) (at + expression_length left) ++ more))
  with_both left right old middle new more both e s =
      becomes old new _ _
      (append_assoc (expression_code left base cell at) (expression_code right base (suc cell) (at + expression_length left)) more)
      (chain old middle new _ more e.added s)

  pub bit_emitted : (of index : TypedExpr) (next behind : ℕ) (old middle new : List Instr) (both : BothCoded) → next ≡ suc cell
      → EmitsBoth of index base cell at old middle both
      → Adds middle new (instr.BitGet cell (operand cell both.left) (operand next both.right) ∷ []) → behind ≡ suc both.behind
      → Emits (form.Bit of index) base cell at old new (record { behind = behind; kind = kind.Bit 1 })
  bit_emitted of index next behind old middle new both is e s end = record {
    added =
        becomes old new _ _ (sym (view.bit_code base cell at of index))
        (with_both of index old middle new _ both e (rw (← e.of_left, ← e.of_right, ← is) s));
    behind = rw (long.bit_length of index) (omega (arith, end, e.behind));
    kind = refl;
  }

  pub binary_emitted : (operator : Op) (left right : TypedExpr) (next behind : ℕ) (old middle new : List Instr) (both : BothCoded)
      (result : ValueType) → next ≡ suc cell → EmitsBoth left right base cell at old middle both
      → Adds middle new (binary cell operator (operand cell both.left) (operand next both.right) ∷ []) → behind ≡ suc both.behind
      → result ≡ or_bool (result_type operator both.left both.right)
      → Emits (form.Binary operator left right) base cell at old new (record { behind = behind; kind = result })
  binary_emitted operator left right next behind old middle new both result is e s end of = record {
    added =
        becomes old new _ _ (sym (view.binary_code base cell at operator left right))
        (with_both left right old middle new _ both e (rw (← e.of_left, ← e.of_right, ← is) s));
    behind = rw (long.binary_length operator left right) (omega (arith, end, e.behind));
    kind = rw (view.binary_type operator left right, ← e.of_left, ← e.of_right) of;
  }

  pub quotient_emitted : (left right : TypedExpr) (next behind : ℕ) (old middle new : List Instr) (both : BothCoded)
      (result : ValueType) → next ≡ suc cell → EmitsBoth left right base cell at old middle both
      → Adds middle new (divided_code (operand cell both.left) (operand next both.right)) → behind ≡ both.behind + 3
      → result ≡ or_bool (result_type op.Div both.left both.right)
      → Emits (form.ExactQuotient left right) base cell at old new (record { behind = behind; kind = result })
  quotient_emitted left right next behind old middle new both result is e s end of =
      let f : cell + 1 ≡ next = omega (arith, is) in
      let g : cell + 2 ≡ suc next = omega (arith, is) in record {
        added =
            becomes old new _ _ (sym (view.quotient_code base cell at left right))
            (with_both left right old middle new _ both e (rw (← e.of_left, ← e.of_right, f, g) s));
        behind = rw (long.quotient_length left right) (omega (arith, end, e.behind));
        kind = rw (view.quotient_type left right, ← e.of_left, ← e.of_right) of;
      }

  pub slice_emitted : (of : TypedExpr) (start step count behind : ℕ) (old middle new : List Instr) (value : Coded)
      → Emits of base cell at old middle value → Adds middle new (slice_code cell value.kind start step count)
      → behind ≡ value.behind + (2 + 4 * count)
      → Emits (form.Slice of start step count) base cell at old new (record { behind = behind; kind = kind.Bit count })
  slice_emitted of start step count behind old middle new value e s end = record {
    added =
        becomes old new _ _ (sym (view.slice_is base cell at of start step count))
        (chain old middle new _ _ e.added (rw (← e.kind) s));
    behind = rw (long.slice_length of start step count) (omega (arith, end, e.behind));
    kind = refl;
  }

  pub conversion_emitted : (to : ValueType) (of : TypedExpr) (behind : ℕ) (old middle new : List Instr) (value : Coded)
      → Emits of base cell at old middle value → Adds middle new (instr.Cast cell (operand cell value.kind) to ∷ [])
      → behind ≡ suc value.behind → Emits (form.Convert to of) base cell at old new (record { behind = behind; kind = to })
  conversion_emitted to of behind old middle new value e s end = record {
    added = becomes old new _ _ (sym (view.convert_code base cell at to of)) (chain old middle new _ _ e.added (rw (← e.kind) s));
    behind = rw (long.convert_length to of) (omega (arith, end, e.behind));
    kind = refl;
  }

  pub unary_emitted : (operator : UnaryOp) (of : TypedExpr) (behind : ℕ) (old middle new : List Instr) (value : Coded) (result : ValueType)
      → Emits of base cell at old middle value → Adds middle new (instr.Apply cell (operation.Unary operator (operand cell value.kind)) ∷ [])
      → behind ≡ suc value.behind → result ≡ or_bool (unary_result_type operator value.kind)
      → Emits (form.Unary operator of) base cell at old new (record { behind = behind; kind = result })
  unary_emitted operator of behind old middle new value result e s end of_result = record {
    added = becomes old new _ _ (sym (view.unary_code base cell at operator of)) (chain old middle new _ _ e.added (rw (← e.kind) s));
    behind = rw (long.unary_length operator of) (omega (arith, end, e.behind));
    kind = rw (view.unary_type operator of, ← e.kind) of_result;
  }

  pub element_emitted : (k : ValueType) (slot first count behind end : ℕ) (lengths : List ℕ) (indexes : List TypedExpr)
      (old middle new : List Instr) → first ≡ base + slot → count ≡ element_count lengths
      → EmitsPlace lengths first indexes base cell at old middle end
      → Adds middle new (instr.GetAt cell first count (operand cell place_kind) ∷ []) → behind ≡ suc end
      → Emits (form.Element k slot lengths indexes) base cell at old new (record { behind = behind; kind = k })
  element_emitted k slot first count behind end lengths indexes old middle new is many e s last = record {
    added =
        becomes old new _ _ (sym (view.element_code base cell at k slot lengths indexes))
        (rw (← is, ← many) (chain old middle new _ _ e.added s));
    behind = rw (long.element_length k slot lengths indexes) (omega (arith, last, e.behind));
    kind = refl;
  }

  pub logical_emitted : (operator : Logical) (left right : TypedExpr) (more start : ℕ) (o0 o1 o2 o3 : List Instr) (first last : Coded)
      → more ≡ expression_length right → Emits left base cell at o0 o1 first
      → Adds o1 o2 (logical_jumps operator cell first.behind more) → start ≡ first.behind + jumps_of operator
      → Emits right base cell start o2 o3 last
      → Emits (form.Logical operator left right) base cell at o0 o3 (record { behind = last.behind; kind = kind.Bool })
  logical_emitted operator left right more start o0 o1 o2 o3 first last long_right e s is f =
      let from : start ≡ at + expression_length left + jumps_of operator = is ∙ ap (λ n. n + jumps_of operator) e.behind in record {
        added =
            becomes o0 o3 _ _ (sym (view.logical_code base cell at operator left right))
            (chain o0 o1 o3 _ _ e.added
            (chain o1 o2 o3 _ _
            (becomes o1 o2 _ _ (ap (λ n. logical_jumps operator cell n more) e.behind
            ∙ ap (logical_jumps operator cell (at + expression_length left)) long_right) s)
            (becomes o2 o3 _ _ (ap (expression_code right base cell) from) f.added)));
        behind = rw (long.logical_length operator left right) (omega (arith, f.behind, from));
        kind = refl;
      }

  pub index_emitted : (length first : ℕ) (index : TypedExpr) (next end : ℕ) (old middle new : List Instr) (value : Coded) → next ≡ suc cell
      → Emits index base next at old middle value → Adds middle new (index_code cell first value.kind length) → end ≡ value.behind + 7
      → EmitsIndex length first index base cell at old new end
  index_emitted length first index next end old middle new value is e s last = record {
    added =
        chain old middle new _ _ (becomes old middle _ _ (ap (λ n. expression_code index base n at) is) e.added)
        (becomes middle new _ _ (ap (λ k. index_code cell first k length) e.kind) s);
    behind = omega (arith, last, e.behind);
  }

  pub place_emitted : (lengths : List ℕ) (first : ℕ) (indexes : List TypedExpr) (next end : ℕ) (old middle new : List Instr)
      → next ≡ suc at → Adds old middle (instr.Load cell 0 ∷ []) → EmitsIndexes lengths first indexes base cell next middle new end
      → EmitsPlace lengths first indexes base cell at old new end
  place_emitted lengths first indexes next end old middle new is s e = record {
    added =
        chain old middle new _ _ s (becomes middle new _ _ (ap (indexes_code lengths first indexes base cell) is) e.added);
    behind = omega (arith, is, e.behind);
  }

module _ (base cell : ℕ) (first : ℕ) where
  -- an index, and those behind it
  pub one_more_index : (length : ℕ) (lengths : List ℕ) (index : TypedExpr) (indexes : List TypedExpr) (at next end : ℕ)
      (old middle new : List Instr) → EmitsIndex length first index base cell at old middle next
      → EmitsIndexes lengths first indexes base cell next middle new end
      → EmitsIndexes (length ∷ lengths) first (index ∷ indexes) base cell at old new end
  one_more_index length lengths index indexes at next end old middle new e f =
      let from : next ≡ at + expression_length index + 7 = omega (arith, e.behind) in record {
        added =
            becomes old new _ _
            (append_assoc (expression_code index base (suc cell) at) (index_code cell first (type_of index) length) _)
            (chain old middle new _ _ e.added (becomes middle new _ _ (ap (indexes_code lengths first indexes base cell) from) f.added));
        behind = omega (arith, f.behind, e.behind);
      }

  pub no_index : (lengths : List ℕ) (indexes : List TypedExpr) (at : ℕ) (old : List Instr) → length indexes < 1
      → EmitsIndexes lengths first indexes base cell at old old at
  no_index [] [] at old h = record { added = nothing old; behind = omega arith }
  no_index (n ∷ lengths) [] at old h = record { added = nothing old; behind = omega arith }
  no_index lengths (index ∷ indexes) at old h = absurd (omega (arith, h))

  pub no_dimension : (lengths : List ℕ) (indexes : List TypedExpr) (at : ℕ) (old : List Instr) → length lengths < 1
      → EmitsIndexes lengths first indexes base cell at old old at
  no_dimension [] indexes at old h = record { added = nothing old; behind = omega arith }
  no_dimension (n ∷ lengths) indexes at old h = absurd (omega (arith, h))
