-- Targets: where they are, what is got, and what is stored.
use Rattle.std.proofs.Common.{◌≡◌, ℕ, zero, suc, ◌+◌, List, [], ◌∷◌, refl, ap, ◌∙◌, arith}
use Rattle.qt_value.specs.OpTypes.{result_type}
use Rattle.qt_value.specs.declared.operators.Op.{Op}
use Rattle.qt_value.specs.declared.types.ValueType.{ValueType}
use Rattle.qt_value.specs.declared.types.ValueType.TheVariants as kind
use Rattle.qt_typed.specs.Types.{or_bool}
use Rattle.qt_typed.specs.declared.expression.TypedExpr.{TypedExpr}
use Rattle.qt_typed.specs.declared.expression.TypedTarget.{TypedTarget}
use Rattle.qt_meaning.specs.Places.{kind_of}
use Rattle.qt_instructions.specs.declared.instruction.Instr.{Instr}
use Rattle.qt_instructions.specs.declared.instruction.Instr.TheVariants as instr
use Rattle.qt_flat_code.specs.Bits.{Bits, EveryBit, OneBit, bits_of, first_bits}
use Rattle.qt_flat_code.specs.Expressions.{binary, copied_code, every, operand, place_kind}
use Rattle.qt_flat_code.specs.Lengths.{loading_length, location_length, steps_length, storing_length, target_length, update_length, variable_length}
use Rattle.qt_flat_code.specs.Storing.{get, loading_code, location_code, put, steps_code, storing_code, target_code, update_code, variable_code}
use Rattle.qt_emit_expressions.specs.declared.coded.Coded.{Coded}
use Rattle.qt_emit_expressions.specs.Adds.{Adds}
use Rattle.qt_emit_expressions.specs.Emits.{Emits}
use Rattle.qt_emit_expressions.proofs.Adding.{becomes, chain}
use Rattle.qt_emit_expressions.proofs.Copying.{each_place, same_places}
use Rattle.qt_emit_storing.specs.Writes.{Writes}

pub location_written : (target : TypedTarget) (base cell at next middle end : ℕ) (bits : Bits) (o m n : List Instr) → next ≡ suc cell
    → bits ≡ first_bits target
    → Writes (variable_code target.variable base cell at) (variable_length target.variable) at o m middle
    → Writes (steps_code target.steps bits base next middle) (steps_length target.steps bits) middle m n end
    → Writes (location_code target base cell at) (location_length target) at o n end
location_written target base cell at next middle end bits o m n is first s t =
    let long : steps_length target.steps bits ≡ steps_length target.steps (first_bits target) = ap (steps_length target.steps) first in record {
      added =
          chain o m n _ _ s.added
          (becomes m n _ _ (ap (λ b. steps_code target.steps b base next middle) first
          ∙ (ap (λ c. steps_code target.steps (first_bits target) base c middle) is
          ∙ ap (steps_code target.steps (first_bits target) base (suc cell)) s.behind)) t.added);
      behind = omega (arith, s.behind, t.behind, long);
    }

-- from the first bit on, one by one
read_in_order : (from : ℕ) (of : ValueType) (read : ℕ → ℕ) (cell : ℕ) (to : ValueType) (write : ℕ → ℕ) (used i count : ℕ)
    → ((n : ℕ) → read n ≡ n) → copied_code from of read cell to write used i count ≡ copied_code from of (λ n. n) cell to write used i count
read_in_order from of read cell to write used i zero h = refl
read_in_order from of read cell to write used i (suc count) h =
    ap (λ p. instr.Load used p ∷ instr.BitGet (used + 1) (operand from of) (operand used (kind.Uint 8)) ∷ instr.Load used (write i)
    ∷ instr.BitPut (operand cell to) (operand used (kind.Uint 8)) (used + 1) ∷ copied_code from of read cell to write used (suc i) count)
    (h i)
    ∙ ap (λ l. instr.Load used i ∷ instr.BitGet (used + 1) (operand from of) (operand used (kind.Uint 8)) ∷ instr.Load used (write i)
    ∷ instr.BitPut (operand cell to) (operand used (kind.Uint 8)) (used + 1) ∷ l)
    (read_in_order from of read cell to write used (suc i) count h)

module _ (target : TypedTarget) (base cell : ℕ) (of : ValueType) (is : of ≡ kind_of target.variable) where
  pub every_loaded : (start step count value old used : ℕ) (o0 o1 o2 o3 : List Instr) → value ≡ cell + 2 → old ≡ cell + 3 → used ≡ cell + 4
      → Adds o0 o1 (get target.variable base cell old ∷ []) → Adds o1 o2 (instr.Load value 0 ∷ [])
      → Adds o2 o3 (copied_code old of (every start step) value target.kind (every 0 1) used 0 count)
      → Adds o0 o3 (loading_code (EveryBit start step count) target base cell)
  every_loaded start step count value old used o0 o1 o2 o3 e f g s t u =
      rw (← e, ← f, ← g, ← is) (chain o0 o1 o3 _ _ s (chain o1 o2 o3 _ _ t
      (becomes o2 o3 _ _ (same_places old of (every start step) value target.kind (λ n. n) used (every 0 1) 0 count each_place) u)))

  pub one_loaded : (place value : ℕ) (o0 o1 o2 : List Instr) → place ≡ cell + 1 → value ≡ cell + 2
      → Adds o0 o1 (get target.variable base cell value ∷ [])
      → Adds o1 o2 (instr.BitGet value (operand value of) (operand place place_kind) ∷ []) → Adds o0 o2 (loading_code OneBit target base cell)
  one_loaded place value o0 o1 o2 e f s t = rw (← e, ← f, ← is) (chain o0 o1 o2 _ _ s t)

  pub every_stored : (start step count from old used : ℕ) (o0 o1 o2 o3 : List Instr) → old ≡ cell + 2 → used ≡ cell + 3
      → Adds o0 o1 (get target.variable base cell old ∷ [])
      → Adds o1 o2 (copied_code from target.kind (every 0 1) old of (every start step) used 0 count)
      → Adds o2 o3 (put target.variable base cell old ∷ []) → Adds o0 o3 (storing_code (EveryBit start step count) target base cell from)
  every_stored start step count from old used o0 o1 o2 o3 e f s t u =
      rw (← e, ← f, ← is) (chain o0 o1 o3 _ _ s (chain o1 o2 o3 _ _
      (becomes o1 o2 _ _ (read_in_order from target.kind (every 0 1) old of (every start step) used 0 count each_place) t) u))

  pub one_stored : (place from old : ℕ) (o0 o1 o2 o3 : List Instr) → place ≡ cell + 1 → old ≡ cell + 2
      → Adds o0 o1 (get target.variable base cell old ∷ [])
      → Adds o1 o2 (instr.BitPut (operand old of) (operand place place_kind) from ∷ [])
      → Adds o2 o3 (put target.variable base cell old ∷ []) → Adds o0 o3 (storing_code OneBit target base cell from)
  one_stored place from old o0 o1 o2 o3 e f s t u = rw (← e, ← f, ← is) (chain o0 o1 o3 _ _ s (chain o1 o2 o3 _ _ t u))

pub target_written : (target : TypedTarget) (base cell at next middle end : ℕ) (bits : Bits) (o m n : List Instr) → next ≡ suc cell
    → bits ≡ bits_of target → Writes (location_code target base next at) (location_length target) at o m middle
    → Adds m n (storing_code bits target base next cell) → end ≡ middle + storing_length bits
    → Writes (target_code target base cell at) (target_length target) at o n end
target_written target base cell at next middle end bits o m n is of s t last =
    let long : storing_length bits ≡ storing_length (bits_of target) = ap storing_length of in record {
      added =
          chain o m n _ _ (becomes o m _ _ (ap (λ c. location_code target base c at) is) s.added)
          (becomes m n _ _ (ap (λ b. storing_code b target base next cell) of
          ∙ ap (λ c. storing_code (bits_of target) target base c cell) is) t);
      behind = omega (arith, s.behind, last, long);
    }

pub update_written : (target : TypedTarget) (operator : Op) (value : TypedExpr) (base at middle end : ℕ) (bits : Bits)
    (o0 o1 o2 o3 o4 o5 : List Instr) (coded : Coded) → bits ≡ bits_of target → Emits value base 0 at o0 o1 coded
    → Writes (location_code target base 1 coded.behind) (location_length target) coded.behind o1 o2 middle
    → Adds o2 o3 (loading_code bits target base 1)
    → Adds o3 o4 (binary 0 operator (operand 3 target.kind) (operand 0 coded.kind)
    ∷ instr.Cast 0 (operand 0 (or_bool (result_type operator target.kind coded.kind))) target.kind ∷ [])
    → Adds o4 o5 (storing_code bits target base 1 0) → end ≡ middle + (loading_length bits + (2 + storing_length bits))
    → Writes (update_code target operator value base at) (update_length target value) at o0 o5 end
update_written target operator value base at middle end bits o0 o1 o2 o3 o4 o5 coded of e s t u v last =
    let load : loading_length bits ≡ loading_length (bits_of target) = ap loading_length of in
    let store : storing_length bits ≡ storing_length (bits_of target) = ap storing_length of in record {
      added =
          chain o0 o1 o5 _ _ e.added
          (chain o1 o2 o5 _ _ (becomes o1 o2 _ _ (ap (location_code target base 1) e.behind) s.added)
          (chain o2 o3 o5 _ _ (becomes o2 o3 _ _ (ap (λ b. loading_code b target base 1) of) t)
          (chain o3 o4 o5 _ _ (becomes o3 o4 _ _
          (ap (λ k. binary 0 operator (operand 3 target.kind) (operand 0 k)
          ∷ instr.Cast 0 (operand 0 (or_bool (result_type operator target.kind k))) target.kind ∷ []) e.kind) u)
          (becomes o4 o5 _ _ (ap (λ b. storing_code b target base 1 0) of) v))));
      behind = omega (arith, e.behind, s.behind, last, load, store);
    }
