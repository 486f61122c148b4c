-- The code of assignments and of arrays stores what they mean.
use Rattle.std.proofs.Common.{◌≡◌, ℕ, zero, suc, ◌+◌, Ok, Err, Some, None, List, [], ◌∷◌, ◌++◌, length, slice_set, refl, ap, ◌∙◌, arith}
use Rattle.std.specs.Prelude.{replicate}
use Rattle.qt_tree.specs.declared.place.Place.{Place}
use Rattle.qt_value.specs.OpTypes.{result_type}
use Rattle.qt_value.specs.Types.{width_of}
use Rattle.qt_value.specs.declared.operators.Op.{Op}
use Rattle.qt_value.specs.declared.types.ValueType.{ValueType}
use Rattle.qt_typed.specs.Types.{or_bool, type_of}
use Rattle.qt_typed.specs.declared.expression.TypedExpr.{TypedExpr}
use Rattle.qt_typed.specs.declared.expression.TypedTarget.{TypedTarget}
use Rattle.qt_meaning.specs.Expressions.{eval, values_of}
use Rattle.qt_meaning.specs.Places.{Location, all_stored, kind_of, loaded, location_of, stored}
use Rattle.qt_meaning.specs.Points.{Point, with_result}
use Rattle.qt_meaning.specs.Values.{Evaluated, and_then, converted_to, operated}
use Rattle.qt_instructions.specs.declared.instruction.Instr.{Instr}
use Rattle.qt_instructions.specs.declared.instruction.Instr.TheVariants as instr
use Rattle.qt_instructions.specs.declared.parts.Parts.{Parts}
use Rattle.qt_code.specs.Cells.{Cells, with_cell}
use Rattle.qt_code.specs.Tail.{tail}
use Rattle.qt_code.proofs.Steps.{tail_at, tail_with}
use Rattle.qt_flat_code.specs.Bits.{bits_of}
use Rattle.qt_flat_code.specs.Lengths.{expression_length, loading_length, location_length, storing_length, target_length, update_length, values_length, zeros_length}
use Rattle.qt_flat_code.specs.Expressions.{binary, expression_code, operand}
use Rattle.qt_flat_code.specs.Storing.{copies, loading_code, location_code, puts, storing_code, target_code, update_code, values_code, zeros_code}
use Rattle.qt_flat_expressions.specs.Fits.{ExpressionFits}
use Rattle.qt_flat_expressions.specs.Lands.{KeepsBelow, StandsAt}
use Rattle.qt_flat_expressions.proofs.Expressions.{expression_comes}
use Rattle.qt_flat_expressions.proofs.Lengths.{Long, expression_long, joined}
use Rattle.qt_flat_expressions.proofs.Standing.{stands_behind, stands_first}
use Rattle.qt_flat_expressions.proofs.Stepping.{HasAt, load_step}
use Rattle.qt_flat_storing.specs.Fits.{AllFit, TargetFits}
use Rattle.qt_flat_storing.specs.Laws.{ArraysStore, AssignmentsStore, UpdatesStore}
use Rattle.qt_flat_storing.specs.Stores.{Continues, Storing, assigned, changed}
use Rattle.qt_flat_expressions.proofs.Arriving.{Arrives, Gets, InCell, gets_here, gets_then, gets_value}
use Rattle.qt_flat_storing.proofs.Targets.{Located, located_kept, loading_long, loads, location_gets, location_long, stores_at, target_counts}

-- what stores, as a record, so that its arguments are found
pub record Ends (code : Parts) (place : Place) (p : Point) (at : ℕ) (cells : Cells) (to : ℕ) (v : Evaluated (List ℕ)) : Type 0 where
  pub out : Storing code place p at cells to v

module _ (code : Parts) (place : Place) (p : Point) where
  ends_from : (at : ℕ) (cells : Cells) (mid : ℕ) (new : Cells) (to : ℕ) (v : Evaluated (List ℕ)) → tail code at cells p ≡ tail code mid new p
      → Ends code place p mid new to v → Ends code place p at cells to v
  ends_from at cells mid new to (Ok slots) e h =
      let c : Continues code p mid new (record p { store = slots }) to = h.out in
      record { out = record { new = c.new; same = e ∙ c.same } }
  ends_from at cells mid new to (Err fault) e h = record { out = e ∙ h.out }

  ends_then : {A : Type 0} (at : ℕ) (cells : Cells) (mid below to : ℕ) (H : A → Cells → Type 0) (v : Evaluated A) (next : A → Evaluated (List ℕ))
      → Gets code place p A at cells mid below H v
      → ((new : Cells) (a : A) → v ≡ Ok a → H a new → KeepsBelow below cells new → Ends code place p mid new to (next a))
      → Ends code place p at cells to (and_then v next)
  ends_then at cells mid below to H (Ok a) next g h =
      let r : Arrives code place p at cells mid below (H a) = g.out in
      ends_from at cells mid r.new to (next a) r.same (h r.new a refl r.holds r.kept)
  ends_then at cells mid below to H (Err fault) next g h = record { out = g.out }

  -- ---- assignments

  module _ (base slots : ℕ) where
    assignment_ends : (target : TypedTarget) (value : TypedExpr) → ExpressionFits slots value → TargetFits slots target → (at to : ℕ) (cells : Cells)
        → StandsAt code place at (expression_code value base 0 at ++ target_code target base 0 (at + expression_length value))
        → at + (expression_length value + target_length target) ≡ to → Ends code place p at cells to (assigned target value base p.store)
    assignment_ends target value fits good at to cells h t =
        let w = width_of (kind_of target.variable) in
        let mid = at + expression_length value in
        let behind = mid + location_length target in
        let a = expression_code value base 0 at in
        let b = location_code target base 1 mid in
        let c = storing_code (bits_of target) target base 1 0 in
        let later = stands_behind code place at a (b ++ c) (expression_length value) (expression_long value base 0 at).long h in
        ends_then at cells mid 0 to (InCell code place p 0) (eval value base p.store)
        (λ x. and_then (location_of target base p.store) (λ l. Ok (stored l x p.store)))
        (gets_value code place p at cells mid 0 (eval value base p.store)
        (expression_comes code place p base slots value fits 0 at mid cells (stands_first code place at a (b ++ c) h) refl))
        (λ new x is holds kept.
        ends_then mid new behind 1 to (Located target.variable base w 1 (bits_of target)) (location_of target base p.store) (λ l. Ok (stored l x p.store))
        (location_gets code place p base slots target good 1 mid behind new (stands_first code place mid b c later) refl)
        (λ newer l it there keeps.
        record {
          out = stores_at code place p base slots target good (bits_of target) (target_counts slots target good) l 1 0 behind to x newer there (omega arith)
              (keeps 0 (omega arith) ∙ holds)
              (stands_behind code place mid b c (location_length target) (location_long target base 1 mid).long later) (omega (arith, t));
        }))

    -- behind the operator: the value goes to its type, and is stored
    changed_ends : (target : TypedTarget) → TargetFits slots target → (from : ValueType) (l : Location) (at to : ℕ) (cells : Cells) (v : Evaluated ℕ)
        → tail code at cells p ≡ with_result v place (λ x. tail_with code p.fuel (suc at) (with_cell 0 x cells)) p
        → Located target.variable base (width_of (kind_of target.variable)) 1 (bits_of target) l cells
        → HasAt code place (suc at) (instr.Cast 0 (operand 0 from) target.kind)
        → StandsAt code place (suc (suc at)) (storing_code (bits_of target) target base 1 0)
        → suc (suc at) + storing_length (bits_of target) ≡ to
        → Ends code place p at cells to (and_then v (λ bits. Ok (stored l (converted_to target.kind from bits) p.store)))
    changed_ends target good from l at to cells (Err fault) e here i h t = record { out = e }
    changed_ends target good from l at to cells (Ok bits) e here i h t =
        let w = width_of (kind_of target.variable) in
        let c1 = with_cell 0 bits cells in
        let made = converted_to target.kind from (c1 0) in
        let c2 = with_cell 0 made c1 in
        let there = located_kept target.variable base w 1 (bits_of target) l cells c2 refl refl here in
        let value : c2 0 ≡ converted_to target.kind from bits = refl in
        let r = stores_at code place p base slots target good (bits_of target) (target_counts slots target good) l 1 0 (suc (suc at)) to
        (converted_to target.kind from bits) c2 there (omega arith) value h t in
        record {
          out = record {
            new = r.new;
            same = e ∙ tail_at code (suc at) (instr.Cast 0 (operand 0 from) target.kind, place) i c1 p ∙ r.same;
          };
        }

    update_ends : (target : TypedTarget) (operator : Op) (value : TypedExpr) → ExpressionFits slots value → TargetFits slots target → (at to : ℕ)
        (cells : Cells) → StandsAt code place at (update_code target operator value base at) → at + update_length target value ≡ to
        → Ends code place p at cells to (changed target operator value base p.store)
    update_ends target operator value fits good at to cells h t =
        let w = width_of (kind_of target.variable) in
        let bits = bits_of target in
        let counts = target_counts slots target good in
        let mid = at + expression_length value in
        let behind = mid + location_length target in
        let last = behind + loading_length bits in
        let kind = or_bool (result_type operator target.kind (type_of value)) in
        let a = expression_code value base 0 at in
        let b = location_code target base 1 mid in
        let c = loading_code bits target base 1 in
        let s = storing_code bits target base 1 0 in
        let d : List Instr = binary 0 operator (operand 3 target.kind) (operand 0 (type_of value)) ∷ instr.Cast 0 (operand 0 kind) target.kind ∷ s in
        let h1 = stands_behind code place at a (b ++ (c ++ d)) (expression_length value) (expression_long value base 0 at).long h in
        let h2 = stands_behind code place mid b (c ++ d) (location_length target) (location_long target base 1 mid).long h1 in
        let h3 = stands_behind code place behind c d (loading_length bits) (loading_long bits target base 1).long h2 in
        ends_then at cells mid 0 to (InCell code place p 0) (eval value base p.store) _
        (gets_value code place p at cells mid 0 (eval value base p.store)
        (expression_comes code place p base slots value fits 0 at mid cells (stands_first code place at a (b ++ (c ++ d)) h) refl))
        (λ new x is holds kept.
        ends_then mid new behind 1 to (Located target.variable base w 1 bits) (location_of target base p.store) _
        (location_gets code place p base slots target good 1 mid behind new (stands_first code place mid b (c ++ d) h1) refl)
        (λ newer l it there keeps.
        let r = loads code place p base slots target good bits counts l 1 behind last newer there (stands_first code place behind c d h2) refl in
        let x_is : r.new 0 ≡ x = r.kept 0 (omega arith) ∙ keeps 0 (omega arith) ∙ holds in
        let here = located_kept target.variable base w 1 bits l newer r.new (r.kept 1 (omega arith)) (r.kept 2 (omega arith)) there in
        ends_from behind newer last r.new to _ r.same
        (changed_ends target good kind l last to r.new (operated operator target.kind (type_of value) (loaded l p.store) x)
        (tail_at code last (binary 0 operator (operand 3 target.kind) (operand 0 (type_of value)), place) h3.0 r.new p
        ∙ ap (λ y. with_result (operated operator target.kind (type_of value) y (r.new 0)) place (λ z. tail_with code p.fuel (suc last) (with_cell 0 z r.new)) p) r.holds
        ∙ ap (λ y. with_result (operated operator target.kind (type_of value) (loaded l p.store) y) place (λ z. tail_with code p.fuel (suc last) (with_cell 0 z r.new)) p) x_is)
        here h3.1.0 h3.1.1 (omega (arith, t)))))

    -- ---- arrays

    abbrev AllIn : ℕ → List ℕ → Cells → Type 0
    AllIn cell [] new = Unit {0}
    AllIn cell (x ∷ xs) new = (new cell ≡ x) × AllIn (suc cell) xs new

    values_long : (es : List TypedExpr) (cell at : ℕ) → Long (values_code es base cell at) (values_length es)
    values_long [] cell at = record { long = refl }
    values_long (e ∷ es) cell at = joined _ _ _ _ (expression_long e base cell at) (values_long es (suc cell) (at + expression_length e))

    values_get : (es : List TypedExpr) → AllFit slots es → (cell at to : ℕ) (cells : Cells) → StandsAt code place at (values_code es base cell at)
        → at + values_length es ≡ to
        → Gets code place p (List ℕ) at cells to cell (λ xs new. AllIn cell xs new × (length xs ≡ length es)) (values_of es base p.store)
    values_get [] fits cell at to cells h t =
        gets_here code place p at cells to cell (λ xs new. AllIn cell xs new × (length xs ≡ 0)) [] (tt, refl) (omega (arith, t))
    values_get (e ∷ es) fits cell at to cells h t =
        let mid = at + expression_length e in
        let a = expression_code e base cell at in
        let b = values_code es base (suc cell) mid in
        gets_then code place p at cells mid cell to cell (InCell code place p cell) (λ xs new. AllIn cell xs new × (length xs ≡ suc (length es)))
        (eval e base p.store) (λ x. and_then (values_of es base p.store) (λ xs. Ok (x ∷ xs))) (omega arith)
        (gets_value code place p at cells mid cell (eval e base p.store)
        (expression_comes code place p base slots e fits.0 cell at mid cells (stands_first code place at a b h) refl))
        (λ new x is holds kept.
        gets_then code place p mid new to (suc cell) to cell (λ xs newer. AllIn (suc cell) xs newer × (length xs ≡ length es))
        (λ xs newer. AllIn cell xs newer × (length xs ≡ suc (length es))) (values_of es base p.store) (λ xs. Ok (x ∷ xs)) (omega arith)
        (values_get es fits.1 (suc cell) mid to new
        (stands_behind code place at a b (expression_length e) (expression_long e base cell at).long h) (omega (arith, t)))
        (λ newer xs it there keeps.
        gets_here code place p to newer to cell (λ ys last. AllIn cell ys last × (length ys ≡ suc (length es))) (x ∷ xs)
        ((keeps cell (omega arith) ∙ holds, there.0), ap suc there.1) refl))

puts_store : (code : Parts) (place : Place) (xs : List ℕ) (n slot cell at to base slots : ℕ) (cells : Cells) (p : Point) → length xs ≡ n
    → AllIn code place p base slots cell xs cells → StandsAt code place at (puts slot cell n) → at + n ≡ to
    → tail code at cells p ≡ tail code to cells (record p { store = all_stored slot xs p.store })
puts_store code place [] zero slot cell at to base slots cells p e all h t = let s : at ≡ to = omega (arith, t) in ap (λ n. tail code n cells p) s
puts_store code place [] (suc n) slot cell at to base slots cells p e all h t = absurd (omega (arith, e))
puts_store code place (x ∷ xs) zero slot cell at to base slots cells p e all h t = absurd (omega (arith, e))
puts_store code place (x ∷ xs) (suc n) slot cell at to base slots cells p e all h t =
    tail_at code at (instr.Put slot cell, place) h.0 cells p
    ∙ ap (λ y. tail code (suc at) cells (record p { store = slice_set p.store slot y })) all.0
    ∙ puts_store code place xs n (suc slot) (suc cell) (suc at) to base slots cells (record p { store = slice_set p.store slot x }) (omega (arith, e)) all.1 h.1
    (omega (arith, t))

copies_store : (code : Parts) (place : Place) (n x slot cell at to : ℕ) (cells : Cells) (p : Point) → cells cell ≡ x
    → StandsAt code place at (copies slot cell n) → at + n ≡ to
    → tail code at cells p ≡ tail code to cells (record p { store = all_stored slot (replicate n x) p.store })
copies_store code place zero x slot cell at to cells p e h t = let s : at ≡ to = omega (arith, t) in ap (λ n. tail code n cells p) s
copies_store code place (suc n) x slot cell at to cells p e h t =
    tail_at code at (instr.Put slot cell, place) h.0 cells p
    ∙ ap (λ y. tail code (suc at) cells (record p { store = slice_set p.store slot y })) e
    ∙ copies_store code place n x (suc slot) cell (suc at) to cells (record p { store = slice_set p.store slot x }) e h.1 (omega (arith, t))

zeros_store : (code : Parts) (place : Place) (n slot at to : ℕ) (cells : Cells) (p : Point) → StandsAt code place at (zeros_code slot 0 n)
    → at + zeros_length n ≡ to → Continues code p at cells (record p { store = all_stored slot (replicate n 0) p.store }) to
zeros_store code place zero slot at to cells p h t =
    let s : at ≡ to = omega (arith, t) in record { new = cells; same = ap (λ n. tail code n cells p) s }
zeros_store code place (suc n) slot at to cells p h t = record {
  new = with_cell 0 0 cells;
  same =
      load_step code place p at 0 0 cells h.0
      ∙ copies_store code place (suc n) 0 slot 0 (suc at) to (with_cell 0 0 cells) p refl h.1 (omega (arith, t));
}

-- ---- the laws

pub assignments_store : AssignmentsStore
assignments_store code place target value slots base at fits good h = record {
  by = λ cells p. (assignment_ends code place p base slots target value fits good at (at + (expression_length value + target_length target)) cells h refl).out;
}

pub updates_store : UpdatesStore
updates_store code place target operator value slots base at fits good h = record {
  by = λ cells p. (update_ends code place p base slots target operator value fits good at (at + update_length target value) cells h refl).out;
}

pub arrays_store : ArraysStore
arrays_store code place None slot count slots base at fits h = record {
  by = λ cells p. zeros_store code place count slot at (at + zeros_length count) cells p h refl;
}
arrays_store code place (Some values) slot count slots base at fits h = record {
  by = λ cells p.
      (let mid = at + values_length values in
      let to = at + (values_length values + length values) in
      let a = values_code values base 0 at in
      let b = puts slot 0 (length values) in
      ends_then code place p at cells mid 0 to (λ xs new. AllIn code place p base slots 0 xs new × (length xs ≡ length values)) (values_of values base p.store)
      (λ xs. Ok (all_stored slot xs p.store))
      (values_get code place p base slots values fits 0 at mid cells (stands_first code place at a b h) refl)
      (λ new xs is holds kept.
      record {
        out = record {
          new = new;
          same = puts_store code place xs (length values) slot 0 mid to base slots new p holds.1 holds.0
              (stands_behind code place at a b (values_length values) (values_long code place p base slots values 0 at).long h) (omega arith);
        };
      })).out;
}
