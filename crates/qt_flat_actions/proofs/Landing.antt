-- Each statement without a body, by its kind.
use Rattle.std.proofs.Common.{
  ◌≡◌,
  ℕ,
  zero,
  suc,
  ◌+◌,
  ◌≤◌,
  Ok,
  Err,
  Some,
  None,
  List,
  [],
  ◌∷◌,
  ◌++◌,
  Option,
  slice_set,
  refl,
  sym,
  ap,
  subst,
  ◌∙◌,
  arith,
}
use Rattle.std.specs.List.{flat_map}
use Rattle.qt_tree.specs.declared.place.Place.{Place}
use Rattle.qt_value.specs.OpTypes.{result_type}
use Rattle.qt_value.specs.Types.{width_of}
use Rattle.qt_value.specs.declared.operators.Op.{Op}
use Rattle.qt_typed.specs.Types.{or_bool, type_of}
use Rattle.qt_typed.specs.declared.expression.TypedExpr.{TypedExpr}
use Rattle.qt_typed.specs.declared.expression.TypedTarget.{TypedTarget}
use Rattle.qt_typed.specs.declared.statement.TypedAction.TheVariants as action
use Rattle.qt_typed.specs.declared.statement.TypedRight.TheVariants as right
use Rattle.qt_typed.specs.declared.statement.TypedStatement.TheVariants.{Simple}
use Rattle.qt_meaning.specs.Expressions.{eval}
use Rattle.qt_meaning.specs.Places.{Location, Site, all_stored, kind_of, loaded, location_of, stored}
use Rattle.qt_meaning.specs.Points.{Leaf, Point, Run, go, go_on, spend_of, with_result, with_store}
use Rattle.qt_meaning.specs.Statements.{Calls, act, optional_values, whole_slot, store_value}
use Rattle.qt_meaning.specs.Values.{Evaluated, and_then, converted_to, operated}
use Rattle.qt_instructions.specs.declared.instruction.Instr.{Instr}
use Rattle.qt_instructions.specs.declared.instruction.Instr.TheVariants as instr
use Rattle.qt_instructions.specs.declared.parts.Parts.{Parts}
use Rattle.qt_code.specs.Cells.{Cells, with_cell}
use Rattle.qt_code.specs.Tail.{tail}
use Rattle.qt_code.proofs.Steps.{tail_at, tick_at}
use Rattle.qt_flat_code.specs.Bits.{first_bits_of}
use Rattle.qt_flat_code.specs.Lengths.{choosing_length, expression_length, steps_length, target_steps_length}
use Rattle.qt_flat_code.specs.Expressions.{expression_code}
use Rattle.qt_flat_code.specs.GateCalls.{broadcast_length, gate_call_length}
use Rattle.qt_flat_code.specs.Statements.{action_length, at_place, nowhere, statement_length}
use Rattle.qt_flat_expressions.specs.Fits.{ExpressionFits}
use Rattle.qt_flat_expressions.specs.Lands.{Reaches, StandsAt}
use Rattle.qt_flat_expressions.proofs.Coming.{Comes}
use Rattle.qt_flat_expressions.proofs.Expressions.{expression_comes}
use Rattle.qt_flat_expressions.proofs.Lengths.{expression_long}
use Rattle.qt_flat_expressions.proofs.Standing.{stands_behind, stands_first}
use Rattle.qt_flat_expressions.proofs.Stepping.{HasAt, load_step}
use Rattle.qt_flat_storing.specs.Stores.{Continues, Stores, Storing, assigned, changed, filled}
use Rattle.qt_flat_storing.proofs.Storing.{arrays_store, assignments_store, updates_store}
use Rattle.qt_gate_call_laws.specs.Seen.{LookAlike}
use Rattle.qt_gate_call_laws.proofs.Leaves.{alike, alike_then, on_then}
use Rattle.qt_flat_gate_calls.specs.Landing.{GoesOn, IsWhole, RunLands}
use Rattle.qt_flat_gate_calls.proofs.Broadcasts.{broadcasts_land}
use Rattle.qt_flat_gate_calls.proofs.Calls.{gate_calls_land}
use Rattle.qt_flat_gate_calls.proofs.Following.{lands_here}
use Rattle.qt_flat_gate_calls.proofs.Wherever.{broadcast_lengths_are_one, lengths_are_one}
use Rattle.qt_flat_measuring.specs.Laws.{IsWholeTarget}
use Rattle.qt_flat_measuring.proofs.Choices.{measurements_land, resets_land_all, slot_measurements_land, target_measurements_land}
use Rattle.qt_flat_actions.specs.Fits.{LinesStand}
use Rattle.qt_flat_actions.specs.Laws.{ActionsLand, StatementsLand}

-- ---- where pieces stand, and what they are

stand_at : (code : Parts) (place : Place) (at : ℕ) (is : List Instr) → LinesStand code at (at_place place is) → StandsAt code place at is
stand_at code place at [] h = tt
stand_at code place at (i ∷ is) h = (h.0, stand_at code place (suc at) is h.1)

lands_same : (code : Parts) (at to : ℕ) (run other : Run) → ((p : Point) → run p ≡ other p) → RunLands code at to run → RunLands code at to other
lands_same code at to run other e h = record {
  by = λ next cells p whole goes.
      alike_then (h.by next cells p whole goes) (alike _ _ (ap (flat_map (λ (l : Leaf). go_on next l.signal l.point)) (e p)));
}

lands_to : (code : Parts) (at to n : ℕ) (run : Run) → to ≡ n → RunLands code at to run → RunLands code at n run
lands_to code at to n run e h = subst (λ m. RunLands code at m run) e h

-- ---- what stores

abbrev storing_run : Place → (List ℕ → Evaluated (List ℕ)) → Run
storing_run place slots p = with_result (slots p.store) place (λ new. go (with_store (λ old. new))) p

stores_land : (code : Parts) (place : Place) (at to : ℕ) (slots : List ℕ → Evaluated (List ℕ)) → Stores code place at to slots
    → RunLands code at to (storing_run place slots)
stores_land code place at to slots h = record { by = λ next cells p whole goes. by_value next cells p whole goes (slots p.store) (h.by cells p) }
  where
    by_value : (next : Run) (cells : Cells) (p : Point) → IsWhole code.qubits p.state → GoesOn code p.fuel to next → (v : Evaluated (List ℕ))
        → Storing code place p at cells to v
        → LookAlike (tail code at cells p)
        (flat_map (λ (l : Leaf). go_on next l.signal l.point) (with_result v place (λ new. go (with_store (λ old. new))) p))
    by_value next cells p whole goes (Ok new) c =
        let q : Point = record p { store = new } in
        let r : Continues code p at cells q to = c in
        alike_then (alike _ _ r.same) (alike_then (goes r.new q refl whole) (alike _ _ (sym (on_then next q))))
    by_value next cells p whole goes (Err fault) e = alike _ _ e

assigned_run : (calls : Calls) (target : TypedTarget) (value : TypedExpr) (site : Site) (place : Place) (p : Point)
    → storing_run place (assigned target value site.base) p ≡ act calls (action.Assign target (right.Value value)) site place p
assigned_run calls target value site place p = by_value (eval value site.base p.store)
  where
    by_place : (x : ℕ) (v : Evaluated Location)
        → with_result (and_then v (λ l. Ok (stored l x p.store))) place (λ new. go (with_store (λ old. new))) p
        ≡ with_result v place (λ l. go (with_store (stored l x))) p
    by_place x (Ok l) = refl
    by_place x (Err fault) = refl

    by_value : (v : Evaluated ℕ)
        → with_result (and_then v (λ x. and_then (location_of target site.base p.store) (λ l. Ok (stored l x p.store)))) place (λ new. go (with_store (λ old. new))) p
        ≡ with_result v place (store_value (location_of target site.base) place) p
    by_value (Ok x) = by_place x (location_of target site.base p.store)
    by_value (Err fault) = refl

changed_run : (calls : Calls) (target : TypedTarget) (operator : Op) (value : TypedExpr) (site : Site) (place : Place) (p : Point)
    → storing_run place (changed target operator value site.base) p ≡ act calls (action.Update target operator value) site place p
changed_run calls target operator value site place p = by_value (eval value site.base p.store)
  where
    made : ℕ → ℕ
    made bits = converted_to target.kind (or_bool (result_type operator target.kind (type_of value))) bits

    by_result : (l : Location) (v : Evaluated ℕ)
        → with_result (and_then v (λ bits. Ok (stored l (made bits) p.store))) place (λ new. go (with_store (λ old. new))) p
        ≡ with_result v place (λ bits. go (with_store (stored l (made bits)))) p
    by_result l (Ok bits) = refl
    by_result l (Err fault) = refl

    by_place : (x : ℕ) (v : Evaluated Location)
        → with_result (and_then v (λ l. and_then (operated operator target.kind (type_of value) (loaded l p.store) x) (λ bits. Ok (stored l (made bits) p.store)))) place (λ new. go (with_store (λ old. new))) p
        ≡ with_result v place (λ l q. with_result (operated operator target.kind (type_of value) (loaded l q.store) x) place (λ bits. go (with_store (stored l (made bits)))) q) p
    by_place x (Ok l) = by_result l (operated operator target.kind (type_of value) (loaded l p.store) x)
    by_place x (Err fault) = refl

    by_value : (v : Evaluated ℕ)
        → with_result (and_then v (λ x. and_then (location_of target site.base p.store) (λ l. and_then (operated operator target.kind (type_of value) (loaded l p.store) x) (λ bits. Ok (stored l (made bits) p.store))))) place (λ new. go (with_store (λ old. new))) p
        ≡ with_result v place (λ x. with_result (location_of target site.base p.store) place (λ l q. with_result (operated operator target.kind (type_of value) (loaded l q.store) x) place (λ bits. go (with_store (stored l (made bits)))) q)) p
    by_value (Ok x) = by_place x (location_of target site.base p.store)
    by_value (Err fault) = refl

filled_run : (calls : Calls) (kind : _) (slot count : ℕ) (values : Option (List TypedExpr)) (site : Site) (place : Place) (p : Point)
    → storing_run place (filled values (site.base + slot) count site.base) p ≡ act calls (action.DeclareArray kind slot count values) site place p
filled_run calls kind slot count values site place p = by_values (optional_values values count site.base p.store)
  where
    by_values : (v : Evaluated (List ℕ))
        → with_result (and_then v (λ xs. Ok (all_stored (site.base + slot) xs p.store))) place (λ new. go (with_store (λ old. new))) p
        ≡ with_result v place (λ xs. go (with_store (all_stored (site.base + slot) xs))) p
    by_values (Ok xs) = refl
    by_values (Err fault) = refl

-- a value that goes to a slot
abbrev given : TypedExpr → ℕ → ℕ → List ℕ → Evaluated (List ℕ)
given value slot base store = and_then (eval value base store) (λ x. Ok (slice_set store slot x))

given_ends : (code : Parts) (place : Place) (p : Point) (at mid slot to : ℕ) (cells : Cells) (v : Evaluated ℕ) → Comes code place p at cells mid 0 v
    → HasAt code place mid (instr.Put slot 0) → suc mid ≡ to → Storing code place p at cells to (and_then v (λ x. Ok (slice_set p.store slot x)))
given_ends code place p at mid slot to cells (Ok x) c h t =
    let r : Reaches code p at cells p mid 0 x = c.out in
    record {
      new = r.new;
      same =
          r.same
          ∙ tail_at code mid (instr.Put slot 0, place) h r.new p
          ∙ ap (λ y. tail code (suc mid) r.new (record p { store = slice_set p.store slot y })) r.holds
          ∙ ap (λ n. tail code n r.new (record p { store = slice_set p.store slot x })) t;
    }
given_ends code place p at mid slot to cells (Err fault) c h t = c.out

given_stores : (code : Parts) (place : Place) (value : TypedExpr) (slot slots base at : ℕ) → ExpressionFits slots value
    → StandsAt code place at (expression_code value base 0 at ++ (instr.Put slot 0 ∷ []))
    → Stores code place at (at + (expression_length value + 1)) (given value slot base)
given_stores code place value slot slots base at fits h = record {
  by = λ cells p.
      (let mid = at + expression_length value in
      let a = expression_code value base 0 at in
      let b : List Instr = instr.Put slot 0 ∷ [] in
      given_ends code place p at mid slot (at + (expression_length value + 1)) cells (eval value base p.store)
      (expression_comes code place p base slots value fits 0 at mid cells (stands_first code place at a b h) refl)
      (stands_behind code place at a b (expression_length value) (expression_long value base 0 at).long h).0 (omega arith));
}

given_run : (calls : Calls) (kind : _) (slot : ℕ) (value : TypedExpr) (site : Site) (place : Place) (p : Point)
    → storing_run place (given value (site.base + slot) site.base) p ≡ act calls (action.Declare kind slot (Some (right.Value value))) site place p
given_run calls kind slot value site place p = by_value (eval value site.base p.store)
  where
    by_value : (v : Evaluated ℕ)
        → with_result (and_then v (λ x. Ok (slice_set p.store (site.base + slot) x))) place (λ new. go (with_store (λ old. new))) p
        ≡ with_result v place (store_value (whole_slot (site.base + slot)) place) p
    by_value (Ok x) = refl
    by_value (Err fault) = refl

none_stores : (code : Parts) (place : Place) (slot at : ℕ) → StandsAt code place at (instr.Load 0 0 ∷ instr.Put slot 0 ∷ [])
    → Stores code place at (at + 2) (λ store. Ok (slice_set store slot 0))
none_stores code place slot at h = record {
  by = λ cells p.
      (let t : suc (suc at) ≡ at + 2 = omega arith in
      record {
        new = with_cell 0 0 cells;
        same =
            load_step code place p at 0 0 cells h.0
            ∙ tail_at code (suc at) (instr.Put slot 0, place) h.1.0 (with_cell 0 0 cells) p
            ∙ ap (λ n. tail code n (with_cell 0 0 cells) (record p { store = slice_set p.store slot 0 })) t;
      });
}

-- ---- all of them

no_steps : (target : TypedTarget) (base : ℕ) → IsWholeTarget target base → target_steps_length target ≡ 0
no_steps target base h = ap (λ ss. steps_length ss (first_bits_of ss (width_of (kind_of target.variable)))) h.steps

pub actions_land : ActionsLand
actions_land code place scope site slots z codes exits calls (action.Declare kind slot None) at fits h =
    lands_same code at (at + 2) (storing_run place (λ store. Ok (slice_set store (site.base + slot) 0))) _ (λ p. refl)
    (stores_land code place at (at + 2) (λ store. Ok (slice_set store (site.base + slot) 0))
    (none_stores code place (site.base + slot) at (stand_at code place at (instr.Load 0 0 ∷ instr.Put (site.base + slot) 0 ∷ []) h)))
actions_land code place scope site slots z codes exits calls (action.Declare kind slot (Some (right.Value value))) at fits h =
    let to = at + (expression_length value + 1) in
    lands_same code at to (storing_run place (given value (site.base + slot) site.base)) _ (given_run calls kind slot value site place)
    (stores_land code place at to (given value (site.base + slot) site.base)
    (given_stores code place value (site.base + slot) slots site.base at fits (stand_at code place at _ h)))
actions_land code place scope site slots z codes exits calls (action.Declare kind slot (Some (right.Measure qs))) at fits h =
    slot_measurements_land code place scope site slots qs (site.base + slot) at fits.0 fits.1 (stand_at code place at _ h)
actions_land code place scope site slots z codes exits calls (action.Declare kind slot (Some (right.Call call result to))) at fits h = absurd fits
actions_land code place scope site slots z codes exits calls (action.DeclareArray kind slot count values) at fits h =
    lands_same code at _ (storing_run place (filled values (site.base + slot) count site.base)) _ (filled_run calls kind slot count values site place)
    (stores_land code place at _ (filled values (site.base + slot) count site.base)
    (arrays_store code place values (site.base + slot) count slots site.base at fits (stand_at code place at _ h)))
actions_land code place scope site slots z codes exits calls (action.Assign target (right.Value value)) at fits h =
    lands_same code at _ (storing_run place (assigned target value site.base)) _ (assigned_run calls target value site place)
    (stores_land code place at _ (assigned target value site.base)
    (assignments_store code place target value slots site.base at fits.0 fits.1 (stand_at code place at _ h)))
actions_land code place scope site slots z codes exits calls (action.Assign target (right.Measure qs)) at fits h =
    let e : at + choosing_length qs 0 ≡ at + choosing_length qs (target_steps_length target) = ap (λ n. at + choosing_length qs n) (sym (no_steps target site.base fits.1)) in
    lands_to code at (at + choosing_length qs 0) _ _ e
    (target_measurements_land code place scope site slots qs target at fits.0.0 fits.0.1 fits.1 (stand_at code place at _ h))
actions_land code place scope site slots z codes exits calls (action.Assign target (right.Call call result to)) at fits h = absurd fits
actions_land code place scope site slots z codes exits calls (action.Update target operator value) at fits h =
    lands_same code at _ (storing_run place (changed target operator value site.base)) _ (changed_run calls target operator value site place)
    (stores_land code place at _ (changed target operator value site.base)
    (updates_store code place target operator value slots site.base at fits.0 fits.1 (stand_at code place at _ h)))
actions_land code place scope site slots z codes exits calls (action.Measure qs None) at fits h =
    measurements_land code place scope site slots qs at fits (stand_at code place at _ h)
actions_land code place scope site slots z codes exits calls (action.Measure qs (Some target)) at fits h =
    let e : at + choosing_length qs 0 ≡ at + choosing_length qs (target_steps_length target) = ap (λ n. at + choosing_length qs n) (sym (no_steps target site.base fits.1)) in
    lands_to code at (at + choosing_length qs 0) _ _ e
    (target_measurements_land code place scope site slots qs target at fits.0.0 fits.0.1 fits.1 (stand_at code place at _ h))
actions_land code place scope site slots z codes exits calls (action.Reset qs) at fits h =
    resets_land_all code place scope site slots qs at fits (stand_at code place at _ h)
actions_land code place scope site slots z codes exits calls action.Barrier at fits h = lands_here code at (at + 0) (omega arith)
actions_land code place scope site slots z codes exits calls (action.Gate call) at fits h =
    lands_to code at (at + gate_call_length site call.used call.operands) _ _ (ap (λ n. at + n) (lengths_are_one site nowhere call.used call.operands))
    (gate_calls_land code place scope site slots call.used call.operands at fits.0 fits.1 fits.2 (stand_at code place at _ h))
actions_land code place scope site slots z codes exits calls (action.Broadcast call) at fits h =
    lands_to code at (at + broadcast_length site call.used call.operands 0 call.size) _ _
    (ap (λ n. at + n) (broadcast_lengths_are_one site nowhere call.used call.operands 0 call.size))
    (broadcasts_land code place scope site slots call.used call.operands call.size at fits.0 fits.1 fits.2 (stand_at code place at _ h))
actions_land code place scope site slots z codes exits calls (action.Call call) at fits h = absurd fits
actions_land code place scope site slots z codes exits calls action.Break at fits h = absurd fits
actions_land code place scope site slots z codes exits calls action.Continue at fits h = absurd fits
actions_land code place scope site slots z codes exits calls (action.Return value) at fits h = absurd fits
actions_land code place scope site slots z codes exits calls action.End at fits h = absurd fits

pub statements_land : StatementsLand
statements_land code scope site slots z choices codes exits calls spot action at fits h = record {
  by = λ next cells p whole goes.
      alike_then (alike _ _ (tick_at code at spot.place h.0 cells p)) (by_fuel next cells p whole goes p.fuel refl);
}
  where
    inner : RunLands code (suc at) (suc at + action_length z action) (act calls action site spot.place)
    inner = actions_land code spot.place scope site slots z codes exits calls action (suc at) fits h.1

    same : suc at + action_length z action ≡ at + statement_length z (Simple spot action)
    same = omega arith

    by_fuel : (next : Run) (cells : Cells) (p : Point) → IsWhole code.qubits p.state
        → ((fuel : ℕ) → fuel ≤ p.fuel → GoesOn code fuel (at + statement_length z (Simple spot action)) next) → (f : ℕ) → p.fuel ≡ f
        → LookAlike (spend_of f (tail code (suc at) cells) p)
        (flat_map (λ (l : Leaf). go_on next l.signal l.point) (spend_of f (act calls action site spot.place) p))
    by_fuel next cells p whole goes zero e = alike _ _ refl
    by_fuel next cells p whole goes (suc f) e =
        inner.by next cells (record p { fuel = f }) whole (subst (λ n. GoesOn code f n next) (sym same) (goes f (omega (arith, e))))
