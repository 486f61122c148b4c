-- A property of runs that goes with all that statements are made of holds of each action whose gates, measurements, resets and calls have it.
-- Each law of the meaning is such a property, so each form of action has its line here, once for all of them.
use Rattle.std.proofs.Common.{◌≡◌, ℕ, zero, suc, ◌+◌, ◌<◌, ◌≤◌, ℤ, Bool, true, false, List, [], ◌∷◌, map, Option, Some, None, Ok, Err, refl, arith}
use Rattle.std.specs.Prelude.{slice_set}
use Rattle.std.specs.List.{All, flat_map}
use Rattle.qt_tree.specs.declared.place.Place.{Place}
use Rattle.qt_gate_calls.specs.Units.{KnownUnits}
use Rattle.qt_typed.specs.declared.call.Span.{Span}
use Rattle.qt_typed.specs.declared.call.GateUse.{GateUse}
use Rattle.qt_typed.specs.declared.call.TypedQubit.{TypedQubit}
use Rattle.qt_typed.specs.declared.call.TypedQubits.{TypedQubits}
use Rattle.qt_typed.specs.declared.call.Broadcast.{Broadcast}
use Rattle.qt_typed.specs.declared.call.SubroutineCall.{SubroutineCall}
use Rattle.qt_typed.specs.declared.expression.TypedExpr.{TypedExpr}
use Rattle.qt_typed.specs.declared.expression.TypedTarget.{TypedTarget}
use Rattle.qt_typed.specs.declared.statement.TypedRight.{TypedRight}
use Rattle.qt_typed.specs.declared.statement.TypedRight.TheVariants as right
use Rattle.qt_typed.specs.declared.statement.TypedAction.{TypedAction}
use Rattle.qt_typed.specs.declared.statement.TypedAction.TheVariants as action
use Rattle.qt_typed.specs.Types.{type_of, or_bool}
use Rattle.qt_value.specs.OpTypes.{result_type}
use Rattle.qt_value.specs.declared.operators.Op.{Op}
use Rattle.qt_meaning.specs.Values.{Evaluated, operated, converted_to, slot_at}
use Rattle.qt_meaning.specs.Expressions.{eval, values_of, phases_of}
use Rattle.qt_meaning.specs.Places.{Location, location_of, stored, loaded, all_stored, Site, register_named, register_tested, registers_named, registers_tested, numbers_named, all_tested}
use Rattle.qt_meaning.specs.Points.{Point, On, Broken, Continued, Returned, Ended, Faulted, Dry, Signal, Run, leaf, go, go_on, then_do, choose, with_result, spend, with_store, cleared, clear, scoped}
use Rattle.qt_meaning.specs.Measuring.{kept, measured, reset, all_measured, all_reset, measurement, resetting}
use Rattle.qt_meaning.specs.Applying.{multiplied, different, gate_call, operands_at, calls_from}
use Rattle.qt_meaning.specs.Loops.{turns}
use Rattle.qt_meaning.specs.Statements.{Calls, framed, after_body, returned, call_run, store_value, right_run, whole_slot, optional_target, updated, optional_right, optional_values, act}

-- ---- all elements of a list

pub all_first : {A : Type 0} (Q : A → Type 0) (a : A) (as' : List A) → All Q (a ∷ as') → Q a
all_first Q a as' h = h 0 a (omega arith)

pub all_later : {A : Type 0} (Q : A → Type 0) (a : A) (as' : List A) → All Q (a ∷ as') → All Q as'
all_later Q a as' h k d l = h (suc k) d (omega arith)

-- ---- what a property of runs has to go with

-- what follows each leaf of a run
abbrev pub then_each : Run → (Signal → Run) → Run
then_each first next p = flat_map (λ l. next l.signal l.point) (first p)

-- where the fuel ran out nothing follows
abbrev pub KeepsDry : (Signal → Run) → Type 0
KeepsDry next = (p : Point) → next Dry p ≡ leaf Dry p

pub record IsClosed (P : Run → Type 0) : Type 0 where
  pub ending : (s : Signal) → P (leaf s)
  pub reading : (next : List ℕ → Run) → ((store : List ℕ) → P (next store)) → P (λ p. next p.store p)
  pub storing : (f : List ℕ → List ℕ) (next : Run) → P next → P (λ p. next (with_store f p))
  pub spending : (next : Run) → P next → P (spend next)
  pub following : (first : Run) (next : Signal → Run) → KeepsDry next → P first → ((s : Signal) → P (next s)) → P (then_each first next)
  pub turning : (more : List ℕ → Evaluated Bool) (place : Place) (f g : List ℕ → List ℕ) (body : Run) → P body → P (λ p. turns p.fuel more place (with_store f) (with_store g) body p)

-- the same for the choices at qubits of some kind
pub record HasChoices (Q : ℕ → Type 0) (P : Run → Type 0) : Type 0 where
  pub measuring : (place : Place) (number q : ℕ) (keep : ℕ → List ℕ → List ℕ) → Q q → P (measured place number q keep)
  pub resetting : (place : Place) (number q : ℕ) → Q q → P (reset place number q)

module _ (P : Run → Type 0) (closed : IsClosed P) where
  -- ---- one after the other

  pub result_has : {A : Type 0} (e : Evaluated A) (place : Place) (next : A → Run) → ((a : A) → e ≡ Ok a → P (next a)) → P (with_result e place next)
  result_has (Ok a) place next h = h a refl
  result_has (Err fault) place next h = closed.ending (Faulted fault place)

  pub choose_has : (b : Bool) (r s : Run) → P r → P s → P (choose b r s)
  choose_has true r s h g = h
  choose_has false r s h g = g

  pub go_has : (f : List ℕ → List ℕ) → P (go (with_store f))
  go_has f = closed.storing f (leaf On) (closed.ending On)

  pub go_on_has : (next : Run) → P next → (s : Signal) → P (go_on next s)
  go_on_has next h On = h
  go_on_has next h s = closed.ending s

  pub then_do_has : (first next : Run) → P first → P next → P (then_do first next)
  then_do_has first next h g = closed.following first (go_on next) (λ p. refl) h (go_on_has next g)

  pub scoped_has : (base : ℕ) (span : Span) (r : Run) → P r → P (scoped base span r)
  scoped_has base span r h = then_do_has r (go (clear base span)) h (go_has (cleared (base + span.first) span.count))

  -- ---- calls of subroutines

  -- the run of a call's subroutine, whatever its arguments are
  abbrev pub CallHas : Calls → SubroutineCall → Site → Type 0
  CallHas calls call at =
      (store values : List ℕ) (ns qs : List (List ℕ)) → registers_named at call.qubits store ≡ Ok ns → registers_tested at call.qubits ns ≡ Ok qs →
      P (calls call.subroutine (record { values = values; qubits = qs }) (framed call.frame at))

  after_body_has : (next : Run) → P next → (s : Signal) → P (after_body next s)
  after_body_has next h Ended = closed.ending Ended
  after_body_has next h (Faulted fault place) = closed.ending (Faulted fault place)
  after_body_has next h Dry = closed.ending Dry
  after_body_has next h On = h
  after_body_has next h Broken = h
  after_body_has next h Continued = h
  after_body_has next h Returned = h

  returned_has : (frame : Span) (at : Site) (next : ℕ → Run) → ((bits : ℕ) → P (next bits)) → P (returned frame at next)
  returned_has frame at next h =
      closed.reading (λ store p. next (slot_at store (at.base + frame.first)) (clear at.base frame p))
      (λ store. closed.storing (cleared (at.base + frame.first) frame.count) (next (slot_at store (at.base + frame.first))) (h (slot_at store (at.base + frame.first))))

  pub call_has : (calls : Calls) (call : SubroutineCall) (at : Site) (place : Place) (next : ℕ → Run) → CallHas calls call at → ((bits : ℕ) → P (next bits)) → P (call_run calls call at place next)
  call_has calls call at place next c h =
      let rest : Signal → Run = after_body (returned call.frame at next) in
      let body : List ℕ → List (List ℕ) → Run = λ vs qs. then_each (calls call.subroutine (record { values = vs; qubits = qs }) (framed call.frame at)) rest in
      closed.reading (λ store. with_result (values_of call.values at.base store) place (λ vs. with_result (registers_named at call.qubits store) place (λ ns. with_result (registers_tested at call.qubits ns) place (body vs))))
      (λ store.
      result_has (values_of call.values at.base store) place _ (λ vs e.
      result_has (registers_named at call.qubits store) place _ (λ ns f.
      result_has (registers_tested at call.qubits ns) place (body vs) (λ qs g.
      closed.following _ rest (λ p. refl) (c store vs ns qs f g) (after_body_has (returned call.frame at next) (returned_has call.frame at next h))))))

  -- ---- measurements and resets

  module _ (Q : ℕ → Type 0) (choices : HasChoices Q P) where
    -- the qubits that are named at a site are of that kind
    abbrev pub NamesQubits : Site → TypedQubits → Type 0
    NamesQubits at qubits = (store ns qs : List ℕ) → register_named at qubits store ≡ Ok ns → register_tested at qubits ns ≡ Ok qs → All Q qs

    all_measured_has : (place : Place) (before : ℕ) (qs : List ℕ) (i : ℕ) (keep : ℕ → ℕ → List ℕ → List ℕ) → All Q qs → P (all_measured place before qs i keep)
    all_measured_has place before [] i keep h = closed.ending On
    all_measured_has place before (q ∷ qs) i keep h =
        then_do_has (measured place (suc before) q (keep i)) (all_measured place (suc before) qs (suc i) keep)
        (choices.measuring place (suc before) q (keep i) (all_first Q q qs h))
        (all_measured_has place (suc before) qs (suc i) keep (all_later Q q qs h))

    all_reset_has : (place : Place) (before : ℕ) (qs : List ℕ) → All Q qs → P (all_reset place before qs)
    all_reset_has place before [] h = closed.ending On
    all_reset_has place before (q ∷ qs) h =
        then_do_has (reset place (suc before) q) (all_reset place (suc before) qs)
        (choices.resetting place (suc before) q (all_first Q q qs h))
        (all_reset_has place (suc before) qs (all_later Q q qs h))

    measurement_has : (at : Site) (place : Place) (qubits : TypedQubits) (target : List ℕ → Evaluated (Option Location)) → NamesQubits at qubits → P (measurement at place qubits target)
    measurement_has at place qubits target h =
        let all : Option Location → List ℕ → Run = λ location qs. all_measured place at.choices qs 0 (kept location) in
        closed.reading (λ store. with_result (register_named at qubits store) place (λ ns. with_result (target store) place (λ location. with_result (register_tested at qubits ns) place (all location))))
        (λ store.
        result_has (register_named at qubits store) place _ (λ ns e.
        result_has (target store) place _ (λ location f.
        result_has (register_tested at qubits ns) place (all location) (λ qs g.
        all_measured_has place at.choices qs 0 (kept location) (h store ns qs e g)))))

    resetting_has : (at : Site) (place : Place) (qubits : TypedQubits) → NamesQubits at qubits → P (resetting at place qubits)
    resetting_has at place qubits h =
        let all : List ℕ → Run = all_reset place at.choices in
        closed.reading (λ store. with_result (register_named at qubits store) place (λ ns. with_result (register_tested at qubits ns) place all))
        (λ store.
        result_has (register_named at qubits store) place _ (λ ns e.
        result_has (register_tested at qubits ns) place all (λ qs g.
        all_reset_has place at.choices qs (h store ns qs e g))))

    -- ---- gate calls

    -- the multiplication of a call, whatever its qubits are
    abbrev pub GateHas : Site → GateUse → List TypedQubit → Type 0
    GateHas at used operands =
        (place : Place) (angles : List KnownUnits) (store ns ms qs : List ℕ) → numbers_named at operands store ≡ Ok ns → all_tested at operands ns ≡ Ok ms → different ms ≡ Ok qs →
        P (multiplied used angles qs place)

    gate_has : (at : Site) (place : Place) (used : GateUse) (operands : List TypedQubit) → GateHas at used operands → P (gate_call at place used operands)
    gate_has at place used operands h =
        let times : List ℤ → List ℕ → Run = λ angles qs. multiplied used (map (λ units. Some units) angles) qs place in
        closed.reading (λ store. with_result (phases_of used.arguments at.base store) place (λ angles. with_result (numbers_named at operands store) place (λ ns. with_result (all_tested at operands ns) place (λ ms. with_result (different ms) place (times angles)))))
        (λ store.
        result_has (phases_of used.arguments at.base store) place _ (λ angles d.
        result_has (numbers_named at operands store) place _ (λ ns e.
        result_has (all_tested at operands ns) place _ (λ ms f.
        result_has (different ms) place (times angles) (λ qs g.
        h place (map (λ units. Some units) angles) store ns ms qs e f g)))))

    -- each call of a broadcast
    abbrev pub BroadcastHas : Site → Broadcast → Type 0
    BroadcastHas at call = (i : ℕ) → i < call.size → GateHas at call.used (operands_at i call.operands)

    broadcast_has : (at : Site) (place : Place) (call : Broadcast) → BroadcastHas at call → (i n : ℕ) → i + n ≤ call.size → P (calls_from at place call.used call.operands i n)
    broadcast_has at place call h i zero l = closed.ending On
    broadcast_has at place call h i (suc n) l =
        then_do_has (gate_call at place call.used (operands_at i call.operands)) (calls_from at place call.used call.operands (suc i) n)
        (gate_has at place call.used (operands_at i call.operands) (h i (omega arith)))
        (broadcast_has at place call h (suc i) n (omega arith))

    -- ---- actions

    abbrev pub RightHas : Calls → Site → TypedRight → Type 0
    RightHas calls at (right.Value value) = Unit {0}
    RightHas calls at (right.Measure qubits) = NamesQubits at qubits
    RightHas calls at (right.Call call result to) = CallHas calls call at

    abbrev pub OptionalHas : Calls → Site → Option TypedRight → Type 0
    OptionalHas calls at None = Unit {0}
    OptionalHas calls at (Some value) = RightHas calls at value

    -- what is asked of the gates, measurements, resets and calls of an action
    abbrev pub ActionHas : Calls → Site → TypedAction → Type 0
    ActionHas calls at (action.Declare kind slot value) = OptionalHas calls at value
    ActionHas calls at (action.Assign target value) = RightHas calls at value
    ActionHas calls at (action.Measure qubits target) = NamesQubits at qubits
    ActionHas calls at (action.Reset qubits) = NamesQubits at qubits
    ActionHas calls at (action.Gate call) = GateHas at call.used call.operands
    ActionHas calls at (action.Broadcast call) = BroadcastHas at call
    ActionHas calls at (action.Call call) = CallHas calls call at
    ActionHas calls at (action.Return value) = OptionalHas calls at value
    ActionHas calls at _ = Unit {0}

    store_has : (target : List ℕ → Evaluated Location) (place : Place) (bits : ℕ) → P (store_value target place bits)
    store_has target place bits =
        closed.reading (λ store. with_result (target store) place (λ location. go (with_store (stored location bits))))
        (λ store. result_has (target store) place _ (λ location e. go_has (stored location bits)))

    right_has : (calls : Calls) (value : TypedRight) (target : List ℕ → Evaluated Location) (at : Site) (place : Place) → RightHas calls at value → P (right_run calls value target at place)
    right_has calls (right.Value value) target at place h =
        closed.reading (λ store. with_result (eval value at.base store) place (store_value target place))
        (λ store. result_has (eval value at.base store) place (store_value target place) (λ bits e. store_has target place bits))
    right_has calls (right.Measure qubits) target at place h = measurement_has at place qubits _ h
    right_has calls (right.Call call result to) target at place h =
        call_has calls call at place _ h (λ bits. store_has target place (converted_to to result bits))

    optional_has : (calls : Calls) (value : Option TypedRight) (without : Run) (target : List ℕ → Evaluated Location) (at : Site) (place : Place) → P without → OptionalHas calls at value → P (optional_right calls value without target at place)
    optional_has calls None without target at place w h = w
    optional_has calls (Some value) without target at place w h = right_has calls value target at place h

    updated_has : (target : TypedTarget) (op : Op) (value : TypedExpr) (at : Site) (place : Place) → P (updated target op value at place)
    updated_has target op value at place =
        let new : Location → ℕ → Run = λ location bits. go (with_store (stored location (converted_to target.kind (or_bool (result_type op target.kind (type_of value))) bits))) in
        let old : ℕ → Location → Run = λ x location q. with_result (operated op target.kind (type_of value) (loaded location q.store) x) place (new location) q in
        closed.reading (λ store. with_result (eval value at.base store) place (λ x. with_result (location_of target at.base store) place (old x)))
        (λ store.
        result_has (eval value at.base store) place _ (λ x e.
        result_has (location_of target at.base store) place (old x) (λ location f.
        closed.reading (λ store. with_result (operated op target.kind (type_of value) (loaded location store) x) place (new location))
        (λ store. result_has (operated op target.kind (type_of value) (loaded location store) x) place (new location) (λ bits g. go_has _)))))

    pub action_has : (calls : Calls) (action : TypedAction) (at : Site) (place : Place) → ActionHas calls at action → P (act calls action at place)
    action_has calls (action.Declare kind slot value) at place h = optional_has calls value _ (whole_slot (at.base + slot)) at place (go_has (λ s. slice_set s (at.base + slot) 0)) h
    action_has calls (action.DeclareArray kind slot count values) at place h =
        closed.reading (λ store. with_result (optional_values values count at.base store) place (λ xs. go (with_store (all_stored (at.base + slot) xs))))
        (λ store. result_has (optional_values values count at.base store) place _ (λ xs e. go_has (all_stored (at.base + slot) xs)))
    action_has calls (action.Assign target value) at place h = right_has calls value (location_of target at.base) at place h
    action_has calls (action.Update target op value) at place h = updated_has target op value at place
    action_has calls (action.Measure qubits target) at place h = measurement_has at place qubits (optional_target target at.base) h
    action_has calls (action.Reset qubits) at place h = resetting_has at place qubits h
    action_has calls action.Barrier at place h = closed.ending On
    action_has calls (action.Gate call) at place h = gate_has at place call.used call.operands h
    action_has calls (action.Broadcast call) at place h = broadcast_has at place call h 0 call.size (omega arith)
    action_has calls (action.Call call) at place h = call_has calls call at place (λ bits. leaf On) h (λ bits. closed.ending On)
    action_has calls action.Break at place h = closed.ending Broken
    action_has calls action.Continue at place h = closed.ending Continued
    action_has calls (action.Return value) at place h =
        then_do_has (optional_right calls value (leaf On) (whole_slot at.base) at place) (leaf Returned) (optional_has calls value (leaf On) (whole_slot at.base) at place (closed.ending On) h) (closed.ending Returned)
    action_has calls action.End at place h = closed.ending Ended
