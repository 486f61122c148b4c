-- What statements do (OpenQASM 3.0 live specification, "Classical instructions", "Subroutines", "Built-in quantum instructions" and "Gates";
-- Cross et al. 2022), by cases on the typed tree: a run for each statement, which spends a unit of fuel before anything else.
-- `z` says how many choices stand in each subroutine, and `calls` what a subroutine does where it is put in.
use Rattle.std.specs.Prelude.{ℕ, zero, suc, ◌+◌, Bool, List, [], ◌∷◌, replicate, Option, Some, None, Result, Ok, Err}
use Rattle.std.specs.List.{flat_map}
use Rattle.qt_tree.specs.declared.place.Place.{Place}
use Rattle.qt_value.specs.OpTypes.{result_type}
use Rattle.qt_value.specs.declared.operators.Op.{Op}
use Rattle.qt_value.specs.declared.types.ValueType.{ValueType}
use Rattle.qt_gate_calls.specs.Numbered.{if_number}
use Rattle.qt_typed.specs.declared.call.Span.{Span}
use Rattle.qt_typed.specs.declared.call.SubroutineCall.{SubroutineCall}
use Rattle.qt_typed.specs.declared.expression.TypedExpr.{TypedExpr}
use Rattle.qt_typed.specs.declared.expression.TypedTarget.{TypedTarget}
use Rattle.qt_typed.specs.declared.program.TypedParameter.{TypedParameter}
use Rattle.qt_typed.specs.declared.program.TypedParameter.TheVariants as parameter
use Rattle.qt_typed.specs.declared.program.TypedSubroutine.{TypedSubroutine}
use Rattle.qt_typed.specs.declared.statement.TypedRight.{TypedRight}
use Rattle.qt_typed.specs.declared.statement.TypedRight.TheVariants as right
use Rattle.qt_typed.specs.declared.statement.TypedAction.{TypedAction}
use Rattle.qt_typed.specs.declared.statement.TypedAction.TheVariants as action
use Rattle.qt_typed.specs.declared.statement.TypedStatement.{TypedStatement, Row_of-TypedStatement, end_of-TypedStatement, more_of-TypedStatement}
use Rattle.qt_typed.specs.declared.statement.TypedStatement.TheVariants.{Simple, If', Loop'}
use Rattle.qt_typed.specs.Choices.{Counts, choices, row_choices, list_choices}
use Rattle.qt_typed.specs.Types.{type_of, or_bool}
use Rattle.qt_meaning.specs.Values.{Evaluated, and_then, is_true, operated, converted_to, slot_at}
use Rattle.qt_meaning.specs.Expressions.{eval, values_of}
use Rattle.qt_meaning.specs.Places.{Location, Whole, location_of, stored, loaded, all_stored, Site, registers_named, registers_tested}
use Rattle.qt_meaning.specs.Points.{Point, On, Broken, Continued, Returned, Ended, Faulted, Dry, Signal, Leaf, Run, leaf, go, then_do, choose, with_result, spend, with_store, put, clear, scoped}
use Rattle.qt_meaning.specs.Measuring.{measurement, resetting}
use Rattle.qt_meaning.specs.Applying.{gate_call, calls_from}
use Rattle.qt_meaning.specs.Loops.{begin, goes_on, advanced, turns}

-- ---- calls of subroutines

-- the values and qubits of a call: those of the parameters that take values, and those of the parameters that take qubits, in order
pub record Arguments : Type 0 where
  pub values : List ℕ
  pub qubits : List (List ℕ)

-- what the subroutines do, by their numbers, where they are put in
abbrev pub Calls : Type 0
Calls = ℕ → Arguments → Site → Run

abbrev pub first_of : List ℕ → ℕ
first_of [] = 0
first_of (q ∷ qs) = q

-- the parameters get their values; a single qubit stands as its number
abbrev pub entered : List TypedParameter → List ℕ → List (List ℕ) → ℕ → List ℕ → List ℕ
entered (parameter.Value kind slot ∷ ps) (v ∷ vs) qs base store = entered ps vs qs base (all_stored (base + slot) (v ∷ []) store)
entered (parameter.Qubit slot ∷ ps) vs (q ∷ qs) base store = entered ps vs qs base (all_stored (base + slot) (first_of q ∷ []) store)
entered (parameter.Register slot size ∷ ps) vs (q ∷ qs) base store = entered ps vs qs base store
entered _ vs qs base store = store

-- the qubits of each register, by the number of its parameter among the parameters; a single qubit is no register
abbrev pub registers_from : ℕ → List TypedParameter → List (List ℕ) → ℕ → List ℕ
registers_from n (parameter.Value kind slot ∷ ps) qs i = registers_from (suc n) ps qs i
registers_from n (parameter.Qubit slot ∷ ps) (q ∷ qs) i = registers_from (suc n) ps qs i
registers_from n (parameter.Register slot size ∷ ps) (q ∷ qs) i = if_number n i q (registers_from (suc n) ps qs i)
registers_from n _ qs i = []

-- the frame of a call, and its result, which has the first slot of the frame
abbrev pub framed : Span → Site → Site
framed frame at = record at { base = at.base + frame.first }

abbrev pub result_in : Span → Site → Point → ℕ
result_in frame at p = slot_at p.store (at.base + frame.first)

-- a subroutine's end is the end of its call; the end of the program, a fault and the end of the fuel go through
abbrev pub after_body : Run → Signal → Run
after_body next Ended p = leaf Ended p
after_body next (Faulted fault place) p = leaf (Faulted fault place) p
after_body next Dry p = leaf Dry p
after_body next s p = next p

-- what follows a call: its frame becomes 0, and its result is handed on
abbrev pub returned : Span → Site → (ℕ → Run) → Run
returned frame at next p = next (result_in frame at p) (clear at.base frame p)

-- values come before qubits, and all indexes of qubits before the tests
abbrev pub call_run : Calls → SubroutineCall → Site → Place → (ℕ → Run) → Run
call_run calls call at place next p =
    with_result (values_of call.values at.base p.store) place (λ vs.
    with_result (registers_named at call.qubits p.store) place (λ ns.
    with_result (registers_tested at call.qubits ns) place (λ qs q.
    flat_map (λ l. after_body (returned call.frame at next) l.signal l.point)
    (calls call.subroutine (record { values = vs; qubits = qs }) (framed call.frame at) q)))) p

-- ---- what is stored

-- a value is evaluated before its target
abbrev pub store_value : (List ℕ → Evaluated Location) → Place → ℕ → Run
store_value target place bits p = with_result (target p.store) place (λ location. go (with_store (stored location bits))) p

abbrev pub right_run : Calls → TypedRight → (List ℕ → Evaluated Location) → Site → Place → Run
right_run calls (right.Value value) target at place p = with_result (eval value at.base p.store) place (store_value target place) p
right_run calls (right.Measure qubits) target at place p = measurement at place qubits (λ s. and_then (target s) (λ location. Ok (Some location))) p
right_run calls (right.Call call result to) target at place p =
    call_run calls call at place (λ bits. store_value target place (converted_to to result bits)) p

abbrev pub whole_slot : ℕ → List ℕ → Evaluated Location
whole_slot slot store = Ok (Whole slot)

abbrev pub optional_target : Option TypedTarget → ℕ → List ℕ → Evaluated (Option Location)
optional_target None base store = Ok None
optional_target (Some target) base store = and_then (location_of target base store) (λ location. Ok (Some location))

-- the right side, then the target's indexes, then the old value, the operator and the store
abbrev pub updated : TypedTarget → Op → TypedExpr → Site → Place → Run
updated target op value at place p =
    with_result (eval value at.base p.store) place (λ x.
    with_result (location_of target at.base p.store) place (λ location q.
    with_result (operated op target.kind (type_of value) (loaded location q.store) x) place (λ bits.
    go (with_store (stored location (converted_to target.kind (or_bool (result_type op target.kind (type_of value))) bits)))) q)) p

-- ---- the statements without bodies

abbrev pub optional_right : Calls → Option TypedRight → Run → (List ℕ → Evaluated Location) → Site → Place → Run
optional_right calls None without target at place p = without p
optional_right calls (Some value) without target at place p = right_run calls value target at place p

abbrev pub optional_values : Option (List TypedExpr) → ℕ → ℕ → List ℕ → Evaluated (List ℕ)
optional_values None count base store = Ok (replicate count 0)
optional_values (Some es) count base store = values_of es base store

abbrev pub act : Calls → TypedAction → Site → Place → Run
act calls (action.Declare kind slot value) at place = optional_right calls value (go (put (at.base + slot) 0)) (whole_slot (at.base + slot)) at place
act calls (action.DeclareArray kind slot count values) at place =
    λ p. with_result (optional_values values count at.base p.store) place (λ xs. go (with_store (all_stored (at.base + slot) xs))) p
act calls (action.Assign target value) at place = right_run calls value (location_of target at.base) at place
act calls (action.Update target op value) at place = updated target op value at place
act calls (action.Measure qubits target) at place = measurement at place qubits (optional_target target at.base)
act calls (action.Reset qubits) at place = resetting at place qubits
act calls action.Barrier at place = leaf On
act calls (action.Gate call) at place = gate_call at place call.used call.operands
act calls (action.Broadcast call) at place = calls_from at place call.used call.operands 0 call.size
act calls (action.Call call) at place = call_run calls call at place (λ bits. leaf On)
act calls action.Break at place = leaf Broken
act calls action.Continue at place = leaf Continued
act calls (action.Return value) at place = then_do (optional_right calls value (leaf On) (whole_slot at.base) at place) (leaf Returned)
act calls action.End at place = leaf Ended

-- ---- all statements

-- behind so many choices
abbrev pub past : ℕ → Site → Site
past count at = record at { choices = at.choices + count }

abbrev mutual
  pub tree : Counts → Calls → TypedStatement → Site → Run
  tree z calls (Simple spot action) at p = spend (act calls action at spot.place) p
  tree z calls (If' spot condition k body body_slots m otherwise otherwise_slots) at p =
      spend (λ q. with_result (eval condition at.base q.store) spot.place (λ v. choose (is_true v)
      (scoped at.base body_slots (row_tree z calls body at))
      (scoped at.base otherwise_slots (row_tree z calls otherwise (past (row_choices z body) at)))) q) p
  tree z calls (Loop' spot over loop_slots k body body_slots) at p =
      spend (then_do (begin over (at.base + loop_slots.first) at.base spot.place) (λ q.
      turns q.fuel (goes_on over (at.base + loop_slots.first) at.base) spot.place (clear at.base body_slots) (clear at.base loop_slots)
      (λ r. row_tree z calls body at (advanced over (at.base + loop_slots.first) r)) q)) p

  -- one after the other
  pub row_tree : {m : _} → Counts → Calls → Row_of-TypedStatement m → Site → Run
  row_tree z calls end_of-TypedStatement at p = leaf On p
  row_tree z calls (more_of-TypedStatement s rest) at p = then_do (tree z calls s at) (row_tree z calls rest (past (choices z s) at)) p

abbrev pub list_tree : Counts → Calls → List TypedStatement → Site → Run
list_tree z calls [] at p = leaf On p
list_tree z calls (s ∷ ss) at p = then_do (tree z calls s at) (list_tree z calls ss (past (choices z s) at)) p

-- ---- subroutines, each over those before it

-- a subroutine's parameters get their values, and then its body runs
abbrev pub body_run : Counts → Calls → TypedSubroutine → Arguments → Site → Run
body_run z calls s given at p =
    list_tree z calls s.body (record at { registers = registers_from 0 s.parameters given.qubits })
    (with_store (entered s.parameters given.values given.qubits at.base) p)

-- where the first of these has the number n
abbrev pub calls_of : ℕ → List TypedSubroutine → Counts → Calls → Calls
calls_of n [] z calls = calls
calls_of n (s ∷ ss) z calls =
    calls_of (suc n) ss (λ i. if_number n i (list_choices z s.body) (z i)) (λ i given at. if_number n i (body_run z calls s given at) (calls i given at))
