-- A gate call by its one matrix is its primitives one after another.
use Rattle.std.proofs.Common.{◌≡◌, Bool, true, false, List, [], ◌∷◌, map, refl, sym, ap, ◌∙◌, append-nil, append_assoc, Option, Some, None}
use Rattle.std.specs.Prelude.{is_some}
use Rattle.qt_tree.specs.declared.place.Place.{Place}
use Rattle.qt_ring.specs.State.{State, applied}
use Rattle.qt_gate_calls.specs.Faults.{EighthPrimitive, with_eighths, behind, up_to_fault, applied_if, all_reckoned}
use Rattle.qt_gate_calls.specs.Matrices.{call_matrix, matrices_of}
use Rattle.qt_gate_calls.specs.Primitives.{Primitive}
use Rattle.qt_meaning.specs.Values.{BadAngle, or_fault}
use Rattle.qt_meaning.specs.Points.{Event, Did, Point, On, Faulted, Run, leaf, with_result, noted}
use Rattle.qt_meaning.specs.Applying.{events, landed}
use Rattle.qt_code.specs.Tail.{did}
use Rattle.qt_code.specs.Tail as code
use Rattle.qt_modify.specs.Calls.{use_expansion}
use Rattle.qt_modify_laws.specs.Laws.{held_in, primitive_at, primitives_at}
use Rattle.qt_modify_laws.specs.Running.{UnitCells, known_in, steps_run}
use Rattle.qt_modify_laws.proofs.Runs.{runs_fault, runs_give_primitives}
use Rattle.qt_gate_laws.specs.Primitives.{operator_of, qubits_of, all_applied}
use Rattle.qt_gate_laws.proofs.States.{primitives_multiply}
use Rattle.qt_gate_call_laws.specs.Seen.{seen, LookAlike}
use Rattle.qt_gate_call_laws.specs.Applying.{primitives_run, where_reckoned, after_steps}
use Rattle.qt_gate_call_laws.specs.Laws.{use_primitives, CallsArePrimitives, CallsAreExpansions}
use Rattle.qt_gate_call_laws.proofs.Leaves.{alike, alike_then, alike_back}
use Rattle.qt_gate_call_laws.proofs.Eighths.{Means, eighths_mean}

-- ---- one primitive more

none_noted : (p : Point) → p ≡ noted [] p
none_noted p = ap (λ (t : List Event). record p { trail = t }) (sym (append-nil p.trail))

did_is : (x : Primitive) (e : EighthPrimitive) (place : Place) (p : Point) → Means x e
    → did e place p ≡ noted (Did e place ∷ []) (record p { state = applied (operator_of x) (qubits_of x) p.state })
did_is x e place p m =
    ap (λ o. noted (Did e place ∷ []) (record p { state = applied o (code.operands_of e) p.state })) m.operator
    ∙ ap (λ qs. noted (Did e place ∷ []) (record p { state = applied (operator_of x) qs p.state })) m.qubits

landed_more : (complete : Bool) (e : EighthPrimitive) (es : List Event) (x : Primitive) (f : State → State) (place : Place) (p : Point)
    → LookAlike (landed complete es place f (noted (Did e place ∷ []) (record p { state = applied (operator_of x) (qubits_of x) p.state })))
    (landed complete (Did e place ∷ es) place (λ s. f (applied (operator_of x) (qubits_of x) s)) p)
landed_more true e es x f place p = alike _ _
    (ap (λ (t : List Event). leaf On (record p { state = f (applied (operator_of x) (qubits_of x) p.state); trail = t }))
    (append_assoc p.trail (Did e place ∷ []) es))
landed_more false e es x f place p = record {
  same = ap (λ (t : List Event). map seen (leaf (Faulted BadAngle place) (record p { trail = t }))) (append_assoc p.trail (Did e place ∷ []) es);
}

-- ---- all of them

abbrev landed_all : List Primitive → Place → Run
landed_all xs place = landed (up_to_fault xs).complete (events place (up_to_fault xs).primitives) place (all_applied xs)

run_lands : (xs : List Primitive) (place : Place) (p : Point) → LookAlike (primitives_run xs place p) (landed_all xs place p)
run_lands [] place p = alike _ _ (ap (leaf On) (none_noted p))
run_lands (x ∷ xs) place p = by (with_eighths x) refl (λ e. run_lands xs place (did e place p))
  where
    by : (o : Option EighthPrimitive) → with_eighths x ≡ o
        → ((e : EighthPrimitive) → LookAlike (primitives_run xs place (did e place p)) (landed_all xs place (did e place p)))
        → LookAlike (with_result (or_fault BadAngle o) place (λ e q. primitives_run xs place (did e place q)) p)
        (landed (behind o (up_to_fault xs)).complete (events place (behind o (up_to_fault xs)).primitives) place (all_applied (x ∷ xs)) p)
    by None h later = alike _ _ (ap (leaf (Faulted BadAngle place)) (none_noted p))
    by (Some e) h later =
        alike_then (later e) (alike_then
        (alike _ _ (ap (landed_all xs place) (did_is x e place p (eighths_mean x e h))))
        (landed_more (up_to_fault xs).complete e (events place (up_to_fault xs).primitives) x (all_applied xs) place p))

landed_same : (complete : Bool) (es : List Event) (place : Place) (f g : State → State) (p : Point) → f p.state ≡ g p.state
    → landed complete es place f p ≡ landed complete es place g p
landed_same true es place f g p e = ap (λ (s : State). leaf On (noted es (record p { state = s }))) e
landed_same false es place f g p e = refl

reckoned_lands : (reckoned : Bool) (xs : List Primitive) (place : Place) (f : State → State) (p : Point) → all_applied xs p.state ≡ f p.state
    → LookAlike (landed (applied_if reckoned xs).complete (events place (applied_if reckoned xs).primitives) place f p)
    (where_reckoned reckoned place (primitives_run xs place) p)
reckoned_lands true xs place f p e =
    alike_then (alike _ _ (landed_same (up_to_fault xs).complete (events place (up_to_fault xs).primitives) place f (all_applied xs) p (sym e)))
    (alike_back (run_lands xs place p))
reckoned_lands false xs place f p e = alike _ _ (ap (leaf (Faulted BadAngle place)) (sym (none_noted p)))

-- ---- the laws

pub calls_are_primitives : CallsArePrimitives
calls_are_primitives used angles qs place p fits whole =
    reckoned_lands (all_reckoned (use_primitives used angles qs)) (use_primitives used angles qs) place
    (applied (call_matrix (matrices_of used.gates) used.modifiers used.gate angles) qs) p
    (primitives_multiply used.gates used.modifiers used.gate angles qs p.state fits whole)

steps_decide : (r : Option UnitCells) (t : Bool) (place : Place) (run : Run) (next : UnitCells → Run) (p : Point) → is_some r ≡ t
    → ((new : UnitCells) → r ≡ Some new → run p ≡ next new p) → where_reckoned t place run p ≡ after_steps r place next p
steps_decide (Some new) true place run next p e h = h new refl
steps_decide None false place run next p e h = refl
steps_decide (Some new) false place run next p e h = absurd (cc)
steps_decide None true place run next p e h = absurd (cc)

pub calls_are_expansions : CallsAreExpansions
calls_are_expansions used given refs first below named z cells place p fits whole =
    alike_then (calls_are_primitives used (map (held_in (known_in cells)) given) (map named refs) place p fits whole)
    (alike _ _ (steps_decide (steps_run (use_expansion used given refs first).steps cells)
    (all_reckoned (primitives_at (known_in cells) named used given refs)) place
    (primitives_run (primitives_at (known_in cells) named used given refs) place)
    (λ new. primitives_run (map (primitive_at named (known_in new)) (use_expansion used given refs first).primitives) place) p
    (runs_fault used given refs first below named z cells)
    (λ new e. ap (λ (xs : List Primitive). primitives_run xs place p) (sym (runs_give_primitives used given refs first below named z cells new e)))))
