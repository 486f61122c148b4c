-- Gate calls (OpenQASM 3.0 live specification, "Gates", applying gates; Cross et al. 2022). First all arguments are evaluated, then all indexes
-- of qubits, then the qubits are tested to differ, and then the state is multiplied by the call's one matrix. A call on registers is one
-- call for each place.
use Rattle.std.specs.Prelude.{ℕ, zero, suc, nat_eq, Bool, true, false, ◌||◌, if◌then◌else◌, ℤ, List, [], ◌∷◌, ◌++◌, map, Option, Some, Result, Ok, Err}
use Rattle.qt_tree.specs.declared.place.Place.{Place}
use Rattle.qt_ring.specs.State.{State, applied}
use Rattle.qt_registers.specs.declared.fixed.FixedQubit.{FixedQubit}
use Rattle.qt_gate_calls.specs.Units.{KnownUnits}
use Rattle.qt_gate_calls.specs.Matrices.{call_matrix, matrices_of}
use Rattle.qt_gate_calls.specs.Primitives.{no_controls, call_primitives, primitives_of}
use Rattle.qt_gate_calls.specs.Faults.{EighthPrimitive, applied_of}
use Rattle.qt_typed.specs.declared.call.GateUse.{GateUse}
use Rattle.qt_typed.specs.declared.call.TypedCall.{TypedCall}
use Rattle.qt_typed.specs.declared.call.Broadcast.{Broadcast}
use Rattle.qt_typed.specs.declared.call.TypedQubit.{TypedQubit}
use Rattle.qt_typed.specs.declared.call.TypedQubit.TheVariants as qubit
use Rattle.qt_typed.specs.declared.call.TypedQubits.{TypedQubits}
use Rattle.qt_typed.specs.declared.call.TypedQubits.TheVariants as qubits
use Rattle.qt_meaning.specs.Values.{Evaluated, BadAngle, SameQubit}
use Rattle.qt_meaning.specs.Expressions.{phases_of}
use Rattle.qt_meaning.specs.Places.{Site, numbers_named, all_tested}
use Rattle.qt_meaning.specs.Points.{Event, Did, Point, On, Faulted, Run, leaf, then_do, with_result, noted}

-- the primitives of the call with their places
abbrev pub events : Place → List EighthPrimitive → List Event
events place [] = []
events place (e ∷ es) = Did e place ∷ events place es

-- the state after a call all of whose primitives could be applied; else the fault at the first that couldn't
abbrev pub landed : Bool → List Event → Place → (State → State) → Run
landed true es place f p = leaf On (noted es (record p { state = f p.state }))
landed false es place f p = leaf (Faulted BadAngle place) (noted es p)

-- the call on different qubits, with its angles reckoned
abbrev pub multiplied : GateUse → List KnownUnits → List ℕ → Place → Run
multiplied used angles qs place =
    let done = applied_of (call_primitives (primitives_of used.gates) used.modifiers used.gate angles no_controls qs) in
    landed done.complete (events place done.primitives) place (applied (call_matrix (matrices_of used.gates) used.modifiers used.gate angles) qs)

abbrev pub is_among : ℕ → List ℕ → Bool
is_among q [] = false
is_among q (r ∷ rs) = nat_eq q r || is_among q rs

abbrev pub some_twice : List ℕ → Bool
some_twice [] = false
some_twice (q ∷ qs) = is_among q qs || some_twice qs

abbrev pub different : List ℕ → Evaluated (List ℕ)
different qs = if some_twice qs then Err SameQubit else Ok qs

abbrev pub gate_call : Site → Place → GateUse → List TypedQubit → Run
gate_call at place used operands p =
    with_result (phases_of used.arguments at.base p.store) place (λ angles.
    with_result (numbers_named at operands p.store) place (λ ns.
    with_result (all_tested at operands ns) place (λ ms.
    with_result (different ms) place (λ qs. multiplied used (map (λ units. Some units) angles) qs place)))) p

-- ---- registers

abbrev pub fixed_at : ℕ → List FixedQubit → List TypedQubit
fixed_at place [] = []
fixed_at zero (q ∷ qs) = qubit.Fixed q ∷ []
fixed_at (suc place) (q ∷ qs) = fixed_at place qs

-- the operands at a place: single qubits repeat
abbrev pub operands_at : ℕ → List TypedQubits → List TypedQubit
operands_at place [] = []
operands_at place (qubits.Single q ∷ rest) = q ∷ operands_at place rest
operands_at place (qubits.Register register ∷ rest) = fixed_at place register ++ operands_at place rest

-- the calls at so many places, from one on
abbrev pub calls_from : Site → Place → GateUse → List TypedQubits → ℕ → ℕ → Run
calls_from at place used operands i zero p = leaf On p
calls_from at place used operands i (suc n) p =
    then_do (gate_call at place used (operands_at i operands)) (calls_from at place used operands (suc i) n) p
