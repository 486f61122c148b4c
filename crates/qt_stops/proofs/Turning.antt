-- From a gate or a stop on to the stop of the run.
use Rattle.std.proofs.Common.{◌≡◌, ℕ, inl, inr, refl, sym, subst}
use Rattle.qt_tree.specs.declared.place.Place.{Place}
use Rattle.qt_ring.specs.State.{State, applied}
use Rattle.qt_ring.specs.Multiples.{IsReduced}
use Rattle.qt_vector.specs.States.{IsBounded, IsVector}
use Rattle.qt_vector.proofs.Reduced.{some_reduced}
use Rattle.qt_gate_calls.specs.Faults.{EighthPrimitive}
use Rattle.qt_instructions.specs.declared.parts.Parts.{Parts}
use Rattle.qt_code.specs.Cells.{Cells}
use Rattle.qt_code.specs.Tail.{operator_of, operands_of}
use Rattle.qt_kernel.specs.declared.primitive.FixedPrim.{FixedPrim}
use Rattle.qt_kernel.specs.Primitives.{product_of}
use Rattle.qt_resolved_gates.specs.Resolved.{ActsAs}
use Rattle.qt_stops.specs.Halts.{Leads}
use Rattle.qt_stops.specs.Stops.{Moment, Step, Stop, Turns, Stops, TooLarge, follows, Reaches, IsStop}

pub stops_there : (code : Parts) (at : ℕ) (cells : Cells) (m : Moment) (s : Step) (t : Stop) → Leads code at cells m s → s ≡ Stops t → IsStop code at cells m t
stops_there code at cells m s t leads e = leads 0 t (subst (λ (x : Step). follows (Reaches code 0) x t) (sym e) refl)

-- the gate's product, by the matrix that is meant
meant_by : (n : ℕ) (e : EighthPrimitive) (prim : FixedPrim) (old t : State) → ActsAs n e prim → old.qubits ≡ n → IsVector old
    → IsReduced (product_of prim old) t → IsReduced (applied (operator_of e) (operands_of e) old) t
meant_by n e prim old t acts q v r = subst (λ (x : State). IsReduced x t) (acts old q v.all_entries) r

pub turned_on : (code : Parts) (n at : ℕ) (cells : Cells) (m : Moment) (s : Step) (e : EighthPrimitive) (prim : FixedPrim) (place : Place) (next : ℕ) (new : Cells)
    (here : Moment) (t : State) → Leads code at cells m s → s ≡ Turns e place next new here → ActsAs n e prim → here.state.qubits ≡ n → IsVector here.state
    → IsReduced (product_of prim here.state) t → IsVector t → (u : Stop) → IsStop code next new (record here { state = t }) u → IsStop code at cells m u
turned_on code n at cells m s e prim place next new here t leads f acts q v r w u stop =
    leads stop.0 u (subst (λ (x : Step). follows (Reaches code stop.0) x u) (sym f)
    (t, (record { reduced = meant_by n e prim here.state t acts q v r }, inl (w.bounded, stop.1))))

pub too_large : (code : Parts) (n at : ℕ) (cells : Cells) (m : Moment) (s : Step) (e : EighthPrimitive) (prim : FixedPrim) (place : Place) (next : ℕ) (new : Cells)
    (here : Moment) → Leads code at cells m s → s ≡ Turns e place next new here → ActsAs n e prim → here.state.qubits ≡ n → IsVector here.state
    → ((t : State) → IsReduced (product_of prim here.state) t → IsBounded t → ⊥) → IsStop code at cells m (TooLarge place)
too_large code n at cells m s e prim place next new here leads f acts q v refused =
    let some = some_reduced (product_of prim here.state) in
    leads 0 (TooLarge place) (subst (λ (x : Step). follows (Reaches code 0) x (TooLarge place)) (sym f)
    (some.0, (record { reduced = meant_by n e prim here.state some.0 acts q v some.1 }, inr (refused some.0 some.1, refl))))
