-- The steps of calls, of bodies and of gates by number rest on cells before their own.
use Rattle.std.proofs.Common.{ℕ, zero, suc, ◌+◌, ◌≤◌, Bool, true, false, List, [], ◌∷◌, arith}
use Rattle.std.specs.Prelude.{if◌then◌else◌}
use Rattle.qt_gate_calls.specs.declared.body.GateModifier.{GateModifier}
use Rattle.qt_gate_calls.specs.declared.body.Called.{Called}
use Rattle.qt_gate_calls.specs.declared.body.Called.TheVariants as called
use Rattle.qt_gate_calls.specs.declared.body.BodyCall.{BodyCall}
use Rattle.qt_gate_calls.specs.declared.body.GateBody.{GateBody}
use Rattle.qt_gate_calls.specs.Numbered.{if_number, numbered_from}
use Rattle.qt_gate_calls.specs.Primitives.{picked}
use Rattle.qt_instructions.specs.declared.reference.QubitRef.{QubitRef}
use Rattle.qt_typed.specs.declared.call.GateUse.{GateUse}
use Rattle.qt_primitives.specs.declared.unit.Argument.{Argument}
use Rattle.qt_primitives.specs.declared.unit.Controls.{Controls}
use Rattle.qt_modify.specs.declared.unit.Steps.{Steps}
use Rattle.qt_modify.specs.Needs.{are_idle, wanted}
use Rattle.qt_modify.specs.Expansions.{no_qubit, inner_controls, inner_qubits, modified, Expanded, Expander, GateExpansion, GateExpansions, needs_in, nothing_after, called_expansion, with_primitives, call_expansion, AllReckoned, all_reckoned, body_call_expansion, calls_expansion, body_expansion, expansions_of}
use Rattle.qt_modify.specs.Calls.{no_controls, use_expansion}
use Rattle.qt_modify_laws.specs.Running.{AreBelow}
use Rattle.qt_modify_laws.proofs.Below.{StepsBelow, next_of, below_more, Longer, as_long, longer_then, next_later, OutAll, all_bounded}

-- an expander goes on after the steps so far
pub record Keeps (given : List Argument) (x : Expander) : Type 0 where
  pub by : (cs : Controls) (qs : List QubitRef) (steps : Steps) → AreBelow (next_of steps) given → StepsBelow steps.first steps.steps
      → Longer steps (x cs qs steps).steps

if_keeps : (idle : Bool) (ms : List GateModifier) (given : List Argument) (x : Expander) → Keeps given x
    → Keeps given
    (λ cs qs steps. if idle then nothing_after steps else with_primitives (modified ms) (x (inner_controls ms qs cs) (inner_qubits ms qs) steps))
if_keeps true ms given x k = record { by = λ cs qs steps r s. as_long steps s }
if_keeps false ms given x k = record { by = λ cs qs steps r s. k.by (inner_controls ms qs cs) (inner_qubits ms qs) steps r s }

pub record AllKeep (e : GateExpansions) : Type 0 where
  pub by : (i : ℕ) (given : List Argument) → Keeps given ((e i).expander given)

called_keeps : (e : GateExpansions) → AllKeep e → (gate : Called) (given : List Argument) → Keeps given (called_expansion e gate given)
called_keeps e h called.U given = record { by = λ cs qs steps r s. as_long steps s }
called_keeps e h called.GlobalPhase given = record { by = λ cs qs steps r s. as_long steps s }
called_keeps e h (called.Gate i) given = record { by = (h.by i given).by }

call_keeps : (e : GateExpansions) → AllKeep e → (ms : List GateModifier) (gate : Called) (given : List Argument)
    → Keeps given (call_expansion e ms gate given)
call_keeps e h ms gate given = if_keeps (are_idle ms) ms given (called_expansion e gate given) (called_keeps e h gate given)

body_call_keeps : (e : GateExpansions) → AllKeep e → (c : BodyCall) (given : List Argument) → Keeps given (body_call_expansion e c given)
body_call_keeps e h c given = record {
  by = λ cs qs steps r s.
      let args : AllReckoned = all_reckoned (wanted (needs_in e) c.modifiers c.gate) given 0 c.angles steps in
      let out : OutAll steps args = all_bounded (wanted (needs_in e) c.modifiers c.gate) given 0 c.angles steps r s in
      longer_then _ _ _ out.after
      ((call_keeps e h c.modifiers c.gate args.angles).by cs (picked no_qubit qs c.qubits) args.steps out.angles out.after.fits);
}

calls_keep : (e : GateExpansions) → AllKeep e → (calls : List BodyCall) (given : List Argument) → Keeps given (calls_expansion e calls given)
calls_keep e h [] given = record { by = λ cs qs steps r s. as_long steps s }
calls_keep e h (c ∷ calls) given = record {
  by = λ cs qs steps r s.
      let x : Expanded = body_call_expansion e c given cs qs steps in
      let one : Longer steps x.steps = (body_call_keeps e h c given).by cs qs steps r s in
      longer_then _ _ _ one
      ((calls_keep e h calls given).by cs qs x.steps (below_more _ _ given (next_later _ _ one) r) one.fits);
}

number_keeps : (n i : ℕ) (x y : GateExpansion) (given : List Argument) → Keeps given (x.expander given) → Keeps given (y.expander given)
    → Keeps given ((if_number n i x y).expander given)
number_keeps zero zero x y given g h = g
number_keeps zero (suc i) x y given g h = h
number_keeps (suc n) zero x y given g h = h
number_keeps (suc n) (suc i) x y given g h = number_keeps n i x y given g h

gates_keep_from : (gates : List GateBody) (n : ℕ) (e : GateExpansions) → AllKeep e → AllKeep (numbered_from body_expansion n gates e)
gates_keep_from [] n e h = h
gates_keep_from (body ∷ gates) n e h =
    gates_keep_from gates (suc n) _
    (record { by = λ i given. number_keeps n i (body_expansion e body) (e i) given (calls_keep e h body.calls given) (h.by i given) })

gates_keep : (gates : List GateBody) → AllKeep (expansions_of gates)
gates_keep gates = gates_keep_from gates 0 _ (record { by = λ i given. record { by = λ cs qs steps r s. as_long steps s } })

-- the steps of a gate with its modifiers
pub use_longer : (used : GateUse) (given : List Argument) (qs : List QubitRef) (first : ℕ) → AreBelow first given
    → Longer (record { first = first; steps = [] }) (use_expansion used given qs first).steps
use_longer used given qs first b =
    let z : first ≤ first + 0 = omega arith in
    (call_keeps _ (gates_keep used.gates) used.modifiers used.gate given).by no_controls qs (record { first = first; steps = [] })
    (below_more first (first + 0) given z b) tt
