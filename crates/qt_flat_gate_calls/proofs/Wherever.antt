-- A gate call has as many instructions wherever it stands: its steps, and the number of its primitives, rest on no qubit.
use Rattle.std.proofs.Common.{◌≡◌, ℕ, zero, suc, ◌+◌, Bool, true, false, List, [], ◌∷◌, ◌++◌, length, refl, ap, ◌∙◌, arith, length-append}
use Rattle.std.specs.Prelude.{ℤ, pos, negsuc, if◌then◌else◌}
use Rattle.std.specs.List.{list_any}
use Rattle.qt_gate_calls.specs.declared.body.GateModifier.{GateModifier}
use Rattle.qt_gate_calls.specs.declared.body.GateModifier.TheVariants.{Inv, Pow, Ctrl, NegCtrl}
use Rattle.qt_gate_calls.specs.declared.body.Called.{Called}
use Rattle.qt_gate_calls.specs.declared.body.Called.TheVariants as called
use Rattle.qt_gate_calls.specs.declared.body.BodyCall.{BodyCall}
use Rattle.qt_gate_calls.specs.declared.body.GateBody.{GateBody}
use Rattle.qt_gate_calls.specs.Numbered.{if_number, numbered_from}
use Rattle.qt_gate_calls.specs.Primitives.{picked, powered, repeated, undo}
use Rattle.qt_typed.specs.declared.call.GateUse.{GateUse}
use Rattle.qt_typed.specs.declared.call.TypedQubit.{TypedQubit}
use Rattle.qt_typed.specs.declared.call.TypedQubit.TheVariants as qubit
use Rattle.qt_meaning.specs.Applying.{operands_at}
use Rattle.qt_meaning.specs.Places.{Site}
use Rattle.qt_instructions.specs.declared.reference.QubitRef.{QubitRef}
use Rattle.qt_code.specs.Tested.{is_work}
use Rattle.qt_primitives.specs.declared.unit.Argument.{Argument}
use Rattle.qt_primitives.specs.declared.unit.Controls.{Controls}
use Rattle.qt_primitives.specs.declared.unit.UnitPrimitive.{UnitPrimitive}
use Rattle.qt_modify.specs.declared.unit.Steps.{Steps}
use Rattle.qt_modify.specs.Calls.{arguments_from, behind_arguments, no_controls, use_expansion}
use Rattle.qt_modify.specs.Expansions.{Expanded, Expander, GateExpansion, GateExpansions, AllReckoned, all_reckoned, body_call_expansion, body_expansion, call_expansion, called_expansion, calls_expansion, expansions_of, inner_controls, inner_qubits, inverse_of, modified, needs_in, no_qubit, nothing_after, with_primitives}
use Rattle.qt_modify.specs.Needs.{are_idle, wanted}
use Rattle.qt_flat_code.specs.GateCalls.{arguments_length, behind_qubits, broadcast_length, call_expanded, call_references, gate_call_length, qubits_length, references_in, test_code, test_if}
use Rattle.qt_flat_gate_calls.specs.Laws.{BroadcastLengthsAreOne, LengthsAreOne}

-- ---- inverses and powers

length-undo : (ps : List UnitPrimitive) → length (undo inverse_of ps) ≡ length ps
length-undo [] = refl
length-undo (p ∷ ps) =
    let h : length (undo inverse_of ps) ≡ length ps = length-undo ps in
    let k : length (undo inverse_of ps ++ (inverse_of p ∷ [])) ≡ length (undo inverse_of ps) + length (inverse_of p ∷ []) =
    length-append (undo inverse_of ps) (inverse_of p ∷ []) in
    omega arith

repeated_same : (e : ℕ) (ps qs : List UnitPrimitive) → length ps ≡ length qs → length (repeated e ps) ≡ length (repeated e qs)
repeated_same zero ps qs h = refl
repeated_same (suc e) ps qs h =
    let g : length (repeated e ps) ≡ length (repeated e qs) = repeated_same e ps qs h in
    let k : length (repeated e ps ++ ps) ≡ length (repeated e ps) + length ps = length-append (repeated e ps) ps in
    let l : length (repeated e qs ++ qs) ≡ length (repeated e qs) + length qs = length-append (repeated e qs) qs in
    omega arith

undo_same : (ps qs : List UnitPrimitive) → length ps ≡ length qs → length (undo inverse_of ps) ≡ length (undo inverse_of qs)
undo_same ps qs h =
    let g : length (undo inverse_of ps) ≡ length ps = length-undo ps in
    let k : length (undo inverse_of qs) ≡ length qs = length-undo qs in
    omega arith

powered_same : (k : ℤ) (ps qs : List UnitPrimitive) → length ps ≡ length qs → length (powered inverse_of k ps) ≡ length (powered inverse_of k qs)
powered_same (pos e) ps qs h = repeated_same e ps qs h
powered_same (negsuc e) ps qs h = repeated_same (suc e) (undo inverse_of ps) (undo inverse_of qs) (undo_same ps qs h)

modified_same : (ms : List GateModifier) (ps qs : List UnitPrimitive) → length ps ≡ length qs → length (modified ms ps) ≡ length (modified ms qs)
modified_same [] ps qs h = h
modified_same (Inv ∷ ms) ps qs h = undo_same (modified ms ps) (modified ms qs) (modified_same ms ps qs h)
modified_same (Pow k ∷ ms) ps qs h = powered_same k (modified ms ps) (modified ms qs) (modified_same ms ps qs h)
modified_same (Ctrl ∷ ms) ps qs h = modified_same ms ps qs h
modified_same (NegCtrl ∷ ms) ps qs h = modified_same ms ps qs h

-- ---- expansions

-- the same steps, and as many primitives
pub record SameSize (x y : Expanded) : Type 0 where
  pub steps : x.steps ≡ y.steps
  pub count : length x.primitives ≡ length y.primitives

-- whatever the controls and qubits are
record IsOne (x : Expander) : Type 0 where
  by : (cs ds : Controls) (qs rs : List QubitRef) (steps : Steps) → SameSize (x cs qs steps) (x ds rs steps)

if_one : (idle : Bool) (ms : List GateModifier) (x : Expander) → IsOne x
    → IsOne (λ cs qs steps. if idle then nothing_after steps else with_primitives (modified ms) (x (inner_controls ms qs cs) (inner_qubits ms qs) steps))
if_one true ms x h = record { by = λ cs ds qs rs steps. record { steps = refl; count = refl } }
if_one false ms x h = record {
  by = λ cs ds qs rs steps.
      let s = h.by (inner_controls ms qs cs) (inner_controls ms rs ds) (inner_qubits ms qs) (inner_qubits ms rs) steps in
      record { steps = s.steps; count = modified_same ms _ _ s.count };
}

record AllOne (e : GateExpansions) : Type 0 where
  by : (i : ℕ) (given : List Argument) → IsOne ((e i).expander given)

called_one : (e : GateExpansions) → AllOne e → (gate : Called) (given : List Argument) → IsOne (called_expansion e gate given)
called_one e h called.U given = record { by = λ cs ds qs rs steps. record { steps = refl; count = refl } }
called_one e h called.GlobalPhase given = record { by = λ cs ds qs rs steps. record { steps = refl; count = refl } }
called_one e h (called.Gate i) given = record { by = (h.by i given).by }

call_one : (e : GateExpansions) → AllOne e → (ms : List GateModifier) (gate : Called) (given : List Argument) → IsOne (call_expansion e ms gate given)
call_one e h ms gate given = if_one (are_idle ms) ms (called_expansion e gate given) (called_one e h gate given)

body_call_one : (e : GateExpansions) → AllOne e → (c : BodyCall) (given : List Argument) → IsOne (body_call_expansion e c given)
body_call_one e h c given = record {
  by = λ cs ds qs rs steps.
      let args : AllReckoned = all_reckoned (wanted (needs_in e) c.modifiers c.gate) given 0 c.angles steps in
      (call_one e h c.modifiers c.gate args.angles).by cs ds (picked no_qubit qs c.qubits) (picked no_qubit rs c.qubits) args.steps;
}

calls_one : (e : GateExpansions) → AllOne e → (calls : List BodyCall) (given : List Argument) → IsOne (calls_expansion e calls given)
calls_one e h [] given = record { by = λ cs ds qs rs steps. record { steps = refl; count = refl } }
calls_one e h (c ∷ calls) given = record {
  by = λ cs ds qs rs steps.
      let x : Expanded = body_call_expansion e c given cs qs steps in
      let y : Expanded = body_call_expansion e c given ds rs steps in
      let one : SameSize x y = (body_call_one e h c given).by cs ds qs rs steps in
      let rest = (calls_one e h calls given).by cs ds qs rs x.steps in
      let u : Expanded = calls_expansion e calls given cs qs x.steps in
      let v : Expanded = calls_expansion e calls given ds rs x.steps in
      let w : Expanded = calls_expansion e calls given ds rs y.steps in
      let a : length (x.primitives ++ u.primitives) ≡ length x.primitives + length u.primitives = length-append x.primitives u.primitives in
      let b : length (y.primitives ++ w.primitives) ≡ length y.primitives + length w.primitives = length-append y.primitives w.primitives in
      let d : length x.primitives ≡ length y.primitives = one.count in
      let f : length u.primitives ≡ length v.primitives = rest.count in
      let g : length v.primitives ≡ length w.primitives = ap (λ (s : Steps). length (calls_expansion e calls given ds rs s).primitives) one.steps in
      record {
        steps = rest.steps ∙ ap (λ (s : Steps). (calls_expansion e calls given ds rs s).steps) one.steps;
        count = omega arith;
      };
}

number_one : (n i : ℕ) (x y : GateExpansion) (given : List Argument) → IsOne (x.expander given) → IsOne (y.expander given)
    → IsOne ((if_number n i x y).expander given)
number_one zero zero x y given g h = g
number_one zero (suc i) x y given g h = h
number_one (suc n) zero x y given g h = h
number_one (suc n) (suc i) x y given g h = number_one n i x y given g h

gates_one_from : (gates : List GateBody) (n : ℕ) (e : GateExpansions) → AllOne e → AllOne (numbered_from body_expansion n gates e)
gates_one_from [] n e h = h
gates_one_from (body ∷ gates) n e h =
    gates_one_from gates (suc n) _
    (record { by = λ i given. number_one n i (body_expansion e body) (e i) given (calls_one e h body.calls given) (h.by i given) })

gates_one : (gates : List GateBody) → AllOne (expansions_of gates)
gates_one gates =
    gates_one_from gates 0 _ (record { by = λ i given. record { by = λ cs ds qs rs steps. record { steps = refl; count = refl } } })

use_one : (used : GateUse) (given : List Argument) (qs rs : List QubitRef) (first : ℕ)
    → SameSize (use_expansion used given qs first) (use_expansion used given rs first)
use_one used given qs rs first =
    (call_one _ (gates_one used.gates) used.modifiers used.gate given).by no_controls no_controls qs rs (record { first = first; steps = [] })

-- ---- the test

one_work : (q : TypedQubit) (qs : List TypedQubit) (site other : Site) (cell : ℕ)
    → ((next : ℕ) → list_any is_work (references_in qs site next) ≡ list_any is_work (references_in qs other next))
    → list_any is_work (references_in (q ∷ qs) site cell) ≡ list_any is_work (references_in (q ∷ qs) other cell)
one_work (qubit.Fixed q) qs site other cell h = h cell
one_work (qubit.Slot slot) qs site other cell h = refl
one_work (qubit.Indexed register index) qs site other cell h = refl

work_same : (qs : List TypedQubit) (site other : Site) (cell : ℕ)
    → list_any is_work (references_in qs site cell) ≡ list_any is_work (references_in qs other cell)
work_same [] site other cell = refl
work_same (q ∷ qs) site other cell = one_work q qs site other cell (λ next. work_same qs site other next)

if_same : (b : Bool) (rs ss : List QubitRef) → length (test_if b rs) ≡ length (test_if b ss)
if_same true rs ss = refl
if_same false rs ss = refl

-- ---- the laws

pub lengths_are_one : LengthsAreOne
lengths_are_one site other used operands =
    let cell = behind_arguments 0 used.arguments in
    let rs = call_references site used operands in
    let ss = call_references other used operands in
    let one = use_one used (arguments_from 0 used.arguments) rs ss (behind_qubits operands cell) in
    let a : length (test_code rs) ≡ length (test_code ss) =
    ap (λ b. length (test_if b rs)) (work_same operands site other cell) ∙ if_same (list_any is_work ss) rs ss in
    let b : length (call_expanded site used operands).steps.steps ≡ length (call_expanded other used operands).steps.steps =
    ap (λ (s : Steps). length s.steps) one.steps in
    let c : length (call_expanded site used operands).primitives ≡ length (call_expanded other used operands).primitives = one.count in
    ap (λ t. arguments_length used.arguments + (qubits_length operands + (t
    + (length (call_expanded site used operands).steps.steps + length (call_expanded site used operands).primitives)))) a
    ∙ ap (λ t. arguments_length used.arguments + (qubits_length operands + (length (test_code ss)
    + (t + length (call_expanded site used operands).primitives)))) b
    ∙ ap (λ t. arguments_length used.arguments + (qubits_length operands + (length (test_code ss)
    + (length (call_expanded other used operands).steps.steps + t)))) c

pub broadcast_lengths_are_one : BroadcastLengthsAreOne
broadcast_lengths_are_one site other used operands i zero = refl
broadcast_lengths_are_one site other used operands i (suc count) =
    ap (λ t. t + broadcast_length site used operands (suc i) count) (lengths_are_one site other used (operands_at i operands))
    ∙ ap (λ t. gate_call_length other used (operands_at i operands) + t) (broadcast_lengths_are_one site other used operands (suc i) count)
