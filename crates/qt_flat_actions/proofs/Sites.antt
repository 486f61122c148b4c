-- The code of a statement is the same whatever the number of choices before it.
use mathlib.Core.Path.{fun_ext}
use Rattle.std.proofs.Common.{◌≡◌, ℕ, zero, suc, ◌+◌, Some, None, List, [], ◌∷◌, ◌++◌, map, Option, refl, ap, ◌∙◌}
use Rattle.qt_tree.specs.declared.place.Place.{Place}
use Rattle.qt_registers.specs.declared.fixed.FixedQubit.{FixedQubit}
use Rattle.qt_registers.specs.declared.fixed.FixedQubit.TheVariants as fixed
use Rattle.qt_typed.specs.Choices.{Counts}
use Rattle.qt_typed.specs.Types.{type_of}
use Rattle.qt_typed.specs.declared.call.GateUse.{GateUse}
use Rattle.qt_typed.specs.declared.call.TypedQubit.{TypedQubit}
use Rattle.qt_typed.specs.declared.call.TypedQubit.TheVariants as qubit
use Rattle.qt_typed.specs.declared.call.TypedQubits.{TypedQubits}
use Rattle.qt_typed.specs.declared.call.TypedQubits.TheVariants as qubits
use Rattle.qt_typed.specs.declared.expression.TypedTarget.{TypedTarget}
use Rattle.qt_typed.specs.declared.statement.TypedAction.{TypedAction}
use Rattle.qt_typed.specs.declared.statement.TypedAction.TheVariants as action
use Rattle.qt_typed.specs.declared.statement.TypedRight.TheVariants as right
use Rattle.qt_meaning.specs.Applying.{operands_at}
use Rattle.qt_meaning.specs.Places.{Site, fixed_number}
use Rattle.qt_meaning.specs.Statements.{past}
use Rattle.qt_meaning.specs.WellFormed.{Scope}
use Rattle.qt_instructions.specs.declared.reference.QubitRef.TheVariants as reference
use Rattle.qt_instructions.specs.declared.instruction.Instr.TheVariants as instr
use Rattle.qt_instructions.specs.declared.parts.Parts.{Parts}
use Rattle.qt_modify.specs.Calls.{arguments_from, behind_arguments, use_expansion}
use Rattle.qt_flat_code.specs.Expressions.{expression_code, operand}
use Rattle.qt_flat_code.specs.GateCalls as calls
use Rattle.qt_flat_code.specs.Lengths.{qubits_length}
use Rattle.qt_flat_code.specs.Measuring.{measures, measure_code, measure_slot_code, optional_steps_code, outcome_of, qubit_code, qubit_named, qubits_code, qubits_named, reset_code}
use Rattle.qt_flat_code.specs.Statements.{Codes, Exits, action_code, at_place}
use Rattle.qt_instructions.specs.declared.instruction.Store.TheVariants as store
use Rattle.qt_flat_gate_calls.proofs.Wherever.{lengths_are_one}
use Rattle.qt_flat_actions.specs.Fits.{ActionFits}

numbers_same : (n : ℕ) (site : Site) → fixed_number (past n site) ≡ fixed_number site
numbers_same n site = fun_ext (λ q. each q)
  where
    each : (q : FixedQubit) → fixed_number (past n site) q ≡ fixed_number site q
    each (fixed.Number q) = refl
    each (fixed.OfParameter parameter place) = refl

-- ---- qubits of measurements and resets

qubit_same : (n : ℕ) (site : Site) (q : TypedQubit) (cell at : ℕ) → qubit_code q (past n site) cell at ≡ qubit_code q site cell at
qubit_same n site (qubit.Fixed q) cell at = refl
qubit_same n site (qubit.Slot slot) cell at = refl
qubit_same n site (qubit.Indexed register index) cell at =
    ap (λ f. expression_code index site.base cell at ++ (instr.Qubit cell (map f register) (operand cell (type_of index)) ∷ [])) (numbers_same n site)

qubits_same : (n : ℕ) (site : Site) (qs : TypedQubits) (cell at : ℕ) → qubits_code qs (past n site) cell at ≡ qubits_code qs site cell at
qubits_same n site (qubits.Single q) cell at = qubit_same n site q cell at
qubits_same n site (qubits.Register register) cell at = refl

named_same : (n : ℕ) (site : Site) (q : TypedQubit) (cell : ℕ) → qubit_named q (past n site) cell ≡ qubit_named q site cell
named_same n site (qubit.Fixed q) cell = ap (λ f. reference.At (f q)) (numbers_same n site)
named_same n site (qubit.Slot slot) cell = refl
named_same n site (qubit.Indexed register index) cell = refl

all_named_same : (n : ℕ) (site : Site) (qs : TypedQubits) (cell : ℕ) → qubits_named qs (past n site) cell ≡ qubits_named qs site cell
all_named_same n site (qubits.Single q) cell = ap (λ r. r ∷ []) (named_same n site q cell)
all_named_same n site (qubits.Register register) cell = ap (λ f. map (λ q. reference.At (f q)) register) (numbers_same n site)

reset_same : (n : ℕ) (site : Site) (qs : TypedQubits) (at : ℕ) → reset_code qs (past n site) at ≡ reset_code qs site at
reset_same n site qs at =
    let c = qubits_same n site qs 0 at in
    let r = all_named_same n site qs 0 in
    (λ i. c i ++ map instr.Reset (r i))

measure_same : (n : ℕ) (site : Site) (qs : TypedQubits) (target : Option TypedTarget) (at : ℕ)
    → measure_code qs target (past n site) at ≡ measure_code qs target site at
measure_same n site qs target at =
    let c = qubits_same n site qs 0 at in
    let r = all_named_same n site qs 0 in
    (λ i. c i ++ (optional_steps_code target site.base (at + qubits_length qs) ++ measures (outcome_of target site.base) (r i) 0))

measure_slot_same : (n : ℕ) (site : Site) (qs : TypedQubits) (slot at : ℕ)
    → measure_slot_code qs slot (past n site) at ≡ measure_slot_code qs slot site at
measure_slot_same n site qs slot at =
    let c = qubits_same n site qs 0 at in
    let r = all_named_same n site qs 0 in
    (λ i. c i ++ measures (store.Bit slot) (r i) 0)

-- ---- gate calls

operand_same : (n : ℕ) (site : Site) (q : TypedQubit) (cell at : ℕ) → calls.qubit_code q (past n site) cell at ≡ calls.qubit_code q site cell at
operand_same n site (qubit.Fixed q) cell at = refl
operand_same n site (qubit.Slot slot) cell at = refl
operand_same n site (qubit.Indexed register index) cell at =
    ap (λ f. expression_code index site.base cell at ++ (instr.Qubit cell (map f register) (operand cell (type_of index)) ∷ [])) (numbers_same n site)

operands_same : (n : ℕ) (site : Site) (qs : List TypedQubit) (cell at : ℕ)
    → calls.qubits_code qs (past n site) cell at ≡ calls.qubits_code qs site cell at
operands_same n site [] cell at = refl
operands_same n site (q ∷ qs) cell at =
    let a = operand_same n site q cell at in
    let b = operands_same n site qs (calls.behind_qubit q cell) (at + calls.qubit_length q) in
    (λ i. a i ++ b i)

reference_same : (n : ℕ) (site : Site) (q : TypedQubit) (cell : ℕ) → calls.reference_in q (past n site) cell ≡ calls.reference_in q site cell
reference_same n site (qubit.Fixed q) cell = ap (λ f. reference.At (f q)) (numbers_same n site)
reference_same n site (qubit.Slot slot) cell = refl
reference_same n site (qubit.Indexed register index) cell = refl

references_same : (n : ℕ) (site : Site) (qs : List TypedQubit) (cell : ℕ)
    → calls.references_in qs (past n site) cell ≡ calls.references_in qs site cell
references_same n site [] cell = refl
references_same n site (q ∷ qs) cell =
    let a = reference_same n site q cell in
    let b = references_same n site qs (calls.behind_qubit q cell) in
    (λ i. a i ∷ b i)

call_same : (n : ℕ) (site : Site) (used : GateUse) (operands : List TypedQubit) (at : ℕ)
    → calls.gate_call_code (past n site) used operands at ≡ calls.gate_call_code site used operands at
call_same n site used operands at =
    let cell = behind_arguments 0 used.arguments in
    let c = operands_same n site operands cell (at + calls.arguments_length used.arguments) in
    let r = references_same n site operands cell in
    (λ i.
    calls.arguments_code used.arguments site.base 0 at
    ++ (c i
    ++ (calls.test_code (r i)
    ++ (calls.steps_code (calls.behind_qubits operands cell) (use_expansion used (arguments_from 0 used.arguments) (r i) (calls.behind_qubits operands cell)).steps.steps
    ++ calls.primitives_code (use_expansion used (arguments_from 0 used.arguments) (r i) (calls.behind_qubits operands cell)).primitives))))

broadcast_same : (n : ℕ) (site : Site) (used : GateUse) (operands : List TypedQubits) (i count at : ℕ)
    → calls.broadcast_code (past n site) used operands i count at ≡ calls.broadcast_code site used operands i count at
broadcast_same n site used operands i zero at = refl
broadcast_same n site used operands i (suc count) at =
    let e = lengths_are_one (past n site) site used (operands_at i operands) in
    let a = call_same n site used (operands_at i operands) at in
    (λ j. a j ++ calls.broadcast_code (past n site) used operands (suc i) count (at + e j))
    ∙ ap (λ c. calls.gate_call_code site used (operands_at i operands) at ++ c)
    (broadcast_same n site used operands (suc i) count (at + calls.gate_call_length site used (operands_at i operands)))

-- ---- all actions that have a law

pub action_same : (code : Parts) (scope : Scope) (slots from : ℕ) (other : Site) (z : Counts) (codes : Codes) (exits : Exits) (place : Place) (n : ℕ) (site : Site) (a : TypedAction)
    (at : ℕ) → ActionFits code scope other slots from a
    → action_code z codes a exits place (past n site) at ≡ action_code z codes a exits place site at
action_same code scope slots from other z codes exits place n site (action.Declare kind slot None) at fits = refl
action_same code scope slots from other z codes exits place n site (action.Declare kind slot (Some (right.Value value))) at fits = refl
action_same code scope slots from other z codes exits place n site (action.Declare kind slot (Some (right.Measure qs))) at fits =
    ap (at_place place) (measure_slot_same n site qs (site.base + slot) at)
action_same code scope slots from other z codes exits place n site (action.Declare kind slot (Some (right.Call call result to))) at fits = absurd fits
action_same code scope slots from other z codes exits place n site (action.DeclareArray kind slot count values) at fits = refl
action_same code scope slots from other z codes exits place n site (action.Assign target (right.Value value)) at fits = refl
action_same code scope slots from other z codes exits place n site (action.Assign target (right.Measure qs)) at fits =
    ap (at_place place) (measure_same n site qs (Some target) at)
action_same code scope slots from other z codes exits place n site (action.Assign target (right.Call call result to)) at fits = absurd fits
action_same code scope slots from other z codes exits place n site (action.Update target operator value) at fits = refl
action_same code scope slots from other z codes exits place n site (action.Measure qs target) at fits = ap (at_place place) (measure_same n site qs target at)
action_same code scope slots from other z codes exits place n site (action.Reset qs) at fits = ap (at_place place) (reset_same n site qs at)
action_same code scope slots from other z codes exits place n site action.Barrier at fits = refl
action_same code scope slots from other z codes exits place n site (action.Gate call) at fits =
    ap (at_place place) (call_same n site call.used call.operands at)
action_same code scope slots from other z codes exits place n site (action.Broadcast call) at fits =
    ap (at_place place) (broadcast_same n site call.used call.operands 0 call.size at)
action_same code scope slots from other z codes exits place n site (action.Call call) at fits = absurd fits
action_same code scope slots from other z codes exits place n site action.Break at fits = absurd fits
action_same code scope slots from other z codes exits place n site action.Continue at fits = absurd fits
action_same code scope slots from other z codes exits place n site (action.Return value) at fits = absurd fits
action_same code scope slots from other z codes exits place n site action.End at fits = absurd fits
