-- The code of statements (flat code is this profile's; OpenQASM 3.0 live specification, "Classical instructions", "Subroutines" and "Built-in
-- quantum instructions"), by cases on the typed tree. Each statement begins with a Tick, and its instructions but those of its bodies have its
-- place. Targets of jumps are reckoned from lengths, which are a recursion of their own. `z` says how many instructions stand in each
-- subroutine where it is put in, and `codes` which. What a statement becomes doesn't depend on the number of choices before it.
use Rattle.std.specs.Prelude.{ℕ, suc, ◌+◌, List, [], ◌∷◌, ◌++◌, length, map, Option, Some, None}
use Rattle.qt_tree.specs.declared.place.Place.{Place}
use Rattle.qt_value.specs.declared.types.ValueType.{ValueType}
use Rattle.qt_typed.specs.Choices.{Counts}
use Rattle.qt_typed.specs.declared.call.Span.{Span}
use Rattle.qt_typed.specs.declared.call.SubroutineCall.{SubroutineCall}
use Rattle.qt_typed.specs.declared.call.TypedQubit.{TypedQubit}
use Rattle.qt_typed.specs.declared.call.TypedQubit.TheVariants as qubit
use Rattle.qt_typed.specs.declared.call.TypedQubits.{TypedQubits}
use Rattle.qt_typed.specs.declared.call.TypedQubits.TheVariants as qubits
use Rattle.qt_typed.specs.declared.expression.TypedTarget.{TypedTarget}
use Rattle.qt_typed.specs.declared.program.TypedParameter.{TypedParameter}
use Rattle.qt_typed.specs.declared.program.TypedParameter.TheVariants as parameter
use Rattle.qt_typed.specs.declared.program.TypedSubroutine.{TypedSubroutine}
use Rattle.qt_typed.specs.declared.statement.TypedAction.{TypedAction}
use Rattle.qt_typed.specs.declared.statement.TypedAction.TheVariants as action
use Rattle.qt_typed.specs.declared.statement.TypedRight.{TypedRight}
use Rattle.qt_typed.specs.declared.statement.TypedRight.TheVariants as right
use Rattle.qt_typed.specs.declared.statement.TypedStatement.{TypedStatement, Row_of-TypedStatement, end_of-TypedStatement, more_of-TypedStatement}
use Rattle.qt_typed.specs.declared.statement.TypedStatement.TheVariants.{Simple, If', Loop'}
use Rattle.qt_meaning.specs.Places.{Site, fixed_number}
use Rattle.qt_meaning.specs.Statements.{framed, registers_from}
use Rattle.qt_instructions.specs.declared.reference.QubitRef.TheVariants as reference
use Rattle.qt_instructions.specs.declared.instruction.Instr.{Instr}
use Rattle.qt_instructions.specs.declared.instruction.Instr.TheVariants as instr
use Rattle.qt_flat_code.specs.Lengths.{array_length, choosing_length, expression_length, optional_steps_length, qubit_length, target_length, target_steps_length, update_length, values_length, zeros_length}
use Rattle.qt_flat_code.specs.Expressions.{expression_code, operand}
use Rattle.qt_flat_code.specs.Storing.{array_code, target_code, update_code, values_code, zeros_code}
use Rattle.qt_flat_code.specs.Measuring.{measure_code, measure_slot_code, qubit_code, reset_code}
use Rattle.qt_flat_code.specs.Loops.{advance_code, advance_length, begin_code, begin_length, goes_on_code, goes_on_length}
use Rattle.qt_flat_code.specs.GateCalls.{broadcast_code, broadcast_length, gate_call_code, gate_call_length}

-- ---- instructions with their places

abbrev pub Lines : Type 0
Lines = List (Instr × Place)

abbrev pub at_place : Place → List Instr → Lines
at_place place code = map (λ i. (i, place)) code

-- ---- where statements lead

-- the instructions at which `break`, `continue` and `return` go on
pub record Exits : Type 0 where
  pub of_break : ℕ
  pub of_continue : ℕ
  pub of_return : ℕ

-- all go on at one
abbrev pub all_to : ℕ → Exits
all_to at = record { of_break = at; of_continue = at; of_return = at }

-- ---- calls of subroutines: the values come to cells from 0 on, the numbers of the qubits to the cells behind; a register has a cell as
-- well, which isn't used

-- the subroutines by their numbers: the code of one where it is put in for a call, with the call's place and site, from an instruction on
abbrev pub Codes : Type 0
Codes = ℕ → SubroutineCall → Place → Site → ℕ → Lines

abbrev pub number_length : TypedQubit → ℕ
number_length (qubit.Fixed q) = 1
number_length q = qubit_length q

abbrev pub number_code : TypedQubit → Site → ℕ → ℕ → List Instr
number_code (qubit.Fixed q) site cell at = instr.Load cell (fixed_number site q) ∷ []
number_code q site cell at = qubit_code q site cell at

abbrev pub handed_length : TypedQubits → ℕ
handed_length (qubits.Single q) = number_length q
handed_length (qubits.Register register) = 0

abbrev pub handed_code : TypedQubits → Site → ℕ → ℕ → List Instr
handed_code (qubits.Single q) site cell at = number_code q site cell at
handed_code (qubits.Register register) site cell at = []

abbrev pub all_handed_length : List TypedQubits → ℕ
all_handed_length [] = 0
all_handed_length (qs ∷ rest) = handed_length qs + all_handed_length rest

abbrev pub all_handed_code : List TypedQubits → Site → ℕ → ℕ → List Instr
all_handed_code [] site cell at = []
all_handed_code (qs ∷ rest) site cell at = handed_code qs site cell at ++ all_handed_code rest site (suc cell) (at + handed_length qs)

-- behind all of them, that the number from a parameter's slot is that of a qubit
abbrev pub test_length : TypedQubits → ℕ
test_length (qubits.Single (qubit.Slot slot)) = 1
test_length _ = 0

abbrev pub test_code : TypedQubits → ℕ → List Instr
test_code (qubits.Single (qubit.Slot slot)) cell = instr.Distinct (reference.Work cell ∷ []) ∷ []
test_code _ cell = []

abbrev pub tests_length : List TypedQubits → ℕ
tests_length [] = 0
tests_length (qs ∷ rest) = test_length qs + tests_length rest

abbrev pub tests_code : List TypedQubits → ℕ → List Instr
tests_code [] cell = []
tests_code (qs ∷ rest) cell = test_code qs cell ++ tests_code rest (suc cell)

-- what stands before a subroutine that is put in
abbrev pub handing_length : SubroutineCall → ℕ
handing_length call = values_length call.values + (all_handed_length call.qubits + tests_length call.qubits)

abbrev pub handing_code : SubroutineCall → Site → ℕ → List Instr
handing_code call site at =
    values_code call.values site.base 0 at
    ++ (all_handed_code call.qubits site (length call.values) (at + values_length call.values) ++ tests_code call.qubits (length call.values))

abbrev pub call_length : Counts → SubroutineCall → ℕ
call_length z call = handing_length call + z call.subroutine

abbrev pub call_code : Codes → SubroutineCall → Place → Site → ℕ → Lines
call_code codes call place site at =
    at_place place (handing_code call site at) ++ codes call.subroutine call place site (at + handing_length call)

-- its result comes to cell 0, and its frame becomes 0
abbrev pub result_length : Span → ℕ
result_length frame = 1 + (zeros_length frame.count + 1)

abbrev pub result_code : Span → ValueType → ValueType → Site → List Instr
result_code frame result to site =
    instr.Get 0 (site.base + frame.first)
    ∷ (zeros_code (site.base + frame.first) 1 frame.count ++ (instr.Cast 0 (operand 0 result) to ∷ []))

-- ---- what is stored

-- a slot, or a target
pub data Destination : Type 0 where
  ToSlot : ℕ → Destination
  ToTarget : TypedTarget → Destination

abbrev pub destination_length : Destination → ℕ
destination_length (ToSlot slot) = 1
destination_length (ToTarget target) = target_length target

-- the value in cell 0 goes there
abbrev pub destination_code : Destination → Site → ℕ → List Instr
destination_code (ToSlot slot) site at = instr.Put slot 0 ∷ []
destination_code (ToTarget target) site at = target_code target site.base 0 at

abbrev pub outcomes_length : TypedQubits → Destination → ℕ
outcomes_length qs (ToSlot slot) = choosing_length qs 0
outcomes_length qs (ToTarget target) = choosing_length qs (target_steps_length target)

abbrev pub outcomes_code : TypedQubits → Destination → Site → ℕ → List Instr
outcomes_code qs (ToSlot slot) site at = measure_slot_code qs slot site at
outcomes_code qs (ToTarget target) site at = measure_code qs (Some target) site at

abbrev pub right_length : Counts → TypedRight → Destination → ℕ
right_length z (right.Value value) to = expression_length value + destination_length to
right_length z (right.Measure qs) to = outcomes_length qs to
right_length z (right.Call call result kind) to = call_length z call + (result_length call.frame + destination_length to)

abbrev pub right_code : Counts → Codes → TypedRight → Destination → Place → Site → ℕ → Lines
right_code z codes (right.Value value) to place site at =
    at_place place (expression_code value site.base 0 at ++ destination_code to site (at + expression_length value))
right_code z codes (right.Measure qs) to place site at = at_place place (outcomes_code qs to site at)
right_code z codes (right.Call call result kind) to place site at =
    call_code codes call place site at
    ++ at_place place (result_code call.frame result kind site
    ++ destination_code to site (at + call_length z call + result_length call.frame))

-- ---- statements without bodies

-- lengths are the same wherever a gate call is put in
abbrev pub nowhere : Site
nowhere = record { choices = 0; base = 0; qubits = 0; registers = λ n. [] }

abbrev pub declared_length : Counts → Option TypedRight → ℕ → ℕ
declared_length z None slot = 2
declared_length z (Some value) slot = right_length z value (ToSlot slot)

abbrev pub declared_code : Counts → Codes → Option TypedRight → ℕ → Place → Site → ℕ → Lines
declared_code z codes None slot place site at = at_place place (instr.Load 0 0 ∷ instr.Put slot 0 ∷ [])
declared_code z codes (Some value) slot place site at = right_code z codes value (ToSlot slot) place site at

abbrev pub returned_length : Counts → Option TypedRight → ℕ
returned_length z None = 1
returned_length z (Some value) = right_length z value (ToSlot 0) + 1

-- the value goes to the first slot of the frame
abbrev pub returned_code : Counts → Codes → Option TypedRight → ℕ → Place → Site → ℕ → Lines
returned_code z codes None to place site at = (instr.Jump to, place) ∷ []
returned_code z codes (Some value) to place site at = right_code z codes value (ToSlot site.base) place site at ++ ((instr.Jump to, place) ∷ [])

abbrev pub action_length : Counts → TypedAction → ℕ
action_length z (action.Declare kind slot value) = declared_length z value slot
action_length z (action.DeclareArray kind slot count values) = array_length values count
action_length z (action.Assign target value) = right_length z value (ToTarget target)
action_length z (action.Update target operator value) = update_length target value
action_length z (action.Measure qs target) = choosing_length qs (optional_steps_length target)
action_length z (action.Reset qs) = choosing_length qs 0
action_length z action.Barrier = 0
action_length z (action.Gate call) = gate_call_length nowhere call.used call.operands
action_length z (action.Broadcast call) = broadcast_length nowhere call.used call.operands 0 call.size
action_length z (action.Call call) = call_length z call + zeros_length call.frame.count
action_length z action.Break = 1
action_length z action.Continue = 1
action_length z (action.Return value) = returned_length z value
action_length z action.End = 1

abbrev pub action_code : Counts → Codes → TypedAction → Exits → Place → Site → ℕ → Lines
action_code z codes (action.Declare kind slot value) exits place site at = declared_code z codes value (site.base + slot) place site at
action_code z codes (action.DeclareArray kind slot count values) exits place site at =
    at_place place (array_code values (site.base + slot) count site.base at)
action_code z codes (action.Assign target value) exits place site at = right_code z codes value (ToTarget target) place site at
action_code z codes (action.Update target operator value) exits place site at = at_place place (update_code target operator value site.base at)
action_code z codes (action.Measure qs target) exits place site at = at_place place (measure_code qs target site at)
action_code z codes (action.Reset qs) exits place site at = at_place place (reset_code qs site at)
action_code z codes action.Barrier exits place site at = []
action_code z codes (action.Gate call) exits place site at = at_place place (gate_call_code site call.used call.operands at)
action_code z codes (action.Broadcast call) exits place site at =
    at_place place (broadcast_code site call.used call.operands 0 call.size at)
action_code z codes (action.Call call) exits place site at =
    call_code codes call place site at ++ at_place place (zeros_code (site.base + call.frame.first) 0 call.frame.count)
action_code z codes action.Break exits place site at = (instr.Jump exits.of_break, place) ∷ []
action_code z codes action.Continue exits place site at = (instr.Jump exits.of_continue, place) ∷ []
action_code z codes (action.Return value) exits place site at = returned_code z codes value exits.of_return place site at
action_code z codes action.End exits place site at = (instr.End, place) ∷ []

-- ---- all statements

-- the slots of a scope become 0 at its end
abbrev pub clearing_code : Span → Site → List Instr
clearing_code span site = zeros_code (site.base + span.first) 0 span.count

abbrev mutual
  pub statement_length : Counts → TypedStatement → ℕ
  statement_length z (Simple spot action) = 1 + action_length z action
  statement_length z (If' spot condition k body body_slots m otherwise otherwise_slots) =
      1 + (expression_length condition
      + (2 + (row_length z body + (zeros_length body_slots.count + 1 + (row_length z otherwise + zeros_length otherwise_slots.count)))))
  statement_length z (Loop' spot over loop_slots k body body_slots) =
      1 + (begin_length over
      + (2 + (advance_length over
      + (row_length z body
      + (zeros_length body_slots.count
      + (goes_on_length over + (2 + (zeros_length body_slots.count + zeros_length loop_slots.count))))))))

  -- one after the other
  pub row_length : {m : _} → Counts → Row_of-TypedStatement m → ℕ
  row_length z end_of-TypedStatement = 0
  row_length z (more_of-TypedStatement s rest) = statement_length z s + row_length z rest

abbrev pub list_length : Counts → List TypedStatement → ℕ
list_length z [] = 0
list_length z (s ∷ ss) = statement_length z s + list_length z ss

-- an `if` has the first body before the other. A loop jumps to its test, which jumps back to the Tick of a turn; the test, and `continue`,
-- stand behind a turn, where the body's slots become 0; `break` leads behind the test, where the body's slots become 0 and then those of
-- the loop
abbrev mutual
  pub statement_code : Counts → Codes → TypedStatement → Exits → Site → ℕ → Lines
  statement_code z codes (Simple spot action) exits site at =
      (instr.Tick, spot.place) ∷ action_code z codes action exits spot.place site (suc at)
  statement_code z codes (If' spot condition k body body_slots m otherwise otherwise_slots) exits site at =
      let chosen = at + 1 + expression_length condition + 2 in
      let other = chosen + row_length z body + zeros_length body_slots.count + 1 in
      let behind = other + row_length z otherwise + zeros_length otherwise_slots.count in
      at_place spot.place (instr.Tick
      ∷ (expression_code condition site.base 0 (at + 1) ++ (instr.JumpIf 0 chosen ∷ instr.Jump other ∷ [])))
      ++ (row_code z codes body exits site chosen
      ++ (at_place spot.place (clearing_code body_slots site ++ (instr.Jump behind ∷ []))
      ++ (row_code z codes otherwise exits site other
      ++ at_place spot.place (clearing_code otherwise_slots site))))
  statement_code z codes (Loop' spot over loop_slots k body body_slots) exits site at =
      let x = site.base + loop_slots.first in
      let turn = at + 1 + begin_length over + 1 in
      let inside = turn + 1 + advance_length over in
      let continued = inside + row_length z body in
      let test = continued + zeros_length body_slots.count in
      let broken = test + goes_on_length over + 2 in
      let behind = broken + zeros_length body_slots.count in
      at_place spot.place (instr.Tick
      ∷ (begin_code over x site.base (at + 1) ++ (instr.Jump test ∷ instr.Tick ∷ advance_code over x (turn + 1))))
      ++ (row_code z codes body (record exits { of_break = broken; of_continue = continued }) site inside
      ++ at_place spot.place (clearing_code body_slots site
      ++ (goes_on_code over x site.base test
      ++ (instr.JumpIf 0 turn ∷ instr.Jump behind ∷ (clearing_code body_slots site ++ clearing_code loop_slots site)))))

  pub row_code : {m : _} → Counts → Codes → Row_of-TypedStatement m → Exits → Site → ℕ → Lines
  row_code z codes end_of-TypedStatement exits site at = []
  row_code z codes (more_of-TypedStatement s rest) exits site at =
      statement_code z codes s exits site at ++ row_code z codes rest exits site (at + statement_length z s)

abbrev pub list_code : Counts → Codes → List TypedStatement → Exits → Site → ℕ → Lines
list_code z codes [] exits site at = []
list_code z codes (s ∷ ss) exits site at =
    statement_code z codes s exits site at ++ list_code z codes ss exits site (at + statement_length z s)

-- ---- subroutines, each over those before it

abbrev pub entering_length : List TypedParameter → ℕ
entering_length [] = 0
entering_length (parameter.Value kind slot ∷ ps) = suc (entering_length ps)
entering_length (parameter.Qubit slot ∷ ps) = suc (entering_length ps)
entering_length (parameter.Register slot size ∷ ps) = entering_length ps

-- the parameters get the values and the numbers of qubits, of which the next ones stand in these cells
abbrev pub entering_code : List TypedParameter → ℕ → ℕ → ℕ → List Instr
entering_code [] base value number = []
entering_code (parameter.Value kind slot ∷ ps) base value number = instr.Put (base + slot) value ∷ entering_code ps base (suc value) number
entering_code (parameter.Qubit slot ∷ ps) base value number = instr.Put (base + slot) number ∷ entering_code ps base value (suc number)
entering_code (parameter.Register slot size ∷ ps) base value number = entering_code ps base value (suc number)

-- the qubits of a register that is handed over
abbrev pub numbers_in : Site → TypedQubits → List ℕ
numbers_in site (qubits.Single q) = []
numbers_in site (qubits.Register register) = map (fixed_number site) register

abbrev pub body_site : TypedSubroutine → SubroutineCall → Site → Site
body_site s call site = record (framed call.frame site) { registers = registers_from 0 s.parameters (map (numbers_in site) call.qubits) }

abbrev pub body_length : Counts → TypedSubroutine → ℕ
body_length z s = entering_length s.parameters + list_length z s.body

-- a subroutine that is put in: its parameters get what they take, then its body runs, and all its exits lead behind it
abbrev pub body_code : Counts → Codes → TypedSubroutine → SubroutineCall → Place → Site → ℕ → Lines
body_code z codes s call place site at =
    at_place place (entering_code s.parameters (site.base + call.frame.first) 0 (length call.values))
    ++ list_code z codes s.body (all_to (at + body_length z s)) (body_site s call site) (at + entering_length s.parameters)
