-- Programs that are well formed (OpenQASM 3.0 live specification, "Gates", "Subroutines" and "Types and Casting", quantum types; Cross et
-- al. 2022): each gate call has as many qubits as its gate and its controls, each qubit is one of the program's, and each call of a
-- subroutine hands over what its parameters take: values, single qubits and registers of their sizes. Gates and subroutines are told over those before them. The check
-- of a program lets no other through.
use Rattle.std.specs.Prelude.{◌≡◌, ℕ, zero, suc, ◌<◌, List, [], ◌∷◌, length, Option, Some, None}
use Rattle.std.specs.List.{All}
use Rattle.qt_ring.specs.Places.{AreQubits}
use Rattle.qt_registers.specs.declared.fixed.FixedQubit.{FixedQubit}
use Rattle.qt_registers.specs.declared.fixed.FixedQubit.TheVariants as fixed
use Rattle.qt_gate_calls.specs.declared.body.GateModifier.{GateModifier}
use Rattle.qt_gate_calls.specs.declared.body.GateModifier.TheVariants.{Inv, Pow, Ctrl, NegCtrl}
use Rattle.qt_gate_calls.specs.declared.body.Called.{Called}
use Rattle.qt_gate_calls.specs.declared.body.Called.TheVariants as called
use Rattle.qt_gate_calls.specs.declared.body.BodyCall.{BodyCall}
use Rattle.qt_gate_calls.specs.declared.body.GateBody.{GateBody}
use Rattle.qt_gate_calls.specs.Numbered.{if_number, numbered}
use Rattle.qt_typed.specs.declared.call.TypedQubit.{TypedQubit}
use Rattle.qt_typed.specs.declared.call.TypedQubit.TheVariants as qubit
use Rattle.qt_typed.specs.declared.call.TypedQubits.{TypedQubits}
use Rattle.qt_typed.specs.declared.call.TypedQubits.TheVariants as qubits
use Rattle.qt_typed.specs.declared.call.GateUse.{GateUse}
use Rattle.qt_typed.specs.declared.call.SubroutineCall.{SubroutineCall}
use Rattle.qt_typed.specs.declared.expression.TypedExpr.{TypedExpr}
use Rattle.qt_typed.specs.declared.program.TypedParameter.{TypedParameter}
use Rattle.qt_typed.specs.declared.program.TypedParameter.TheVariants as parameter
use Rattle.qt_typed.specs.declared.program.TypedSubroutine.{TypedSubroutine}
use Rattle.qt_typed.specs.declared.program.Typed.{Typed}
use Rattle.qt_typed.specs.declared.statement.TypedRight.{TypedRight}
use Rattle.qt_typed.specs.declared.statement.TypedRight.TheVariants as right
use Rattle.qt_typed.specs.declared.statement.TypedAction.{TypedAction}
use Rattle.qt_typed.specs.declared.statement.TypedAction.TheVariants as action
use Rattle.qt_typed.specs.declared.statement.TypedStatement.{TypedStatement, Row_of-TypedStatement, end_of-TypedStatement, more_of-TypedStatement}
use Rattle.qt_typed.specs.declared.statement.TypedStatement.TheVariants.{Simple, If', Loop'}

-- ---- gates

-- how many qubits a call has, for those of the gates by number: one more for each control
abbrev pub call_size : (ℕ → ℕ) → List GateModifier → Called → ℕ
call_size sizes [] called.U = 1
call_size sizes [] called.GlobalPhase = 0
call_size sizes [] (called.Gate i) = sizes i
call_size sizes (Inv ∷ ms) gate = call_size sizes ms gate
call_size sizes (Pow k ∷ ms) gate = call_size sizes ms gate
call_size sizes (Ctrl ∷ ms) gate = suc (call_size sizes ms gate)
call_size sizes (NegCtrl ∷ ms) gate = suc (call_size sizes ms gate)

-- a call in a body on k qubits names as many of them, all different
abbrev pub BodyCallFits : (ℕ → ℕ) → ℕ → BodyCall → Type 0
BodyCallFits sizes k c = (length c.qubits ≡ call_size sizes c.modifiers c.gate) × AreQubits k c.qubits

-- gates, of which the first has the number n, after those of these sizes
abbrev pub GatesFitFrom : ℕ → (ℕ → ℕ) → List GateBody → Type 0
GatesFitFrom n sizes [] = Unit {0}
GatesFitFrom n sizes (body ∷ bodies) =
    All (BodyCallFits sizes body.qubits) body.calls × GatesFitFrom (suc n) (λ i. if_number n i body.qubits (sizes i)) bodies

abbrev pub GatesFit : List GateBody → Type 0
GatesFit gates = GatesFitFrom 0 (λ i. 0) gates

abbrev pub gate_sizes : List GateBody → ℕ → ℕ
gate_sizes = numbered (λ sizes body. body.qubits) 0

-- ---- qubits

-- what an action stands in: how many qubits the program has, its gates, the parameters of each subroutine, and the sizes of the registers
-- of its own subroutine, by the numbers of their parameters
pub record Scope : Type 0 where
  pub qubits : ℕ
  pub gates : List GateBody
  pub taken : ℕ → List TypedParameter
  pub own : ℕ → ℕ

abbrev pub FixedFits : Scope → FixedQubit → Type 0
FixedFits scope (fixed.Number qubit) = qubit < scope.qubits
FixedFits scope (fixed.OfParameter parameter place) = place < scope.own parameter

-- a slot's number is tested in the run
abbrev pub QubitFits : Scope → TypedQubit → Type 0
QubitFits scope (qubit.Fixed q) = FixedFits scope q
QubitFits scope (qubit.Slot slot) = Unit {0}
QubitFits scope (qubit.Indexed register index) = All (FixedFits scope) register

abbrev pub QubitsFit : Scope → TypedQubits → Type 0
QubitsFit scope (qubits.Single q) = QubitFits scope q
QubitsFit scope (qubits.Register register) = All (FixedFits scope) register

-- a register of a broadcast has that size
abbrev pub OperandFits : Scope → ℕ → TypedQubits → Type 0
OperandFits scope size (qubits.Single q) = QubitFits scope q
OperandFits scope size (qubits.Register register) = (length register ≡ size) × All (FixedFits scope) register

-- ---- calls

-- a gate of the program, with so many operands
abbrev pub UseFits : Scope → ℕ → GateUse → Type 0
UseFits scope count used = (used.gates ≡ scope.gates) × (count ≡ call_size (gate_sizes scope.gates) used.modifiers used.gate)

-- each parameter gets what it takes, in order: a value, a single qubit, or a register of its size
abbrev pub GivenFits : List TypedParameter → List TypedExpr → List TypedQubits → Type 0
GivenFits [] [] [] = Unit {0}
GivenFits (parameter.Value kind slot ∷ ps) (v ∷ vs) qs = GivenFits ps vs qs
GivenFits (parameter.Qubit slot ∷ ps) vs (qubits.Single q ∷ qs) = GivenFits ps vs qs
GivenFits (parameter.Register slot size ∷ ps) vs (qubits.Register register ∷ qs) = (length register ≡ size) × GivenFits ps vs qs
GivenFits _ _ _ = ⊥

abbrev pub CallFits : Scope → SubroutineCall → Type 0
CallFits scope call = GivenFits (scope.taken call.subroutine) call.values call.qubits × All (QubitsFit scope) call.qubits

-- ---- actions

abbrev pub RightFits : Scope → TypedRight → Type 0
RightFits scope (right.Value value) = Unit {0}
RightFits scope (right.Measure qubits) = QubitsFit scope qubits
RightFits scope (right.Call call result to) = CallFits scope call

abbrev pub OptionalFits : Scope → Option TypedRight → Type 0
OptionalFits scope None = Unit {0}
OptionalFits scope (Some value) = RightFits scope value

abbrev pub ActionFits : Scope → TypedAction → Type 0
ActionFits scope (action.Declare kind slot value) = OptionalFits scope value
ActionFits scope (action.Assign target value) = RightFits scope value
ActionFits scope (action.Measure qubits target) = QubitsFit scope qubits
ActionFits scope (action.Reset qubits) = QubitsFit scope qubits
ActionFits scope (action.Gate call) = UseFits scope (length call.operands) call.used × All (QubitFits scope) call.operands
ActionFits scope (action.Broadcast call) = UseFits scope (length call.operands) call.used × All (OperandFits scope call.size) call.operands
ActionFits scope (action.Call call) = CallFits scope call
ActionFits scope (action.Return value) = OptionalFits scope value
ActionFits scope _ = Unit {0}

-- ---- statements

-- P holds of each action in a statement
abbrev mutual
  pub EachAction : (TypedAction → Type 0) → TypedStatement → Type 0
  EachAction P (Simple spot action) = P action
  EachAction P (If' spot condition k body body_slots m otherwise otherwise_slots) = EachInRow P body × EachInRow P otherwise
  EachAction P (Loop' spot over loop_slots k body body_slots) = EachInRow P body

  pub EachInRow : {m : _} → (TypedAction → Type 0) → Row_of-TypedStatement m → Type 0
  EachInRow P end_of-TypedStatement = Unit {0}
  EachInRow P (more_of-TypedStatement s rest) = EachAction P s × EachInRow P rest

abbrev pub BodyFits : Scope → List TypedStatement → Type 0
BodyFits scope body = All (EachAction (ActionFits scope)) body

-- ---- programs

-- the sizes of the registers by the numbers of their parameters, of which the first has the number n
abbrev pub sizes_from : ℕ → List TypedParameter → ℕ → ℕ
sizes_from n [] i = 0
sizes_from n (parameter.Value kind slot ∷ ps) i = sizes_from (suc n) ps i
sizes_from n (parameter.Qubit slot ∷ ps) i = sizes_from (suc n) ps i
sizes_from n (parameter.Register slot size ∷ ps) i = if_number n i size (sizes_from (suc n) ps i)

-- subroutines, of which the first has the number n, and then the main text
abbrev pub AllFit : Scope → ℕ → List TypedSubroutine → List TypedStatement → Type 0
AllFit scope n [] body = BodyFits scope body
AllFit scope n (s ∷ ss) body =
    BodyFits (record scope { own = sizes_from 0 s.parameters }) s.body
    × AllFit (record scope { taken = λ i. if_number n i s.parameters (scope.taken i) }) (suc n) ss body

abbrev pub main_scope : Typed → Scope
main_scope typed = record { qubits = typed.qubits; gates = typed.gates; taken = λ i. []; own = λ i. 0 }

abbrev pub IsWellFormed : Typed → Type 0
IsWellFormed typed = GatesFit typed.gates × AllFit (main_scope typed) 0 typed.subroutines typed.body
