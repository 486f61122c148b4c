-- What a statement sees of qubits, gates and subroutines, where it is sound (OpenQASM 3.0 live specification, "Gates", "Subroutines" and
-- "Quantum types"; Cross et al. 2022): a name that stands for qubits names qubits of the program or of the subroutine's parameters, the
-- name of a gate has the number of qubits that the gate's body has, and each subroutine so far takes what the scope says.
use Rattle.std.specs.Prelude.{◌≡◌, ℕ, List, [], Option, Some, None, slice_get}
use Rattle.qt_gate_calls.specs.Standard.{StandardGate, standard_gates}
use Rattle.qt_gate_calls.specs.declared.body.GateBody.{GateBody}
use Rattle.qt_names.specs.declared.named.Named.{Named}
use Rattle.qt_typed.specs.declared.call.TypedQubits.{TypedQubits}
use Rattle.qt_typed.specs.declared.program.TypedSubroutine.{TypedSubroutine}
use Rattle.qt_typed.specs.declared.statement.TypedStatement.{TypedStatement}
use Rattle.qt_meaning.specs.WellFormed.{ActionFits, EachAction, QubitsFit, Scope, call_size, gate_sizes}
use Rattle.qt_typing.specs.Gates.{Gate, gate_of_kind}
use Rattle.qt_typing.specs.Qubits.{qubits_of}
use Rattle.qt_typing.specs.declared.state.State.{State}
use Rattle.qt_typing_laws.specs.Fits.{InScopes}

-- a gate that is called has the number of qubits that its name is told to have
abbrev pub GateFits : Scope → Gate → Type 0
GateFits scope gate = call_size (gate_sizes scope.gates) [] gate.called ≡ gate.qubits

-- what a name stands for
pub record NamedIsSeen (scope : Scope) (it : Named) : Type 0 where
  pub qubits : (of : TypedQubits) → qubits_of it ≡ Some of → QubitsFit scope of
  pub gate : (gate : Gate) → gate_of_kind it.what it ≡ Some gate → GateFits scope gate

-- the standard gates come first
abbrev pub HasStandardGates : List GateBody → Type 0
HasStandardGates gates = (n : ℕ) (g : StandardGate) → slice_get standard_gates n ≡ Some g → gate_sizes gates n ≡ g.body.qubits

-- all that a statement sees
pub record IsSeen (scope : Scope) (s : State) : Type 0 where
  pub names : InScopes (NamedIsSeen scope) s.names.scopes
  pub inside : InScopes (NamedIsSeen scope) s.inside.scopes
  pub gates : s.all_gates ≡ scope.gates
  pub standard : HasStandardGates scope.gates
  pub subroutines : (n : ℕ) (f : TypedSubroutine) → slice_get s.subroutines n ≡ Some f → scope.taken n ≡ f.parameters

-- ---- what statements are typed as

-- each action in it is well formed. What does nothing when it runs has no typed form
abbrev pub StatementFits : Scope → Option TypedStatement → Type 0
StatementFits scope None = Unit {0}
StatementFits scope (Some statement) = EachAction (ActionFits scope) statement
