-- What the bodies of gates see (OpenQASM 3.0 live specification, "Gates", hierarchically defined unitary gates; Cross et al. 2022): names
-- that stand for no qubits, and the gates before, each with the number of qubits of its body.
use Rattle.std.specs.Prelude.{◌≡◌, ℕ, ◌<◌, List, [], Some, None, length}
use Rattle.qt_gate_calls.specs.declared.body.Called.{Called}
use Rattle.qt_gate_calls.specs.declared.body.Called.TheVariants as called
use Rattle.qt_gate_calls.specs.declared.body.GateBody.{GateBody}
use Rattle.qt_names.specs.declared.named.Named.{Named}
use Rattle.qt_meaning.specs.WellFormed.{call_size, gate_sizes}
use Rattle.qt_typing.specs.Gates.{Gate, gate_of_kind}
use Rattle.qt_typing.specs.Qubits.{qubits_of}
use Rattle.qt_typing.specs.declared.state.State.{State}
use Rattle.qt_typing_laws.specs.Fits.{InScopes}
use Rattle.qt_typing_laws.specs.Seen.{HasStandardGates}

-- the gate stands before the one with that number
abbrev pub IsBelow : ℕ → Called → Type 0
IsBelow n called.U = Unit {0}
IsBelow n called.GlobalPhase = Unit {0}
IsBelow n (called.Gate i) = i < n

-- one of these gates, with the number of qubits that its name is told to have
pub record IsGateOf (gates : List GateBody) (gate : Gate) : Type 0 where
  pub size : call_size (gate_sizes gates) [] gate.called ≡ gate.qubits
  pub before : IsBelow (length gates) gate.called

-- a name that a body sees
pub record IsInside (gates : List GateBody) (it : Named) : Type 0 where
  pub no_qubits : qubits_of it ≡ None
  pub gate : (gate : Gate) → gate_of_kind it.what it ≡ Some gate → IsGateOf gates gate

-- all that a body sees
pub record SeesGates (s : State) : Type 0 where
  pub names : InScopes (IsInside s.gates) s.inside.scopes
  pub standard : HasStandardGates s.gates
