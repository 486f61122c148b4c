-- Judging a declared gate (OpenQASM 3.0 live specification, "Gates", hierarchically defined unitary gates, and "Scoping of variables"; Cross
-- et al. 2022): its parameters and qubits stand in a scope of their own.
use Rattle.std.specs.Prelude.{◌≡◌, ◌≢◌, [], Ok}
use Rattle.qt_gate_calls.specs.declared.body.GateBody.{GateBody}
use Rattle.qt_tree.specs.declared.program.GateItem.{GateItem}
use Rattle.qt_typing.specs.GateItems.{gate_body_of}
use Rattle.qt_typing.specs.declared.state.State.{State}

-- where the bodies of gates see some scope, as in every program, what stands behind a gate's body is what stood before it
abbrev pub JudgedGatesChangeNothing : Type 0
JudgedGatesChangeNothing =
    (gate : GateItem) (before behind : State) (body : GateBody) → before.inside.scopes ≢ []
    → gate_body_of gate before ≡ Ok (body, behind) → behind ≡ before
