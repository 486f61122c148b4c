-- The flat code of gate calls and broadcasts means what they mean (flat code is this profile's; OpenQASM 3.0 live specification,
-- "Gates", applying gates; Cross et al. 2022).
use Rattle.std.specs.Prelude.{◌≡◌, ℕ, ◌+◌, List}
use Rattle.qt_tree.specs.declared.place.Place.{Place}
use Rattle.qt_typed.specs.declared.call.GateUse.{GateUse}
use Rattle.qt_typed.specs.declared.call.TypedQubit.{TypedQubit}
use Rattle.qt_typed.specs.declared.call.TypedQubits.{TypedQubits}
use Rattle.qt_meaning.specs.Applying.{calls_from, gate_call}
use Rattle.qt_meaning.specs.Places.{Site}
use Rattle.qt_meaning.specs.WellFormed.{Scope}
use Rattle.qt_instructions.specs.declared.parts.Parts.{Parts}
use Rattle.qt_flat_code.specs.GateCalls.{broadcast_code, broadcast_length, gate_call_code, gate_call_length}
use Rattle.qt_flat_expressions.specs.Lands.{StandsAt}
use Rattle.qt_flat_gate_calls.specs.Fits.{BroadcastFits, GateCallFits, SiteFits}
use Rattle.qt_flat_gate_calls.specs.Landing.{RunLands}

-- wherever the code of a gate call that fits stands, whatever else the code has, it does what the call means
abbrev pub GateCallsLand : Type 0
GateCallsLand =
    (code : Parts) (place : Place) (scope : Scope) (site : Site) (slots : ℕ) (used : GateUse) (operands : List TypedQubit) (at : ℕ)
    → site.qubits ≡ code.qubits → SiteFits scope site → GateCallFits scope site slots used operands
    → StandsAt code place at (gate_call_code site used operands at)
    → RunLands code at (at + gate_call_length site used operands) (gate_call site place used operands)

-- and that of a broadcast does what its calls mean, one after another
abbrev pub BroadcastsLand : Type 0
BroadcastsLand =
    (code : Parts) (place : Place) (scope : Scope) (site : Site) (slots : ℕ) (used : GateUse) (operands : List TypedQubits) (size at : ℕ)
    → site.qubits ≡ code.qubits → SiteFits scope site → BroadcastFits scope site slots used operands size
    → StandsAt code place at (broadcast_code site used operands 0 size at)
    → RunLands code at (at + broadcast_length site used operands 0 size) (calls_from site place used operands 0 size)

-- the code has as many instructions wherever it is put in
abbrev pub LengthsAreOne : Type 0
LengthsAreOne = (site other : Site) (used : GateUse) (operands : List TypedQubit) → gate_call_length site used operands ≡ gate_call_length other used operands

abbrev pub BroadcastLengthsAreOne : Type 0
BroadcastLengthsAreOne =
    (site other : Site) (used : GateUse) (operands : List TypedQubits) (i count : ℕ)
    → broadcast_length site used operands i count ≡ broadcast_length other used operands i count
