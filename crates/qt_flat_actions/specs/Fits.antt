-- Which statements without bodies have a theorem here, and fit where they stand (OpenQASM 3.0 live specification, "Classical instructions" and
-- "Built-in quantum instructions"): all but calls of subroutines, those that jump, the end of the program, and measurements into bits of a target.
use Rattle.std.specs.Prelude.{◌≡◌, ℕ, suc, ◌≤◌, [], ◌∷◌, Some, None, slice_get}
use Rattle.qt_typed.specs.Choices.{qubit_count}
use Rattle.qt_typed.specs.declared.call.TypedQubits.{TypedQubits}
use Rattle.qt_typed.specs.declared.statement.TypedAction.{TypedAction}
use Rattle.qt_typed.specs.declared.statement.TypedAction.TheVariants as action
use Rattle.qt_typed.specs.declared.statement.TypedRight.TheVariants as right
use Rattle.qt_meaning.specs.Places.{Site}
use Rattle.qt_meaning.specs.WellFormed.{Scope}
use Rattle.qt_instructions.specs.declared.parts.Parts.{Parts}
use Rattle.qt_code.specs.Tail.{lines}
use Rattle.qt_flat_code.specs.Statements.{Lines}
use Rattle.qt_flat_expressions.specs.Fits.{ExpressionFits}
use Rattle.qt_flat_storing.specs.Fits.{TargetFits}
use Rattle.qt_flat_storing.specs.Laws.{values_fit}
use Rattle.qt_flat_gate_calls.specs.Fits.{BroadcastFits, GateCallFits, SiteFits}
use Rattle.qt_flat_measuring.specs.Laws.{ChoicesFit, IsWholeTarget}

-- the instructions stand in the code from the number `at` on, one after another, each with its place of the text
abbrev pub LinesStand : Parts → ℕ → Lines → Type 0
LinesStand code at [] = Unit {0}
LinesStand code at (l ∷ ls) = (slice_get (lines code) at ≡ Some l) × LinesStand code (suc at) ls

-- outcomes that fit a slot
abbrev pub OutcomesFit : Parts → Scope → Site → ℕ → TypedQubits → ℕ → Type 0
OutcomesFit code scope site slots qs at = ChoicesFit code scope site slots qs at × (qubit_count qs ≤ 64)

-- the code of the action begins at the instruction `at`
abbrev pub ActionFits : Parts → Scope → Site → ℕ → ℕ → TypedAction → Type 0
ActionFits code scope site slots at (action.Declare kind slot None) = Unit {0}
ActionFits code scope site slots at (action.Declare kind slot (Some (right.Value value))) = ExpressionFits slots value
ActionFits code scope site slots at (action.Declare kind slot (Some (right.Measure qs))) = OutcomesFit code scope site slots qs at
ActionFits code scope site slots at (action.DeclareArray kind slot count values) = values_fit slots count values
ActionFits code scope site slots at (action.Assign target (right.Value value)) = ExpressionFits slots value × TargetFits slots target
ActionFits code scope site slots at (action.Assign target (right.Measure qs)) =
    OutcomesFit code scope site slots qs at × IsWholeTarget target site.base
ActionFits code scope site slots at (action.Update target operator value) = ExpressionFits slots value × TargetFits slots target
ActionFits code scope site slots at (action.Measure qs None) = ChoicesFit code scope site slots qs at
ActionFits code scope site slots at (action.Measure qs (Some target)) = OutcomesFit code scope site slots qs at × IsWholeTarget target site.base
ActionFits code scope site slots at (action.Reset qs) = ChoicesFit code scope site slots qs at
ActionFits code scope site slots at action.Barrier = Unit {0}
ActionFits code scope site slots at (action.Gate call) =
    (site.qubits ≡ code.qubits) × SiteFits scope site × GateCallFits scope site slots call.used call.operands
ActionFits code scope site slots at (action.Broadcast call) =
    (site.qubits ≡ code.qubits) × SiteFits scope site × BroadcastFits scope site slots call.used call.operands call.size
ActionFits code scope site slots at _ = ⊥
