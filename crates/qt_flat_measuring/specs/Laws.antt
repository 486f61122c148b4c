-- The flat code of measurements and resets means what they mean (flat code is this profile's; OpenQASM 3.0 live specification, "Built-in
-- quantum instructions", measurement and reset; Cross et al. 2022). A choice is numbered by how many stand before it in the code, so the code
-- is to stand where as many do as the site says.
use Rattle.std.specs.Prelude.{◌≡◌, ℕ, ◌+◌, ◌≤◌, List, [], Some, None, Ok}
use Rattle.qt_tree.specs.declared.place.Place.{Place}
use Rattle.qt_typed.specs.Choices.{qubit_count}
use Rattle.qt_typed.specs.declared.call.TypedQubits.{TypedQubits}
use Rattle.qt_meaning.specs.Measuring.{measurement, resetting}
use Rattle.qt_typed.specs.declared.expression.TypedTarget.{TypedTarget}
use Rattle.qt_meaning.specs.Places.{Site, Whole, slot_of}
use Rattle.qt_meaning.specs.Statements.{optional_target}
use Rattle.qt_meaning.specs.WellFormed.{QubitsFit, Scope}
use Rattle.qt_instructions.specs.declared.parts.Parts.{Parts}
use Rattle.qt_code.specs.Tail.{choices_before}
use Rattle.qt_flat_code.specs.Lengths.{choosing_length}
use Rattle.qt_flat_code.specs.Measuring.{constant_slot, measure_code, measure_slot_code, reset_code}
use Rattle.qt_flat_expressions.specs.Lands.{StandsAt}
use Rattle.qt_flat_gate_calls.specs.Fits.{OperandIndexFits, SiteFits}
use Rattle.qt_flat_gate_calls.specs.Landing.{RunLands}

-- where a piece of code with choices stands, and on which qubits it is
pub record ChoicesFit (code : Parts) (scope : Scope) (site : Site) (slots : ℕ) (qs : TypedQubits) (at : ℕ) : Type 0 where
  pub program : site.qubits ≡ code.qubits
  pub stands : SiteFits scope site
  pub qubits : QubitsFit scope qs
  pub index : OperandIndexFits slots qs
  pub before : choices_before at code.instructions ≡ site.choices

-- a reset of one qubit, or of a register qubit by qubit
abbrev pub ResetsLand : Type 0
ResetsLand =
    (code : Parts) (place : Place) (scope : Scope) (site : Site) (slots : ℕ) (qs : TypedQubits) (at : ℕ) → ChoicesFit code scope site slots qs at
    → StandsAt code place at (reset_code qs site at) → RunLands code at (at + choosing_length qs 0) (resetting site place qs)

-- a measurement whose outcomes are dropped
abbrev pub MeasurementsLand : Type 0
MeasurementsLand =
    (code : Parts) (place : Place) (scope : Scope) (site : Site) (slots : ℕ) (qs : TypedQubits) (at : ℕ) → ChoicesFit code scope site slots qs at
    → StandsAt code place at (measure_code qs None site at)
    → RunLands code at (at + choosing_length qs 0) (measurement site place qs (λ store. Ok None))

-- a measurement into a whole slot, of at most 64 bits
abbrev pub SlotMeasurementsLand : Type 0
SlotMeasurementsLand =
    (code : Parts) (place : Place) (scope : Scope) (site : Site) (slots : ℕ) (qs : TypedQubits) (slot at : ℕ) → ChoicesFit code scope site slots qs at
    → qubit_count qs ≤ 64 → StandsAt code place at (measure_slot_code qs slot site at)
    → RunLands code at (at + choosing_length qs 0) (measurement site place qs (λ store. Ok (Some (Whole slot))))

-- a target that is a whole variable, or a whole element at constant indexes that are in range
pub record IsWholeTarget (target : TypedTarget) (base : ℕ) : Type 0 where
  pub steps : target.steps ≡ []
  pub slot : (store : List ℕ) → slot_of target.variable base store ≡ Ok (constant_slot target.variable base)

-- a measurement into such a target, of at most 64 bits
abbrev pub TargetMeasurementsLand : Type 0
TargetMeasurementsLand =
    (code : Parts) (place : Place) (scope : Scope) (site : Site) (slots : ℕ) (qs : TypedQubits) (target : TypedTarget) (at : ℕ)
    → ChoicesFit code scope site slots qs at → qubit_count qs ≤ 64 → IsWholeTarget target site.base
    → StandsAt code place at (measure_code qs (Some target) site at)
    → RunLands code at (at + choosing_length qs 0) (measurement site place qs (optional_target (Some target) site.base))
