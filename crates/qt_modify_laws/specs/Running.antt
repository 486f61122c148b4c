-- The steps of an expansion run one after another (OpenQASM 3.0 live specification, "Gates"; Cross et al. 2022; steps and work cells are this
-- profile's). Each cell holds a number of units; a step reckons from cells and writes the next one, and a run ends at the first step that
-- faults: whose result or operand passes the bound of phases, or whose division leaves a rest.
use Rattle.std.specs.Prelude.{◌≡◌, ℕ, suc, ◌<◌, nat_eq, if◌then◌else◌, ℤ, is_some, List, [], ◌∷◌, map, Option, Some, None}
use Rattle.qt_gate_calls.specs.Faults.{all_reckoned}
use Rattle.qt_gate_calls.specs.Units.{KnownUnits}
use Rattle.qt_instructions.specs.declared.angle.AngleStep.{AngleStep}
use Rattle.qt_instructions.specs.declared.reference.QubitRef.{QubitRef}
use Rattle.qt_typed.specs.declared.call.GateUse.{GateUse}
use Rattle.qt_primitives.specs.declared.unit.Argument.{Argument}
use Rattle.qt_primitives.specs.declared.unit.Argument.TheVariants.{Fixed, Cell}
use Rattle.qt_modify.specs.declared.unit.Steps.{Steps}
use Rattle.qt_modify.specs.Reckoning.{Cells, result_of}
use Rattle.qt_modify.specs.Expansions.{no_qubit}
use Rattle.qt_modify.specs.Calls.{use_expansion}
use Rattle.qt_modify_laws.specs.Laws.{Holds, primitive_at, primitives_at}

-- ---- runs

-- the units that each cell holds, by the cells' numbers
abbrev pub UnitCells : Type 0
UnitCells = ℕ → ℤ

abbrev pub known_in : UnitCells → Cells
known_in cells cell = Some (cells cell)

-- the cells with one of them written
abbrev pub with_units : ℕ → ℤ → UnitCells → UnitCells
with_units cell units cells other = if nat_eq cell other then units else cells other

abbrev pub unless_fault : KnownUnits → (ℤ → Option UnitCells) → Option UnitCells
unless_fault None rest = None
unless_fault (Some units) rest = rest units

-- the cells after the steps, of which the first writes the cell with that number; nothing where one faults
abbrev pub run_from : ℕ → List AngleStep → UnitCells → Option UnitCells
run_from next [] cells = Some cells
run_from next (step ∷ steps) cells =
    unless_fault (result_of (known_in cells) step) (λ units. run_from (suc next) steps (with_units next units cells))

abbrev pub steps_run : Steps → UnitCells → Option UnitCells
steps_run steps cells = run_from steps.first steps.steps cells

-- ---- arguments in cells before one with that number

abbrev pub IsBelow : ℕ → Argument → Type 0
IsBelow n (Fixed units) = Unit {0}
IsBelow n (Cell cell) = cell < n

abbrev pub AreBelow : ℕ → List Argument → Type 0
AreBelow n [] = Unit {0}
AreBelow n (a ∷ rest) = IsBelow n a × AreBelow n rest

-- ---- the laws

-- the cells after a run hold what the steps give, and those before the first of the steps are as they were
abbrev pub RunsHold : Type 0
RunsHold =
    (used : GateUse) (given : List Argument) (qs : List QubitRef) (first : ℕ) → AreBelow first given → (cells new : UnitCells)
    → steps_run (use_expansion used given qs first).steps cells ≡ Some new
    → Holds (known_in new) (use_expansion used given qs first).steps × ((cell : ℕ) → cell < first → new cell ≡ cells cell)

-- a run faults exactly where an angle of the call's primitives can't be reckoned, for what the cells hold before it
abbrev pub RunsFault : Type 0
RunsFault =
    (used : GateUse) (given : List Argument) (qs : List QubitRef) (first : ℕ) → AreBelow first given → (place : QubitRef → ℕ)
    → place no_qubit ≡ 0 → (cells : UnitCells)
    → is_some (steps_run (use_expansion used given qs first).steps cells) ≡ all_reckoned (primitives_at (known_in cells) place used given qs)

-- the primitives, read in the cells after a run, are those of the call for what the cells hold before it
abbrev pub RunsGivePrimitives : Type 0
RunsGivePrimitives =
    (used : GateUse) (given : List Argument) (qs : List QubitRef) (first : ℕ) → AreBelow first given → (place : QubitRef → ℕ)
    → place no_qubit ≡ 0 → (cells new : UnitCells) → steps_run (use_expansion used given qs first).steps cells ≡ Some new
    → map (primitive_at place (known_in new)) (use_expansion used given qs first).primitives ≡ primitives_at (known_in cells) place used given qs
