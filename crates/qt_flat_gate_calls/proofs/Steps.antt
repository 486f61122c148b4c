-- The code of the steps of a call lands: it is a run of them on the units that the cells hold.
use mathlib.Core.Path.{fun_ext}
use Rattle.std.proofs.Common.{◌≡◌, ℕ, suc, ◌+◌, Bool, true, false, nat_eq, if◌then◌else◌, ℤ, Option, Some, None, List, [], ◌∷◌, length, refl, sym, ap, ◌∙◌, arith}
use Rattle.qt_tree.specs.declared.place.Place.{Place}
use Rattle.qt_value.specs.declared.types.ValueType.TheVariants as kind
use Rattle.qt_gate_calls.specs.Units.{KnownUnits, of_one, of_two, sum_of, difference_of, negative_of, product_of, quotient_of}
use Rattle.qt_meaning.specs.Points.{Point}
use Rattle.qt_meaning.specs.Values.{BadAngle, and_then, or_fault, number_of}
use Rattle.qt_instructions.specs.declared.angle.AngleArg.{AngleArg}
use Rattle.qt_instructions.specs.declared.angle.AngleArg.TheVariants as argument
use Rattle.qt_instructions.specs.declared.angle.AngleStep.{AngleStep}
use Rattle.qt_instructions.specs.declared.angle.AngleStep.TheVariants as step
use Rattle.qt_instructions.specs.declared.angle.AngleOperation.TheVariants as operation
use Rattle.qt_instructions.specs.declared.parts.Parts.{Parts}
use Rattle.qt_code.specs.Cells.{Cells, bits_of_units, step_result, units_by, with_cell}
use Rattle.qt_modify.specs.Reckoning.{held, result_of}
use Rattle.qt_modify_laws.specs.Running.{UnitCells, known_in, run_from, unless_fault, with_units}
use Rattle.qt_flat_code.specs.GateCalls.{steps_code}
use Rattle.qt_flat_expressions.specs.Lands.{StandsAt}
use Rattle.qt_flat_expressions.proofs.Numbers.{IsSmall}
use Rattle.qt_flat_gate_calls.proofs.Arguments.{units_of}
use Rattle.qt_flat_expressions.proofs.Arriving.{Gets, gets_fewer, gets_here, gets_same, gets_then}
use Rattle.qt_flat_gate_calls.proofs.Phases.{AllSmall, Written, angle_writes, number_back, small_sum, small_difference, small_negative, small_product, small_over, some_of}

-- ---- what a step gives

held_by : (a : AngleArg) (cells : Cells) → held (known_in (units_of cells)) a ≡ Some (units_by a cells)
held_by (argument.Units units) cells = refl
held_by (argument.Work cell) cells = refl

result_is : (s : AngleStep) (cells : Cells) → result_of (known_in (units_of cells)) s ≡ step_result s cells
result_is (step.Add a b) cells =
    ap (λ k. of_two sum_of k (held (known_in (units_of cells)) b)) (held_by a cells) ∙ ap (λ k. of_two sum_of (Some (units_by a cells)) k) (held_by b cells)
result_is (step.Sub a b) cells =
    ap (λ k. of_two difference_of k (held (known_in (units_of cells)) b)) (held_by a cells)
    ∙ ap (λ k. of_two difference_of (Some (units_by a cells)) k) (held_by b cells)
result_is (step.Neg a) cells = ap (of_one negative_of) (held_by a cells)
result_is (step.Times a k) cells = ap (of_one (product_of k)) (held_by a cells)
result_is (step.Over a k) cells = ap (of_one (quotient_of k)) (held_by a cells)

result_small : (s : AngleStep) (cells : Cells) → AllSmall (step_result s cells)
result_small (step.Add a b) cells = small_sum (units_by a cells) (units_by b cells)
result_small (step.Sub a b) cells = small_difference (units_by a cells) (units_by b cells)
result_small (step.Neg a) cells = small_negative (units_by a cells)
result_small (step.Times a k) cells = small_product k (units_by a cells)
result_small (step.Over a k) cells = small_over k (units_by a cells)

-- ---- a cell that is written

one_written : (b : Bool) (u : ℤ) (old : ℕ) → IsSmall u → number_of (kind.Int 64) (if b then bits_of_units u else old) ≡ (if b then u else number_of (kind.Int 64) old)
one_written true u old h = number_back u h
one_written false u old h = refl

written_units : (cell : ℕ) (u : ℤ) (cells : Cells) → IsSmall u → units_of (with_cell cell (bits_of_units u) cells) ≡ with_units cell u (units_of cells)
written_units cell u cells h = fun_ext (λ other. one_written (nat_eq cell other) u (cells other) h)

-- ---- a run

fault_through : (k : KnownUnits) (rest : ℤ → Option UnitCells)
    → and_then (or_fault BadAngle k) (λ u. or_fault BadAngle (rest u)) ≡ or_fault BadAngle (unless_fault k rest)
fault_through (Some u) rest = refl
fault_through None rest = refl

-- the cells hold these units
abbrev pub HoldUnits : UnitCells → Cells → Type 0
HoldUnits units new = units_of new ≡ units

module _ (code : Parts) (place : Place) (p : Point) where
  pub steps_get : (steps : List AngleStep) (next at to : ℕ) (cells : Cells) → StandsAt code place at (steps_code next steps)
      → at + length steps ≡ to → Gets code place p UnitCells at cells to next HoldUnits (or_fault BadAngle (run_from next steps (units_of cells)))
  steps_get [] next at to cells h t = gets_here code place p at cells to next HoldUnits (units_of cells) refl (omega (arith, t))
  steps_get (s ∷ steps) next at to cells h t =
      let k : KnownUnits = step_result s cells in
      let rest : ℤ → Option UnitCells = λ u. run_from (suc next) steps (with_units next u (units_of cells)) in
      gets_same code place p at cells to next HoldUnits (and_then (or_fault BadAngle k) (λ u. or_fault BadAngle (rest u))) _
      (fault_through k rest ∙ ap (λ r. or_fault BadAngle (unless_fault r rest)) (sym (result_is s cells)))
      (gets_then code place p at cells (suc at) next to next (Written next cells) HoldUnits (or_fault BadAngle k) (λ u. or_fault BadAngle (rest u)) (omega arith)
      (angle_writes code place p at next (suc at) cells (operation.Step s) k h.0 refl refl)
      (λ new u is holds kept.
      let e : units_of new ≡ with_units next u (units_of cells) =
      ap units_of holds ∙ written_units next u cells (result_small s cells u (some_of k u is)) in
      gets_fewer code place p (suc at) new to (suc next) next HoldUnits (or_fault BadAngle (rest u)) (omega arith)
      (gets_same code place p (suc at) new to (suc next) HoldUnits (or_fault BadAngle (run_from (suc next) steps (units_of new))) (or_fault BadAngle (rest u))
      (ap (λ units. or_fault BadAngle (run_from (suc next) steps units)) e)
      (steps_get steps (suc next) (suc at) to new h.1 (omega (arith, t))))))
