-- Reckoning the angles in the bodies of gates (OpenQASM 3.0 live specification, "Gates", hierarchically defined unitary gates, and "Types
-- and Casting", angles; Cross et al. 2022; work cells are this profile's). What is fixed is reckoned at once; each other operator is one
-- step, whose result goes to the next work cell.
use Rattle.std.specs.Prelude.{ℕ, ◌+◌, List, [], ◌∷◌, ◌++◌, length, Some, None}
use Rattle.qt_gate_calls.specs.declared.angle.Angle.{Angle}
use Rattle.qt_gate_calls.specs.declared.angle.Angle.TheOpen as form
use Rattle.qt_gate_calls.specs.declared.angle.Angle.TheOpen.{Angle-F}
use Rattle.qt_gate_calls.specs.declared.angle.Angle.TheFolds.{fold-Angle}
use Rattle.qt_gate_calls.specs.Units.{KnownUnits, of_one, of_two, sum_of, difference_of, negative_of, product_of, quotient_of}
use Rattle.qt_instructions.specs.declared.angle.AngleArg.{AngleArg}
use Rattle.qt_instructions.specs.declared.angle.AngleArg.TheVariants as arg
use Rattle.qt_instructions.specs.declared.angle.AngleStep.{AngleStep}
use Rattle.qt_instructions.specs.declared.angle.AngleStep.TheVariants.{Add, Sub, Neg, Times, Over}
use Rattle.qt_primitives.specs.declared.unit.Argument.{Argument}
use Rattle.qt_primitives.specs.declared.unit.Argument.TheVariants.{Fixed, Cell}
pub use Rattle.qt_primitives.specs.Primitives.{argument_at}
use Rattle.qt_modify.specs.declared.unit.Steps.{Steps}

-- ---- steps

-- what work cells hold, by their numbers
abbrev pub Cells : Type 0
Cells = ℕ → KnownUnits

abbrev pub none_known : Cells
none_known cell = None

abbrev pub held : Cells → AngleArg → KnownUnits
held cells (arg.Units units) = Some units
held cells (arg.Work cell) = cells cell

-- what a step gives: nothing where it faults
abbrev pub result_of : Cells → AngleStep → KnownUnits
result_of cells (Add a b) = of_two sum_of (held cells a) (held cells b)
result_of cells (Sub a b) = of_two difference_of (held cells a) (held cells b)
result_of cells (Neg a) = of_one negative_of (held cells a)
result_of cells (Times a k) = of_one (product_of k) (held cells a)
result_of cells (Over a k) = of_one (quotient_of k) (held cells a)

-- ---- reckoning

abbrev pub arg_of : Argument → AngleArg
arg_of (Fixed units) = arg.Units units
arg_of (Cell cell) = arg.Work cell

pub record Reckoned : Type 0 where
  pub steps : Steps
  pub angle : Argument

-- after the steps so far
abbrev pub Reckoner : Type 0
Reckoner = Steps → Reckoned

abbrev pub with_step : Steps → AngleStep → Steps
with_step steps step = record steps { steps = steps.steps ++ (step ∷ []) }

-- one operator more, of which the result is known or not
abbrev pub settled : Steps → AngleStep → KnownUnits → Reckoned
settled steps step (Some units) = record { steps = steps; angle = Fixed units }
settled steps step None = record { steps = with_step steps step; angle = Cell (steps.first + length steps.steps) }

-- an operator is fixed where its result is known without any cell
abbrev pub operated : Steps → AngleStep → Reckoned
operated steps step = settled steps step (result_of none_known step)

abbrev pub operated_one : (AngleArg → AngleStep) → Reckoner → Reckoner
operated_one operator a steps =
    let of = a steps in
    operated of.steps (operator (arg_of of.angle))

abbrev pub operated_two : (AngleArg → AngleArg → AngleStep) → Reckoner → Reckoner → Reckoner
operated_two operator a b steps =
    let left = a steps in
    let right = b left.steps in
    operated right.steps (operator (arg_of left.angle) (arg_of right.angle))

-- one form of an angle, where its parts are reckoned so
abbrev pub reckoned_form : List Argument → Angle-F Reckoner → Reckoner
reckoned_form given (form.Units units) = λ steps. record { steps = steps; angle = Fixed units }
reckoned_form given (form.Parameter number) = λ steps. record { steps = steps; angle = argument_at number given }
reckoned_form given (form.Sum a b) = operated_two Add a b
reckoned_form given (form.Difference a b) = operated_two Sub a b
reckoned_form given (form.Opposite a) = operated_one Neg a
reckoned_form given (form.Product a factor) = operated_one (λ of. Times of factor) a
reckoned_form given (form.Quotient a divisor) = operated_one (λ of. Over of divisor) a

-- an angle for the arguments of its gate
abbrev pub reckoned : List Argument → Angle → Reckoner
reckoned given = fold-Angle Reckoner (reckoned_form given)
