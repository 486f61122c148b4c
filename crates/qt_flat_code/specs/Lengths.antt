-- How many instructions an expression has, and what stores or measures, by cases on the tree (flat code is this profile's; OpenQASM 3.0
-- live specification, "Classical instructions" and "Types and Casting"). Jumps ahead are to numbers that are reckoned from these.
use Rattle.std.specs.Prelude.{ℕ, zero, suc, ◌+◌, ◌*◌, List, [], ◌∷◌, length, Option, Some, None}
use Rattle.qt_typed.specs.Choices.{qubit_count}
use Rattle.qt_typed.specs.declared.call.TypedQubit.{TypedQubit}
use Rattle.qt_typed.specs.declared.call.TypedQubit.TheVariants as qubit
use Rattle.qt_typed.specs.declared.call.TypedQubits.{TypedQubits}
use Rattle.qt_typed.specs.declared.call.TypedQubits.TheVariants as qubits
use Rattle.qt_typed.specs.declared.expression.Logical.{Logical}
use Rattle.qt_typed.specs.declared.expression.Logical.TheVariants as logical
use Rattle.qt_typed.specs.declared.expression.TypedExpr.{TypedExpr, Row_of-TypedExpr, end_of-TypedExpr, more_of-TypedExpr}
use Rattle.qt_typed.specs.declared.expression.TypedStep.{TypedStep}
use Rattle.qt_typed.specs.declared.expression.TypedStep.TheVariants as step
use Rattle.qt_typed.specs.declared.expression.TypedTarget.{TypedTarget}
use Rattle.qt_typed.specs.declared.expression.TypedVariable.{TypedVariable}
use Rattle.qt_typed.specs.declared.expression.TypedVariable.TheVariants as variable
use Rattle.qt_flat_code.specs.Bits.{Bits, AllBits, EveryBit, OneBit, bits_of, first_bits, sliced}
use Rattle.qt_typed.specs.declared.expression.TypedExpr.TheVariants.{Constant, Slot, Element', Bit', Slice', Convert', Unary', Binary', ExactQuotient', Logical'}

-- the jumps between both sides of `&&` and of `||`
abbrev pub jumps_of : Logical → ℕ
jumps_of logical.And = 2
jumps_of logical.Or = 1

abbrev mutual
  pub expression_length : TypedExpr → ℕ
  expression_length (Constant value) = 1
  expression_length (Slot kind slot) = 1
  expression_length (Element' kind slot lengths k indexes) = 1 + (place_length lengths indexes + 1)
  expression_length (Bit' k (more_of-TypedExpr of end_of-TypedExpr) m (more_of-TypedExpr index end_of-TypedExpr)) =
      expression_length of + (expression_length index + 1)
  expression_length (Slice' k (more_of-TypedExpr of end_of-TypedExpr) start step count) = expression_length of + (1 + (4 * count + 1))
  expression_length (Convert' to k (more_of-TypedExpr operand end_of-TypedExpr)) = expression_length operand + 1
  expression_length (Unary' operator k (more_of-TypedExpr operand end_of-TypedExpr)) = expression_length operand + 1
  expression_length (Binary' operator k (more_of-TypedExpr left end_of-TypedExpr) m (more_of-TypedExpr right end_of-TypedExpr)) =
      expression_length left + (expression_length right + 1)
  expression_length (ExactQuotient' k (more_of-TypedExpr left end_of-TypedExpr) m (more_of-TypedExpr right end_of-TypedExpr)) =
      expression_length left + (expression_length right + 3)
  expression_length (Logical' operator k (more_of-TypedExpr left end_of-TypedExpr) m (more_of-TypedExpr right end_of-TypedExpr)) =
      expression_length left + (jumps_of operator + expression_length right)

  -- the place of an element by its indexes
  pub place_length : {m : _} → List ℕ → Row_of-TypedExpr m → ℕ
  place_length [] indexes = 0
  place_length (length ∷ lengths) end_of-TypedExpr = 0
  place_length (length ∷ lengths) (more_of-TypedExpr index rest) = expression_length index + (7 + place_length lengths rest)

-- ---- variables

abbrev pub indexes_length : List ℕ → List TypedExpr → ℕ
indexes_length (length ∷ lengths) (index ∷ rest) = expression_length index + (7 + indexes_length lengths rest)
indexes_length _ _ = 0

abbrev pub variable_length : TypedVariable → ℕ
variable_length (variable.Slot kind slot) = 0
variable_length (variable.Element kind slot lengths indexes) = 1 + indexes_length lengths indexes

-- ---- bits of a variable

abbrev pub bit_length : Bits → ℕ
bit_length AllBits = 0
bit_length (EveryBit first step count) = 9
bit_length OneBit = 1

abbrev pub steps_length : List TypedStep → Bits → ℕ
steps_length [] bits = 0
steps_length (step.At index ∷ steps) bits = expression_length index + (bit_length bits + steps_length steps OneBit)
steps_length (step.Slice start by count ∷ steps) bits = steps_length steps (sliced start by count bits)

abbrev pub target_steps_length : TypedTarget → ℕ
target_steps_length target = steps_length target.steps (first_bits target)

-- ---- targets

abbrev pub location_length : TypedTarget → ℕ
location_length target = variable_length target.variable + target_steps_length target

abbrev pub loading_length : Bits → ℕ
loading_length AllBits = 1
loading_length (EveryBit first step count) = 2 + 4 * count
loading_length OneBit = 2

abbrev pub storing_length : Bits → ℕ
storing_length AllBits = 1
storing_length (EveryBit first step count) = 1 + (4 * count + 1)
storing_length OneBit = 3

abbrev pub target_length : TypedTarget → ℕ
target_length target = location_length target + storing_length (bits_of target)

-- ---- several slots

abbrev pub values_length : List TypedExpr → ℕ
values_length [] = 0
values_length (e ∷ es) = expression_length e + values_length es

abbrev pub zeros_length : ℕ → ℕ
zeros_length zero = 0
zeros_length (suc count) = 2 + count

-- ---- statements that store values

abbrev pub array_length : Option (List TypedExpr) → ℕ → ℕ
array_length None count = zeros_length count
array_length (Some values) count = values_length values + length values

abbrev pub update_length : TypedTarget → TypedExpr → ℕ
update_length target value =
    expression_length value + (location_length target + (loading_length (bits_of target) + (2 + storing_length (bits_of target))))

-- ---- qubits

-- a single qubit that is known in the run
abbrev pub qubit_length : TypedQubit → ℕ
qubit_length (qubit.Fixed q) = 0
qubit_length (qubit.Slot slot) = 1
qubit_length (qubit.Indexed register index) = expression_length index + 1

abbrev pub qubits_length : TypedQubits → ℕ
qubits_length (qubits.Single q) = qubit_length q
qubits_length (qubits.Register register) = 0

-- behind the qubit, so many instructions for the target's place, and then a choice for each qubit
abbrev pub choosing_length : TypedQubits → ℕ → ℕ
choosing_length qs n = qubits_length qs + (n + qubit_count qs)

abbrev pub optional_steps_length : Option TypedTarget → ℕ
optional_steps_length None = 0
optional_steps_length (Some target) = target_steps_length target
