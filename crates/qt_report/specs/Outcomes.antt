-- A distribution as it is reported: the layout of the output variables, and each output value with its probability
-- (OpenQASM 3.0 live specification, "Input/output": a program without output declarations gives all its classical variables).
use Rattle.std.specs.Prelude.{ℕ, List}
use Rattle.qt_report.specs.declared.distribution.Chance.{Chance}

-- a bit register that is printed, by its name and its number of bits
pub record BitRegister : Type 0 where
  pub name : List ℕ
  pub width : ℕ

-- an output value has one number for each register of the layout
pub record Outcomes : Type 0 where
  pub layout : List BitRegister
  pub chances : List Chance
