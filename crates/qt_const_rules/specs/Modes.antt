-- How the parts of a constant expression are reckoned: OpenQASM 3.0 live specification, "Classical instructions", and "Types and
-- Casting", compile-time constants and angles; Cross et al. 2022. Where the left side of `&&` or `||` decides, the right side isn't
-- evaluated. The operands of an operator that gives a phase are reckoned exactly, and what a type or a slice depends on is evaluated.
use Rattle.std.specs.Prelude.{Bool, true, false, not, if◌then◌else◌, Ok, Err}
use Rattle.qt_tree.specs.declared.expression.InfixOperator.{InfixOperator}
use Rattle.qt_tree.specs.declared.expression.InfixOperator.TheVariants as infixes
use Rattle.qt_value.specs.declared.constant.ConstValue.{ConstValue}
use Rattle.qt_const_rules.specs.declared.modes.Mode.{Mode}
use Rattle.qt_const_rules.specs.declared.modes.Mode.TheVariants as mode
use Rattle.qt_const_rules.specs.declared.modes.Way.{Way}
use Rattle.qt_const_rules.specs.declared.modes.Way.TheVariants as way
use Rattle.qt_const_rules.specs.declared.sorts.Sort.{Sort}
use Rattle.qt_const_rules.specs.declared.sorts.Sort.TheVariants as sort
use Rattle.qt_const_rules.specs.Answers.{Answer, truth_of_constant}

-- the left side that decides: false for `&&`, and true for `||`
abbrev pub deciding : InfixOperator → Bool
deciding infixes.LogicalOr = true
deciding _ = false

-- the left side of `&&` or `||` decides
abbrev pub decides : InfixOperator → Bool → Bool
decides operator true = deciding operator
decides operator false = not (deciding operator)

abbrev pub mode_behind : Mode → InfixOperator → Answer Bool → Mode
mode_behind m operator (Ok left) = if decides operator left then mode.Unevaluated else m
mode_behind m operator (Err e) = m

-- how the right side is reckoned behind this left side
abbrev pub right_mode : Mode → InfixOperator → ConstValue → Mode
right_mode m operator left = mode_behind m operator (truth_of_constant left)

-- how the operands of an operator are reckoned: exactly where it gives a phase
abbrev pub mode_in : Mode → Sort → Mode
mode_in m sort.Phase = mode.Exact
mode_in m _ = m

abbrev pub is_sum : InfixOperator → Bool
is_sum infixes.Add = true
is_sum infixes.Sub = true
is_sum _ = false

-- how an operand of the first sort is reckoned beside one of the second: a whole number in a sum with a phase is typed first
abbrev pub way_of : InfixOperator → Mode → Sort → Sort → Way
way_of operator m sort.Whole sort.Phase = if is_sum operator then way.BesidePhase else way.In m
way_of operator m own other = way.In m

-- how a constant is reckoned that a type or a slice depends on
abbrev pub mode_of_size : Mode → Mode
mode_of_size mode.Unevaluated = mode.Plain
mode_of_size m = m
