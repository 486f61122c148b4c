-- What is answered of constants: OpenQASM 3.0 live specification, "Types and Casting", compile-time constants; Cross et al. 2022.
-- An answer is what is wanted, or the first fault. A constant is a classical value, by its type and its bits, or a phase, by its units of
-- π/2^32.
use Rattle.std.specs.Prelude.{zero, ℤ, pos, Bool, true, false, not, if◌then◌else◌, Option, Some, None, Result, Ok, Err}
use Rattle.qt_tree.specs.declared.refusal.Cause.TheVariants.{Range}
use Rattle.qt_value.specs.Numbers.{number_in}
use Rattle.qt_value.specs.Types.{is_whole}
use Rattle.qt_value.specs.declared.constant.ConstValue.{ConstValue}
use Rattle.qt_value.specs.declared.constant.ConstValue.TheVariants as constant
use Rattle.qt_const_rules.specs.declared.fault.ConstFault.{ConstFault}
use Rattle.qt_const_rules.specs.declared.fault.ConstFault.TheVariants as fault

abbrev pub Answer : Type 0 → Type 0
Answer X = Result X ConstFault

-- one thing after the other, up to the first fault
abbrev pub next : {X Y : Type 0} → Answer X → (X → Answer Y) → Answer Y
next (Ok x) rest = rest x
next (Err e) rest = Err e

-- a value where there is one, and else the fault
abbrev pub or_fault : {X : Type 0} → ConstFault → Option X → Answer X
or_fault e None = Err e
or_fault e (Some x) = Ok x

abbrev pub out_of_range : ConstFault
out_of_range = fault.Const Range

-- a whole number
abbrev pub whole_number : ConstValue → Answer ℤ
whole_number (constant.Value x) = if is_whole x.kind then Ok (number_in x) else Err fault.Type
whole_number (constant.Phase p) = Err fault.Type

abbrev pub is_zero : ℤ → Bool
is_zero (pos zero) = true
is_zero _ = false

-- a truth value: a whole number that isn't 0
abbrev pub truth_of_constant : ConstValue → Answer Bool
truth_of_constant c = next (whole_number c) (λ z. Ok (not (is_zero z)))
