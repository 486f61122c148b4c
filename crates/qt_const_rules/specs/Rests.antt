-- Divisions that leave a rest: OpenQASM 3.0 live specification, "Types and Casting", angles; Cross et al. 2022.
-- A division of whole numbers drops its rest, but inside a phase and in the exponent of `pow` none may be left.
use Rattle.std.specs.Prelude.{◌&&◌, nat_eq, Bool, false, not, Option, Some, None}
use Rattle.qt_value.specs.Numbers.{Datum}
use Rattle.qt_value.specs.Results.{result_of}
use Rattle.qt_value.specs.Types.{is_whole}
use Rattle.qt_value.specs.declared.operators.Op.{Op}
use Rattle.qt_value.specs.declared.operators.Op.TheVariants as op
use Rattle.qt_const_rules.specs.declared.modes.Mode.{Mode}
use Rattle.qt_const_rules.specs.declared.modes.Mode.TheVariants as mode

abbrev pub is_rest : Option Datum → Bool
is_rest None = false
is_rest (Some x) = not (nat_eq x.bits 0)

-- a division of whole numbers that leaves a rest
abbrev pub leaves_rest : Op → Datum → Datum → Bool
leaves_rest op.Div x y = is_whole x.kind && is_whole y.kind && is_rest (result_of op.Rem x y)
leaves_rest _ x y = false

-- and inside a phase
abbrev pub is_inexact : Mode → Op → Datum → Datum → Bool
is_inexact mode.Exact op x y = leaves_rest op x y
is_inexact m op x y = false
