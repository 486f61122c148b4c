-- Arithmetic of phases in work cells, and the types of values in it (flat code is this profile's; OpenQASM 3.0 live specification, "Types and
-- Casting", angles).
use Rattle.std.specs.Prelude.{Bool, true, ◌&&◌, zero, ℤ, pos, Some, None}
use Rattle.qt_value.specs.Types.{has_size}
use Rattle.qt_gate_calls.specs.Units.{KnownUnits}
use Rattle.qt_instructions.specs.declared.angle.AngleOperation.{AngleOperation}
use Rattle.qt_instructions.specs.declared.angle.AngleOperation.TheVariants as phase
use Rattle.qt_code.specs.Ranges.{is_angle}

-- no angle, or nothing
abbrev pub if_nothing : ℤ → KnownUnits
if_nothing (pos zero) = Some (pos 0)
if_nothing units = None

-- the operands' types have sizes
abbrev pub has_kinds : AngleOperation → Bool
has_kinds (phase.Step step) = true
has_kinds (phase.OfAngle value) = has_size value.kind && is_angle value.kind
has_kinds (phase.Product of factor) = has_size factor.kind
has_kinds (phase.Quotient of divisor) = has_size divisor.kind
has_kinds (phase.NoRest value) = has_size value.kind
