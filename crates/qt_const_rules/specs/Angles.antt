-- Phases as angles: OpenQASM 3.0 live specification, "Types and Casting", angles; Cross et al. 2022.
-- An angle of n bits is a whole number of steps of 2π/2^n, and a phase a whole number of units of π/2^32. A phase is an angle where it is
-- a whole number of steps.
use Rattle.std.specs.Prelude.{ℕ, ◌-◌, ◌^◌, ℤ, pos, Result, Ok, Err}
use Rattle.qt_phase.specs.Phase.{exact_quotient}
use Rattle.qt_phase.specs.declared.phase.PhaseFault.{PhaseFault}
use Rattle.qt_tree.specs.declared.refusal.Cause.TheVariants.{Exact}
use Rattle.qt_value.specs.Numbers.{Datum, residue}
use Rattle.qt_value.specs.declared.types.ValueType.TheVariants as kind
use Rattle.qt_const_rules.specs.declared.fault.ConstFault.TheVariants as fault
use Rattle.qt_const_rules.specs.Answers.{Answer}

-- a step of an angle of n bits is 2^(33 − n) units: τ, which is 2^33 units, has 2^n steps
abbrev pub step_of : ℕ → ℤ
step_of n = pos (2 ^ (33 - n))

-- so many steps, round the circle
abbrev pub angle_at : ℕ → Result ℤ PhaseFault → Answer Datum
angle_at n (Ok steps) = Ok (record { kind = kind.Angle n; bits = residue n steps })
angle_at n (Err e) = Err (fault.Const Exact)

-- a phase as an angle of n bits, where it is a whole number of steps
unfoldable pub angle_of : ℕ → ℤ → Answer Datum
angle_of n units = angle_at n (exact_quotient units (step_of n))
