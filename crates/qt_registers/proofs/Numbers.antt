-- The numbers of a run's qubits, and places one step apart.
use Rattle.std.proofs.Common.{ℕ, ◌+◌, ◌-◌, ◌*◌, ◌<◌, ◌≤◌, ◌^◌, arith, mul-le-mul_right}
use Rattle.qt_registers.specs.Origins.{bound_of}
use Rattle.qt_registers.specs.declared.run.Origin.{Origin}
use Rattle.qt_registers.specs.declared.run.Origin.TheVariants as origin
use Rattle.qt_registers.specs.declared.run.Run.{Run}

-- each place is before the last one
pub place_within : (start step count bound : ℕ) → start + (count - 1) * step < bound → (i : ℕ) → i < count → start + i * step < bound
place_within start step count bound h i below =
    let le : i ≤ count - 1 = omega arith in
    omega (arith, mul-le-mul_right step le)

pub number_within : (run : Run) (place : ℕ) → place < run.count → run.first + place * run.step < bound_of run.origin
number_within run place h = place_within run.first run.step run.count (bound_of run.origin) run.within place h

pub bound_of-le : (o : Origin) → bound_of o ≤ 2 ^ 63
bound_of-le origin.Program = omega arith
bound_of-le (origin.Parameter parameter) = omega arith
