-- The masses of the leaves so far, by output value: what each output value holds, and the sum of all numerators, by which the
-- sums stay in range (OpenQASM 3.0 live specification, "Quantum measurement and reset").
use Rattle.std.specs.Prelude.{◌≡◌, ℕ, List, sum_by}
use Rattle.std.specs.Int.RustNames.{unsigned_abs}
use Rattle.std.specs.Map.{lookup, values_of}
use Rattle.std.specs.Option.{option_map_or}
use Rattle.qt_root2.specs.declared.mass.Mass.{Mass}
use Rattle.qt_root2.specs.Real.{Real, zero_real, plus_real}
use Rattle.qt_root2.specs.Masses.{real_of_mass}
use Rattle.qt_run.specs.Tree.{Point}
use Rattle.qt_run.specs.Distribution.{part, same_values, share}

-- each output value once, with the mass of its leaves
abbrev pub Masses : Type 0
Masses = List (List ℕ × Mass)

-- the real number that a mass stands for
unfoldable pub real_number : Mass → Real
real_number m = real_of_mass m

-- the mass at an output value, which is 0 where there is none
abbrev pub held : Masses → List ℕ → Real
held masses output = option_map_or real_number (lookup (same_values output) masses) zero_real

-- the whole part of a mass's numerator
abbrev pub whole_part : Mass → ℕ
whole_part m = unsigned_abs m.a

abbrev pub whole_part_held : Masses → List ℕ → ℕ
whole_part_held masses output = option_map_or whole_part (lookup (same_values output) masses) 0

-- the sum of the whole parts of all numerators
abbrev pub numerators : Masses → ℕ
numerators masses = sum_by whole_part (values_of masses)

-- the new masses are the old ones with a mass more at an output value
abbrev pub AddsAt : Masses → Masses → List ℕ → Real → Type 0
AddsAt old new output mass = (o : List ℕ) → held new o ≡ plus_real (held old o) (part (same_values output o) mass)

-- the new masses are the old ones with the masses of these leaves
abbrev pub Adds : Masses → Masses → List Point → Type 0
Adds old new leaves = (output : List ℕ) → held new output ≡ plus_real (held old output) (share leaves output)

-- at each output value, the masses are what the leaves have there
abbrev pub HoldsShares : Masses → List Point → Type 0
HoldsShares masses leaves = (output : List ℕ) → held masses output ≡ share leaves output
