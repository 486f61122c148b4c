-- The distribution of a program: to each output value the sum of |v|² over the leaves that have it, and what a list of
-- chances must be to be that distribution (OpenQASM 3.0 live specification, "Quantum measurement and reset").
use Rattle.std.specs.Prelude.{◌≡◌, ◌≢◌, ℕ, ◌<◌, ◌⊎◌, Bool, true, false, nat_eq, ◌&&◌, List, [], ◌∷◌, map, Contains, All, codes}
use Rattle.qt_root2.specs.Real.{Real, zero_real, one_real, plus_real}
use Rattle.qt_root2.specs.Masses.{real_of_reduced}
use Rattle.qt_mass.specs.Mass.{mass}
use Rattle.qt_first.specs.declared.program.Program.{Program}
use Rattle.qt_report.specs.declared.distribution.Chance.{Chance}
use Rattle.qt_report.specs.Outcomes.{BitRegister}
use Rattle.qt_report.specs.Report.{total_of}
use Rattle.qt_run.specs.Tree.{Point, leaves_of}

-- as long, and equal number by number
abbrev pub same_values : List ℕ → List ℕ → Bool
same_values [] [] = true
same_values (x ∷ xs) (y ∷ ys) = nat_eq x y && same_values xs ys
same_values _ _ = false

-- the number where the condition holds, and else 0
abbrev pub part : Bool → Real → Real
part true x = x
part false x = zero_real

-- what an output value has of the leaves
abbrev pub share : List Point → List ℕ → Real
share [] output = zero_real
share (leaf ∷ leaves) output = plus_real (part (same_values leaf.slots output) (mass leaf.state)) (share leaves output)

-- the first list of values comes before the second: the first number that differs decides, or the shorter list is first
abbrev pub Before : List ℕ → List ℕ → Type 0
Before [] [] = ⊥
Before [] (y ∷ ys) = Unit {0}
Before (x ∷ xs) [] = ⊥
Before (x ∷ xs) (y ∷ ys) = (x < y) ⊎ ((x ≡ y) × Before xs ys)

-- all output values come after this one
abbrev pub AllAfter : List ℕ → List Chance → Type 0
AllAfter output [] = Unit {0}
AllAfter output (c ∷ cs) = Before output c.output × AllAfter output cs

-- each output value comes before all that stand behind it
abbrev pub Ascend : List Chance → Type 0
Ascend [] = Unit {0}
Ascend (c ∷ cs) = AllAfter c.output cs × Ascend cs

-- the chances are the output values of probability other than 0, in ascending order, each with its probability
pub record IsDistribution (leaves : List Point) (chances : List Chance) : Type 0 where
  pub ascending : Ascend chances
  pub exact : All (λ c. real_of_reduced c.of ≡ share leaves c.output) chances
  pub possible : All (λ c. share leaves c.output ≢ zero_real) chances
  pub complete : (output : List ℕ) → share leaves output ≢ zero_real → Contains (map (λ c. c.output) chances) output

-- the register c is the one output
abbrev pub layout_of : Program → List BitRegister
layout_of p = record { name = codes "c"; width = p.bits } ∷ []

-- all probabilities are together 1
abbrev pub TotalIsOne : Program → Type 0
TotalIsOne p = (chances : List Chance) → IsDistribution (leaves_of p) chances → total_of chances ≡ one_real

-- the same leaves have one distribution
abbrev pub OneDistribution : Type 0
OneDistribution = (leaves : List Point) (first second : List Chance)
    → IsDistribution leaves first → IsDistribution leaves second → first ≡ second
