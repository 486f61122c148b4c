-- Laws of branches as keys of a map: runs that have come to the same place, slots and amplitudes are one branch, and are found as
-- one (OpenQASM 3.0 live specification, "Quantum measurement and reset"; Cross et al. 2022).
use Rattle.std.specs.Prelude.{◌≡◌, ◌↔◌, IsTrue}
use Rattle.qt_branch.specs.Parts.{Parts, same, told}

-- equal exactly where the three parts are
abbrev pub EqualWhereThePartsAre : Type 0
EqualWhereThePartsAre = (a b : Parts) → (IsTrue (same a b) ↔ (a ≡ b))

-- equal branches tell a hasher the same
abbrev pub EqualBranchesHashAlike : Type 0
EqualBranchesHashAlike = (a b : Parts) → IsTrue (same a b) → told a ≡ told b
