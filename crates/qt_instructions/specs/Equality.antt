-- When two parts of flat code are the same (flat code is this profile's).
use Rattle.std.specs.Prelude.{◌≡◌, ◌↔◌, Bool, IsTrue}
use Rattle.qt_instructions.specs.declared.parts.Parts.{Parts}
use Rattle.qt_instructions.specs.contracts.parts.PartsPartialEq.TheImpl as parts

-- what `==` of parts computes: each part is compared
abbrev pub same_parts : Parts → Parts → Bool
same_parts = (parts.ghosts).eq

-- it is true exactly where they are one
abbrev pub EqualWhereTheyAreOne : Type 0
EqualWhereTheyAreOne = (a b : Parts) → (IsTrue (same_parts a b) ↔ (a ≡ b))
