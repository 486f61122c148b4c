-- What is read of a reader that tells what it has left.
use Rattle.std.specs.Prelude.{◌≡◌, ℕ, ◌≤◌, ◌⊎◌, List, ◌++◌, Option, length}
use Rattle.std.specs.Io.KnownBytes.{Consumes, IsAtEnd}

-- some bytes were appended, and no more than so many
abbrev pub AppendsUpTo : ℕ → List ℕ → List ℕ → Type 0
AppendsUpTo most old new = (more : List ℕ) × (new ≡ old ++ more) × (length more ≤ most)

-- what was appended is what the reader gave: so many bytes, or all that it had left
abbrev pub ReadsUpTo : ℕ → Option (List ℕ) → Option (List ℕ) → List ℕ → List ℕ → Type 0
ReadsUpTo most left rest old new =
    (more : List ℕ) × (new ≡ old ++ more) × Consumes left rest more × ((length more ≡ most) ⊎ IsAtEnd rest)
