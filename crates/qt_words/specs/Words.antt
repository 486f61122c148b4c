-- What the words of a command line ask for.
use Rattle.std.specs.Prelude.{◌≡◌, ◌⊎◌, ℕ, List, [], ◌∷◌, codes}

-- the words are a mode and the name of a text
abbrev pub Asks : List (List ℕ) → List ℕ → List ℕ → Type 0
Asks words mode name = words ≡ mode ∷ name ∷ []

abbrev pub IsMode : List ℕ → Type 0
IsMode mode = (mode ≡ codes "run") ⊎ (mode ≡ codes "format")

-- the words ask for something that is served
abbrev pub AreServed : List (List ℕ) → Type 0
AreServed words = (mode : List ℕ) × (name : List ℕ) × Asks words mode name × IsMode mode

-- the name that the words give
abbrev pub named : List (List ℕ) → List ℕ
named (mode ∷ name ∷ words) = name
named _ = []
