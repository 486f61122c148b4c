-- What an answer is once more is written. An answer is its text, or `None` where memory was wanting; a lost answer stays lost.
use Rattle.std.specs.Prelude.{◌≡◌, ℕ, List, ◌++◌, Option, IfSome, IsSomeAnd}

-- The text is written behind what stood there, if the answer isn't lost.
abbrev pub Appends : Option (List ℕ) → List ℕ → Option (List ℕ) → Type 0
Appends before text after = IfSome after (λ whole. IsSomeAnd before (λ old. whole ≡ old ++ text))

-- The same for what a value prints, where that is known.
abbrev pub AppendsOutput : Option (List ℕ) → Option (List ℕ) → Option (List ℕ) → Type 0
AppendsOutput before output after = IfSome after (λ whole. IsSomeAnd before (λ old. IfSome output (λ text. whole ≡ old ++ text)))
