-- The lines of words that ask for nothing that is served, each ended by a line feed.
use Rattle.std.specs.Prelude.{ℕ, List, [], ◌∷◌, ◌++◌, codes}

-- there aren't two words
abbrev pub words_line : List ℕ
words_line = codes "W1 words" ++ 10 ∷ []

-- the first of the two words is no mode
abbrev pub mode_line : List ℕ → List ℕ
mode_line mode = codes "W2 mode " ++ mode ++ 10 ∷ []

-- the line of words that ask for nothing that is served
abbrev pub unserved_line : List (List ℕ) → List ℕ
unserved_line (mode ∷ name ∷ []) = mode_line mode
unserved_line _ = words_line
