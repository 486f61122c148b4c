-- The lines that tell why there is no answer, each ended by a line feed, but those of words and of refused texts.
use Rattle.std.specs.Prelude.{◌≡◌, ℕ, ◌+◌, ◌==◌, List, [], ◌∷◌, ◌++◌, codes, length}
use Rattle.std.specs.List.{position}
use Rattle.std.specs.Option.{option_map_or}

-- the length of the first line of a text, with its line feed; of the whole text where it has none
abbrev pub first_line_length : List ℕ → ℕ
first_line_length text = option_map_or (λ place. place + 1) (position (λ byte. byte == 10) text) (length text)

-- a line feed ends it
abbrev pub IsLine : List ℕ → Type 0
IsLine line = (text : List ℕ) × (line ≡ text ++ 10 ∷ [])

-- the text of that name is that of a program, but doesn't have the first form
abbrev pub form_line : List ℕ → List ℕ
form_line name = codes "E0 " ++ name ++ codes " form" ++ 10 ∷ []

-- the text of that name couldn't be read
abbrev pub shelf_line : List ℕ → List ℕ
shelf_line name = codes "S1 shelf " ++ name ++ 10 ∷ []

-- the answer couldn't be written
abbrev pub sink_line : List ℕ
sink_line = codes "O1 sink" ++ 10 ∷ []

-- no memory was left
abbrev pub memory_line : List ℕ
memory_line = codes "M1 memory" ++ 10 ∷ []
