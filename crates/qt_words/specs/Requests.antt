-- Modes by their words.
use Rattle.std.specs.Prelude.{◌≡◌, ℕ, List, codes}
use Rattle.qt_words.specs.declared.request.Mode.{Mode}
use Rattle.qt_words.specs.declared.request.Mode.TheVariants.{Run, Format}

abbrev pub mode_word : Mode → List ℕ
mode_word Run = codes "run"
mode_word Format = codes "format"

-- the word is that of no mode
abbrev pub IsNoMode : List ℕ → Type 0
IsNoMode word = (mode : Mode) → ¬ (word ≡ mode_word mode)
