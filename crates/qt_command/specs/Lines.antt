-- The lines of refused words, each ended by a line feed.
use Rattle.std.specs.Prelude.{ℕ, List, [], ◌∷◌, ◌++◌, codes}
use Rattle.qt_command.specs.Arguments.{option_name}
use Rattle.qt_command.specs.declared.arguments.WordsRefusal.{WordsRefusal}
use Rattle.qt_command.specs.declared.arguments.WordsRefusal.TheVariants as refusal

unfoldable pub refusal_line : WordsRefusal → List ℕ
refusal_line refusal.Words = codes "W1 words\n"
refusal_line (refusal.Mode word) = codes "W2 mode " ++ word ++ codes "\n"
refusal_line (refusal.Number option) = codes "W3 number " ++ option_name option ++ codes "\n"
refusal_line (refusal.Setting word) = codes "W4 setting " ++ word ++ codes "\n"
refusal_line refusal.OutOfMemory = codes "M1 memory\n"
