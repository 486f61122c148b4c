-- What the words of the command line say, or the first reason why they are refused: the words (W1), the mode (W2), the numbers (W3), the settings (W4).
use Rattle.std.specs.Prelude.{◌≡◌, ◌≢◌, ℕ, Bool, true, false, List, [], ◌∷◌, ◌++◌, codes, map, length, nat_eq, nat_lt, Option, Some, None, unwrap_or, Result, Ok, Err, if◌then◌else◌}
use Rattle.std.specs.Cmp.Lexicographic.{pointwise}
use Rattle.std.specs.List.{position_or_len, before_first, after_first}
use Rattle.clap.specs.Walk.{Row, Text, first_of, all_of}
use Rattle.clap.specs.Simple.{matches_of}
use Rattle.clap.specs.Faults.{fault_of}
use Rattle.clap.specs.declared.error.kind.ErrorKind.{ErrorKind}
use Rattle.qt_tree.specs.declared.label.Setting.{Setting}
use Rattle.qt_command.specs.Command.{qtree}
use Rattle.qt_command.specs.Numbers.{number_of}
use Rattle.qt_command.specs.declared.arguments.Arguments.{Arguments}
use Rattle.qt_command.specs.declared.arguments.Mode.{Mode}
use Rattle.qt_command.specs.declared.arguments.Mode.TheVariants.{Run, Check, Format}
use Rattle.qt_command.specs.declared.arguments.NumberOption.{NumberOption}
use Rattle.qt_command.specs.declared.arguments.NumberOption.TheVariants.{Workers, Fuel}
use Rattle.qt_command.specs.declared.arguments.WordsRefusal.{WordsRefusal}
use Rattle.qt_command.specs.declared.arguments.WordsRefusal.TheVariants as refusal

-- what is heard of words: what they say, or a refusal
abbrev pub Heard : Type 0 → Type 0
Heard A = Result A WordsRefusal

abbrev pub and_then : {A B : Type 0} → Heard A → (A → Heard B) → Heard B
and_then (Ok a) f = f a
and_then (Err e) f = Err e

-- ---- the mode

abbrev pub mode_named : Text → Option Mode
mode_named word =
    if pointwise nat_eq word (codes "run") then Some Run else
    if pointwise nat_eq word (codes "check") then Some Check else
    if pointwise nat_eq word (codes "format") then Some Format else
    None

abbrev pub told_mode : Text → Option Mode → Heard Mode
told_mode word None = Err (refusal.Mode word)
told_mode word (Some mode) = Ok mode

abbrev pub mode_of : Text → Heard Mode
mode_of word = told_mode word (mode_named word)

-- ---- numbers

abbrev pub option_name : NumberOption → Text
option_name Workers = codes "workers"
option_name Fuel = codes "fuel"

abbrev pub most : NumberOption → ℕ
most Workers = 16
most Fuel = 10000000

-- where the option isn't given
abbrev pub usual : NumberOption → ℕ
usual Workers = 4
usual Fuel = 100000

abbrev pub told_number : NumberOption → Option ℕ → Heard ℕ
told_number option None = Err (refusal.Number option)
told_number option (Some n) = Ok n

abbrev pub number_given : NumberOption → Option Text → Heard ℕ
number_given option None = Ok (usual option)
number_given option (Some text) = told_number option (number_of (most option) text)

-- ---- settings

-- `=`
abbrev pub is_equals : ℕ → Bool
is_equals byte = nat_eq byte 61

-- the name and the value of a setting, parted by its first `=`
abbrev pub parts_of : Text → Option (Text × Text)
parts_of word =
    if nat_lt (position_or_len is_equals word) (length word) then Some (before_first is_equals word, after_first is_equals word) else None

abbrev pub has_setting : List Setting → Text → Bool
has_setting [] name = false
has_setting (setting ∷ rest) name = if pointwise nat_eq setting.name name then true else has_setting rest name

abbrev pub setting_with : List Setting → Text → Option (Text × Text) → Heard Setting
setting_with before word None = Err (refusal.Setting word)
setting_with before word (Some ([], value)) = Err (refusal.Setting word)
setting_with before word (Some (byte ∷ name, value)) =
    if has_setting before (byte ∷ name) then Err (refusal.Setting word) else Ok (record { name = byte ∷ name; value = value })

abbrev pub setting_at : List Setting → Text → Heard Setting
setting_at before word = setting_with before word (parts_of word)

unfoldable pub settings_from : List Setting → List Text → Heard (List Setting)
settings_from before [] = Ok before
settings_from before (word ∷ rest) = and_then (setting_at before word) (λ setting. settings_from (before ++ setting ∷ []) rest)

-- no setting goes with `format`
abbrev pub no_settings : List Text → Heard (List Setting)
no_settings [] = Ok []
no_settings (word ∷ rest) = Err (refusal.Setting word)

abbrev pub settings_of : Mode → List Text → Heard (List Setting)
settings_of Format words = no_settings words
settings_of _ words = settings_from [] words

-- ---- all

abbrev pub word_of : Text → List Row → Text
word_of id rows = unwrap_or (first_of id rows) []

abbrev pub words_of : Text → List Row → List Text
words_of id rows = unwrap_or (all_of id rows) []

-- the flag stands as `true` where it is given
abbrev pub is_given : Text → List Row → Bool
is_given id rows = pointwise nat_eq (word_of id rows) (codes "true")

abbrev pub number_at : NumberOption → List Row → Heard ℕ
number_at option rows = number_given option (first_of (option_name option) rows)

unfoldable pub arguments_in : List Row → Heard Arguments
arguments_in rows =
    and_then (mode_of (word_of (codes "mode") rows)) (λ mode.
    and_then (number_at Workers rows) (λ workers.
    and_then (number_at Fuel rows) (λ fuel.
    and_then (settings_of mode (words_of (codes "setting") rows)) (λ settings.
    Ok (record {
      mode = mode;
      file = word_of (codes "file") rows;
      settings = settings;
      workers = workers;
      fuel = fuel;
      json = is_given (codes "json") rows;
    })))))

abbrev pub heard : List ErrorKind → List Row → Heard Arguments
heard [] rows = arguments_in rows
heard (fault ∷ faults) rows = Err refusal.Words

-- what the words say
unfoldable pub arguments_of : List Text → Heard Arguments
arguments_of words = heard (fault_of qtree words) (matches_of qtree words)

-- ---- what a call ensures: what is heard, or want of memory

abbrev pub Gives : {A : Type 0} → Heard A → Heard A → Type 0
Gives outcome (Ok a) = outcome ≡ Ok a
Gives outcome (Err e) = e ≢ refusal.OutOfMemory → outcome ≡ Err e
