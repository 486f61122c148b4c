-- The command `qtree MODE FILE [SETTING ..] [--workers N] [--fuel N] [--json]`, as a command of `clap`: two words that must be there, any number of words
-- behind them, two options with one value each, and a flag. There is no option for help or version. How such a command reads words is
-- said by `clap`: `fault_of` is what is wrong with them, and `matches_of` what they give.
use Rattle.std.specs.Prelude.{ℕ, List, Option, Some, true, codes}
use Rattle.clap.specs.Walk.{Rule, Text}
use Rattle.clap.specs.Simple.{App, new_app, new_rule, with_rule, on_top}
use Rattle.clap.specs.declared.builder.action.ArgAction.TheVariants.{Set, SetTrue, Append}

-- a word that must be there
abbrev pub positional : Text → Rule
positional id = record (new_rule id) { required = true; action = Some Set }

-- any number of words
abbrev pub several : Text → Rule
several id = record (new_rule id) { action = Some Append; range = Some (record { start_inclusive = 0; end_inclusive = 18446744073709551615 }) }

-- an option with one value
abbrev pub option : Text → Rule
option id = record (new_rule id) { long = Some id; action = Some Set }

-- an option without a value
abbrev pub flag : Text → Rule
flag id = record (new_rule id) { long = Some id; action = Some SetTrue }

abbrev pub bare : App
bare = on_top (λ s. record s { no_binary_name = true; disable_help_flag = true; disable_version_flag = true }) (new_app (codes "qtree"))

abbrev pub with_words : App
with_words = with_rule (with_rule (with_rule bare (positional (codes "mode"))) (positional (codes "file"))) (several (codes "setting"))

unfoldable pub qtree : App
qtree = with_rule (with_rule (with_rule with_words (option (codes "workers"))) (option (codes "fuel"))) (flag (codes "json"))
