-- What words say, and what is refused of them, worked out.
use Rattle.std.proofs.Common.{◌≡◌, refl, codes, List, [], ◌∷◌, Ok, Err, true, false}
use Rattle.clap.proofs.OnLiterals.{clap_on_literals}
use Rattle.qt_command.specs.Arguments.{arguments_of}
use Rattle.qt_command.specs.declared.arguments.Mode.TheVariants as mode
use Rattle.qt_command.specs.declared.arguments.NumberOption.TheVariants as number
use Rattle.qt_command.specs.declared.arguments.WordsRefusal.TheVariants as refusal

pub unknown_mode : arguments_of (codes "paint" ∷ codes "p" ∷ []) ≡ Err (refusal.Mode (codes "paint"))
unfolding clap_on_literals Rattle.qt_command.specs.Command.qtree Rattle.qt_command.specs.Arguments.arguments_of Rattle.qt_command.specs.Arguments.arguments_in Rattle.qt_command.specs.Arguments.settings_from
unknown_mode = refl

pub help_is_a_word : arguments_of (codes "help" ∷ codes "p" ∷ []) ≡ Err (refusal.Mode (codes "help"))
unfolding clap_on_literals Rattle.qt_command.specs.Command.qtree Rattle.qt_command.specs.Arguments.arguments_of Rattle.qt_command.specs.Arguments.arguments_in Rattle.qt_command.specs.Arguments.settings_from
help_is_a_word = refl

pub no_workers : arguments_of (codes "run" ∷ codes "p" ∷ codes "--workers=0" ∷ []) ≡ Err (refusal.Number number.Workers)
unfolding clap_on_literals Rattle.qt_command.specs.Command.qtree Rattle.qt_command.specs.Arguments.arguments_of Rattle.qt_command.specs.Arguments.arguments_in Rattle.qt_command.specs.Arguments.settings_from
no_workers = refl

pub too_many_workers : arguments_of (codes "run" ∷ codes "p" ∷ codes "--workers" ∷ codes "17" ∷ codes "--fuel=x" ∷ []) ≡ Err (refusal.Number number.Workers)
unfolding clap_on_literals Rattle.qt_command.specs.Command.qtree Rattle.qt_command.specs.Arguments.arguments_of Rattle.qt_command.specs.Arguments.arguments_in Rattle.qt_command.specs.Arguments.settings_from
too_many_workers = refl

pub empty_fuel : arguments_of (codes "run" ∷ codes "p" ∷ codes "--fuel=" ∷ []) ≡ Err (refusal.Number number.Fuel)
unfolding clap_on_literals Rattle.qt_command.specs.Command.qtree Rattle.qt_command.specs.Arguments.arguments_of Rattle.qt_command.specs.Arguments.arguments_in Rattle.qt_command.specs.Arguments.settings_from
empty_fuel = refl

pub ten_digits : arguments_of (codes "run" ∷ codes "p" ∷ codes "--fuel" ∷ codes "0000000001" ∷ []) ≡ Err (refusal.Number number.Fuel)
unfolding clap_on_literals Rattle.qt_command.specs.Command.qtree Rattle.qt_command.specs.Arguments.arguments_of Rattle.qt_command.specs.Arguments.arguments_in Rattle.qt_command.specs.Arguments.settings_from
ten_digits = refl

pub no_equals : arguments_of (codes "check" ∷ codes "p" ∷ codes "a=1" ∷ codes "b" ∷ []) ≡ Err (refusal.Setting (codes "b"))
unfolding clap_on_literals Rattle.qt_command.specs.Command.qtree Rattle.qt_command.specs.Arguments.arguments_of Rattle.qt_command.specs.Arguments.arguments_in Rattle.qt_command.specs.Arguments.settings_from
no_equals = refl

pub empty_name : arguments_of (codes "run" ∷ codes "p" ∷ codes "=1" ∷ []) ≡ Err (refusal.Setting (codes "=1"))
unfolding clap_on_literals Rattle.qt_command.specs.Command.qtree Rattle.qt_command.specs.Arguments.arguments_of Rattle.qt_command.specs.Arguments.arguments_in Rattle.qt_command.specs.Arguments.settings_from
empty_name = refl

pub same_name : arguments_of (codes "run" ∷ codes "p" ∷ codes "a=1" ∷ codes "a=2" ∷ []) ≡ Err (refusal.Setting (codes "a=2"))
unfolding clap_on_literals Rattle.qt_command.specs.Command.qtree Rattle.qt_command.specs.Arguments.arguments_of Rattle.qt_command.specs.Arguments.arguments_in Rattle.qt_command.specs.Arguments.settings_from
same_name = refl

pub setting_of_format : arguments_of (codes "format" ∷ codes "p" ∷ codes "a=1" ∷ []) ≡ Err (refusal.Setting (codes "a=1"))
unfolding clap_on_literals Rattle.qt_command.specs.Command.qtree Rattle.qt_command.specs.Arguments.arguments_of Rattle.qt_command.specs.Arguments.arguments_in Rattle.qt_command.specs.Arguments.settings_from
setting_of_format = refl

pub flag_behind_dashes : arguments_of (codes "--" ∷ codes "run" ∷ codes "p" ∷ codes "--json" ∷ []) ≡ Err (refusal.Setting (codes "--json"))
unfolding clap_on_literals Rattle.qt_command.specs.Command.qtree Rattle.qt_command.specs.Arguments.arguments_of Rattle.qt_command.specs.Arguments.arguments_in Rattle.qt_command.specs.Arguments.settings_from
flag_behind_dashes = refl

pub plain : arguments_of (codes "run" ∷ codes "p" ∷ []) ≡ Ok (record { mode = mode.Run; file = codes "p"; settings = []; workers = 4; fuel = 100000; json = false })
unfolding clap_on_literals Rattle.qt_command.specs.Command.qtree Rattle.qt_command.specs.Arguments.arguments_of Rattle.qt_command.specs.Arguments.arguments_in Rattle.qt_command.specs.Arguments.settings_from
plain = refl

pub a_minus_alone : arguments_of (codes "check" ∷ codes "-" ∷ []) ≡ Ok (record { mode = mode.Check; file = codes "-"; settings = []; workers = 4; fuel = 100000; json = false })
unfolding clap_on_literals Rattle.qt_command.specs.Command.qtree Rattle.qt_command.specs.Arguments.arguments_of Rattle.qt_command.specs.Arguments.arguments_in Rattle.qt_command.specs.Arguments.settings_from
a_minus_alone = refl

pub empty_file : arguments_of (codes "format" ∷ codes "" ∷ []) ≡ Ok (record { mode = mode.Format; file = codes ""; settings = []; workers = 4; fuel = 100000; json = false })
unfolding clap_on_literals Rattle.qt_command.specs.Command.qtree Rattle.qt_command.specs.Arguments.arguments_of Rattle.qt_command.specs.Arguments.arguments_in Rattle.qt_command.specs.Arguments.settings_from
empty_file = refl

pub options_between_settings : arguments_of (codes "run" ∷ codes "p" ∷ codes "a=1" ∷ codes "--json" ∷ codes "b=2=3" ∷ codes "--fuel" ∷ codes "7" ∷ codes "c=" ∷ []) ≡ Ok (record { mode = mode.Run; file = codes "p"; settings = record { name = codes "a"; value = codes "1" } ∷ record { name = codes "b"; value = codes "2=3" } ∷ record { name = codes "c"; value = codes "" } ∷ []; workers = 4; fuel = 7; json = true })
unfolding clap_on_literals Rattle.qt_command.specs.Command.qtree Rattle.qt_command.specs.Arguments.arguments_of Rattle.qt_command.specs.Arguments.arguments_in Rattle.qt_command.specs.Arguments.settings_from
options_between_settings = refl

pub options_first : arguments_of (codes "--json" ∷ codes "--fuel" ∷ codes "000000010" ∷ codes "--workers=16" ∷ codes "run" ∷ codes "p" ∷ []) ≡ Ok (record { mode = mode.Run; file = codes "p"; settings = []; workers = 16; fuel = 10; json = true })
unfolding clap_on_literals Rattle.qt_command.specs.Command.qtree Rattle.qt_command.specs.Arguments.arguments_of Rattle.qt_command.specs.Arguments.arguments_in Rattle.qt_command.specs.Arguments.settings_from
options_first = refl

pub all_the_fuel : arguments_of (codes "run" ∷ codes "p" ∷ codes "--fuel" ∷ codes "10000000" ∷ []) ≡ Ok (record { mode = mode.Run; file = codes "p"; settings = []; workers = 4; fuel = 10000000; json = false })
unfolding clap_on_literals Rattle.qt_command.specs.Command.qtree Rattle.qt_command.specs.Arguments.arguments_of Rattle.qt_command.specs.Arguments.arguments_in Rattle.qt_command.specs.Arguments.settings_from
all_the_fuel = refl
