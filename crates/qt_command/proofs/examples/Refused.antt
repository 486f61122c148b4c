-- Words that the command refuses, worked out.
use Rattle.std.proofs.Common.{◌≡◌, refl, codes, List, [], ◌∷◌, Err}
use Rattle.clap.proofs.OnLiterals.{clap_on_literals}
use Rattle.qt_command.specs.Arguments.{arguments_of}
use Rattle.qt_command.specs.declared.arguments.WordsRefusal.TheVariants as refusal

pub no_words : arguments_of ([]) ≡ Err refusal.Words
unfolding clap_on_literals Rattle.qt_command.specs.Command.qtree Rattle.qt_command.specs.Arguments.arguments_of
no_words = refl

pub mode_alone : arguments_of (codes "run" ∷ []) ≡ Err refusal.Words
unfolding clap_on_literals Rattle.qt_command.specs.Command.qtree Rattle.qt_command.specs.Arguments.arguments_of
mode_alone = refl

pub option_without_value : arguments_of (codes "run" ∷ codes "p" ∷ codes "--workers" ∷ []) ≡ Err refusal.Words
unfolding clap_on_literals Rattle.qt_command.specs.Command.qtree Rattle.qt_command.specs.Arguments.arguments_of
option_without_value = refl

pub flag_as_value : arguments_of (codes "run" ∷ codes "p" ∷ codes "--workers" ∷ codes "--json" ∷ []) ≡ Err refusal.Words
unfolding clap_on_literals Rattle.qt_command.specs.Command.qtree Rattle.qt_command.specs.Arguments.arguments_of
flag_as_value = refl

pub option_twice : arguments_of (codes "run" ∷ codes "p" ∷ codes "--workers" ∷ codes "3" ∷ codes "--workers" ∷ codes "4" ∷ []) ≡ Err refusal.Words
unfolding clap_on_literals Rattle.qt_command.specs.Command.qtree Rattle.qt_command.specs.Arguments.arguments_of
option_twice = refl

pub flag_twice : arguments_of (codes "run" ∷ codes "p" ∷ codes "--json" ∷ codes "--json" ∷ []) ≡ Err refusal.Words
unfolding clap_on_literals Rattle.qt_command.specs.Command.qtree Rattle.qt_command.specs.Arguments.arguments_of
flag_twice = refl

pub flag_with_value : arguments_of (codes "run" ∷ codes "p" ∷ codes "--json=1" ∷ []) ≡ Err refusal.Words
unfolding clap_on_literals Rattle.qt_command.specs.Command.qtree Rattle.qt_command.specs.Arguments.arguments_of
flag_with_value = refl

pub part_of_a_flag : arguments_of (codes "run" ∷ codes "p" ∷ codes "--jso" ∷ []) ≡ Err refusal.Words
unfolding clap_on_literals Rattle.qt_command.specs.Command.qtree Rattle.qt_command.specs.Arguments.arguments_of
part_of_a_flag = refl

pub help : arguments_of (codes "--help" ∷ []) ≡ Err refusal.Words
unfolding clap_on_literals Rattle.qt_command.specs.Command.qtree Rattle.qt_command.specs.Arguments.arguments_of
help = refl

pub short_option : arguments_of (codes "run" ∷ codes "p" ∷ codes "-x" ∷ []) ≡ Err refusal.Words
unfolding clap_on_literals Rattle.qt_command.specs.Command.qtree Rattle.qt_command.specs.Arguments.arguments_of
short_option = refl

pub minus_as_value : arguments_of (codes "run" ∷ codes "p" ∷ codes "--workers" ∷ codes "-3" ∷ []) ≡ Err refusal.Words
unfolding clap_on_literals Rattle.qt_command.specs.Command.qtree Rattle.qt_command.specs.Arguments.arguments_of
minus_as_value = refl
