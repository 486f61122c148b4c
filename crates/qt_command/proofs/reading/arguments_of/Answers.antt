use Rattle.std.proofs.Common.{◌≡◌, ◌∙◌, map, string_bytes}
use Rattle.clap.specs.Words.{fault_of, matches_of}
use Rattle.qt_command.specs.Command.{qtree}
use Rattle.qt_command.proofs.Found.{refused}
use Rattle.qt_command.proofs.reading.arguments_of.Goals as goal

pub returns : goal.returns
unfolding Rattle.qt_command.specs.Arguments.arguments_of
returns c = λ _. refused (fault_of qtree (map string_bytes c.args.words.now)) (matches_of qtree (map string_bytes c.args.words.now)) c.in-Err.error
    c.in-Err.ensures.kinds (λ memory. c.in_default.not-OutOfMemory (c.kind.ensures ∙ memory))
