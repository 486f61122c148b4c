use Rattle.std.proofs.Common.{◌≡◌, [], length, map}
use Rattle.std.specs.Borrow.{Bor}
use Rattle.qt_command.specs.Arguments.{settings_from}
use Rattle.qt_command.proofs.settings.settings_from.Given as goal

abbrev pub invariant-loop-words : goal.invariant-loop-words
invariant-loop-words l = settings_from l.settings (map (λ word. word.now) l.words) ≡ settings_from [] (map (λ word. word.now) l.fn.words)

abbrev pub decreases-loop-words : goal.decreases-loop-words
decreases-loop-words l = length l.words
