use Rattle.std.proofs.Common.{◌≡◌, [], length}
use Rattle.qt_typing.specs.Declarations.{parts_from}
use Rattle.qt_check_statements.proofs.aliases.parts_from.Given as goal

abbrev pub invariant-loop-parts : goal.invariant-loop-parts
invariant-loop-parts l = parts_from l.place l.done l.parts l.names ≡ parts_from l.place [] l.fn.parts l.names

abbrev pub decreases-loop-parts : goal.decreases-loop-parts
decreases-loop-parts l = length l.parts
