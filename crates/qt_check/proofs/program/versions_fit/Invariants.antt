-- The versions that are left decide.
use Rattle.std.proofs.Common.{◌≡◌, length}
use Rattle.qt_typing.specs.Programs.{versions_fit}
use Rattle.qt_check.proofs.program.versions_fit.Given as goal

abbrev pub invariant-loop-versions : goal.invariant-loop-versions
invariant-loop-versions l = versions_fit l.fn.versions ≡ versions_fit l.versions

abbrev pub decreases-loop-versions : goal.decreases-loop-versions
decreases-loop-versions l = length l.versions
