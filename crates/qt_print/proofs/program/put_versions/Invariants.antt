use Rattle.std.proofs.Common.{map, drop, []}
use Rattle.qt_print.specs.Statements.{all_lines}
use Rattle.qt_print.specs.Programs.{version_lines}
use Rattle.qt_print.proofs.Lines.{LinesLeft}
use Rattle.qt_print.proofs.program.put_versions.Given as goal

-- what is put and what is still to come are the whole
abbrev pub invariant-loop-version : goal.invariant-loop-version
invariant-loop-version l = LinesLeft [] l.fn.page (all_lines (map version_lines l.versions)) l.page (all_lines (map version_lines (drop l.version-index l.versions)))
