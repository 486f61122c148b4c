use Rattle.std.proofs.Common.{[], map}
use Rattle.qt_print.specs.Statements.{all_lines}
use Rattle.qt_print.specs.Programs.{version_lines}
use Rattle.qt_print.proofs.Lines.{lines_turn}
use Rattle.qt_print.proofs.program.put_versions.Goals as goal

pub loop-version-preserved : goal.loop-version-preserved
loop-version-preserved c = lines_turn version_lines [] _ _ _ (all_lines (map version_lines c.args.versions.now)) c.args.versions.now c.loop-version.version-index c.version-item.result c.loop-version-test.true c.version-item.is c.put_version.ensures c.loop-version.invariant
